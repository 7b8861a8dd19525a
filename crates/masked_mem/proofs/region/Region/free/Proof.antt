-- `free` takes the bytes as room, which goes back as the words that were asked for. Assumes `Logic`.
use Rattle.std.proofs.Common.{T, ◌≡◌, ℕ, ◌*◌, ◌/◌, ◌<◌, ◌%◌, ◌^◌, List, [], ◌∷◌, ◌++◌, length, refl, sym, ap, subst, ◌∙◌, arith, lit<, w64}
use Rattle.std.proofs.alloc.Calls.{Al, Gives, Gives-Gives, Gives-goes, Goes-blank, at_gives, seen}
use Rattle.std.proofs.VecSteps.Shapes.{after}
use Rattle.std.proofs.raw_atomic.Walks.{leaves, proved_at}
use base.Fml.{Lft, Share, flft, froom, ftrue, fwand}
use base.Logic.{SProp, apply∗, id⊢, never}
use contract.BorrowLft.{◌⊑◌, ⊑_trans}
use contract.Monad.{fact}
use contract.Running.{tables}
use denote.Param.{bounded}
use denote.RattleType.{owns}
use denote.RawPtr.{Ptr, block_ptr, in_a_block, room_for}
use denote.Signature.{types_at}
use denote.Steps.{heard, nothing}
use denote.Triple.Call.{calls_at_last}
use denote.Triple.Entry.{alive}
use denote.Triple.Table.{framed}
use denote.Triple.Walked.{Goes-dropped, Stays, stay_dropped, walk_of}
use mir.MapTy.{inst_fn}
use mir.Syntax.{Args, Fn, Ty, a_type, dcons, dnil, ty_unit}
use mir.Val.{Val, WT, has_ty, vint, vptr, vunit}
use prog.Capped.{capped_is}
use prog.Wp.{Env, WpFn}
use types.ByLocal.{alloc_all, env, free_all, get, get_in, lands_last, look_at, pass_all, sets}
use types.Kit.{‵, raw, ◌⊛◌, at_ret, given, later, prop, ◌$◌, ◌∵◌, !, qed, by, move, drop, use1, use2, use3, split, split3, join, learn, rewrite, regoal, fsplit, fjoin, feq_i, await}
use types.Part.{sub, whole}
use types.Run.{and_then, blocks, enter, exec, first, fld, lit, no_more, of_opd, returns, stop, unit_lit}
use Rattle.masked_mem.specs.Memory.{IsSize}
use Rattle.masked_mem.specs.Ownership.{bytes_of, region_owns, words_of}
use Rattle.masked_mem.specs.contracts.region.Region.free.{ended, clauses}
use Rattle.masked_mem.specs.contracts.region.Region.free.Key.{name as #self}
use Rattle.masked_mem.proofs.Bytes.{array_out, bytes, room_of}
use Rattle.masked_mem.proofs.Values.{lease_told, lease_val, region_told, region_val}
use Rattle.masked_mem.proofs.Walks.{slot_at}
use Rattle.masked_mem.proofs.region.Region.free.Statement.{statement}
use Rattle.masked_mem.proofs.region.Region.free.Code as compiled

pub free_spec : {M : Type 1} → statement M
free_spec 𝓤 𝓛 𝓜 𝓡 wired A L g d dd met md =
    let H = 𝓛.H in
    let En₀ = ended A g d dd in
    let c = clauses A g d dd 𝓛 𝓜.mem 𝓡.returns in
    let args : Args = bounded (a_type ∷ []) (A, tt) (dcons d (dcons dd dnil)) in
    let fn : Fn = inst_fn args compiled.function in
    let Ps = En₀.signature.params in
    let ks = En₀.kept in
    let stays : Stays Ps ks = (stay_dropped (slot_at 0 Ps) ks.0, (stay_dropped (slot_at 1 Ps) ks.1.0, (stay_dropped (slot_at 2 Ps) ks.1.1.0, (stay_dropped (slot_at 3 Ps) ks.1.1.1.0, tt)))) in
    let 𝓣 = tables 𝓤 H 𝓜 𝓡 𝓡.env in
    let C = 𝓣.C in
    let Λ = 𝓣.Λ in
    proved_at 𝓛 En₀ stays c 𝓜 𝓡
    (Goes-blank 𝓛 2 (slot_at 0 Ps) ks.0 (λ κs x f. tt), (Goes-blank 𝓛 2 (slot_at 1 Ps) ks.1.0 (λ κs x f. tt), (Goes-dropped 𝓛 2 (slot_at 2 Ps) ks.1.1.0 (λ κs x f. refl), (Goes-dropped 𝓛 2 (slot_at 3 Ps) ks.1.1.1.0 (λ κs x f. refl), tt))))
    (#self args) fn (compiled.unfolded 𝓤 H 𝓜 𝓡 wired (A, tt) d dd) (λ z are.
    let Post : Val → SProp 𝓤 = (walk_of 𝓛 En₀ stays c).post z in
    let a = z.0.3 in
    let vss = z.0.4 in
    let Y : Al = record { row = A; laws = L; g = g; d = d; drops = dd } in
    let κ : Lft = z.0.0.0 in
    let q : Share = z.0.1.0 in
    let x = a.0 in
    let k = a.1.0 in
    let h = a.1.1.0.now in
    let handle = a.1.1.0.ref_ptr in
    let n = a.1.1.1.0 in
    let fits : n < 2 ^ 64 = are.1.1.1.0.1 in
    let τ : Ty = words_of n in
    let Leased : Type 0 = (k.alloc ≡ h) × (k.at ≡ x.at) × (k.size ≡ n) in
    let Sized : Type 0 = (n ≡ length x.bytes) × IsSize n in
    qed 𝓛 ((raw (alive 𝓛 En₀.signature z.0.0 z.0.1) ⊛ ‵ (owns (types_at Ps z.0.0) a vss)) ∷ (raw (fact 𝓤 (z.0.0.1.0 ⊑ A.lives)) ⊛ raw (fact 𝓤 Leased) ⊛ raw (fact 𝓤 Sized)) ∷ []) ∵
    move ! (1 ∷ []) $ split3 ! $ heard ! (z.0.0.1.0 ⊑ A.lives) (λ le. heard ! Leased (λ leased. heard ! Sized (λ sized. split ! $ move ! (1 ∷ []) $
    let whole_words : n % 4 ≡ 0 = sized.1.words in
    fsplit ! $ fsplit ! $ drop ! $ in_a_block ! x.at (λ p. region_owns p x.bytes) (id⊢ 𝓤 (never 𝓤)) (λ b o at.
    use1 𝓛 (‵ (bytes 𝓛 b x.bytes o)) (array_out 𝓛 b x.bytes o) $ use1 𝓛 (‵ (froom (bytes_of (length x.bytes)) b o)) (room_of 𝓛 b x.bytes o) $
    rewrite ! 0 (λ (m : ℕ). ‵ (froom (bytes_of m) b o)) (sym sized.0) refl $
    move ! (1 ∷ []) $ fsplit ! $ fsplit ! $ drop ! $ fsplit ! $
    rewrite ! 0 (λ (u : ℕ × Ptr). ‵ (fwand (room_for (bytes_of u.0) u.1) (room_for (words_of u.0) u.1))) (λ i. (leased.2 i, (leased.1 ∙ at) i)) refl $
    rewrite ! 1 (λ (u : A.Denot × ℕ × Ptr). ‵ (g.dealloc_token u.0 (words_of u.1) u.2)) (λ i. (leased.0 i, leased.2 i, (leased.1 ∙ at) i)) refl $
    move ! (3 ∷ 0 ∷ []) $ use2 𝓛 (‵ (froom τ b o)) (apply∗ 𝓤 (H.room (bytes_of n) b o) (H.room τ b o)) $
    -- [the room; the token; the other parameters; the tokens of lifetimes]
    move ! (2 ∷ []) $ fsplit ! $ fsplit ! $ drop ! $ move ! (1 ∷ []) $ drop ! $ use1 𝓛 (‵ (seen Y κ handle h)) (id⊢ 𝓤 _) $
    move ! (3 ∷ []) $ use1 𝓛 (‵ (flft κ q) ⊛ ‵ (flft z.0.0.1.0 z.0.1.1.0) ⊛ ‵ ftrue) (id⊢ 𝓤 _) $ split ! $ move ! (2 ∷ 0 ∷ []) $ join ! $ move ! (2 ∷ 3 ∷ []) $
    let y = at_gives Y 𝓛 𝓜.mem 𝓡.returns κ q handle h b o n 4 τ in
    regoal ! (λ (us : List Val). prop (WpFn 𝓤 H C Λ fn us Post)) (λ i. (region_told x.at vss.0 are.0.0 ∙ ap (λ (p : Ptr). region_val p ∷ []) at) i ++ (lease_told vss.1.0 are.1.0.0 i ++ (are.1.1.0.0 i ++ (are.1.1.1.0.0 i ++ [])))) refl $
    enter ! C Λ fn (region_val (block_ptr b o) ∷ lease_val ∷ vptr handle.0 handle.1 ∷ vint w64 n ∷ []) Post $
    alloc_all ! (λ l. pass_all ! refl ((tt, (tt, tt)), ((tt, (tt, tt)), ((tt, tt), ((tt, record { fits = fits }), tt)))) $ let En : Env 𝓤 H = env fn.locals l in
    sets ! (of_opd ! (get_in ! (fld ! refl (stop !)) (sub ! 0 refl (whole !)))) refl (tt, tt) $ first ! $ blocks ! $
    use3 𝓛 (raw ((Gives Y 𝓛 𝓜.mem 𝓡.returns).pre y)) (Gives-goes Y 𝓛 𝓜.mem 𝓡.returns κ q handle h (⊑_trans κ z.0.0.1.0 A.lives z.0.2.0 le) b o n 4 τ (capped_is (n / 4 * 4) (omega arith) ∙ omega arith) refl fits (lit< tt)) $
    calls_at_last ! (framed 𝓤 H 𝓜 𝓣) (Gives Y 𝓛 𝓜.mem 𝓡.returns) (met.deallocate dd) y (and_then ! (get ! refl) (and_then ! (get ! refl) (and_then ! (get ! refl) (and_then ! (lit ! tt) (no_more !))))) (λ v.
    use1 𝓛 (later (given (v ≡ vunit) (‵ (flft κ q)))) (Gives-Gives Y 𝓛 𝓜.mem 𝓡.returns κ q handle h b o n 4 τ v) $ await ! tt $ learn ! (λ e. join ! $
    lands_last ! refl (subst (λ (u : Val). T (has_ty ty_unit u) × WT u) (sym e) (tt, tt)) $
    exec ! C Λ En (after 2 fn.body) (at_ret En Post) $ sets ! (of_opd ! (unit_lit !)) refl (tt, tt) $ returns ! (look_at ! 0 refl) $ free_all ! refl $
    feq_i ! (List Val) (vunit ∷ []) (vunit ∷ []) refl $ nothing ! $ nothing ! $ nothing ! $ fjoin ! $ nothing ! $ fjoin ! $ nothing ! $ fjoin ! $ nothing ! $ fjoin ! $ move ! (3 ∷ 0 ∷ 2 ∷ 1 ∷ []) $
    by ! (leaves 𝓛 En₀ stays c z vunit tt (tt, (tt, (tt, (tt, tt)))) (tt, (tt, (tt, (tt, tt)))))))))))))
