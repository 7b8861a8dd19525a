-- `new` asks for words, and clears them as bytes. Assumes `Logic`.
use Rattle.std.proofs.Common.{T, ◌≡◌, ◌*◌, ◌/◌, ◌%◌, ◌<◌, ◌^◌, List, [], ◌∷◌, ◌++◌, replicate, None, Some, refl, sym, ap, subst, ◌∙◌, arith, lit<, w64}
use Rattle.std.proofs.VecSteps.Shapes.{after, arm_body, head}
use Rattle.std.proofs.alloc.Calls.{Al, Answered, Takes, Takes-gives, Takes-goes, answers, at_takes, seen}
use Rattle.std.proofs.option.Made.{Some-of, none_of}
use Rattle.std.proofs.raw_atomic.Walks.{leaves, proved_at}
use base.Fml.{Lft, Share, flft, froom, ftrue, fwand}
use base.Logic.{SProp, emp, id⊢}
use contract.BorrowLft.{◌⊑◌, ⊑_trans}
use contract.Monad.{fact, fact_i}
use contract.Running.{tables}
use denote.Builtin.{unit}
use denote.Param.{bounded, param}
use denote.Plain.{uint_vals}
use denote.RattleType.{RattleType, owns}
use denote.RawPtr.{Ptr, block_ptr, rawptr_vals}
use denote.Signature.{type_at, types_at}
use denote.Steps.{heard, nothing, only}
use denote.Struct.Tuple.{Tuple}
use denote.Triple.Call.{calls_at, calls_at_last}
use denote.Triple.Clauses.{lasts}
use denote.Triple.Entry.{alive}
use denote.Triple.Spec.{triple_of}
use denote.Triple.Table.{framed}
use denote.Triple.Walked.{Goes-dropped, Stays, stay_dropped, walk_of}
use mir.MapTy.{inst_fn}
use mir.Syntax.{Args, Body, Fn, Ty, a_type, dcons, dnil, ty_unit}
use mir.Val.{Val, WT, has_ty, vcons, vint, vnil, vptr}
use prog.Capped.{capped_is}
use prog.Wp.{Env, WpFn}
use types.ByLocal.{alloc_all, env, free_all, get, get_in, get_tag, lands_as, lands_last, look_at, pass_all, sets, sets_last}
use types.Kit.{‵, raw, ◌⊛◌, some, at_ret, later, prop, ◌$◌, ◌∵◌, !, qed, by, move, drop, use0, use1, use2, split, join, regoal, fsplit, fjoin, feq_i, feq_l, flt_i, pick, await}
use types.Match.{in_variant, live, vrt}
use types.Part.{agg, whole}
use types.Run.{and_then, blocks, enter, exec, first, fld, lit, no_more, of_opd, returns, stop, switches_on}
use Rattle.masked_mem.specs.Memory.{IsSize}
use Rattle.masked_mem.specs.Ownership.{bytes_of, region_owns, words_of}
use Rattle.masked_mem.specs.contracts.region.Lease as lease
use Rattle.masked_mem.specs.contracts.region.Region as region
use Rattle.masked_mem.specs.contracts.region.Region.new.{ended, clauses}
use Rattle.masked_mem.specs.contracts.region.Region.new.Key.{name as #self}
use Rattle.masked_mem.specs.contracts.region.clear as clear
use Rattle.masked_mem.proofs.Values.{lease_made, lease_own, lease_val, region_made, region_own, region_val}
use Rattle.masked_mem.proofs.Walks.{pair_of, pair_val, slot_at, then_runs}
use Rattle.masked_mem.proofs.region.clear.Met as cleared
use Rattle.masked_mem.proofs.region.Region.new.Statement.{statement}
use Rattle.masked_mem.proofs.region.Region.new.Code as compiled

pub new_spec : {M : Type 1} → statement M
new_spec 𝓤 𝓛 𝓜 𝓡 wired A L g d dd met md =
    let H = 𝓛.H in
    let En₀ = ended A g d dd in
    let c = clauses A g d dd 𝓛 𝓜.mem 𝓡.returns in
    let args : Args = bounded (a_type ∷ []) (A, tt) (dcons d (dcons dd dnil)) in
    let fn : Fn = inst_fn args compiled.function in
    let Ps = En₀.signature.params in
    let stays : Stays Ps En₀.kept = (stay_dropped (slot_at 0 Ps) En₀.kept.0, (stay_dropped (slot_at 1 Ps) En₀.kept.1.0, tt)) in
    let 𝓣 = tables 𝓤 H 𝓜 𝓡 𝓡.env in
    let C = 𝓣.C in
    let Λ = 𝓣.Λ in
    proved_at 𝓛 En₀ stays c 𝓜 𝓡 (Goes-dropped 𝓛 2 (slot_at 0 Ps) En₀.kept.0 (λ κs x f. refl), (Goes-dropped 𝓛 2 (slot_at 1 Ps) En₀.kept.1.0 (λ κs x f. refl), tt))
    (#self args) fn (compiled.unfolded 𝓤 H 𝓜 𝓡 wired (A, tt) d dd) (λ z are.
    let Post : Val → SProp 𝓤 = (walk_of 𝓛 En₀ stays c).post z in
    let a = z.0.3 in
    let vss = z.0.4 in
    let Y : Al = record { row = A; laws = L; g = g; d = d; drops = dd } in
    let κ : Lft = z.0.0.0 in
    let q : Share = z.0.1.0 in
    let Z : RattleType = param 0 A in
    let h = a.0.now in
    let at = a.0.ref_ptr in
    let n = a.1.0 in
    let fits : n < 2 ^ 64 = are.1.0.1 in
    let τ : Ty = words_of n in
    let y = at_takes Y 𝓛 𝓜.mem 𝓡.returns κ q at h n 4 τ in
    let Out : RattleType = type_at En₀.signature.result z.0.0 in
    let Pair : RattleType = Tuple (region.the_row ∷ lease.the_row Z g ∷ []) in
    qed 𝓛 ((raw (alive 𝓛 En₀.signature z.0.0 z.0.1) ⊛ ‵ (owns (types_at Ps z.0.0) a vss)) ∷ (raw (fact 𝓤 (z.0.0.1.0 ⊑ A.lives)) ⊛ raw (fact 𝓤 (IsSize n))) ∷ []) ∵
    move ! (1 ∷ []) $ split ! $ heard ! (z.0.0.1.0 ⊑ A.lives) (λ le. heard ! (IsSize n) (λ asked. split ! $ move ! (1 ∷ []) $
    let whole_words : n % 4 ≡ 0 = asked.words in
    fsplit ! $ fsplit ! $ drop ! $ move ! (1 ∷ []) $ drop ! $ use1 𝓛 (‵ (seen Y κ at h)) (id⊢ 𝓤 _) $ move ! (1 ∷ []) $ use1 𝓛 (‵ (flft κ q) ⊛ ‵ (flft z.0.0.1.0 z.0.1.1.0) ⊛ ‵ ftrue) (id⊢ 𝓤 _) $ split ! $ move ! (2 ∷ 0 ∷ []) $
    regoal ! (λ (us : List Val). prop (WpFn 𝓤 H C Λ fn us Post)) (λ i. are.0.0 i ++ (are.1.0.0 i ++ [])) refl $
    enter ! C Λ fn (vptr at.0 at.1 ∷ vint w64 n ∷ []) Post $
    alloc_all ! (λ l. pass_all ! refl ((tt, tt), ((tt, record { fits = fits }), tt)) $ let En : Env 𝓤 H = env fn.locals l in
    let arm : Body = arm_body 0 (head (after 1 fn.body)) in
    use2 𝓛 (raw ((Takes Y 𝓛 𝓜.mem 𝓡.returns).pre y)) (Takes-goes Y 𝓛 𝓜.mem 𝓡.returns κ q at h (⊑_trans κ z.0.0.1.0 A.lives z.0.2.0 le) n 4 τ (capped_is (n / 4 * 4) (omega arith) ∙ omega arith) refl fits (lit< tt)) $
    calls_at ! (framed 𝓤 H 𝓜 𝓣) (Takes Y 𝓛 𝓜.mem 𝓡.returns) (met.allocate dd) y (and_then ! (get ! refl) (and_then ! (get ! refl) (and_then ! (lit ! tt) (no_more !)))) (λ v.
    use1 𝓛 (later (raw (Answered Y 𝓛 𝓜.mem 𝓡.returns h τ v) ⊛ ‵ (flft κ q))) (Takes-gives Y 𝓛 𝓜.mem 𝓡.returns κ q at h n 4 τ v) $ await ! tt $ split ! $
    answers Y ! 𝓜.mem 𝓡.returns h τ v
    (λ b o e. move ! (2 ∷ 3 ∷ []) $ join ! $ move ! (1 ∷ 2 ∷ []) $ lands_as ! e refl (tt, (record { fits = lit< tt }, (tt, tt))) $
    first ! $ switches_on ! (get_tag ! (vrt ! refl (fld ! refl (stop !))) (whole !)) $ exec ! C Λ En arm (then_runs 𝓛 C Λ En (after 2 fn.body) (at_ret En Post)) $
    sets ! (of_opd ! (get_in ! (vrt ! refl (fld ! refl (stop !))) (in_variant ! 0 0 refl refl (whole !)))) refl (tt, tt) $
    let p : Ptr = block_ptr b o in
    use1 𝓛 (‵ (froom (bytes_of n) b o) ⊛ ‵ (fwand (froom (bytes_of n) b o) (froom τ b o))) (𝓛.laws.room_as τ (bytes_of n) b o (omega arith) tt) $ split ! $
    -- [the room as bytes; the way back to words; the token; the tokens of lifetimes]
    let G = triple_of 𝓛 clear.signature (clear.spec 𝓛 𝓜.mem 𝓡.returns) in
    let w : G.Ghost = ((tt, tt, tt, (p, (n, tt)), (rawptr_vals p, (uint_vals w64 n, tt))), tt) in
    first ! $ blocks ! $ nothing ! $ flt_i ! n (2 ^ 64) fits $ feq_i ! (List Val) (vint w64 n ∷ []) (vint w64 n ∷ []) refl $ fjoin ! $ fjoin ! $
    feq_i ! (List Val) (vptr b o ∷ []) (vptr b o ∷ []) refl $ fjoin ! $ nothing ! $ join ! $ use2 𝓛 (raw (G.pre w)) (id⊢ 𝓤 _) $
    calls_at_last ! (framed 𝓤 H 𝓜 𝓣) G (cleared.met 𝓤 𝓛 𝓜 𝓡 (compiled.calls-masked_mem::region::clear 𝓡.env wired)) w (and_then ! (get ! refl) (and_then ! (get ! refl) (no_more !))) (λ u.
    use1 𝓛 (later (some (λ (r : Unit {0}). (‵ ftrue ⊛ ‵ (unit.own_val r (u ∷ []))) ⊛ some (λ (ws : Unit {0} × (Unit {0} × Unit {0})). ‵ (lasts clear.ended tt (p, (n, tt)) ws) ⊛ ‵ (region_owns p (replicate n 0)))))) (id⊢ 𝓤 _) $
    await ! tt $ pick ! (λ r. split ! $ split ! $ drop ! $ feq_l ! (λ is_unit. pick ! (λ ws. split ! $ drop ! $
    -- [the zeros; the way back; the token; the tokens of lifetimes]
    lands_last ! refl (subst (λ (x : Val). T (has_ty ty_unit x) × WT x) (sym (ap only is_unit)) (tt, tt)) $ exec ! C Λ En (after 2 arm) (then_runs 𝓛 C Λ En (after 2 fn.body) (at_ret En Post)) $
    sets ! (agg ! (no_more !)) refl (tt, tt) $
    sets ! (agg ! (and_then ! (get ! refl) (no_more !))) refl (tt, (tt, tt)) $
    sets ! (agg ! (and_then ! (get ! refl) (no_more !))) refl (tt, (tt, tt)) $
    sets ! (agg ! (and_then ! (get ! refl) (and_then ! (get ! refl) (no_more !)))) refl (tt, ((tt, tt), ((tt, tt), tt))) $
    sets_last ! (agg ! (and_then ! (lit ! tt) (and_then ! (get ! refl) (no_more !)))) refl (tt, (record { fits = lit< tt }, (((tt, tt), ((tt, tt), tt)), tt))) $
    exec ! C Λ En (after 2 fn.body) (at_ret En Post) $
    sets ! (of_opd ! (get ! refl)) refl (tt, (record { fits = lit< tt }, (((tt, tt), ((tt, tt), tt)), tt))) $
    returns ! (look_at ! 0 refl) $ free_all ! refl $
    let x : (region.the_row).Denot = record { at = p; bytes = replicate n 0 } in
    let k : (lease.the_row Z g).Denot = record { mark = record {}; alloc = h; at = p; size = n } in
    let rv : Val = pair_val (region_val p) lease_val in
    use0 𝓛 (‵ (region_own p (region_val p ∷ []))) (region_made 𝓛 p) $ fjoin ! $ move ! (1 ∷ 2 ∷ []) $ fjoin ! $ use0 𝓛 (‵ (lease_own (lease_val ∷ []))) (lease_made 𝓛) $ fjoin ! $ move ! (1 ∷ 0 ∷ []) $
    use2 𝓛 (‵ (Pair.own_val (x, k) (rv ∷ []))) (pair_of 𝓛 region.the_row (lease.the_row Z g) x k (region_val p) lease_val) $
    use1 𝓛 (‵ (Out.own_val (Some (x, k)) (live 1 (vcons rv vnil) ∷ []))) (Some-of 𝓛 Pair (x, k) rv) $
    let Told : Type 0 = (replicate n 0 ≡ replicate n 0) × (h ≡ h) × (p ≡ p) × (n ≡ n) in
    use0 𝓛 (raw (fact 𝓤 Told)) (fact_i 𝓤 Told (emp 𝓤) (refl, refl, refl, refl)) $ nothing ! $ nothing ! $ fjoin ! $ nothing ! $ fjoin ! $ move ! (3 ∷ 0 ∷ 2 ∷ 1 ∷ []) $
    by ! (leaves 𝓛 En₀ stays c z (live 1 (vcons rv vnil)) (Some (x, k)) (tt, (tt, tt)) (tt, (tt, tt))))))))
    (λ e. join ! $ lands_as ! e refl (tt, (record { fits = lit< tt }, (tt, tt))) $
    first ! $ switches_on ! (get_tag ! (vrt ! refl (fld ! refl (stop !))) (whole !)) $ exec ! C Λ En (arm_body 1 (head (after 1 fn.body))) (then_runs 𝓛 C Λ En (after 2 fn.body) (at_ret En Post)) $
    sets_last ! (agg ! (and_then ! (lit ! tt) (no_more !))) refl (tt, (record { fits = lit< tt }, tt)) $
    exec ! C Λ En (after 2 fn.body) (at_ret En Post) $
    sets ! (of_opd ! (get ! refl)) refl (tt, (record { fits = lit< tt }, tt)) $
    returns ! (look_at ! 0 refl) $ free_all ! refl $
    use0 𝓛 (‵ (Out.own_val None (live 0 vnil ∷ []))) (none_of 𝓛 Pair) $ use0 𝓛 (raw (fact 𝓤 (Unit {0}))) (fact_i 𝓤 (Unit {0}) (emp 𝓤) tt) $ nothing ! $ nothing ! $ fjoin ! $ nothing ! $ fjoin ! $ move ! (3 ∷ 0 ∷ 2 ∷ 1 ∷ []) $
    by ! (leaves 𝓛 En₀ stays c z (live 0 vnil) None (tt, (tt, tt)) (tt, (tt, tt)))))))))
