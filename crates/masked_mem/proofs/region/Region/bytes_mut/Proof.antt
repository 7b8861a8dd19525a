-- `bytes_mut` reads the pointer through a `&mut`, and lends what lies there, which the region follows. Assumes `Logic`.
use Rattle.std.proofs.Common.{◌≡◌, ℕ, ◌*◌, ◌≤◌, ◌<◌, ◌^◌, List, [], ◌∷◌, length, refl, sym, ap, ◌∙◌, arith, w64, MutBor}
use Rattle.std.proofs.VecSteps.Shapes.{after}
use Rattle.std.proofs.raw_atomic.Walks.{proved}
use base.Fml.{GName, Fml, ftrue, fsep, flft}
use base.Fraction.{full_share}
use base.Logic.{ent, sep, never, id⊢}
use contract.Monad.{fact}
use contract.Running.{tables}
use denote.Array.{Array}
use denote.Builtin.{u8, usize}
use denote.Exit.{no, yes}
use denote.Follow.{follows}
use denote.FollowSlice.{Elements, lends_Elements}
use denote.Index.{row, whole_in, whole_out}
use denote.Laws.{shows}
use denote.Memory.{cell_at, mem, part_of}
use denote.Plain.{uint_vals, uint_Tells}
use denote.RattleType.{RattleType, owns}
use denote.RawPtr.{Ptr, block_ptr, in_a_block}
use denote.Ref.{MutRef, mut_vals, mut_Tells}
use denote.Signature.{mut_ref_to, plain}
use denote.Slice.{MutSlice, slice_val}
use denote.Steps.{heard, nothing, opens, peeks}
use denote.Struct.Owning.{shape}
use denote.Struct.Struct.{Struct}
use denote.Triple.Walked.{Goes-dropped, Goes-spent_ref, Stays, ends_at, says, stay_dropped, walk_of}
use mir.Syntax.{named}
use mir.Val.{Val}
use seplogic.Ra.Ura.{Ura}
use types.ByLocal.{alloc_all, env, free_all, get, look_at, pass_all, sets, sets_last, through}
use types.Kit.{‵, raw, ◌⊛◌, some, later, at_ret, ◌$◌, ◌∵◌, !, qed, move, keep, drop, use1, split, join, fsplit, fsplit3, fjoin, fpack, pick, await, group, rewrite, suffices, frame, done}
use types.Logic.{Logic, sem}
use types.Part.{agg, look_in, sub, whole}
use types.Run.{and_then, blocks, enter, exec, first, fld, load, no_more, of_opd, returns, stop}
use types.SemTy.{cells}
use Rattle.masked_mem.specs.Lending.{with_bytes}
use Rattle.masked_mem.specs.Ownership.{region_owns}
use Rattle.masked_mem.specs.Memory.{IsSize}
use Rattle.masked_mem.specs.contracts.region.Region as C
use Rattle.masked_mem.specs.contracts.region.Region.bytes_mut as f
use Rattle.masked_mem.specs.declared.region.Region.{Region}
use Rattle.masked_mem.proofs.Bytes.{array_in, array_out}
use Rattle.masked_mem.proofs.region.Region.TheLaws.{lowers}
use Rattle.masked_mem.proofs.region.Region.bytes_mut.Statement.{statement}
use Rattle.masked_mem.proofs.region.Region.bytes_mut.Code as code

abbrev R : RattleType
R = C.the_row

abbrev stayed : Stays f.ended.signature.params f.ended.kept
stayed = (stay_dropped (mut_ref_to (0 ∷ []) tt (plain (λ _. R))) no, (stay_dropped (plain (λ _. usize)) yes, tt))

module _ {M : Type 1} {𝓤 : Ura M} (𝓛 : Logic 𝓤) (b o at from : ℕ) (d : Region) (vs : List Val) where
  -- all but the bytes
  abbrev Rest : Fml
  Rest = fsep ((Struct (shape C.the_type)).own_val (d.at, tt) vs) (cell_at full_share R.mir vs b o)

  back : d.at ≡ block_ptr at from → (ws : List ℕ) → length ws ≡ length d.bytes → ent 𝓤 (sep 𝓤 (sem 𝓛 (cells (mem u8) ws at from)) (sem 𝓛 Rest)) (sem 𝓛 ((mem R).own_at (with_bytes d ws) b o))
  unfolding part_of
  back e ws same =
      qed 𝓛 (‵ (cells (mem u8) ws at from) ∷ ‵ Rest ∷ []) ∵ use1 𝓛 (‵ (row u8 full_share ws at from)) (whole_out 𝓛 u8 ws at from) $
      use1 𝓛 (‵ (region_owns (block_ptr at from) ws)) (array_in 𝓛 at ws from) $ rewrite ! 0 (λ (p : Ptr). ‵ (region_owns p ws)) (sym e) refl $
      move ! (1 ∷ []) $ fsplit ! $ move ! (0 ∷ 2 ∷ []) $ fjoin ! $ move ! (1 ∷ 0 ∷ []) $ fjoin ! $
      fpack ! (List Val) (λ us. fsep (cell_at full_share R.mir us b o) (R.own_val (with_bytes d ws) us)) vs $ done !

pub bytes_mut_spec : {M : Type 1} → statement M
bytes_mut_spec 𝓤 𝓛 𝓜 𝓡 wired =
    let c = f.clauses 𝓛 𝓜.mem 𝓡.returns in let W = walk_of 𝓛 f.ended stayed c in let 𝓣 = tables 𝓤 𝓛.H 𝓜 𝓡 𝓡.env in
    proved 𝓛 f.ended stayed c 𝓜 𝓡
    (Goes-spent_ref 𝓛 1 (0 ∷ []) tt (plain (λ _. R)), (Goes-dropped 𝓛 1 (plain (λ _. usize)) yes (λ κs x w. refl), tt))
    f.Key.name code.function (code.unfolded 𝓤 𝓛.H 𝓜 𝓡 wired)
    (λ κs. (mut_vals, (uint_vals w64, tt))) (λ κs. (mut_Tells (named 0) κs.0 R, (uint_Tells w64, tt))) (λ κs qs bounds a _ are.
    let κ = κs.0 in let q = qs.0 in let d = a.0.now in let n = a.1.0 in let b = a.0.ref_ptr.0 in let o = a.0.ref_ptr.1 in let γ = a.0.ghost_name in
    let y : W.Ghost = ((κs, qs, bounds, a, (mut_vals a.0, (uint_vals w64 n, tt))), tt) in
    let fits : n < 2 ^ 64 = are.1.0.1 in let xs = d.bytes in let known = R.coded.code d in
    qed 𝓛 (((‵ (flft κ q) ⊛ ‵ ftrue) ⊛ ‵ (owns (MutRef (named 0) κ R ∷ usize ∷ []) a y.0.4)) ∷ raw (fact 𝓤 ((n ≡ length xs) × IsSize n)) ∷ []) ∵
    move ! (1 ∷ []) $ heard ! _ (λ asked. let small : n ≤ 2 ^ 26 = asked.1.high in split ! $ move ! (1 ∷ []) $ fsplit ! $ fsplit3 ! $ drop ! $ move ! (3 ∷ []) $ split ! $ keep ! (2 ∷ 3 ∷ 0 ∷ []) $
    -- [what is seen of the `&mut`; its borrow; the token]
    enter ! _ _ _ _ _ $ alloc_all ! (λ l. pass_all ! refl ((tt, tt), ((tt, record { fits = fits }), tt)) $
    opens ! tt R {h = d} b o (λ vs. move ! (1 ∷ []) $ peeks ! R _ (shows 𝓛 R) d vs (λ is. fsplit ! $ move ! (1 ∷ []) $
    in_a_block ! d.at (λ p. region_owns p xs) (id⊢ 𝓤 (never 𝓤)) (λ at from e.
    let word = lowers.val_is d vs is ∙ ap (λ (p : Ptr). lowers.lowered (record d { at = p }) ∷ []) e in
    let Cell = λ (ws : List Val). ‵ (cell_at full_share R.mir ws b o) in
    rewrite ! 2 Cell word refl $
    -- [the bytes; what the field owns; the region's cell; the open borrow, in three entries]
    first ! $ blocks ! $
    sets ! (of_opd ! (load ! (through ! refl (fld ! refl (stop !))) (look_in ! 2 (sub ! 0 refl (whole !))))) refl (tt, tt) $
    sets_last ! (agg ! (and_then ! (get ! refl) (and_then ! (get ! refl) (no_more !)))) refl (tt, (tt, (record { fits = fits }, tt))) $
    exec ! 𝓣.C 𝓣.Λ (env (code.function).locals l) (after 1 (code.function).body) (at_ret _ (W.post y)) $
    sets ! (of_opd ! (get ! refl)) refl (tt, (tt, (record { fits = fits }, tt))) $
    rewrite ! 2 Cell (sym word) refl $
    use1 𝓛 (‵ (row u8 full_share xs at from)) (array_out 𝓛 at xs from) $ use1 𝓛 (‵ (cells (mem u8) xs at from)) (whole_in 𝓛 u8 xs at from) $
    move ! (1 ∷ 2 ∷ []) $ fjoin ! $ move ! (2 ∷ 3 ∷ 4 ∷ 1 ∷ 0 ∷ []) $ group ! 5 $
    let roomy : length xs < 2 ^ 64 = omega (arith, asked.0, small) in let fitting : length xs * 1 < 2 ^ 63 = omega (arith, asked.0, small) in
    let way = back 𝓛 b o at from d vs e in
    use1 𝓛 (later (some (λ (δ : GName). raw (Elements 𝓛 R u8 (with_bytes d) (named 0) κ q b o at from γ xs (roomy, fitting) (sem 𝓛 (Rest 𝓛 b o at from d vs)) way δ))))
    (lends_Elements 𝓛 R u8 (with_bytes d) (named 0) κ q b o at from γ xs (roomy, fitting) (sem 𝓛 (Rest 𝓛 b o at from d vs)) way known known) $ await ! tt $ pick ! (λ δ.
    let r : MutBor (List ℕ) = record { ref_ptr = (at, from); ghost_name = δ; now = xs } in
    returns ! (look_at ! 0 refl) $ free_all ! refl $ keep ! (0 ∷ []) $
    use1 𝓛 (‵ ((MutSlice (named 0) κ u8).own_val r (slice_val (at, from) (length xs) ∷ [])) ⊛ ‵ (flft κ q) ⊛ ‵ (follows R (Array u8 0) γ δ (with_bytes d))) (id⊢ 𝓤 _) $ split ! $ move ! (1 ∷ []) $ split ! $ move ! (2 ∷ []) $
    -- [the slice; the token; what the region follows]
    rewrite ! 0 (λ (k : ℕ). ‵ ((MutSlice (named 0) κ u8).own_val r (slice_val (at, from) k ∷ []))) (sym asked.0) refl $
    suffices ! _ (ends_at 𝓛 f.ended stayed c y (slice_val (at, from) n) r (tt, (tt, tt)) (tt, (tt, tt))) $
    nothing ! $ nothing ! $ fjoin ! $ nothing ! $ fjoin ! $ join ! $ nothing ! $ move ! (2 ∷ 0 ∷ []) $ join ! $ join ! $ frame ! $ says ! refl $ done !)))))))
