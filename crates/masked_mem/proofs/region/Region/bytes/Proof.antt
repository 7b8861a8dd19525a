-- `bytes` reads the pointer through a `&`, and lends what lies there. Assumes `Logic`.
use Rattle.std.proofs.Common.{◌≡◌, ℕ, ◌+◌, ◌*◌, ◌≤◌, ◌<◌, ◌^◌, List, [], ◌∷◌, length, refl, ap, arith, w64}
use Rattle.std.proofs.VecSteps.Shapes.{after}
use Rattle.std.proofs.Words.{pointer_in, pointer_out}
use Rattle.std.proofs.raw_atomic.Walks.{proved}
use base.Fml.{Lft, Fml, ftrue, fhide, flft}
use base.Logic.{ent, sep}
use contract.Monad.{fact}
use contract.Running.{tables}
use denote.Builtin.{RefOf, usize}
use denote.Exit.{yes}
use denote.Memory.{hidden_shr}
use denote.Opens.{hide, shr_dup, unhide}
use denote.Plain.{uint_vals, uint_Tells}
use denote.RattleType.{RattleType, owns}
use denote.RawPtr.{RawPtr, InBlock, block_of, block_ptr, count_of, ptr_row_laws}
use denote.Ref.{ShrRef, shr_vals, shr_Tells}
use denote.Signature.{plain}
use denote.Slice.{slice_val}
use denote.Steps.{heard, nothing}
use denote.Struct.Lending.{in_block_says, lent_out}
use denote.Struct.Owning.{shape}
use denote.Struct.Struct.{Struct, Struct-row_laws}
use denote.Triple.Walked.{Goes-dropped, Stays, ends_at, says, stay_dropped, walk_of}
use mir.Syntax.{named}
use mir.Val.{Val}
use seplogic.Ra.Ura.{Ura}
use types.ByLocal.{alloc_all, env, free_all, get, look_at, pass_all, sets, sets_last, through}
use types.Kit.{‵, raw, ◌⊛◌, at_ret, ◌$◌, ◌∵◌, !, qed, move, keep, drop, use1, split, join, fsplit, fjoin, feq_i, flt_i, suffices, frame, done}
use types.Logic.{Logic, sem}
use types.Part.{agg}
use types.Run.{and_then, blocks, enter, exec, first, fld, load, look, no_more, of_opd, returns, stop}
use Rattle.masked_mem.specs.Memory.{IsSize}
use Rattle.masked_mem.specs.contracts.region.Region as C
use Rattle.masked_mem.specs.contracts.region.Region.bytes as f
use Rattle.masked_mem.specs.declared.region.Region.{Region}
use Rattle.masked_mem.proofs.region.Region.bytes.Statement.{statement}
use Rattle.masked_mem.proofs.region.Region.bytes.Code as code

abbrev R : RattleType
R = C.the_row

abbrev Words : RattleType
Words = Struct (shape C.the_type)

abbrev stayed : Stays f.ended.signature.params f.ended.kept
stayed = (stay_dropped (RefOf (0 ∷ []) tt (plain (λ _. R)) (λ _. tt)) yes, (stay_dropped (plain (λ _. usize)) yes, tt))

module _ {M : Type 1} {𝓤 : Ura M} (𝓛 : Logic 𝓤) (κ : Lft) (b o : ℕ) (d : Region) where
  abbrev S : Fml
  S = hidden_shr Words κ (d.at, tt) b o

  shows_at : ent 𝓤 (sem 𝓛 S) (sep 𝓤 (sem 𝓛 (hidden_shr RawPtr κ d.at b (o + 0))) (sem 𝓛 S))
  shows_at = qed 𝓛 (‵ S ∷ []) ∵ shr_dup ! Words (Struct-row_laws (shape C.the_type) (ptr_row_laws, tt)) (d.at, tt) b o κ $ unhide ! $ fsplit ! $ fsplit ! $ hide ! $ keep ! (0 ∷ 3 ∷ []) $ done !

pub bytes_spec : {M : Type 1} → statement M
bytes_spec 𝓤 𝓛 𝓜 𝓡 wired =
    let c = f.clauses 𝓛 𝓜.mem 𝓡.returns in let W = walk_of 𝓛 f.ended stayed c in let 𝓣 = tables 𝓤 𝓛.H 𝓜 𝓡 𝓡.env in
    proved 𝓛 f.ended stayed c 𝓜 𝓡
    (Goes-dropped 𝓛 1 (RefOf (0 ∷ []) tt (plain (λ _. R)) (λ _. tt)) yes (λ κs x w. refl), (Goes-dropped 𝓛 1 (plain (λ _. usize)) yes (λ κs x w. refl), tt))
    f.Key.name code.function (code.unfolded 𝓤 𝓛.H 𝓜 𝓡 wired)
    (λ κs. (shr_vals, (uint_vals w64, tt))) (λ κs. (shr_Tells (named 0) κs.0 R, (uint_Tells w64, tt))) (λ κs qs bounds a _ are.
    let κ = κs.0 in let q = qs.0 in let d = a.0.now in let n = a.1.0 in let b = a.0.ref_ptr.0 in let o = a.0.ref_ptr.1 in
    let y : W.Ghost = ((κs, qs, bounds, a, (shr_vals a.0, (uint_vals w64 n, tt))), tt) in
    let place : ℕ × ℕ = (block_of d.at, count_of d.at) in let fits : n < 2 ^ 64 = are.1.0.1 in
    qed 𝓛 (((‵ (flft κ q) ⊛ ‵ ftrue) ⊛ ‵ (owns (ShrRef (named 0) κ R ∷ usize ∷ []) a y.0.4)) ∷ raw (fact 𝓤 ((n ≡ length d.bytes) × IsSize n)) ∷ []) ∵
    move ! (1 ∷ []) $ heard ! _ (λ asked. let small : n ≤ 2 ^ 26 = asked.1.high in split ! $ move ! (1 ∷ []) $ fsplit ! $ fsplit ! $ drop ! $ move ! (2 ∷ []) $ split ! $ keep ! (2 ∷ 0 ∷ []) $
    -- [the `&`; the token]
    enter ! _ _ _ _ _ $ alloc_all ! (λ l. pass_all ! refl ((tt, tt), ((tt, record { fits = fits }), tt)) $
    use1 𝓛 (‵ (hidden_shr Words κ (d.at, tt) b o) ⊛ ‵ (fhide (C.the_lent d (block_ptr b o) κ))) (lent_out 𝓛 C.struct C.the_codes C.the_heap C.the_lent κ d b o) $ split ! $
    move ! (1 ∷ []) $ unhide ! $ fsplit ! $ use1 𝓛 (raw (fact 𝓤 (InBlock d.at))) (in_block_says 𝓛 d.at) $ heard ! (InBlock d.at) (λ inside. fsplit ! $ drop ! $ hide ! $ move ! (1 ∷ 2 ∷ []) $
    -- [the `&` to the pointer; the token; the bytes that are lent]
    first ! $ blocks ! $ pointer_in ! tt d.at inside b (o + 0) (shows_at 𝓛 κ b o d) (λ q'.
    sets ! (of_opd ! (load ! (through ! refl (fld ! refl (stop !))) (look ! 1 refl))) refl (tt, tt) $
    pointer_out ! tt d.at inside b (o + 0) $
    sets_last ! (agg ! (and_then ! (get ! refl) (and_then ! (get ! refl) (no_more !)))) refl (tt, (tt, (record { fits = fits }, tt))) $
    exec ! 𝓣.C 𝓣.Λ (env (code.function).locals l) (after 1 (code.function).body) (at_ret _ (W.post y)) $
    sets ! (of_opd ! (get ! refl)) refl (tt, (tt, (record { fits = fits }, tt))) $
    returns ! (look_at ! 0 refl) $ free_all ! refl $ keep ! (2 ∷ 0 ∷ []) $
    flt_i ! (length d.bytes * 1) (2 ^ 63) (omega (arith, asked.0, small)) $ flt_i ! (length d.bytes) (2 ^ 64) (omega (arith, asked.0, small)) $ fjoin ! $
    feq_i ! (List Val) (slice_val place n ∷ []) (slice_val place (length d.bytes) ∷ []) (ap (λ k. slice_val place k ∷ []) asked.0) $ fjoin ! $ fjoin ! $ move ! (1 ∷ 0 ∷ []) $
    suffices ! _ (ends_at 𝓛 f.ended stayed c y (slice_val place n) (record { ref_ptr = place; now = d.bytes }) (tt, (tt, tt)) (tt, (tt, tt))) $ says ! refl $
    nothing ! $ move ! (1 ∷ 0 ∷ []) $ join ! $ frame ! $ nothing ! $ nothing ! $ fjoin ! $ nothing ! $ fjoin ! $ done !)))))
