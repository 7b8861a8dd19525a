-- `clear` writes the zeros one by one: so many lie there, and room for the others. Assumes `Logic`.
use Rattle.std.proofs.Common.{◌≡◌, ℕ, ◌+◌, ◌-◌, ◌≤◌, ◌<◌, ◌^◌, List, [], ◌∷◌, replicate, refl, arith, ltb→lt, lit<, nltb→le, w8, w64}
use Rattle.std.proofs.VecSteps.Shapes.{after}
use Rattle.std.proofs.raw_atomic.Walks.{proved}
use base.Fml.{ftrue, froom}
use base.Fraction.{full_share}
use base.Logic.{SProp, ent, id⊢, never}
use contract.Running.{tables, tables_of}
use denote.Builtin.{u8, usize}
use denote.Exit.{yes}
use denote.Memory.{part_at}
use denote.Plain.{uint_in, uint_vals, uint_Tells}
use denote.RattleType.{owns}
use denote.RawPtr.{Ptr, RawPtr, block_ptr, in_a_block, ptr_val, rawptr_vals, rawptr_Tells, room_for}
use denote.Signature.{plain}
use denote.Steps.{nothing}
use denote.Triple.Walked.{Goes-dropped, Stays, ends_at, stay_dropped, walk_of}
use lib.WfN.{lt-wf_rel}
use mathlib.Core.WellFounded.InvImage
use mir.Syntax.{ty_array, ty_int}
use mir.Val.{Val, vint, vptr, vunit}
use prog.Wp.{Env, Out, Tables, Wp, WpFn, after_block, after_seq, after_turn, at_return}
use seplogic.Ra.Ura.{Ura}
use types.ByLocal.{alloc_all, env, forget_but, free_all, get, holding, look_at, pass_all, sets, sets_last, through}
use types.Kit.{Item, Sq, any_q, runs, ‵, ◌⊛◌, at_ret, prop, ◌$◌, ◌∵◌, !, qed, by, move, keep, use1, use2, split, join, group, regoal, rewrite, feq_i, suffices, done}
use types.Logic.{Logic, sem}
use types.Run.{Below, again, assigns_last, bin, blocks, branches, enter, exec, first, init, jumps, lit, loops, of_opd, returns, skips, stop, unit_lit}
use Rattle.masked_mem.specs.Ownership.{bytes_of, region_owns}
use Rattle.masked_mem.specs.contracts.region.clear as f
use Rattle.masked_mem.proofs.Bytes.{array_in, bytes, place_out, zero_in}
use Rattle.masked_mem.proofs.region.clear.Statement.{statement}
use Rattle.masked_mem.proofs.region.clear.Code as code

abbrev stayed : Stays f.ended.signature.params f.ended.kept
stayed = (stay_dropped (plain (λ _. RawPtr)) yes, (stay_dropped (plain (λ _. usize)) yes, tt))

all_left : (n : ℕ) → n ≡ n - 0
all_left n = omega arith

at_start : (o : ℕ) → o ≡ 0 + o
at_start o = omega arith

-- how many zeros lie there
abbrev Written : ℕ → Type 0
Written n = (i : ℕ) × (i ≤ n)

abbrev Nearer : (n : ℕ) → Written n → Written n → Type 0
Nearer n t u = n - t.0 < n - u.0

module _ {M : Type 1} {𝓤 : Ura M} (𝓛 : Logic 𝓤) (𝓣 : Tables 𝓤 𝓛.H) (b o n : ℕ) (fits : n < 2 ^ 64) (Post : Val → SProp 𝓤) (l : ℕ → ℕ) where
  open 𝓛 use {H}

  abbrev En : Env 𝓤 H
  En = env (code.function).locals l

  abbrev Now : Written n → List (Item 𝓤)
  Now t = ‵ (bytes 𝓛 b (replicate t.0 0) o) ∷ ‵ (froom (ty_array (ty_int w8) (n - t.0)) b (t.0 + o)) ∷ holding 𝓛 En ((1, vptr b o) ∷ (2, vint w64 n) ∷ (3, vint w64 t.0) ∷ [])

  abbrev Turned : Written n → Out → SProp 𝓤
  Turned t = after_turn 𝓤 H (Below 𝓛 (Nearer n) Now t) (after_block 𝓤 H (after_seq 𝓤 H (Wp 𝓤 H 𝓣.C 𝓣.Λ En (after 2 (code.function).body) (at_return 𝓤 H En Post)) (at_return 𝓤 H En Post)))

  turns : (ends : ent 𝓤 (sem 𝓛 (region_owns (block_ptr b o) (replicate n 0))) (Post vunit)) (t : Written n) → Sq 𝓛 (Now t) (runs 𝓣.C 𝓣.Λ En code.Mir.turn-1 (any_q (Turned t)))
  unfolding after_turn
  turns ends t =
      let i : ℕ = t.0 in let le : i ≤ n = t.1 in
      sets ! (bin ! (get ! refl) (get ! refl) tt) refl (tt, tt) $ first ! $ branches ! (get ! refl)
      (λ less. let h : i < n = ltb→lt i n less in let fi : i + 1 < 2 ^ 64 = omega arith in
      skips ! $ exec ! 𝓣.C 𝓣.Λ En (after 2 code.Mir.turn-1) (any_q (Turned t)) $
      first ! $ blocks ! $ sets ! (bin ! (get ! refl) (get ! refl) tt) refl (tt, tt) $
      move ! (1 ∷ []) $ use1 𝓛 (‵ (froom (ty_int w8) b (i + o)) ⊛ ‵ (froom (ty_array (ty_int w8) (n - (i + 1))) b ((i + 1) + o))) (place_out 𝓛 b n i o h) $ split ! $
      assigns_last ! (of_opd ! (lit ! tt)) (through ! refl (stop !)) (init ! 0 refl (tt, record { fits = lit< tt })) $
      exec ! 𝓣.C 𝓣.Λ En (after 3 code.Mir.turn-1) (any_q (Turned t)) $
      sets_last ! (bin ! (get ! refl) (lit ! tt) (record { fits = fi })) refl (tt, record { fits = fi }) $
      use1 𝓛 (‵ (part_at u8 full_share 0 b (i + o))) (uint_in 𝓛 full_share w8 0 b (i + o)) $ move ! (2 ∷ 0 ∷ []) $
      use2 𝓛 (‵ (bytes 𝓛 b (replicate (i + 1) 0) o)) (zero_in 𝓛 b i o) $
      forget_but ! En (1 ∷ 2 ∷ 3 ∷ []) refl $ again ! (Nearer n) Now t (i + 1, omega arith) (omega arith))
      (λ over. let all : i ≡ n = omega (arith, nltb→le i n over) in
      jumps ! $ exec ! 𝓣.C 𝓣.Λ En (after 2 (code.function).body) (at_ret En Post) $
      rewrite ! 0 (λ (k : ℕ). ‵ (bytes 𝓛 b (replicate k 0) o)) all refl $
      rewrite ! 0 (λ (k : ℕ). ‵ (bytes 𝓛 b (replicate n 0) o)) all refl $
      use1 𝓛 (‵ (region_owns (block_ptr b o) (replicate n 0))) (array_in 𝓛 b (replicate n 0) o) $
      sets ! (of_opd ! (unit_lit !)) refl (tt, tt) $ returns ! (look_at ! 0 refl) $ free_all ! refl $ keep ! (0 ∷ []) $ by ! ends)

pub clear_spec : {M : Type 1} → statement M
unfolding tables_of
clear_spec 𝓤 𝓛 𝓜 𝓡 wired =
    let c = f.clauses 𝓛 𝓜.mem 𝓡.returns in let W = walk_of 𝓛 f.ended stayed c in let 𝓣 : Tables 𝓤 𝓛.H = tables_of 𝓤 𝓛.H 𝓜 (tables 𝓤 𝓛.H 𝓜 𝓡 𝓡.env) in
    proved 𝓛 f.ended stayed c 𝓜 𝓡 (Goes-dropped 𝓛 0 (plain (λ _. RawPtr)) yes (λ κs x w. refl), (Goes-dropped 𝓛 0 (plain (λ _. usize)) yes (λ κs x w. refl), tt))
    f.Key.name code.function (code.unfolded 𝓤 𝓛.H 𝓜 𝓡 wired)
    (λ κs. (rawptr_vals, (uint_vals w64, tt))) (λ κs. (rawptr_Tells, (uint_Tells w64, tt))) (λ κs qs bounds a _ are.
    let n = a.1.0 in let fits : n < 2 ^ 64 = are.1.0.1 in
    let y : Ptr → W.Ghost = λ p. ((κs, qs, bounds, (p, (n, tt)), (rawptr_vals p, (uint_vals w64 n, tt))), tt) in
    qed 𝓛 ((‵ ftrue ⊛ ‵ (owns (RawPtr ∷ usize ∷ []) a (y a.0).0.4)) ∷ ‵ (room_for (bytes_of n) a.0) ∷ []) ∵ move ! (1 ∷ []) $
    in_a_block ! a.0 (λ p. room_for (bytes_of n) p) (id⊢ 𝓤 (never 𝓤)) (λ b o e. keep ! (0 ∷ []) $
    regoal ! (λ (p : Ptr). prop (WpFn 𝓤 𝓛.H 𝓣.C 𝓣.Λ code.function (ptr_val p ∷ vint w64 n ∷ []) ((walk_of 𝓛 f.ended stayed c).post (y p)))) e refl $
    enter ! _ _ _ _ _ $ alloc_all ! (λ l. pass_all ! refl ((tt, tt), ((tt, record { fits = fits }), tt)) $
    sets ! (of_opd ! (lit ! tt)) refl (tt, record { fits = lit< tt }) $ first ! $ blocks ! $
    rewrite ! 0 (λ (u : ℕ × ℕ). ‵ (froom (ty_array (ty_int w8) u.0) b u.1)) (λ j. (all_left n j, at_start o j)) refl $ nothing ! $
    loops ! 𝓣 (Nearer n) (InvImage.wf (λ (t : Written n). n - t.0) lt-wf_rel.wf) (Now 𝓛 𝓣 b o n fits (W.post (y (block_ptr b o))) l) (turns 𝓛 𝓣 b o n fits (W.post (y (block_ptr b o))) l
    (qed 𝓛 (‵ (region_owns (block_ptr b o) (replicate n 0)) ∷ []) ∵ suffices ! _ (ends_at 𝓛 f.ended stayed c (y (block_ptr b o)) vunit tt (tt, (tt, tt)) (tt, (tt, tt))) $
    feq_i ! _ (vunit ∷ []) _ refl $ nothing ! $ nothing ! $ join ! $ nothing ! $ join ! $ nothing ! $ group ! 3 $ done !)) (0, omega arith))))
