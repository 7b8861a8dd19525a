-- Cutting instructions off code one after the other, and cutting what code's bytes are.
use Rattle.std.proofs.Common.{◌≡◌, ℕ, suc, ◌+◌, ◌-◌, ◌^◌, ◌<◌, ◌≤◌, min, Bool, true, false, ◌&&◌, IsTrue, List, [], ◌∷◌, ◌++◌, length, Result, Ok, Err, refl, sym, ap, subst, ◌∙◌, arith, append_assoc, length-append}
use Rattle.std.specs.Global.{Vec}
use Rattle.std.specs.List.{list_all}
use Rattle.std.specs.Result.{OkIff, result_unwrap_or}
use Rattle.std.proofs.lemmas.List.{append-nil}
use Rattle.std.proofs.lemmas.Grind.{common_steps, flat_map-append}
use Rattle.qv_ops.specs.declared.instr.Instr.{Instr}
use Rattle.qv_ops.specs.declared.decode.CodeFault.{CodeFault}
use Rattle.qv_ops.specs.declared.decode.CodeFault.TheVariants.{CodeShort, TailLong, NoMemory}
use Rattle.qv_ops.specs.Code.{code_bytes, instr_bytes}
use Rattle.qv_ops.specs.Cut.{cut_one, cut_from, with_instr, with_all, IsCut}

-- an instruction goes behind those before it
with_all-with_instr : (is : List Instr) (i : Instr) (r : Result (List Instr) CodeFault) → with_all is (with_instr i r) ≡ with_all (is ++ i ∷ []) r
with_all-with_instr is i (Ok rest) = ap Ok (sym (append_assoc is (i ∷ []) rest))
with_all-with_instr is i (Err fault) = refl

cut_from-one : (count at left : ℕ) (bytes : List ℕ) → at < left → cut_from count at (left - at) bytes ≡ cut_one count at bytes (cut_from count (at + 1) (left - (at + 1)))
unfolding cut_from
cut_from-one count at left bytes lt =
    let P : ℕ → Type 0 = λ n. cut_from count at n bytes ≡ cut_one count at bytes (cut_from count (at + 1) (left - (at + 1))) in
    let e : suc (left - (at + 1)) ≡ left - at = omega arith in
    subst P e refl

-- an instruction more has been cut
pub cut_more : (count at : ℕ) (bytes behind : List ℕ) (is : List Instr) (i : Instr) (whole : Result (List Instr) CodeFault) → at < count
    → with_all is (cut_from count at (count - at) bytes) ≡ whole
    → ((later : List ℕ → Result (List Instr) CodeFault) → cut_one count at bytes later ≡ with_instr i (later behind))
    → with_all (is ++ i ∷ []) (cut_from count (at + 1) (count - (at + 1)) behind) ≡ whole
cut_more count at bytes behind is i whole lt e one =
    sym (with_all-with_instr is i (cut_from count (at + 1) (count - (at + 1)) behind))
    ∙ sym (ap (with_all is) (cut_from-one count at count bytes lt ∙ one (cut_from count (at + 1) (count - (at + 1)))))
    ∙ e

-- a fault is the answer
is_cut-err : (whole : Result (List Instr) CodeFault) (fault : CodeFault) → whole ≡ Err fault → IsCut whole (Err fault)
is_cut-err whole NoMemory e = tt
is_cut-err whole (CodeShort at) e = e
is_cut-err whole fault e = e

pub cut_stops : (count at : ℕ) (bytes : List ℕ) (is : List Instr) (fault : CodeFault) (whole : Result (List Instr) CodeFault) (answer : Result (Vec Instr) CodeFault) → at < count
    → with_all is (cut_from count at (count - at) bytes) ≡ whole
    → ((later : List ℕ → Result (List Instr) CodeFault) → cut_one count at bytes later ≡ Err fault)
    → answer ≡ Err fault → IsCut whole answer
cut_stops count at bytes is fault whole answer lt e one a =
    let w : whole ≡ Err fault = sym e ∙ ap (with_all is) (cut_from-one count at count bytes lt ∙ one (cut_from count (at + 1) (count - (at + 1)))) in
    subst (λ r. IsCut whole r) (sym a) (is_cut-err whole fault w)

-- no instruction is left to cut
cut_from-none : (count at left : ℕ) (bytes : List ℕ) → left ≤ at → cut_from count at (left - at) bytes ≡ cut_from count at 0 bytes
cut_from-none count at left bytes le = let e : left - at ≡ 0 = omega arith in ap (λ n. cut_from count at n bytes) e

pub cut_from-end : (count at : ℕ) (bytes : List ℕ) → length bytes ≤ 3 → cut_from count at 0 bytes ≡ Ok []
unfolding cut_from
cut_from-end count at bytes le = grind (arith, common_steps)

cut_from-tail : (count at : ℕ) (bytes : List ℕ) → 3 < length bytes → cut_from count at 0 bytes ≡ Err (TailLong (min (length bytes) (2 ^ 32 - 1)))
unfolding cut_from
cut_from-tail count at bytes lt = grind (arith, common_steps)

pub cut_ends : (count at : ℕ) (bytes : List ℕ) (is : List Instr) (whole : Result (List Instr) CodeFault) → count ≤ at → length bytes ≤ 3
    → with_all is (cut_from count at (count - at) bytes) ≡ whole → whole ≡ Ok is
cut_ends count at bytes is whole le short e =
    sym e ∙ ap (with_all is) (cut_from-none count at count bytes le ∙ cut_from-end count at bytes short) ∙ ap Ok (append-nil is)

pub cut_leaves : (count at : ℕ) (bytes : List ℕ) (is : List Instr) (whole : Result (List Instr) CodeFault) → count ≤ at → 3 < length bytes
    → with_all is (cut_from count at (count - at) bytes) ≡ whole → whole ≡ Err (TailLong (min (length bytes) (2 ^ 32 - 1)))
cut_leaves count at bytes is whole le long e =
    sym e ∙ ap (with_all is) (cut_from-none count at count bytes le ∙ cut_from-tail count at bytes long)

-- a length as a word, and the largest word where it is more
pub left-min : {E : Type 0} (r : Result ℕ E) (n left : ℕ) → OkIff r (n < 4294967296) n → left ≡ result_unwrap_or r 4294967295 → left ≡ min n (2 ^ 32 - 1)
left-min (Ok m) n left (lt, e) l = omega (arith, lt, e, l)
left-min (Err x) n left not_lt l = omega (arith, not_lt, l)

elim_true : (a b d : Bool) → IsTrue (a && b) → (IsTrue b → IsTrue d) → IsTrue (a && d)
elim_true true b d h f = f h
elim_true false b d h f = h

-- a test that holds of the instructions before one and of that one
pub list_all-one : (p : Instr → Bool) (is : List Instr) (i : Instr) → IsTrue (list_all p is) → IsTrue (p i) → IsTrue (list_all p (is ++ i ∷ []))
list_all-one p [] i a h = rw h refl
list_all-one p (j ∷ is) i a h = elim_true (p j) (list_all p is) (list_all p (is ++ i ∷ [])) a (λ b. list_all-one p is i b h)

-- the bytes of the instructions before one and of that one, and the bytes behind it
pub lengths-one : (is : List Instr) (i : Instr) (rest behind code : List ℕ) → length (code_bytes is) + length rest ≡ length code
    → length (instr_bytes i) + length behind ≡ length rest → length (code_bytes (is ++ i ∷ [])) + length behind ≡ length code
lengths-one is i rest behind code e h =
    rw flat_map-append (omega (arith, length-append (code_bytes is) (instr_bytes i ++ []), length-append (instr_bytes i) [], e, h))
