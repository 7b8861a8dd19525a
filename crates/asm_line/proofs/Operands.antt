-- Operands and their values.
use Rattle.std.proofs.Common.{◌≡◌, ℕ, ◌+◌, ◌<◌, Bool, true, false, ◌&&◌, List, [], ◌∷◌, ◌++◌, length, take, drop, refl, sym, ap, subst, ◌∙◌, arith}
use Rattle.std.specs.Prelude.{IsTrue, not, Option, Some, None, IfSome, find, option_map, if◌then◌else◌, ◌==◌}
use Rattle.std.specs.List.{list_all}
use Rattle.std.specs.Str.{bytes_eq}
use Rattle.std.specs.Option.{option_and_then}
use Rattle.std.proofs.lemmas.Bool.Decides.{nat_tests}
use Rattle.std.proofs.Math.Seq.{take-add}
use Rattle.std.proofs.lemmas.List.{append-nil, drop-drop, take-append-drop}
use Rattle.asm_line.specs.Operand.{expression, expression_in, is_name, is_sign, number_of, pieces, total}
use Rattle.asm_line.specs.Row.{address, constant}
use Rattle.asm_line.specs.Read.{checked, with_ok}
use Rattle.asm_line.specs.Text.{onto, starts_with}
use Rattle.asm_line.specs.Words.{meaning_of, suits, words_table}
use Rattle.asm_line.specs.declared.words.Meaning.{Meaning}

-- a value seen otherwise is checked alike
pub with_ok_checked : {A B : Type 0} (f : A → B) (o : Option A) (ws : List (List ℕ)) → with_ok f (checked o ws) ≡ checked (option_map f o) ws
with_ok_checked f None ws = refl
with_ok_checked f (Some x) [] = refl
with_ok_checked f (Some x) (w ∷ ws) = refl

both_true : (a b : Bool) → (a && b) ≡ true → (a ≡ true) × (b ≡ true)
both_true true b h = (refl, h)
both_true false b h = (h, cc)

abbrev is_plain : ℕ → Bool
is_plain b = not (is_sign b)

pub pieces-nil : pieces [] ≡ []
unfolding pieces
pieces-nil = refl

pieces-cons : (b : ℕ) (bs : List ℕ) → pieces (b ∷ bs) ≡ (if is_plain b && starts_with is_sign bs then (b ∷ []) ∷ pieces bs else onto b (pieces bs))
unfolding pieces
pieces-cons b bs = refl

-- a sign goes onto the piece behind it
sign_before : (b : ℕ) (bs : List ℕ) → is_sign b ≡ true → pieces (b ∷ bs) ≡ onto b (pieces bs)
sign_before b bs h =
    pieces-cons b bs ∙ ap (λ k. if not k && starts_with is_sign bs then (b ∷ []) ∷ pieces bs else onto b (pieces bs)) h

-- another byte begins a piece of its own before a sign
plain_before : (b : ℕ) (bs : List ℕ) → is_plain b ≡ true → pieces (b ∷ bs) ≡ (if starts_with is_sign bs then (b ∷ []) ∷ pieces bs else onto b (pieces bs))
plain_before b bs h =
    pieces-cons b bs ∙ ap (λ k. if k && starts_with is_sign bs then (b ∷ []) ∷ pieces bs else onto b (pieces bs)) h

not_false : (a : Bool) → not a ≡ false → a ≡ true
not_false true h = refl
not_false false h = cc

not_true : (a : Bool) → not a ≡ true → a ≡ false
not_true true h = cc
not_true false h = refl

-- the last byte of a piece: a sign follows, or nothing
plain_last : (b : ℕ) (rest : List ℕ) → is_plain b ≡ true → starts_with is_plain rest ≡ false → pieces (b ∷ rest) ≡ (b ∷ []) ∷ pieces rest
plain_last b [] h other = plain_before b [] h ∙ ap (onto b) pieces-nil ∙ ap (λ ps. (b ∷ []) ∷ ps) (sym pieces-nil)
plain_last b (c ∷ rest) h other =
    plain_before b (c ∷ rest) h ∙ ap (λ k. if k then (b ∷ []) ∷ pieces (c ∷ rest) else onto b (pieces (c ∷ rest))) (not_false (is_sign c) other)

plain_run : (b : ℕ) (more rest : List ℕ) → IsTrue (list_all is_plain (b ∷ more)) → starts_with is_plain rest ≡ false → pieces (b ∷ (more ++ rest)) ≡ (b ∷ more) ∷ pieces rest
plain_run b [] rest h other = plain_last b rest (both_true (is_plain b) true h).0 other
plain_run b (c ∷ more) rest h other =
    let k = both_true (is_plain b) (list_all is_plain (c ∷ more)) h in
    let j = both_true (is_plain c) (list_all is_plain more) k.1 in
    plain_before b (c ∷ (more ++ rest)) k.0
    ∙ ap (λ k. if k then (b ∷ []) ∷ pieces (c ∷ (more ++ rest)) else onto b (pieces (c ∷ (more ++ rest)))) (not_true (is_sign c) j.0)
    ∙ ap (onto b) (plain_run c more rest k.1 other)

-- signs go onto the piece behind them
signs_before : (signs text piece : List ℕ) (more : List (List ℕ)) → IsTrue (list_all is_sign signs) → pieces text ≡ piece ∷ more → pieces (signs ++ text) ≡ (signs ++ piece) ∷ more
signs_before [] text piece more h e = e
signs_before (b ∷ signs) text piece more h e =
    let k = both_true (is_sign b) (list_all is_sign signs) h in
    sign_before b (signs ++ text) k.0 ∙ ap (onto b) (signs_before signs text piece more k.1 e)

signs_alone : (b : ℕ) (signs : List ℕ) → IsTrue (list_all is_sign (b ∷ signs)) → pieces (b ∷ signs) ≡ (b ∷ signs) ∷ []
signs_alone b [] h = sign_before b [] (both_true (is_sign b) true h).0 ∙ ap (onto b) pieces-nil
signs_alone b (c ∷ signs) h =
    let k = both_true (is_sign b) (list_all is_sign (c ∷ signs)) h in
    sign_before b (c ∷ signs) k.0 ∙ ap (onto b) (signs_alone c signs k.1)

sign_or_plain : (b : Bool) → b ≡ false → not b ≡ false → ⊥
sign_or_plain true h k = cc
sign_or_plain false h k = cc

-- signs, and then other bytes, up to a sign or the end
joined : (signs plain rest : List ℕ) → 0 < length (signs ++ (plain ++ rest)) → IsTrue (list_all is_sign signs) → IsTrue (list_all is_plain plain)
    → starts_with is_sign (plain ++ rest) ≡ false → starts_with is_plain rest ≡ false → pieces (signs ++ (plain ++ rest)) ≡ (signs ++ plain) ∷ pieces rest
joined signs (b ∷ plain) rest some s p e other = signs_before signs (b ∷ (plain ++ rest)) (b ∷ plain) (pieces rest) s (plain_run b plain rest p other)
joined signs [] (b ∷ rest) some s p e other = absurd (sign_or_plain (is_sign b) e other)
joined [] [] [] some s p e other = absurd (omega arith)
joined (b ∷ signs) [] [] some s p e other =
    ap (λ text. pieces (b ∷ text)) (append-nil signs) ∙ signs_alone b signs s ∙ ap (λ piece. (b ∷ piece) ∷ []) (sym (append-nil signs)) ∙ ap (λ ps. (b ∷ (signs ++ [])) ∷ ps) (sym pieces-nil)

-- a text is cut behind its first signs and the other bytes behind them
pub pieces-cut : (text : List ℕ) (n m : ℕ) → 0 < length text → IsTrue (list_all is_sign (take n text)) → starts_with is_sign (drop n text) ≡ false
    → IsTrue (list_all is_plain (take m (drop n text))) → starts_with is_plain (drop m (drop n text)) ≡ false
    → pieces text ≡ take (n + m) text ∷ pieces (drop (n + m) text)
pieces-cut text n m some s e p other =
    let rest : drop n text ≡ take m (drop n text) ++ drop m (drop n text) = sym (take-append-drop m (drop n text)) in
    let whole : text ≡ take n text ++ (take m (drop n text) ++ drop m (drop n text)) = sym (take-append-drop n text) ∙ ap (λ r. take n text ++ r) rest in
    let long : 0 < length (take n text ++ (take m (drop n text) ++ drop m (drop n text))) = omega (arith, ap length whole) in
    ap pieces whole
    ∙ joined (take n text) (take m (drop n text)) (drop m (drop n text)) long s p (ap (starts_with is_sign) (sym rest) ∙ e) other
    ∙ ap (λ piece. piece ∷ pieces (drop m (drop n text))) (sym (take-add n m text))
    ∙ ap (λ r. take (n + m) text ∷ pieces r) (drop-drop m n text)

-- a text without signs is one piece
pub pieces-plain : (text : List ℕ) → 0 < length text → IsTrue (list_all (λ b. not (is_sign b)) text) → pieces text ≡ text ∷ []
pieces-plain [] some h = absurd (omega arith)
pieces-plain (b ∷ more) some h =
    ap (λ t. pieces (b ∷ t)) (sym (append-nil more)) ∙ plain_run b more [] h refl ∙ ap (λ ps. (b ∷ more) ∷ ps) pieces-nil

-- and so is one sign in front of such a text
pub pieces-signed : (sign : ℕ) (text : List ℕ) → IsTrue (is_sign sign) → 0 < length text → IsTrue (list_all (λ b. not (is_sign b)) text) → pieces (sign ∷ text) ≡ (sign ∷ text) ∷ []
pieces-signed sign text s some h = sign_before sign text s ∙ ap (onto sign) (pieces-plain text some h)

-- and a number is an expression
pub expression-number : (word : List ℕ) (n : ℕ) → pieces word ≡ word ∷ [] → is_name word ≡ false → number_of word ≡ Some n → expression word ≡ Some (constant n)
expression-number word n one name number =
    ap expression_in one
    ∙ ap (λ k. if k then option_map (λ n. record { name = Some word; add = n }) (total 0 []) else option_map constant (option_and_then (λ n. total n []) (number_of word))) name
    ∙ ap (λ o. option_map constant (option_and_then (λ n. total n []) o)) number

-- a name is an expression
pub expression-name : (name : List ℕ) → pieces name ≡ name ∷ [] → is_name name ≡ true → expression name ≡ Some (address name)
expression-name name one is =
    ap expression_in one
    ∙ ap (λ k. if k then option_map (λ n. record { name = Some name; add = n }) (total 0 []) else option_map constant (option_and_then (λ n. total n []) (number_of name))) is

-- what a word of the table means carries what it has to
found_suits : (ws : List (List ℕ × Meaning)) (word : List ℕ) → list_all (λ w. suits w.1) ws ≡ true → IfSome (option_map (λ w. w.1) (find (λ w. bytes_eq word w.0) ws)) (λ m. IsTrue (suits m))
found_suits [] word h = tt
found_suits (w ∷ ws) word h =
    let k = both_true (suits w.1) (list_all (λ w. suits w.1) ws) h in
    let P : Bool → Type 0 = λ b. IfSome (option_map (λ w. w.1) (if b then Some w else find (λ w. bytes_eq word w.0) ws)) (λ m. IsTrue (suits m)) in
    elim (bytes_eq word w.0) as P [ true ↦ k.0 | false ↦ found_suits ws word k.1 ]

pub meaning_suits : (word : List ℕ) (m : Meaning) → Some m ≡ meaning_of word → IsTrue (suits m)
meaning_suits word m h =
    let P : Option Meaning → Type 0 = λ o. IfSome o (λ m. IsTrue (suits m)) in
    subst P (sym h) (found_suits words_table word refl)

pub pieces-empty : (text : List ℕ) → (length text == 0) ≡ true → pieces text ≡ []
pieces-empty [] h = pieces-nil
pieces-empty (b ∷ text) h = absurd (grind (arith, nat_tests))

-- a first piece that is neither a name nor a number
pub no_expression : (word first : List ℕ) (more : List (List ℕ)) → (0 < length word → pieces word ≡ first ∷ more) → is_name first ≡ false → number_of first ≡ None → expression word ≡ None
no_expression [] first more cut name number = ap expression_in pieces-nil
no_expression (b ∷ bs) first more cut name number =
    ap expression_in (cut (omega arith))
    ∙ ap (λ k. if k then option_map (λ n. record { name = Some first; add = n }) (total 0 more) else option_map constant (option_and_then (λ n. total n more) (number_of first))) name
    ∙ ap (λ o. option_map constant (option_and_then (λ n. total n more) o)) number
