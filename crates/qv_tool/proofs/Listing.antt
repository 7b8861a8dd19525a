-- The names in a list, line by line.
use Rattle.std.proofs.Common.{◌≡◌, ℕ, ◌+◌, ◌<◌, true, false, List, [], ◌∷◌, ◌++◌, length, Some, None, refl, sym, ap, arith}
use Rattle.std.specs.Prelude.{Bool, Err, ◌==◌, if◌then◌else◌}
use Rattle.std.specs.Str.{IsUtf8, is_utf8}
use Rattle.std.proofs.lemmas.Str.{IsUtf8-from_is_utf8, is_utf8-from_IsUtf8}
use Rattle.qv_base.specs.Place.{capped}
use Rattle.asm_line.specs.Text.{lines_of, onto}
use Rattle.qv_tool.specs.Names.{added_to, behind_line, names_on, trimmed, without_return}

-- a line that isn't empty and is UTF-8 is a name
pub added_name : (names : List (List ℕ)) (line : List ℕ) → 0 < length line → IsUtf8 line → added_to names line ≡ Some (names ++ line ∷ [])
added_name names [] some utf8 = absurd (omega (arith, some))
added_name names (b ∷ bs) some utf8 = ap (λ t. if t then Some (names ++ (b ∷ bs) ∷ []) else None) (is_utf8-from_IsUtf8 (b ∷ bs) utf8)

not_utf8 : (line : List ℕ) (t : Bool) → is_utf8 line ≡ t → (IsUtf8 line → ⊥) → is_utf8 line ≡ false
not_utf8 line true e other = absurd (other (IsUtf8-from_is_utf8 line e))
not_utf8 line false e other = e

pub added_none : (names : List (List ℕ)) (line : List ℕ) → 0 < length line → (IsUtf8 line → ⊥) → added_to names line ≡ None
added_none names [] some other = absurd (omega (arith, some))
added_none names (b ∷ bs) some other = ap (λ t. if t then Some (names ++ (b ∷ bs) ∷ []) else None) (not_utf8 (b ∷ bs) (is_utf8 (b ∷ bs)) refl other)

-- a text has a line at least
abbrev IsSome : List (List ℕ) → Type 0
IsSome [] = ⊥
IsSome (x ∷ xs) = Unit {0}

onto_some : (b : ℕ) (ls : List (List ℕ)) → IsSome (onto b ls)
onto_some b [] = tt
onto_some b (x ∷ xs) = tt

either_some : (t : Bool) (x y : List (List ℕ)) → IsSome x → IsSome y → IsSome (if t then x else y)
either_some true x y p q = p
either_some false x y p q = q

lines_some : (text : List ℕ) → IsSome (lines_of text)
unfolding lines_of
lines_some [] = tt
lines_some (b ∷ bs) = either_some (b == 10) ([] ∷ lines_of bs) (onto b (lines_of bs)) tt (onto_some b (lines_of bs))

trimmed_some : (line : List ℕ) (ls : List (List ℕ)) → IsSome ls → trimmed (line ∷ ls) ≡ without_return line ∷ trimmed ls
trimmed_some line [] some = absurd some
trimmed_some line (x ∷ xs) some = refl

pub trimmed_more : (line text : List ℕ) → trimmed (line ∷ lines_of text) ≡ without_return line ∷ trimmed (lines_of text)
trimmed_more line text = trimmed_some line (lines_of text) (lines_some text)

-- the names behind one line more
pub one_more : (number : ℕ) (names more : List (List ℕ)) (line : List ℕ) (lines : List (List ℕ)) → Some more ≡ added_to names line → names_on number names (line ∷ lines) ≡ names_on (capped (number + 1)) more lines
one_more number names more line lines e = ap (λ a. behind_line number a (λ ns. names_on (capped (number + 1)) ns lines)) (sym e)

pub one_bad : (number : ℕ) (names : List (List ℕ)) (line : List ℕ) (lines : List (List ℕ)) → None ≡ added_to names line → names_on number names (line ∷ lines) ≡ Err number
one_bad number names line lines e = ap (λ a. behind_line number a (λ ns. names_on (capped (number + 1)) ns lines)) (sym e)
