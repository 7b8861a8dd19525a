-- The characters of a text one by one.
use Rattle.std.proofs.Common.{◌≡◌, ℕ, zero, suc, ◌-◌, List, [], ◌∷◌, ◌++◌, Some, None, refl, sym, ap, ◌∙◌, length, drop, append_assoc, append-nil, arith}
use Rattle.std.specs.Prelude.{Option, option_map, option_and_then}
use Rattle.c_tok.specs.declared.text.Character.{Character}
use Rattle.c_tok.specs.Texts.{character_at, bytes_behind, bytes_of}

-- bytes of the character before are passed
passed : (n : ℕ) (bs : List ℕ) → bytes_behind n bs ≡ bytes_behind 0 (drop n bs)
unfolding bytes_behind
passed zero bs = refl
passed (suc n) [] = refl
passed (suc n) (b ∷ bs) = passed n bs

abbrev next_by : List ℕ → Option Character → Option (List ℕ)
next_by bs o = option_and_then (λ c. option_map (λ rest. c.byte ∷ rest) (bytes_behind (c.length - 1) bs)) o

next : (b : ℕ) (bs : List ℕ) → bytes_of (b ∷ bs) ≡ next_by bs (character_at b bs)
unfolding bytes_behind
next b bs = refl

pub bytes_end : bytes_of [] ≡ Some []
unfolding bytes_behind
bytes_end = refl

pub bytes_none : (before : List ℕ) (b : ℕ) (bs : List ℕ) (all : Option (List ℕ)) → character_at b bs ≡ None → option_map (λ more. before ++ more) (bytes_of (b ∷ bs)) ≡ all → all ≡ None
bytes_none before b bs all is so_far = sym so_far ∙ ap (option_map (λ more. before ++ more)) (next b bs ∙ ap (next_by bs) is)

one_more : (before : List ℕ) (b : ℕ) (o : Option (List ℕ)) → option_map (λ more. (before ++ b ∷ []) ++ more) o ≡ option_map (λ more. before ++ more) (option_map (λ rest. b ∷ rest) o)
one_more before b None = refl
one_more before b (Some bs) = ap (λ l. Some l) (append_assoc before (b ∷ []) bs)

pub bytes_more : (before : List ℕ) (b : ℕ) (bs : List ℕ) (c : Character) (all : Option (List ℕ)) → character_at b bs ≡ Some c → option_map (λ more. before ++ more) (bytes_of (b ∷ bs)) ≡ all →
    option_map (λ more. (before ++ c.byte ∷ []) ++ more) (bytes_of (drop (c.length - 1) bs)) ≡ all
bytes_more before b bs c all is so_far =
    ap (option_map (λ more. (before ++ c.byte ∷ []) ++ more)) (sym (passed (c.length - 1) bs)) ∙ one_more before c.byte (bytes_behind (c.length - 1) bs)
    ∙ ap (option_map (λ more. before ++ more)) (sym (next b bs ∙ ap (next_by bs) is)) ∙ so_far

pub bytes_done : (before rest : List ℕ) (all : Option (List ℕ)) → length rest ≡ 0 → option_map (λ more. before ++ more) (bytes_of rest) ≡ all → Some before ≡ all
bytes_done before [] all none so_far = sym (ap (option_map (λ more. before ++ more)) bytes_end ∙ ap (λ l. Some l) (append-nil before)) ∙ so_far
bytes_done before (b ∷ bs) all none so_far = absurd (omega arith)
