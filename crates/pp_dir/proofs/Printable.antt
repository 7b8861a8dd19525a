-- Printable characters of ASCII are UTF-8.
use Rattle.std.proofs.Common.{◌≡◌, ℕ, zero, suc, ◌<◌, Bool, true, false, ◌&&◌, List, [], ◌∷◌, refl, arith}
use Rattle.std.specs.List.{list_all}
use Rattle.std.specs.Str.{IsAscii, IsUtf8}
use Rattle.std.proofs.lemmas.Str.{IsUtf8-from_ascii}
use Rattle.std.proofs.lemmas.Bool.Decides.{nat_tests}
use Rattle.pp_dir.specs.Forms.{is_printable, is_file_name}

both_left : (a b : Bool) → (a && b) ≡ true → a ≡ true
both_left true b is = refl
both_left false b is = absurd cc

both_right : (a b : Bool) → (a && b) ≡ true → b ≡ true
both_right true b is = is
both_right false b is = absurd cc

is_low : (b : ℕ) → is_printable b ≡ true → b < 128
is_low b is = grind (arith, nat_tests)

are_ascii : (bs : List ℕ) → list_all is_printable bs ≡ true → IsAscii bs
are_ascii [] is i = omega arith
are_ascii (b ∷ bs) is zero = is_low b (both_left (is_printable b) (list_all is_printable bs) is)
are_ascii (b ∷ bs) is (suc i) = are_ascii bs (both_right (is_printable b) (list_all is_printable bs) is) i

pub is_utf8 : (bs : List ℕ) → is_file_name bs ≡ true → IsUtf8 bs
is_utf8 bs is = IsUtf8-from_ascii bs (are_ascii bs (both_right _ (list_all is_printable bs) is))
