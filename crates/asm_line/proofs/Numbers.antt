-- Numbers as they are written, and read back.
use Rattle.std.proofs.Common.{◌≡◌, ℕ, zero, suc, ◌-◌, ◌%◌, ◌<◌, ◌≤◌, ◌^◌, Bool, true, false, ◌&&◌, List, [], ◌∷◌, length, refl, ap, ◌∙◌, arith, rules}
use Rattle.std.specs.Prelude.{IsTrue, Some, None, option_map, if◌then◌else◌, nat_le, nat_lt, not, ◌==◌}
use Rattle.std.specs.List.{list_all}
use Rattle.std.specs.Str.{all_ascii_digits}
use Rattle.std.specs.Fmt.{decimal, signed_decimal}
use Rattle.std.specs.Int.{cast_signed, w32}
use Rattle.std.proofs.Math.Nat.{mod-eq_of_lt}
use Rattle.std.proofs.lemmas.Bool.Decides.{nat_tests}
use Rattle.std.proofs.lemmas.Str.Parse.{IsNumeralModel, numerals_by_fold}
use Rattle.std.proofs.lemmas.Fmt.{decimal_nonempty, digits_decimal, digits_value-decimal}
use Rattle.qv_base.specs.Decimal.{is_digit, decimal_from, decimal_up_to}
use Rattle.qv_ops.specs.Code.{fits_width}
use Rattle.qv_base.specs.Word.{negated}
use Rattle.asm_line.specs.Operand.{expression, is_name, is_name_byte, is_sign, number_of}
use Rattle.asm_line.specs.Row.{constant}
use Rattle.asm_line.specs.Text.{is_word_byte}
use Rattle.asm_line.proofs.Operands.{expression-number, pieces-plain, pieces-signed}
use Rattle.asm_line.proofs.Spaced.{IsWord}
use mir.Val.{sel}
use lib.IntN.{pos, negsuc}

own : IsNumeralModel (λ ds. all_ascii_digits ds ≡ true) (decimal_from 0)
own = numerals_by_fold _ (search rules) decimal_from (search rules)

first_is : (c : ℕ) (cs : List ℕ) → all_ascii_digits (c ∷ cs) ≡ true → (is_digit c ≡ true) × (all_ascii_digits cs ≡ true)
first_is c cs a = grind (arith, nat_tests)

and_true : (a b : Bool) → a ≡ true → b ≡ true → (a && b) ≡ true
and_true a b h k = ap (λ x. x && b) h ∙ k

all_digits : (cs : List ℕ) → all_ascii_digits cs ≡ true → list_all is_digit cs ≡ true
all_digits [] a = refl
all_digits (c ∷ cs) a =
    let k : (is_digit c ≡ true) × (all_ascii_digits cs ≡ true) = first_is c cs a in
    and_true (is_digit c) (list_all is_digit cs) k.0 (all_digits cs k.1)

-- a digit passes each test that holds for the characters 0 to 9
digits_pass : (test : ℕ → Bool) → ((c : ℕ) → is_digit c ≡ true → test c ≡ true) → (cs : List ℕ) → all_ascii_digits cs ≡ true → list_all test cs ≡ true
digits_pass test pass [] a = refl
digits_pass test pass (c ∷ cs) a =
    let k : (is_digit c ≡ true) × (all_ascii_digits cs ≡ true) = first_is c cs a in
    and_true (test c) (list_all test cs) (pass c k.0) (digits_pass test pass cs k.1)

-- the digits of a number that 64 bits hold
pub decimal_digits : (n : ℕ) → n < 2 ^ 64 → IsTrue (list_all is_digit (decimal n))
decimal_digits n h = digits_pass is_digit (λ c d. d) (decimal n) (digits_decimal own n h)

-- they are bytes of a word, and none is a line feed
pub decimal_word : (n : ℕ) → n < 2 ^ 64 → IsTrue (list_all is_word_byte (decimal n))
decimal_word n h = digits_pass is_word_byte (λ c d. grind (arith, nat_tests)) (decimal n) (digits_decimal own n h)

pub decimal_no_line_feed : (n : ℕ) → n < 2 ^ 64 → IsTrue (list_all (λ b. not (b == 10)) (decimal n))
decimal_no_line_feed n h = digits_pass (λ b. not (b == 10)) (λ c d. grind (arith, nat_tests)) (decimal n) (digits_decimal own n h)

pub decimal_some : (n : ℕ) → n < 2 ^ 64 → 0 < length (decimal n)
decimal_some = decimal_nonempty

no_minus : (c : ℕ) → is_digit c ≡ true → (c == 45) ≡ false
no_minus c d = grind (arith, nat_tests)

-- digits are a number without a sign
unsigned : (ds : List ℕ) → 0 < length ds → all_ascii_digits ds ≡ true → number_of ds ≡ decimal_up_to (2 ^ 32 - 1) ds
unsigned [] some a = absurd (omega arith)
unsigned (c ∷ cs) some a =
    ap (λ k. if k then option_map negated (decimal_up_to (2 ^ 31) cs) else decimal_up_to (2 ^ 32 - 1) (c ∷ cs)) (no_minus c (first_is c cs a).0)

is_positive : (n : ℕ) → 0 < n → nat_lt 0 n ≡ true
is_positive n h = grind (arith, nat_tests)

within : (n m : ℕ) → n ≤ m → nat_le n m ≡ true
within n m h = grind (arith, nat_tests)

three_true : (a b c : Bool) (n : ℕ) → a ≡ true → b ≡ true → c ≡ true → (if a && b && c then Some n else None) ≡ Some n
three_true a b c n ha hb hc = rw (ha, hb, hc) refl

decimal_up_to-decimal : (max n : ℕ) → n < 2 ^ 64 → n ≤ max → decimal_up_to max (decimal n) ≡ Some n
decimal_up_to-decimal max n big h =
    let value : decimal_from 0 (decimal n) ≡ n = digits_value-decimal own n big in
    let small : decimal_from 0 (decimal n) ≤ max = omega arith in
    three_true (nat_lt 0 (length (decimal n))) (list_all is_digit (decimal n)) (nat_le (decimal_from 0 (decimal n)) max) (decimal_from 0 (decimal n)) (is_positive (length (decimal n)) (decimal_nonempty n big)) (decimal_digits n big) (within (decimal_from 0 (decimal n)) max small)
    ∙ ap (λ x. Some x) value

-- a word written in decimal is read back
pub number_of-decimal : (n : ℕ) → n < 2 ^ 32 → number_of (decimal n) ≡ Some n
number_of-decimal n h =
    let big : n < 2 ^ 64 = omega arith in
    unsigned (decimal n) (decimal_nonempty n big) (digits_decimal own n big) ∙ decimal_up_to-decimal (2 ^ 32 - 1) n big (omega arith)

-- and so is one behind a minus
pub number_of-negative : (n : ℕ) → n ≤ 2 ^ 31 → number_of (45 ∷ decimal n) ≡ Some (negated n)
number_of-negative n h = ap (option_map negated) (decimal_up_to-decimal (2 ^ 31) n (omega arith) h)

-- none is a sign
decimal_unsigned : (n : ℕ) → n < 2 ^ 64 → IsTrue (list_all (λ b. not (is_sign b)) (decimal n))
decimal_unsigned n h = digits_pass (λ b. not (is_sign b)) (λ c d. grind (arith, nat_tests)) (decimal n) (digits_decimal own n h)

no_name : (ds : List ℕ) → 0 < length ds → all_ascii_digits ds ≡ true → is_name ds ≡ false
no_name [] some a = absurd (omega arith)
no_name (c ∷ cs) some a = ap (λ k. not k && list_all is_name_byte (c ∷ cs)) (first_is c cs a).0

-- also as an expression
pub expression-decimal : (n : ℕ) → n < 2 ^ 32 → expression (decimal n) ≡ Some (constant n)
expression-decimal n h =
    let big : n < 2 ^ 64 = omega arith in
    let digits : all_ascii_digits (decimal n) ≡ true = digits_decimal own n big in
    let some : 0 < length (decimal n) = decimal_nonempty n big in
    expression-number (decimal n) n (pieces-plain (decimal n) some (decimal_unsigned n big)) (no_name (decimal n) some digits) (number_of-decimal n h)

-- 0 fits each width
pub zero_fits : (width : ℕ) → IsTrue (fits_width width 0)
zero_fits zero = refl
zero_fits (suc zero) = refl
zero_fits (suc (suc width)) = refl

-- a word that writes this number
pub record Writes (text : List ℕ) (n : ℕ) : Type 0 where
  pub is_word : IsWord text
  pub number : number_of text ≡ Some n
  pub value : expression text ≡ Some (constant n)

-- in decimal
pub decimal_writes : (n : ℕ) → n < 2 ^ 32 → Writes (decimal n) n
decimal_writes n lt =
    let big : n < 2 ^ 64 = omega arith in
    record {
      is_word = record { some = decimal_some n big; bytes = decimal_word n big; one_line = decimal_no_line_feed n big };
      number = number_of-decimal n lt;
      value = expression-decimal n lt;
    }

-- with a minus in front
minus_writes : (k n : ℕ) → k ≤ 2 ^ 31 → negated k ≡ n → Writes (45 ∷ decimal k) n
minus_writes k n le is =
    let big : k < 2 ^ 64 = omega arith in
    let number : number_of (45 ∷ decimal k) ≡ Some n = number_of-negative k le ∙ ap (λ x. Some x) is in
    record {
      is_word = record { some = omega arith; bytes = decimal_word k big; one_line = decimal_no_line_feed k big };
      number = number;
      value = expression-number (45 ∷ decimal k) n (pieces-signed 45 (decimal k) refl (decimal_some k big) (decimal_unsigned k big)) refl number;
    }

signed_by : (n : ℕ) (small : Bool) → nat_lt n (2 ^ 31) ≡ small → n < 2 ^ 32 → Writes (signed_decimal (sel small (pos n) (negsuc (2 ^ 32 - suc n)))) n
signed_by n true is lt = decimal_writes n lt
signed_by n false is lt =
    let high : 2 ^ 31 ≤ n = grind (arith, nat_tests) in
    let le : suc (2 ^ 32 - suc n) ≤ 2 ^ 31 = omega arith in
    let rest : 2 ^ 32 - suc (2 ^ 32 - suc n) ≡ n = omega arith in
    minus_writes (suc (2 ^ 32 - suc n)) n le (ap (λ k. k % 2 ^ 32) rest ∙ mod-eq_of_lt lt)

-- as the number that its bits are with a sign
pub signed_writes : (n : ℕ) → n < 2 ^ 32 → Writes (signed_decimal (cast_signed w32 n)) n
signed_writes n lt = signed_by n (nat_lt n (2 ^ 31)) refl lt
