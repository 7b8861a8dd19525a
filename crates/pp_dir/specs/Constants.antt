-- Constants of conditions: numbers and characters.
use Rattle.std.specs.Prelude.{ℕ, ◌+◌, ◌-◌, ◌*◌, ◌^◌, Bool, true, false, ◌&&◌, ◌||◌, ◌==◌, nat_le, nat_lt, List, [], ◌∷◌, length, take, drop, position, unwrap_or, Option, Some, None, option_map, option_and_then, if◌then◌else◌, find}
use Rattle.qv_base.specs.Decimal.{is_digit}
use Rattle.qv_base.specs.Word.{sign_extended_8}
use Rattle.pp_dir.specs.declared.value.Value.{Value}

-- the small letter of a capital one
abbrev pub small : ℕ → ℕ
small b = if nat_le 65 b && nat_le b 90 then b + 32 else b

-- a digit's value, letters counting from 10; 16 of a byte that is no hexadecimal digit
abbrev pub digit_value : ℕ → ℕ
digit_value b = if is_digit b then b - 48 else (if nat_le 97 (small b) && nat_le (small b) 102 then small b - 87 else 16)

-- the number that digits of a base write, behind others whose number is a; none where one isn't of the base
abbrev pub number_from : ℕ → ℕ → List ℕ → Option ℕ
number_from base a [] = Some a
number_from base a (d ∷ ds) = if nat_lt (digit_value d) base then number_from base (a * base + digit_value d) ds else None

-- a number of at most 32 bits
abbrev pub held : ℕ → Option ℕ
held n = if nat_lt n (2 ^ 32) then Some n else None

-- one digit or more
abbrev pub number_in : ℕ → List ℕ → Option ℕ
number_in base [] = None
number_in base (d ∷ ds) = option_and_then held (number_from base 0 (d ∷ ds))

-- a decimal number begins with another digit than 0, an octal one with 0, a hexadecimal one with `0x` or `0X`
abbrev pub is_octal : List ℕ → Bool
is_octal [] = false
is_octal (a ∷ bs) = a == 48

abbrev pub is_hexadecimal : List ℕ → Bool
is_hexadecimal [] = false
is_hexadecimal (a ∷ []) = false
is_hexadecimal (a ∷ b ∷ bs) = (a == 48) && (small b == 120)

abbrev pub number_written : List ℕ → Option ℕ
number_written s = if is_hexadecimal s then number_in 16 (drop 2 s) else (if is_octal s then number_in 8 s else number_in 10 s)

-- the letters of a suffix
abbrev pub is_u : ℕ → Bool
is_u b = small b == 117

abbrev pub is_l : ℕ → Bool
is_l b = small b == 108

-- whether a suffix makes a number unsigned; none where it is no suffix
abbrev pub suffix_unsigned : List ℕ → Option Bool
suffix_unsigned [] = Some false
suffix_unsigned (a ∷ []) = if is_u a then Some true else (if is_l a then Some false else None)
suffix_unsigned (a ∷ b ∷ []) = if (is_u a && is_l b) || (is_l a && is_u b) then Some true else None
suffix_unsigned s = None

abbrev pub is_suffix_letter : ℕ → Bool
is_suffix_letter b = is_u b || is_l b

-- how many bytes stand before the suffix
abbrev pub suffix_start : List ℕ → ℕ
suffix_start s = unwrap_or (position is_suffix_letter s) (length s)

-- a number is unsigned by its suffix, or because `int` doesn't hold it
abbrev pub with_suffix : ℕ → Bool → Value
with_suffix n unsigned = record { word = n; unsigned = unsigned || nat_le (2 ^ 31) n }

-- the number and its suffix
abbrev pub suffixed : Option ℕ → Option Bool → Option Value
suffixed n unsigned = option_and_then (λ n. option_map (with_suffix n) unsigned) n

unfoldable pub number_value : List ℕ → Option Value
number_value s = suffixed (number_written (take (suffix_start s) s)) (suffix_unsigned (drop (suffix_start s) s))

-- the bytes that escapes of one letter stand for
abbrev pub escapes : List (ℕ × ℕ)
escapes = (97, 7) ∷ (98, 8) ∷ (102, 12) ∷ (110, 10) ∷ (114, 13) ∷ (116, 9) ∷ (118, 11) ∷ (39, 39) ∷ (34, 34) ∷ (63, 63) ∷ (92, 92) ∷ []

abbrev pub letter_escape : ℕ → Option ℕ
letter_escape b = option_map (λ e. e.1) (find (λ e. e.0 == b) escapes)

-- what the bytes behind a backslash stand for: `x` and hexadecimal digits, one to three octal digits, or a letter
abbrev pub escaped : List ℕ → Option ℕ
escaped [] = None
escaped (b ∷ []) = if nat_lt (digit_value b) 8 then Some (digit_value b) else letter_escape b
escaped (b ∷ bs) = if b == 120 then number_in 16 bs else (if nat_le (length bs) 2 then number_in 8 (b ∷ bs) else None)

-- the number of the only character between the quotes
abbrev pub character : List ℕ → Option ℕ
character [] = None
character (b ∷ []) = if b == 92 then None else Some b
character (b ∷ bs) = if b == 92 then escaped bs else None

-- a character of one byte, with its sign
abbrev pub byte_value : ℕ → Option Value
byte_value n = if nat_lt n 256 then Some (record { word = sign_extended_8 n; unsigned = false }) else None

abbrev pub between_quotes : List ℕ → List ℕ
between_quotes s = take (length s - 2) (drop 1 s)

-- a wide one is no constant here
abbrev pub begins_with_quote : List ℕ → Bool
begins_with_quote [] = false
begins_with_quote (b ∷ bs) = b == 39

unfoldable pub character_value : List ℕ → Option Value
character_value s = if begins_with_quote s then option_and_then byte_value (character (between_quotes s)) else None
