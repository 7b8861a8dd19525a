-- An image's file reads as the image.
use Rattle.std.proofs.Common.{◌≡◌, ℕ, ◌+◌, ◌^◌, ◌<◌, ◌≤◌, List, [], ◌∷◌, ◌++◌, length, take, drop, flat_map, Ok, true, false, nat_lt, ◌==◌, refl, sym, ap, ◌∙◌, arith, append_assoc, length-append}
use Rattle.std.proofs.lemmas.Grind.{common_steps}
use Rattle.std.proofs.lemmas.List.{append-nil, drop_at, take_at}
use Rattle.byteorder.specs.Numbers.{little_number-reads_back}
use Rattle.qv_ops.specs.Code.{word_in, word_bytes, code_bytes}
use Rattle.qv_ops.proofs.Bytes.{cut_code-code_bytes}
use Rattle.qv_image.specs.declared.header.Header.{Header}
use Rattle.qv_image.specs.Header.{header_of, header_word}
use Rattle.qv_image.specs.Image.{Qvm, IsImage, file_bytes, header_words, padding, padded_code}
use Rattle.qv_image.specs.Read.{check_lengths, check_parts, is_negative, part_of, read_bytes}
use Rattle.qv_image.proofs.Sizes.{length-padded_code, length-padding-le}
use Rattle.qv_image.proofs.Reading.{read_all}

word_back : (w : ℕ) (rest : List ℕ) → w < 2 ^ 32 → word_in (word_bytes w ++ rest) ≡ w
word_back w rest lt = let l : w < 256 ^ 4 = lt in little_number-reads_back 4 w rest l

-- eight words are read back, whatever follows them
header_of-words : (a b c d e f g i : ℕ) (rest : List ℕ) → a < 2 ^ 32 → b < 2 ^ 32 → c < 2 ^ 32 → d < 2 ^ 32 → e < 2 ^ 32 → f < 2 ^ 32 → g < 2 ^ 32 → i < 2 ^ 32
    → header_of (flat_map word_bytes (a ∷ b ∷ c ∷ d ∷ e ∷ f ∷ g ∷ i ∷ []) ++ rest)
    ≡ record { magic = a; count = b; code_offset = c; code_len = d; data_offset = e; data_len = f; lit_len = g; bss_len = i }
header_of-words a b c d e f g i rest la lb lc ld le lf lg li =
    let bytes = flat_map word_bytes (a ∷ b ∷ c ∷ d ∷ e ∷ f ∷ g ∷ i ∷ []) ++ rest in
    let ea : header_word bytes 0 ≡ a = word_back a (flat_map word_bytes (b ∷ c ∷ d ∷ e ∷ f ∷ g ∷ i ∷ []) ++ rest) la in
    let eb : header_word bytes 1 ≡ b = word_back b (flat_map word_bytes (c ∷ d ∷ e ∷ f ∷ g ∷ i ∷ []) ++ rest) lb in
    let ec : header_word bytes 2 ≡ c = word_back c (flat_map word_bytes (d ∷ e ∷ f ∷ g ∷ i ∷ []) ++ rest) lc in
    let ed : header_word bytes 3 ≡ d = word_back d (flat_map word_bytes (e ∷ f ∷ g ∷ i ∷ []) ++ rest) ld in
    let ee : header_word bytes 4 ≡ e = word_back e (flat_map word_bytes (f ∷ g ∷ i ∷ []) ++ rest) le in
    let ef : header_word bytes 5 ≡ f = word_back f (flat_map word_bytes (g ∷ i ∷ []) ++ rest) lf in
    let eg : header_word bytes 6 ≡ g = word_back g (flat_map word_bytes (i ∷ []) ++ rest) lg in
    let ei : header_word bytes 7 ≡ i = word_back i rest li in
    cc

-- a header of small lengths passes the tests
check_lengths-passes : (h : Header) → h.magic ≡ 0x12721444 → h.data_len < 2 ^ 31 → h.lit_len < 2 ^ 31 → h.bss_len < 2 ^ 31 → check_lengths h ≡ Ok tt
check_lengths-passes h m d l b =
    let em : (h.magic == 0x12721444) ≡ true = grind (arith, common_steps) in
    let ed : is_negative h.data_len ≡ false = grind (arith, common_steps) in
    let el : is_negative h.lit_len ≡ false = grind (arith, common_steps) in
    let eb : is_negative h.bss_len ≡ false = grind (arith, common_steps) in
    rw (em, ed, el, eb) refl

check_parts-passes : (len : ℕ) (h : Header) → 0 < h.count → 0 < h.code_len → h.code_len ≤ 2 ^ 27 → h.code_offset + h.code_len ≤ len → h.data_offset + h.data_len + h.lit_len ≤ len
    → h.data_len + h.lit_len + h.bss_len ≤ 2 ^ 26 → check_parts len h ≡ Ok tt
check_parts-passes len h count some fits code_in data_in block =
    let e1 : is_negative h.code_len ≡ false = grind (arith, common_steps) in
    let e2 : (h.code_len == 0) ≡ false = grind (arith, common_steps) in
    let e3 : (h.count == 0) ≡ false = grind (arith, common_steps) in
    let e4 : nat_lt (2 ^ 27) h.code_len ≡ false = grind (arith, common_steps) in
    let e5 : nat_lt len (h.code_offset + h.code_len) ≡ false = grind (arith, common_steps) in
    let e6 : nat_lt len (h.data_offset + h.data_len + h.lit_len) ≡ false = grind (arith, common_steps) in
    let e7 : nat_lt (2 ^ 26) (h.data_len + h.lit_len + h.bss_len) ≡ false = grind (arith, common_steps) in
    rw (e1, e2, e3, e4, e5, e6, e7) refl

-- what stands between two lists
part_of-between : (xs ys zs : List ℕ) (n m : ℕ) → length xs ≡ n → length ys ≡ m → part_of (xs ++ ys ++ zs) n m ≡ ys
part_of-between xs ys zs n m en em =
    ap (λ l. take m (drop n l)) (append_assoc xs ys zs) ∙ ap (take m) (drop_at xs (ys ++ zs) n en) ∙ take_at ys zs m em

grouped : (a b c d : List ℕ) → a ++ b ++ c ++ d ≡ a ++ (b ++ c ++ d)
grouped a b c d = simp append_assoc

-- the header of an image's file
abbrev header : Qvm → Header
header z = record {
  magic = 0x12721444;
  count = length z.code;
  code_offset = 32;
  code_len = length (padded_code z.code);
  data_offset = 32 + length (padded_code z.code);
  data_len = length z.data_part;
  lit_len = length z.lit;
  bss_len = z.bss;
}

abbrev header_bytes : Qvm → List ℕ
header_bytes z = flat_map word_bytes (header_words z)

header_of-file_bytes : (z : Qvm) → IsImage z → header z ≡ header_of (file_bytes z)
header_of-file_bytes z i =
    let rest = padded_code z.code ++ z.data_part ++ z.lit in
    let lc : length z.code ≤ length (padded_code z.code) = length-padded_code z.code in
    let lp : length (padded_code z.code) ≤ 2 ^ 27 = i.code_fits in
    let lb : length z.data_part + length z.lit + z.bss ≤ 2 ^ 26 = i.block_fits in
    let e = header_of-words 0x12721444 (length z.code) 32 (length (padded_code z.code)) (32 + length (padded_code z.code)) (length z.data_part) (length z.lit) z.bss rest
    (omega arith) (omega arith) (omega arith) (omega arith) (omega arith) (omega arith) (omega arith) (omega arith) in
    sym e ∙ ap header_of (sym (grouped (header_bytes z) (padded_code z.code) z.data_part z.lit))

-- the parts of an image's file
code_of-file_bytes : (z : Qvm) → part_of (file_bytes z) 32 (length (padded_code z.code)) ≡ padded_code z.code
code_of-file_bytes z =
    ap (λ l. part_of l 32 (length (padded_code z.code))) (append_assoc (header_bytes z ++ padded_code z.code) z.data_part z.lit)
    ∙ part_of-between (header_bytes z) (padded_code z.code) (z.data_part ++ z.lit) 32 (length (padded_code z.code)) refl refl

length-front : (z : Qvm) → length (header_bytes z ++ padded_code z.code) ≡ 32 + length (padded_code z.code)
length-front z = length-append (header_bytes z) (padded_code z.code)

data_of-file_bytes : (z : Qvm) → part_of (file_bytes z) (32 + length (padded_code z.code)) (length z.data_part) ≡ z.data_part
data_of-file_bytes z = part_of-between (header_bytes z ++ padded_code z.code) z.data_part z.lit (32 + length (padded_code z.code)) (length z.data_part) (length-front z) refl

lit_of-file_bytes : (z : Qvm) → part_of (file_bytes z) (32 + length (padded_code z.code) + length z.data_part) (length z.lit) ≡ z.lit
lit_of-file_bytes z =
    let front = header_bytes z ++ padded_code z.code ++ z.data_part in
    let e : length front ≡ 32 + length (padded_code z.code) + length z.data_part = length-append (header_bytes z ++ padded_code z.code) z.data_part ∙ ap (λ n. n + length z.data_part) (length-front z) in
    ap (λ l. part_of l (32 + length (padded_code z.code) + length z.data_part) (length z.lit)) (sym (append-nil (file_bytes z)))
    ∙ part_of-between front z.lit [] (32 + length (padded_code z.code) + length z.data_part) (length z.lit) e refl

length-file_bytes : (z : Qvm) → length (file_bytes z) ≡ 32 + length (padded_code z.code) + length z.data_part + length z.lit
length-file_bytes z =
    omega (arith, length-append (header_bytes z ++ padded_code z.code ++ z.data_part) z.lit, length-append (header_bytes z ++ padded_code z.code) z.data_part, length-front z)

-- the file of an image reads as the image
pub read_bytes-file_bytes : (z : Qvm) → IsImage z → read_bytes (file_bytes z) ≡ Ok z
read_bytes-file_bytes z i =
    let h = header z in
    let len = length-file_bytes z in
    let lc : length z.code ≤ length (padded_code z.code) = length-padded_code z.code in
    let some : 0 < length z.code = i.some_code in
    let lp : length (padded_code z.code) ≤ 2 ^ 27 = i.code_fits in
    let lb : length z.data_part + length z.lit + z.bss ≤ 2 ^ 26 = i.block_fits in
    read_all (file_bytes z) h tt tt (padded_code z.code) z.code z.data_part z.lit
    (omega (arith, len))
    (header_of-file_bytes z i)
    (check_lengths-passes h refl (omega arith) (omega arith) (omega arith))
    (check_parts-passes (length (file_bytes z)) h some (omega arith) lp (omega (arith, len)) (omega (arith, len)) lb)
    (sym (code_of-file_bytes z))
    (cut_code-code_bytes z.code (padding (code_bytes z.code)) i.encodable i.branches_within (length-padding-le (code_bytes z.code)))
    (sym (data_of-file_bytes z))
    (sym (lit_of-file_bytes z))
