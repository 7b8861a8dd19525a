-- The image in a file's bytes, or the file's first fault.
use Rattle.std.specs.Prelude.{◌≡◌, ℕ, ◌+◌, ◌^◌, ◌<◌, ◌≤◌, ◌==◌, nat_lt, nat_le, Bool, ◌||◌, not, List, length, take, drop, Result, Ok, Err, if◌then◌else◌}
use Rattle.qv_base.specs.declared.limits.TheConstants.{BLOCK_BYTES, CODE_BYTES}
use Rattle.qv_ops.specs.declared.instr.Instr.{Instr}
use Rattle.qv_ops.specs.declared.decode.CodeFault.{CodeFault}
use Rattle.qv_ops.specs.declared.decode.CodeFault.TheVariants.{NoMemory as NoMemoryForCode}
use Rattle.qv_ops.specs.Cut.{cut_code}
use Rattle.qv_image.specs.declared.fault.ImageFault.{ImageFault}
use Rattle.qv_image.specs.declared.fault.ImageFault.TheVariants.{HeaderShort, BadMagic, NegativeLength, NoCode, CodeTooLarge, CodeOutside, DataOutside, DataTooLarge, Code, NoMemory}
use Rattle.qv_image.specs.declared.header.Header.{Header}
use Rattle.qv_image.specs.declared.image.Image.{Image}
use Rattle.qv_image.specs.Header.{header_of}
use Rattle.qv_image.specs.Image.{Qvm}
use Rattle.qv_image.specs.Shown.{qvm_of}

-- a word that is negative, read as signed
abbrev pub is_negative : ℕ → Bool
is_negative word = nat_le (2 ^ 31) word

-- the tests of the magic and of the signs of data, literals and zero bytes, by the numbers of their words
abbrev pub check_lengths : Header → Result (Unit {0}) ImageFault
check_lengths h =
    if not (h.magic == 0x12721444) then Err (BadMagic h.magic)
    else (if is_negative h.data_len then Err (NegativeLength 5)
    else (if is_negative h.lit_len then Err (NegativeLength 6)
    else (if is_negative h.bss_len then Err (NegativeLength 7)
    else Ok tt)))

-- the tests of the parts' sizes and places, in a file of len bytes
abbrev pub check_parts : ℕ → Header → Result (Unit {0}) ImageFault
check_parts len h =
    if is_negative h.code_len || h.code_len == 0 || h.count == 0 then Err NoCode
    else (if nat_lt CODE_BYTES h.code_len then Err (CodeTooLarge h.code_len)
    else (if nat_lt len (h.code_offset + h.code_len) then Err CodeOutside
    else (if nat_lt len (h.data_offset + h.data_len + h.lit_len) then Err DataOutside
    else (if nat_lt BLOCK_BYTES (h.data_len + h.lit_len + h.bss_len) then Err (DataTooLarge (h.data_len + h.lit_len + h.bss_len))
    else Ok tt))))

-- a fault of these tests
abbrev pub IsOfHeader : ImageFault → Type 0
IsOfHeader (Code fault) = ⊥
IsOfHeader NoMemory = ⊥
IsOfHeader fault = Unit {0}

-- what holds where these tests pass
pub record HasParts (len : ℕ) (h : Header) : Type 0 where
  pub some_code : 0 < h.count
  pub code_fits : h.code_len ≤ CODE_BYTES
  pub code_inside : h.code_offset + h.code_len ≤ len
  pub data_inside : h.data_offset + h.data_len + h.lit_len ≤ len
  pub block_fits : h.data_len + h.lit_len + h.bss_len ≤ BLOCK_BYTES

-- a part of the file
abbrev pub part_of : List ℕ → ℕ → ℕ → List ℕ
part_of bytes offset len = take len (drop offset bytes)

-- the image of code that has been cut
abbrev pub with_code : List ℕ → Header → Result (List Instr) CodeFault → Result Qvm ImageFault
with_code bytes h (Err fault) = Err (Code fault)
with_code bytes h (Ok code) = Ok (record {
  code = code;
  data_part = part_of bytes h.data_offset h.data_len;
  lit = part_of bytes (h.data_offset + h.data_len) h.lit_len;
  bss = h.bss_len;
})

-- what comes behind a test that has passed
abbrev pub behind : Result (Unit {0}) ImageFault → Result Qvm ImageFault → Result Qvm ImageFault
behind (Ok u) read = read
behind (Err fault) read = Err fault

-- the image of a file with this header
abbrev pub read_parts : List ℕ → Header → Result Qvm ImageFault
read_parts bytes h = behind (check_lengths h) (behind (check_parts (length bytes) h) (with_code bytes h (cut_code h.count (part_of bytes h.code_offset h.code_len))))

unfoldable pub read_bytes : List ℕ → Result Qvm ImageFault
read_bytes bytes = if nat_lt (length bytes) 32 then Err (HeaderShort (length bytes)) else read_parts bytes (header_of bytes)

-- the answer is what is read, or there was no room for the image; a fault of the code is never want of memory
abbrev pub IsRead : Result Qvm ImageFault → Result Image ImageFault → Type 0
IsRead read (Ok image) = read ≡ Ok (qvm_of image)
IsRead read (Err NoMemory) = Unit {0}
IsRead read (Err (Code NoMemoryForCode)) = ⊥
IsRead read (Err fault) = read ≡ Err fault
