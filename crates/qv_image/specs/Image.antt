-- What an image says, and the bytes of its file.
use Rattle.std.specs.Prelude.{ℕ, ◌+◌, ◌-◌, ◌%◌, ◌^◌, ◌<◌, ◌≤◌, IsTrue, List, [], ◌∷◌, ◌++◌, length, flat_map, replicate, All}
use Rattle.std.specs.List.{list_all}
use Rattle.qv_base.specs.declared.limits.TheConstants.{BLOCK_BYTES, CODE_BYTES}
use Rattle.qv_ops.specs.declared.instr.Instr.{Instr}
use Rattle.qv_ops.specs.Code.{word_bytes, code_bytes, is_encodable, stays_within}

-- an image by its parts: its instructions, its data, its literals, and how many zero bytes follow them
pub record Qvm : Type 0 where
  pub code : List Instr
  pub data_part : List ℕ
  pub lit : List ℕ
  pub bss : ℕ

-- zero bytes to a multiple of 4
abbrev pub padding : List ℕ → List ℕ
padding bytes = replicate ((4 - length bytes % 4) % 4) 0

-- the code's bytes as they stand in the file
abbrev pub padded_code : List Instr → List ℕ
padded_code code = code_bytes code ++ padding (code_bytes code)

-- the limits that each image keeps
pub record IsImage (z : Qvm) : Type 0 where
  pub some_code : 0 < length z.code
  pub code_fits : length (padded_code z.code) ≤ CODE_BYTES
  pub encodable : IsTrue (list_all is_encodable z.code)
  pub branches_within : IsTrue (list_all (stays_within (length z.code)) z.code)
  pub data_bytes : All (λ b. b < 256) z.data_part
  pub lit_bytes : All (λ b. b < 256) z.lit
  pub block_fits : length z.data_part + length z.lit + z.bss ≤ BLOCK_BYTES

-- the eight words of the header: magic, instruction count, code offset, code length, data offset, data
-- length, lit length, bss length
abbrev pub header_words : Qvm → List ℕ
header_words z =
    0x12721444 ∷ length z.code ∷ 32 ∷ length (padded_code z.code) ∷ (32 + length (padded_code z.code)) ∷ length z.data_part ∷ length z.lit ∷ z.bss ∷ []

-- the bytes of the image's file
abbrev pub file_bytes : Qvm → List ℕ
file_bytes z = flat_map word_bytes (header_words z) ++ padded_code z.code ++ z.data_part ++ z.lit
