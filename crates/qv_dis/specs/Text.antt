-- The text of an image.
use Rattle.std.specs.Prelude.{ℕ, zero, suc, ◌-◌, codes, nat_lt, List, [], ◌∷◌, ◌++◌, drop, map, if◌then◌else◌}
use Rattle.std.specs.Fmt.{decimal, signed_decimal}
use Rattle.std.specs.Int.{cast_signed, w32}
use Rattle.qv_ops.specs.Code.{word_in}
use Rattle.qv_ops.specs.Table.{name_of_op, width_of_op}
use Rattle.qv_ops.specs.declared.instr.Instr.{Instr}
use Rattle.qv_base.specs.declared.limits.TheConstants.{STACK_BYTES}
use Rattle.qv_image.specs.Image.{Qvm}
use Rattle.asm_line.specs.Text.{text_of}

-- an operand of this width behind a space: a byte unsigned, a word signed
abbrev pub operand_text : ℕ → ℕ → List ℕ
operand_text zero v = []
operand_text (suc zero) v = 32 ∷ decimal v
operand_text width v = 32 ∷ signed_decimal (cast_signed w32 v)

-- the line of an instruction, of a word of the data and of a byte of the literals, without the line feed
abbrev pub instr_line : Instr → List ℕ
instr_line i = codes "op " ++ (name_of_op i.op ++ operand_text (width_of_op i.op) i.operand)

abbrev pub word_line : ℕ → List ℕ
word_line v = codes "byte 4 " ++ decimal v

abbrev pub byte_line : ℕ → List ℕ
byte_line v = codes "byte 1 " ++ decimal v

-- the words in bytes, one behind the other. Bytes behind the last whole word are left out
abbrev pub whole_words : List ℕ → List ℕ
whole_words (a ∷ b ∷ c ∷ d ∷ bytes) = word_in (a ∷ b ∷ c ∷ d ∷ []) ∷ whole_words bytes
whole_words bytes = []

-- the lines of each segment
abbrev pub code_lines : List Instr → List (List ℕ)
code_lines code = codes "code" ∷ map instr_line code

-- the data begin with a word that linking gives by itself
abbrev pub data_lines : List ℕ → List (List ℕ)
data_lines bytes = codes "data" ∷ map word_line (whole_words (drop 4 bytes))

abbrev pub lit_lines : List ℕ → List (List ℕ)
lit_lines bytes = codes "lit" ∷ map byte_line bytes

-- linking adds the stack's bytes by itself
abbrev pub skip_lines : ℕ → List (List ℕ)
skip_lines bss = if nat_lt bss STACK_BYTES then [] else (codes "skip " ++ decimal (bss - STACK_BYTES)) ∷ []

abbrev pub bss_lines : ℕ → List (List ℕ)
bss_lines bss = codes "bss" ∷ skip_lines bss

abbrev pub lines_of_image : Qvm → List (List ℕ)
lines_of_image z = code_lines z.code ++ (data_lines z.data_part ++ (lit_lines z.lit ++ bss_lines z.bss))

-- the text of an image: each line with its line feed
unfoldable pub disassembly : Qvm → List ℕ
disassembly z = text_of (lines_of_image z)
