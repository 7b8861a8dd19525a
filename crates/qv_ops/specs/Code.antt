-- The bytes of instructions, and which instructions have bytes.
use Rattle.std.specs.Prelude.{ℕ, ◌^◌, zero, suc, Bool, ◌||◌, not, nat_lt, ◌==◌, List, [], ◌∷◌, flat_map}
use Rattle.std.specs.Int.{to_le_bytes, w32}
use Rattle.byteorder.specs.Endian.{little_number}
use Rattle.qv_ops.specs.declared.instr.Instr.{Instr}
use Rattle.qv_ops.specs.Table.{number_of_op, width_of_op, is_branch}

-- the four bytes of a word, the lowest first
abbrev pub word_bytes : ℕ → List ℕ
word_bytes w = to_le_bytes w32 w

-- the word that stands first in the bytes, the lowest byte first
abbrev pub word_in : List ℕ → ℕ
word_in bytes = little_number 4 bytes

-- an operand in its width
abbrev pub operand_bytes : ℕ → ℕ → List ℕ
operand_bytes zero v = []
operand_bytes (suc zero) v = v ∷ []
operand_bytes w v = word_bytes v

-- an instruction's bytes: its opcode's number, then its operand
abbrev pub instr_bytes : Instr → List ℕ
instr_bytes i = number_of_op i.op ∷ operand_bytes (width_of_op i.op) i.operand

-- the bytes of instructions, one after the other
abbrev pub code_bytes : List Instr → List ℕ
code_bytes code = flat_map instr_bytes code

-- the operand fits its width: it is 0 where none is carried
abbrev pub fits_width : ℕ → ℕ → Bool
fits_width zero v = v == 0
fits_width (suc zero) v = nat_lt v 256
fits_width w v = nat_lt v (2 ^ 32)

abbrev pub is_encodable : Instr → Bool
is_encodable i = fits_width (width_of_op i.op) i.operand

-- a branch goes to one of count instructions
abbrev pub stays_within : ℕ → Instr → Bool
stays_within count i = not (is_branch i.op) || nat_lt i.operand count
