-- Instructions cut from the front of code.
use Rattle.std.specs.Prelude.{◌≡◌, ℕ, zero, suc, ◌+◌, ◌-◌, ◌^◌, ◌<◌, ◌≤◌, min, nat_lt, nat_le, ◌&&◌, List, [], ◌∷◌, ◌++◌, length, drop, Option, Some, None, Result, Ok, Err, if◌then◌else◌, IsTrue}
use Rattle.std.specs.Global.{Vec}
use denote.Ref.{Bor as Lent}
use Rattle.qv_ops.specs.declared.op.Op.{Op}
use Rattle.qv_ops.specs.declared.instr.Instr.{Instr}
use Rattle.qv_ops.specs.declared.decode.CodeFault.{CodeFault}
use Rattle.qv_ops.specs.declared.decode.CodeFault.TheVariants.{CodeShort, BadOpcode, FloatOpcode, BranchOut, TailLong, NoMemory}
use Rattle.qv_ops.specs.Table.{width_of_op, op_numbered, is_branch, is_float_number}
use Rattle.qv_ops.specs.Code.{word_in, instr_bytes, is_encodable, stays_within}

-- the operand of this width that stands first
abbrev pub operand_in : ℕ → List ℕ → ℕ
operand_in zero bytes = 0
operand_in (suc zero) (b ∷ bytes) = b
operand_in (suc zero) [] = 0
operand_in (suc (suc w)) bytes = word_in bytes

-- the instruction before those that follow
abbrev pub with_instr : Instr → Result (List Instr) CodeFault → Result (List Instr) CodeFault
with_instr i (Ok rest) = Ok (i ∷ rest)
with_instr i (Err fault) = Err fault

-- the instruction with the number at of count, of which the opcode has been read; later cuts what is behind it
abbrev pub cut_op : ℕ → ℕ → Op → List ℕ → (List ℕ → Result (List Instr) CodeFault) → Result (List Instr) CodeFault
cut_op count at op bytes later =
    if nat_lt (length bytes) (width_of_op op) then Err (CodeShort at)
    else (if is_branch op && nat_le count (operand_in (width_of_op op) bytes) then Err (BranchOut at)
    else with_instr (record { op = op; operand = operand_in (width_of_op op) bytes }) (later (drop (width_of_op op) bytes)))

-- the same where the opcode's number has been read
abbrev pub cut_number : ℕ → ℕ → ℕ → Option Op → List ℕ → (List ℕ → Result (List Instr) CodeFault) → Result (List Instr) CodeFault
cut_number count at n None bytes later = if is_float_number n then Err (FloatOpcode at n) else Err (BadOpcode at n)
cut_number count at n (Some op) bytes later = cut_op count at op bytes later

-- the same from the instruction's first byte on
abbrev pub cut_one : ℕ → ℕ → List ℕ → (List ℕ → Result (List Instr) CodeFault) → Result (List Instr) CodeFault
cut_one count at [] later = Err (CodeShort at)
cut_one count at (n ∷ bytes) later = cut_number count at n (op_numbered n) bytes later

-- the last `left` of count instructions, of which the first has the number at; behind them at most three bytes may be left
unfoldable pub cut_from : ℕ → ℕ → ℕ → List ℕ → Result (List Instr) CodeFault
cut_from count at zero bytes = if nat_lt 3 (length bytes) then Err (TailLong (min (length bytes) (2 ^ 32 - 1))) else Ok []
cut_from count at (suc left) bytes = cut_one count at bytes (cut_from count (at + 1) left)

-- count instructions, or the first fault
abbrev pub cut_code : ℕ → List ℕ → Result (List Instr) CodeFault
cut_code count bytes = cut_from count 0 count bytes

-- instructions before those that are cut
abbrev pub with_all : List Instr → Result (List Instr) CodeFault → Result (List Instr) CodeFault
with_all is (Ok rest) = Ok (is ++ rest)
with_all is (Err fault) = Err fault

-- an instruction and the bytes behind it are cut off the front, or a fault stands there
abbrev pub CutsOne : ℕ → ℕ → List ℕ → Result (Instr × Lent (List ℕ)) CodeFault → Type 0
CutsOne count at bytes (Ok p) = (later : List ℕ → Result (List Instr) CodeFault) → cut_one count at bytes later ≡ with_instr p.0 (later p.1.now)
CutsOne count at bytes (Err fault) = (later : List ℕ → Result (List Instr) CodeFault) → cut_one count at bytes later ≡ Err fault

-- the bytes are the instruction: it is cut off their front, whatever stands behind them, at any place and
-- any count that its branch stays within
abbrev pub CutsBack : Instr → List ℕ → Type 0
CutsBack i bytes = (count at : ℕ) (behind : List ℕ) (later : List ℕ → Result (List Instr) CodeFault) → IsTrue (stays_within count i)
    → cut_one count at (bytes ++ behind) later ≡ with_instr i (later behind)

-- the instruction fits its opcode and the count, and its bytes are as many as those in front of the bytes behind it
pub record IsCutOff (count : ℕ) (bytes : List ℕ) (i : Instr) (behind : List ℕ) : Type 0 where
  pub encodable : IsTrue (is_encodable i)
  pub within : IsTrue (stays_within count i)
  pub lengths : length (instr_bytes i) + length behind ≡ length bytes

-- the answer is what the cut gives, or there was no room for the instructions
abbrev pub IsCut : Result (List Instr) CodeFault → Result (Vec Instr) CodeFault → Type 0
IsCut cut (Ok code) = cut ≡ Ok code.items
IsCut cut (Err NoMemory) = Unit {0}
IsCut cut (Err fault) = cut ≡ Err fault

-- the operand and the bytes behind it, where there are enough of them
abbrev pub ReadsOperand : ℕ → List ℕ → Option (ℕ × Lent (List ℕ)) → Type 0
ReadsOperand width bytes None = length bytes < width
ReadsOperand width bytes (Some p) = (width ≤ length bytes) × (p.0 ≡ operand_in width bytes) × (p.1.now ≡ drop width bytes)
