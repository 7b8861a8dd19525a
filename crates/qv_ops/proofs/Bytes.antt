-- The bytes of instructions are cut into these instructions.
use Rattle.std.proofs.Common.{◌≡◌, ℕ, ◌+◌, ◌^◌, ◌<◌, ◌≤◌, Bool, true, false, nat_lt, nat_le, ◌&&◌, ◌||◌, not, IsTrue, List, [], ◌∷◌, ◌++◌, length, drop, Some, Result, Ok, refl, ap, ◌∙◌, arith, append_assoc}
use Rattle.std.specs.List.{list_all}
use Rattle.std.proofs.lemmas.Grind.{common_steps}
use Rattle.std.proofs.Math.Seq.{drop-append_seam}
use Rattle.byteorder.specs.Numbers.{little_number-reads_back}
use Rattle.qv_ops.specs.declared.op.Op.{Op}
use Rattle.qv_ops.specs.declared.op.Op.TheVariants.{Ignore, Enter, Leave, Const, Local, Eq, Ne, Lti, Lei, Gti, Gei, Ltu, Leu, Gtu, Geu, Arg, BlockCopy}
use Rattle.qv_ops.specs.declared.instr.Instr.{Instr}
use Rattle.qv_ops.specs.declared.decode.CodeFault.{CodeFault}
use Rattle.qv_ops.specs.Table.{number_of_op, width_of_op, op_numbered, is_branch}
use Rattle.qv_ops.specs.Code.{operand_bytes, instr_bytes, code_bytes, fits_width, is_encodable, stays_within}
use Rattle.qv_ops.specs.Cut.{operand_in, cut_op, cut_number, cut_one, cut_from, cut_code, with_instr, CutsBack}
use Rattle.qv_ops.proofs.Cut.{cut_from-end}

-- each opcode has the number that it is read by
op_numbered-number_of_op : (op : Op) → op_numbered (number_of_op op) ≡ Some op
op_numbered-number_of_op Ignore = refl
op_numbered-number_of_op op = refl

-- a fact of each width is one of an opcode's width
of_width : (P : ℕ → Type 0) → P 0 → P 1 → P 4 → (op : Op) → P (width_of_op op)
of_width P none one four Enter = four
of_width P none one four Leave = four
of_width P none one four Const = four
of_width P none one four Local = four
of_width P none one four Eq = four
of_width P none one four Ne = four
of_width P none one four Lti = four
of_width P none one four Lei = four
of_width P none one four Gti = four
of_width P none one four Gei = four
of_width P none one four Ltu = four
of_width P none one four Leu = four
of_width P none one four Gtu = four
of_width P none one four Geu = four
of_width P none one four BlockCopy = four
of_width P none one four Arg = one
of_width P none one four op = none

-- an operand's bytes are read back, whatever follows them
record ReadsBack (width v : ℕ) (rest : List ℕ) : Type 0 where
  long : nat_lt (length (operand_bytes width v ++ rest)) width ≡ false
  operand : operand_in width (operand_bytes width v ++ rest) ≡ v
  behind : drop width (operand_bytes width v ++ rest) ≡ rest

AllReadBack : ℕ → Type 0
AllReadBack width = (v : ℕ) (rest : List ℕ) → IsTrue (fits_width width v) → ReadsBack width v rest

no_operand : AllReadBack 0
unfolding AllReadBack
no_operand v rest h = record { long = grind (arith, common_steps); operand = grind (arith, common_steps); behind = refl }

byte_operand : AllReadBack 1
unfolding AllReadBack
byte_operand v rest h = record { long = grind (arith, common_steps); operand = refl; behind = refl }

word_operand : AllReadBack 4
unfolding AllReadBack
word_operand v rest h =
    let lt : v < 256 ^ 4 = grind (arith, common_steps) in
    record { long = grind (arith, common_steps); operand = little_number-reads_back 4 v rest lt; behind = refl }

reads_back : (op : Op) (v : ℕ) (rest : List ℕ) → IsTrue (fits_width (width_of_op op) v) → ReadsBack (width_of_op op) v rest
unfolding AllReadBack
reads_back op v rest h = of_width AllReadBack no_operand byte_operand word_operand op v rest h

-- a branch that stays within does not leave
not_leaves : (b : Bool) (count v : ℕ) → IsTrue (not b || nat_lt v count) → (b && nat_le count v) ≡ false
not_leaves true count v h = grind (arith, common_steps)
not_leaves false count v h = refl

-- an instruction's bytes are cut into the instruction
cut_op-operand_bytes : (count at : ℕ) (op : Op) (v : ℕ) (rest : List ℕ) (later : List ℕ → Result (List Instr) CodeFault)
    → IsTrue (fits_width (width_of_op op) v) → IsTrue (not (is_branch op) || nat_lt v count)
    → cut_op count at op (operand_bytes (width_of_op op) v ++ rest) later ≡ with_instr (record { op = op; operand = v }) (later rest)
cut_op-operand_bytes count at op v rest later fits stays =
    let r = reads_back op v rest fits in
    let stay = not_leaves (is_branch op) count v stays in
    rw (r.long, r.operand, stay, r.behind) refl

pub cut_one-instr_bytes : (count at : ℕ) (i : Instr) (rest : List ℕ) (later : List ℕ → Result (List Instr) CodeFault)
    → IsTrue (is_encodable i) → IsTrue (stays_within count i) → cut_one count at (instr_bytes i ++ rest) later ≡ with_instr i (later rest)
cut_one-instr_bytes count at i rest later fits stays =
    ap (λ o. cut_number count at (number_of_op i.op) o (operand_bytes (width_of_op i.op) i.operand ++ rest) later) (op_numbered-number_of_op i.op)
    ∙ cut_op-operand_bytes count at i.op i.operand rest later fits stays

-- bytes that were appended are cut back
pub cuts_back : (i : Instr) (old new : List ℕ) → new ≡ old ++ instr_bytes i → IsTrue (is_encodable i) → CutsBack i (drop (length old) new)
cuts_back i old new e fits =
    rw (e, drop-append_seam old (instr_bytes i)) (λ count at behind later stays. cut_one-instr_bytes count at i behind later fits stays)

both_true : (a b : Bool) → IsTrue (a && b) → IsTrue a × IsTrue b
both_true true b h = (refl, h)
both_true false b h = cc

-- the bytes of instructions, with at most three bytes behind them, are cut into these instructions
pub cut_from-code_bytes : (count at : ℕ) (code : List Instr) (tail : List ℕ) → IsTrue (list_all is_encodable code) → IsTrue (list_all (stays_within count) code)
    → length tail ≤ 3 → cut_from count at (length code) (code_bytes code ++ tail) ≡ Ok code
unfolding cut_from
cut_from-code_bytes count at [] tail fits stays short = cut_from-end count at tail short
cut_from-code_bytes count at (i ∷ code) tail fits stays short =
    let f = both_true (is_encodable i) (list_all is_encodable code) fits in
    let s = both_true (stays_within count i) (list_all (stays_within count) code) stays in
    ap (λ bytes. cut_one count at bytes (cut_from count (at + 1) (length code))) (append_assoc (instr_bytes i) (code_bytes code) tail)
    ∙ cut_one-instr_bytes count at i (code_bytes code ++ tail) (cut_from count (at + 1) (length code)) f.0 s.0
    ∙ ap (with_instr i) (cut_from-code_bytes count (at + 1) code tail f.1 s.1 short)

pub cut_code-code_bytes : (code : List Instr) (tail : List ℕ) → IsTrue (list_all is_encodable code) → IsTrue (list_all (stays_within (length code)) code)
    → length tail ≤ 3 → cut_code (length code) (code_bytes code ++ tail) ≡ Ok code
cut_code-code_bytes code tail fits stays short = cut_from-code_bytes (length code) 0 code tail fits stays short
