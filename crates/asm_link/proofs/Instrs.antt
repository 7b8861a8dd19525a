-- Rows of one instruction each.
use Rattle.std.proofs.Common.{◌≡◌, ℕ, zero, suc, ◌+◌, ◌%◌, ◌^◌, ◌<◌, ◌≤◌, Bool, true, false, ◌&&◌, ◌||◌, List, [], ◌∷◌, length, refl, sym, ap, ◌∙◌, arith, add-zero, length-append, mod-eq_of_lt}
use Rattle.std.specs.Prelude.{Option, Some, None, is_none, map, nat_le, nat_lt, not, option_map, unwrap_or}
use Rattle.std.specs.List.{list_all}
use Rattle.std.specs.Option.{option_or}
use Rattle.std.proofs.lemmas.Bool.Decides.{nat_tests}
use Rattle.qv_ops.specs.Code.{code_bytes, fits_width, instr_bytes, is_encodable, stays_within}
use Rattle.qv_ops.specs.Table.{is_branch, width_of_op}
use Rattle.qv_ops.specs.declared.instr.Instr.{Instr}
use Rattle.qv_ops.specs.declared.op.Op.{Op}
use Rattle.asm_line.specs.Row.{Expression, Row, constant, One}
use Rattle.asm_line.specs.declared.line.AsmSegment.TheVariants.{Code}
use Rattle.asm_line.proofs.Text.{both_true}
use Rattle.asm_link.specs.Definitions.{number_of_name, state_after, value_at, value_of}
use Rattle.asm_link.specs.Faults.{is_past, of_line, undefined_value, when}
use Rattle.asm_link.specs.Image.{word}
use Rattle.asm_link.specs.Source.{SourceLine}
use Rattle.asm_link.specs.State.{Before, start}
use Rattle.asm_link.specs.declared.fault.AsmKind.TheVariants.{BranchFar, UndefinedName}
use Rattle.asm_link.proofs.CodeRows.{behind_row, code_row-comes}
use Rattle.asm_link.proofs.Comes.{RowsCome, append_rows-come, none_rows-come, rows-come_as}
use Rattle.asm_link.proofs.Counts.{code_bytes-code}
use Rattle.asm_link.proofs.Rows.{row_line}

-- an instruction with its number
abbrev pub instr_row : Instr → Row
instr_row i = One i.op (constant i.operand)

-- behind these instructions
abbrev pub behind_code : List Instr → Before → Before
behind_code is s = record s { count = s.count + length is; code_bytes = s.code_bytes + length (code_bytes is) }

-- an expression with a value has no undefined name

some_number : (add v : ℕ) (o : Option ℕ) → option_map (λ n. (n + add) % 2 ^ 32) o ≡ Some v → is_none o ≡ false
some_number add v None h = absurd (cc)
some_number add v (Some n) h = refl

value_defined : (all : List SourceLine) (file : ℕ) (name : Option (List ℕ)) (add v : ℕ) → value_at all file name add ≡ Some v → undefined_value all file name ≡ None
value_defined all file None add v h = refl
value_defined all file (Some name) add v h = ap (λ b. when b (UndefinedName name)) (some_number add v (number_of_name all file name) h)

not_far : (b : Bool) (count v : ℕ) → (not b || nat_lt v count) ≡ true → (b && nat_le count v) ≡ false
not_far true count v h = grind (arith, nat_tests)
not_far false count v h = refl

-- an operand that fits its width is a word
word_fits : (width v : ℕ) → fits_width width v ≡ true → v < 2 ^ 32
word_fits zero v h = grind (arith, nat_tests)
word_fits (suc zero) v h = grind (arith, nat_tests)
word_fits (suc (suc width)) v h = grind (arith, nat_tests)

module _ (all : List SourceLine) (count file : ℕ) where
  -- an instruction with an expression whose value is a word; a branch goes to one of all instructions
  pub one-comes : (at : ℕ) (s : Before) (op : Op) (e : Expression) (v : ℕ) → s.segment ≡ Code → value_of all file e ≡ Some v → v < 2 ^ 32 → stays_within count (record { op = op; operand = v }) ≡ true
      → s.code_bytes + length (code_bytes (record { op = op; operand = v } ∷ [])) ≤ 2 ^ 27
      → RowsCome all count file at s (One op e ∷ []) (record { op = op; operand = v } ∷ []) [] [] (behind_code (record { op = op; operand = v } ∷ []) s)
  one-comes at s op e v is value lt stays le =
      let i : Instr = record { op = op; operand = v } in
      let operand : word all file e % 2 ^ 32 ≡ v = ap (λ o. unwrap_or o 0 % 2 ^ 32) value ∙ mod-eq_of_lt lt in
      let bytes : (behind_row (One op e) s).code_bytes ≡ s.code_bytes + length (code_bytes (i ∷ [])) =
      code_bytes-code all 0 (row_line file 1 (One op e) ∷ []) s ∙ ap (λ n. s.code_bytes + length (code_bytes (record { op = op; operand = n } ∷ []))) operand in
      let well : (state_after start all).count ≡ count → of_line all file (One op e) s ≡ None =
      λ h.
      ap (λ u. option_or u (when (is_branch op && is_past (state_after start all).count (value_of all file e)) BranchFar)) (value_defined all file e.name e.add v value)
      ∙ ap (λ o. when (is_branch op && is_past (state_after start all).count o) BranchFar) value
      ∙ ap (λ n. when (is_branch op && nat_le n v) BranchFar) h
      ∙ ap (λ b. when b BranchFar) (not_far (is_branch op) count v stays) in
      rows-come_as (code_row-comes all count file at s (One op e) refl is refl well (omega (arith, bytes, le))) (ap (λ n. record { op = op; operand = n } ∷ []) operand) refl refl
      (λ k. record s { count = s.count + 1; code_bytes = bytes k })

  -- an instruction with a number
  pub instr-comes : (at : ℕ) (s : Before) (i : Instr) → s.segment ≡ Code → is_encodable i ≡ true → stays_within count i ≡ true → s.code_bytes + length (code_bytes (i ∷ [])) ≤ 2 ^ 27
      → RowsCome all count file at s (instr_row i ∷ []) (i ∷ []) [] [] (behind_code (i ∷ []) s)
  instr-comes at s i is fits stays le = one-comes at s i.op (constant i.operand) i.operand is refl (word_fits (width_of_op i.op) i.operand fits) stays le

  -- such instructions, one on each line
  pub instrs-come : (at : ℕ) (s : Before) (is : List Instr) → s.segment ≡ Code → list_all is_encodable is ≡ true → list_all (stays_within count) is ≡ true → s.code_bytes + length (code_bytes is) ≤ 2 ^ 27
      → RowsCome all count file at s (map instr_row is) is [] [] (behind_code is s)
  instrs-come at s [] here fits stays le =
      rows-come_as (none_rows-come all count file at s) refl refl refl (sym (λ k. record s { count = add-zero s.count k; code_bytes = add-zero s.code_bytes k }))
  instrs-come at s (i ∷ is) here fits stays le =
      let fit = both_true (is_encodable i) (list_all is_encodable is) fits in
      let stay = both_true (stays_within count i) (list_all (stays_within count) is) stays in
      let sizes : length (code_bytes (i ∷ is)) ≡ length (code_bytes (i ∷ [])) + length (code_bytes is) =
      omega (arith, length-append (instr_bytes i) (code_bytes is), length-append (instr_bytes i) []) in
      let counts : s.count + 1 + length is ≡ s.count + length (i ∷ is) = omega arith in
      let bytes : s.code_bytes + length (code_bytes (i ∷ [])) + length (code_bytes is) ≡ s.code_bytes + length (code_bytes (i ∷ is)) = omega (arith, sizes) in
      rows-come_as
      (append_rows-come (instr-comes at s i here fit.0 stay.0 (omega (arith, sizes, le))) (instrs-come (at + 1) (behind_code (i ∷ []) s) is here fit.1 stay.1 (omega (arith, bytes, le))))
      refl refl refl (λ k. record s { count = counts k; code_bytes = bytes k })
