-- The code of a sum runs, and leaves the sum's value on the operand stack.
use Rattle.std.proofs.Common.{◌≡◌, ℕ, ◌+◌, ◌^◌, ◌%◌, ◌<◌, List, [], ◌∷◌, length, Some, refl, ap, ◌∙◌, subst, arith, length-append}
use Rattle.std.specs.List.{flat_map}
use Rattle.std.specs.Prelude.{slice_get}
use Rattle.qv_ops.specs.declared.instr.Instr.{Instr}
use Rattle.qv_ops.specs.declared.op.Op.TheVariants.{Const, Local, Load4}
use Rattle.qv_outside.specs.Hosts.{Table}
use Rattle.masked_mem.specs.Memory.{load4}
use Rattle.vm_core.specs.Machine.{State, Step, Goes, act, step}
use Rattle.vm_core.proofs.Goes.{HasAt, has_front, has_back, GoesIn, joined, step_is, pushed_goes}
use Rattle.qcc_front.specs.declared.sum.Term.{Term}
use Rattle.qcc_front.specs.declared.sum.Term.TheVariants.{Command, Number}
use Rattle.qcc_front.specs.declared.sum.Sign.{Sign}
use Rattle.qcc_front.specs.declared.sum.Sign.TheVariants.{Plus, Minus}
use Rattle.qcc_front.specs.declared.sum.SignedTerm.{SignedTerm}
use Rattle.qcc_front.specs.Sum.{Sum, term_value, combined, value_from, value}
use Rattle.qasm_write.specs.Unit.{instr}
use Rattle.qcc_front.proofs.UnitCode.{term_code, sign_op, signed_code, sum_code}

module _ (code : List Instr) (table : Table) (memory : List ℕ) (p command : ℕ) (loads : load4 memory ((p + 16) % 2 ^ 32) ≡ command) where
  abbrev f : State → Step
  f = step code table

  -- a state inside the function
  abbrev pub at : List ℕ → ℕ → State
  at ops pc = record { memory = memory; program_stack = p; operands = ops; next = pc }

  one_step : (ops ops' : List ℕ) (pc : ℕ) (i : Instr) → slice_get code pc ≡ Some i → act table (length code) i.op i.operand (at ops pc) ≡ Goes (at ops' (pc + 1)) → GoesIn f 1 (at ops pc) (at ops' (pc + 1))
  one_step ops ops' pc i h e = (at ops' (pc + 1), step_is code table i (at ops pc) h ∙ e, refl)

  -- a term pushes its value
  term_goes : (t : Term) (ops : List ℕ) (pc q : ℕ) → HasAt code pc (term_code t) → length ops < 256 → q ≡ pc + length (term_code t) → GoesIn f (length (term_code t)) (at ops pc) (at (term_value command t ∷ ops) q)
  term_goes Command ops pc q has room e =
      let g : pc + 1 + 1 ≡ q = omega arith in
      let address = (p + 16) % 2 ^ 32 in
      let first = one_step ops (address ∷ ops) pc (instr Local 16) has.0 (pushed_goes (at ops pc) ops address room) in
      let second = one_step (address ∷ ops) (load4 memory address ∷ ops) (pc + 1) (instr Load4 0) has.1.0 refl in
      let both = joined f 1 1 2 _ _ _ refl first second in
      let named = subst (λ w. GoesIn f 2 (at ops pc) (at (w ∷ ops) (pc + 1 + 1))) loads both in
      subst (λ n. GoesIn f 2 (at ops pc) (at (command ∷ ops) n)) g named
  term_goes (Number n) ops pc q has room e =
      let g : pc + 1 ≡ q = omega arith in
      subst (λ m. GoesIn f 1 (at ops pc) (at (n ∷ ops) m)) g (one_step ops (n ∷ ops) pc (instr Const n) has.0 (pushed_goes (at ops pc) ops n room))

  sign_goes : (sign : Sign) (a b pc : ℕ) → slice_get code pc ≡ Some (instr (sign_op sign) 0) → GoesIn f 1 (at (b ∷ a ∷ []) pc) (at (combined sign a b ∷ []) (pc + 1))
  sign_goes Plus a b pc h = one_step (b ∷ a ∷ []) (combined Plus a b ∷ []) pc (instr (sign_op Plus) 0) h refl
  sign_goes Minus a b pc h = one_step (b ∷ a ∷ []) (combined Minus a b ∷ []) pc (instr (sign_op Minus) 0) h refl

  -- a signed term joins the value below
  signed_goes : (x : SignedTerm) (a pc q : ℕ) → HasAt code pc (signed_code x) → q ≡ pc + length (signed_code x) → GoesIn f (length (signed_code x)) (at (a ∷ []) pc) (at (combined x.sign a (term_value command x.term) ∷ []) q)
  signed_goes x a pc q has e =
      let t = term_code x.term in
      let last = instr (sign_op x.sign) 0 in
      let n : length (signed_code x) ≡ length t + 1 = length-append t (last ∷ []) in
      let g : pc + length t + 1 ≡ q = omega (arith, n) in
      let first = term_goes x.term (a ∷ []) pc (pc + length t) (has_front code pc t (last ∷ []) has) (omega arith) refl in
      let second = sign_goes x.sign a (term_value command x.term) (pc + length t) (has_back code pc t (last ∷ []) has).0 in
      let both = joined f (length t) 1 (length (signed_code x)) _ _ _ n first second in
      subst (λ m. GoesIn f (length (signed_code x)) (at (a ∷ []) pc) (at (combined x.sign a (term_value command x.term) ∷ []) m)) g both

  rest_goes : (xs : List SignedTerm) (a pc q : ℕ) → HasAt code pc (flat_map signed_code xs) → q ≡ pc + length (flat_map signed_code xs) → GoesIn f (length (flat_map signed_code xs)) (at (a ∷ []) pc) (at (value_from command a xs ∷ []) q)
  rest_goes [] a pc q has e = let g : pc ≡ q = omega arith in ap (at (a ∷ [])) g
  rest_goes (x ∷ xs) a pc q has e =
      let c = signed_code x in
      let n : length (flat_map signed_code (x ∷ xs)) ≡ length c + length (flat_map signed_code xs) = length-append c (flat_map signed_code xs) in
      let g : q ≡ pc + length c + length (flat_map signed_code xs) = omega (arith, n) in
      let b = combined x.sign a (term_value command x.term) in
      joined f (length c) (length (flat_map signed_code xs)) (length (flat_map signed_code (x ∷ xs))) _ _ _ n
      (signed_goes x a pc (pc + length c) (has_front code pc c (flat_map signed_code xs) has) refl)
      (rest_goes xs b (pc + length c) q (has_back code pc c (flat_map signed_code xs) has) g)

  pub sum_goes : (e : Sum) (pc q : ℕ) → HasAt code pc (sum_code e) → q ≡ pc + length (sum_code e) → GoesIn f (length (sum_code e)) (at [] pc) (at (value e command ∷ []) q)
  sum_goes e pc q has is =
      let t = term_code e.first in
      let n : length (sum_code e) ≡ length t + length (flat_map signed_code e.rest) = length-append t (flat_map signed_code e.rest) in
      let g : q ≡ pc + length t + length (flat_map signed_code e.rest) = omega (arith, n) in
      joined f (length t) (length (flat_map signed_code e.rest)) (length (sum_code e)) _ _ _ n
      (term_goes e.first [] pc (pc + length t) (has_front code pc t (flat_map signed_code e.rest) has) (omega arith) refl)
      (rest_goes e.rest (term_value command e.first) (pc + length t) q (has_back code pc t (flat_map signed_code e.rest) has) g)
