-- The text of a unit is read as its rows, and linked to its code.
use Rattle.std.proofs.Common.{◌≡◌, ℕ, ◌^◌, ◌<◌, true, List, [], ◌∷◌, ◌++◌, length, Ok, refl, sym, ap, ◌∙◌, arith}
use Rattle.std.specs.Prelude.{codes, nat_lt}
use Rattle.std.specs.Fmt.{decimal}
use Rattle.std.specs.List.{list_all}
use Rattle.std.proofs.lemmas.Bool.Decides.{nat_tests}
use Rattle.qv_ops.specs.declared.op.Op.TheVariants.{Const}
use Rattle.asm_line.specs.Operand.{pieces}
use Rattle.asm_line.specs.Row.{constant}
use Rattle.asm_line.specs.Text.{words_of}
use Rattle.asm_line.proofs.Numbers.{decimal_writes}
use Rattle.asm_line.proofs.Text.{both, both_true}
use Rattle.asm_line.proofs.Written.{MadeOf, Reads, instr-reads, map-made, number-says}
use Rattle.asm_link.specs.Link.{linked}
use Rattle.asm_link.proofs.Comes.{made-linked}
use Rattle.qasm_write.specs.declared.line.UnitLine.{UnitLine}
use Rattle.qasm_write.specs.declared.line.UnitLine.TheVariants.{Open, Parameter, Load, Constant, Add, Subtract, Return, Close}
use Rattle.qasm_write.specs.Text.{line_text, unit_text}
use Rattle.qasm_write.specs.Unit.{constant_fits, is_inner, unit_image, IsUnit}
use Rattle.qasm_write.proofs.Rows.{row_of, unit_code, unit_comes, unit_rows, unit_small}

small : (m : ℕ) → nat_lt m (2 ^ 32) ≡ true → m < 2 ^ 32
small m h = grind (arith, nat_tests)

line_read : (l : UnitLine) → constant_fits l ≡ true → Reads (line_text l) (row_of l)
unfolding words_of pieces
line_read (Constant n) h = instr-reads (codes "CNSTI4") Const (decimal n) (constant n) refl refl (number-says (decimal n) n (decimal_writes n (small n h)))
line_read Open h = record { one_line = refl; row_is = refl }
line_read Parameter h = record { one_line = refl; row_is = refl }
line_read Load h = record { one_line = refl; row_is = refl }
line_read Add h = record { one_line = refl; row_is = refl }
line_read Subtract h = record { one_line = refl; row_is = refl }
line_read Return h = record { one_line = refl; row_is = refl }
line_read Close h = record { one_line = refl; row_is = refl }

inner_fits : (l : UnitLine) → is_inner l ≡ true → constant_fits l ≡ true
inner_fits (Constant n) h = h
inner_fits l h = refl

all_fit : (ls : List UnitLine) → list_all is_inner ls ≡ true → list_all constant_fits (ls ++ Close ∷ []) ≡ true
all_fit [] h = refl
all_fit (l ∷ ls) h =
    let k = both_true (is_inner l) (list_all is_inner ls) h in
    both (constant_fits l) (list_all constant_fits (ls ++ Close ∷ [])) (inner_fits l k.0) (all_fit ls k.1)

module _ (lines : List UnitLine) (u : IsUnit lines) where
  abbrev whole : List UnitLine
  whole = Open ∷ (u.inner ++ Close ∷ [])

  whole_linked : linked (unit_text whole ∷ []) ≡ Ok (unit_image whole)
  whole_linked =
      let made : MadeOf (unit_text whole) (unit_rows u.inner) = map-made line_text row_of constant_fits line_read whole (all_fit u.inner u.are_inner) in
      made-linked made (unit_comes u.inner (length (unit_code u.inner)) u.are_inner u.short) (omega arith) (unit_small u.inner u.short) (omega arith)

-- the text of a unit is linked to its code
pub unit_linked : (lines : List UnitLine) (text : List ℕ) → IsUnit lines → text ≡ unit_text lines → linked (text ∷ []) ≡ Ok (unit_image lines)
unit_linked lines text u is =
    ap (λ t. linked (t ∷ [])) (is ∙ ap unit_text u.lines_are) ∙ whole_linked lines u ∙ ap (λ ls. Ok (unit_image ls)) (sym u.lines_are)
