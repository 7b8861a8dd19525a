use Rattle.std.proofs.Common.{rules, arith, ◌≡◌, ◌∙◌, sym, subst, ℕ, IsTrue, Err}
use Rattle.std.specs.List.{list_all}
use Rattle.qv_ops.specs.Code.{stays_within}
use Rattle.qv_ops.proofs.Sizes.{length-code_bytes}
use Rattle.qv_image.specs.Fault.{image_fault}
use Rattle.qv_image.proofs.Reading.{is_read-lengths, is_read-parts, is_read-code, read_all, read_bytes-short}
use Rattle.qv_image.proofs.Sizes.{length-padded_code-fits}
use Rattle.qv_image.proofs.read.read_image.Goals as goal

pub returns-then-bytes-lt32-clause-read : goal.returns-then-bytes-lt32-clause-read
returns-then-bytes-lt32-clause-read c = read_bytes-short c.args.bytes.now c.if-bytes-lt32.true

pub returns-in_err-lengths_checked-clause-read : goal.returns-in_err-lengths_checked-clause-read
returns-in_err-lengths_checked-clause-read c =
    let e : c.from_residual.result ≡ Err c.in_err-lengths_checked.field-0.0 = search rules in
    is_read-lengths c.args.bytes.now c.read-header.result c.in_err-lengths_checked.field-0.0 _ c.if-bytes-lt32.false c.read-header.ensures (sym c.in_err-lengths_checked.ensures.checked) c.in_err-lengths_checked.ensures.fault e

pub returns-in_err-parts_checked-clause-read : goal.returns-in_err-parts_checked-clause-read
returns-in_err-parts_checked-clause-read c =
    let e : c.from_residual-in_err-parts_checked.result ≡ Err c.in_err-parts_checked.field-0.0 = search rules in
    is_read-parts c.args.bytes.now c.read-header.result _ c.in_err-parts_checked.field-0.0 _ c.if-bytes-lt32.false c.read-header.ensures (sym c.in_ok-lengths_checked.ensures.checked) (sym c.in_err-parts_checked.ensures.checked) c.in_err-parts_checked.ensures.fault e

pub returns-in_err-code-clause-read : goal.returns-in_err-code-clause-read
returns-in_err-code-clause-read c =
    let e : c.from_residual-in_err-code.result ≡ Err (image_fault c.in_err-code.field-0.0) = search rules in
    is_read-code c.args.bytes.now c.read-header.result _ _ c.part-code.result.now c.in_err-code.field-0.0 _ c.if-bytes-lt32.false c.read-header.ensures
    (sym c.in_ok-lengths_checked.ensures.checked) (sym c.in_ok-parts_checked.ensures.checked) c.part-code.ensures.part c.in_err-code.ensures.cut e

pub invariant_of-result-clause-some_code : goal.invariant_of-result-clause-some_code
invariant_of-result-clause-some_code c = omega (arith, c.in_ok-code.ensures.count, c.in_ok-parts_checked.ensures.parts.some_code)

pub invariant_of-result-clause-count_fits : goal.invariant_of-result-clause-count_fits
invariant_of-result-clause-count_fits c =
    omega (arith, length-code_bytes c.in_ok-code.code.items, c.in_ok-code.ensures.length, c.part-code.ensures.len, c.in_ok-parts_checked.ensures.parts.code_fits)

pub invariant_of-result-clause-code_fits : goal.invariant_of-result-clause-code_fits
invariant_of-result-clause-code_fits c =
    length-padded_code-fits c.in_ok-code.code.items (omega (arith, c.in_ok-code.ensures.length, c.part-code.ensures.len, c.in_ok-parts_checked.ensures.parts.code_fits))

pub invariant_of-result-clause-branches_within : goal.invariant_of-result-clause-branches_within
invariant_of-result-clause-branches_within c =
    let P : ℕ → Type 0 = λ n. IsTrue (list_all (stays_within n) c.in_ok-code.code.items) in subst P (sym c.in_ok-code.ensures.count) c.in_ok-code.ensures.within

pub returns-clause-read : goal.returns-clause-read
returns-clause-read c =
    read_all c.args.bytes.now c.read-header.result _ _ c.part-code.result.now c.in_ok-code.code.items c.in_ok-data_part.data_part.items c.in_ok-lit.lit.items c.if-bytes-lt32.false c.read-header.ensures
    (sym c.in_ok-lengths_checked.ensures.checked) (sym c.in_ok-parts_checked.ensures.checked) c.part-code.ensures.part c.in_ok-code.ensures.cut
    (c.in_ok-data_part.ensures.items ∙ c.part.ensures.part) (c.in_ok-lit.ensures.items ∙ c.part-2.ensures.part)
