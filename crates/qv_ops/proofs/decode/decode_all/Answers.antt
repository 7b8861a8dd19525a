use Rattle.std.proofs.Common.{◌≡◌, Err, rules, ap, sym, ◌∙◌}
use Rattle.qv_ops.specs.declared.decode.CodeFault.TheVariants.{TailLong}
use Rattle.qv_ops.proofs.Cut.{cut_more, cut_stops, cut_ends, cut_leaves, left-min, list_all-one, lengths-one}
use Rattle.qv_ops.specs.Code.{is_encodable, stays_within}
use Rattle.qv_ops.proofs.decode.decode_all.Goals as goal

pub returns-in_err-instr-clause-cut : goal.returns-in_err-instr-clause-cut
returns-in_err-instr-clause-cut c =
    let e : c.from_residual.result ≡ Err c.in_err-instr.field-0.0 = search rules in
    cut_stops c.args.count c.loop-at.at c.loop-at.rest.now c.loop-at.instrs.items _ _ _ c.loop-at-test.true c.loop-at.invariant.cut c.in_err-instr.ensures.cut e

pub loop-at-preserved : goal.loop-at-preserved
loop-at-preserved c = record {
  cut = rw c.in_ok-push.ensures.items (cut_more c.args.count c.loop-at.at c.loop-at.rest.now c.in_ok-instr.behind.now c.loop-at.instrs.items c.in_ok-instr.instr _ c.loop-at-test.true c.loop-at.invariant.cut c.in_ok-instr.ensures.cut);
  counted = search rules;
  encodable = rw c.in_ok-push.ensures.items (list_all-one is_encodable c.loop-at.instrs.items c.in_ok-instr.instr c.loop-at.invariant.encodable c.in_ok-instr.ensures.instr.encodable);
  within = rw c.in_ok-push.ensures.items (list_all-one (stays_within c.args.count) c.loop-at.instrs.items c.in_ok-instr.instr c.loop-at.invariant.within c.in_ok-instr.ensures.instr.within);
  lengths = rw c.in_ok-push.ensures.items (lengths-one c.loop-at.instrs.items c.in_ok-instr.instr c.loop-at.rest.now c.in_ok-instr.behind.now c.args.code.now c.loop-at.invariant.lengths c.in_ok-instr.ensures.instr.lengths);
}

pub returns-then-rest-gt-MAX_PADDING-clause-cut : goal.returns-then-rest-gt-MAX_PADDING-clause-cut
returns-then-rest-gt-MAX_PADDING-clause-cut c =
    cut_leaves c.args.count c.loop-at.at _ c.loop-at.instrs.items _ c.loop-at-test.false c.if-rest-gt-MAX_PADDING.true c.loop-at.invariant.cut
    ∙ sym (ap (λ n. Err (TailLong n)) (left-min c.try_from.result _ c.unwrap_or-left.result c.try_from.ensures c.unwrap_or-left.ensures))

pub returns-clause-cut : goal.returns-clause-cut
returns-clause-cut c = cut_ends _ _ _ _ _ c.loop-at-test.false c.if-rest-gt-MAX_PADDING.false c.loop-at.invariant.cut
