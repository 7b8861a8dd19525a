use Rattle.std.proofs.Common.{rules, ◌≡◌, arith}
use Rattle.vm_core.proofs.accesses.store.Goals as goal

pub returns-clause-step : goal.returns-clause-step
returns-clause-step g c = λ f stores.
    let kept : c.store.new.arg2 ≡ f c.args.block.now c.word_at-s.result c.word_at-t.result = stores _ _ _ _ (omega arith) (omega arith) c.store.ensures in
    rw (c.word_at-t.ensures, c.word_at-s.ensures, kept) (search rules)

pub returns-clause-size : goal.returns-clause-size
returns-clause-size g c = λ keeps. keeps _ _ _ _ c.requires.size c.store.ensures
