use Rattle.std.proofs.Common.{◌∷◌, []}
use Rattle.vm_core.proofs.Appending.{prefix_front, put_both}
use Rattle.vm_core.proofs.traps.put_line.Goals as goal

pub returns-in-Ok-clause-told : goal.returns-in-Ok-clause-told
returns-in-Ok-clause-told g c = put_both (g.O.Sink.written c.args.out.now) (g.O.Sink.written c.put.new.self) (g.O.Sink.written c.put-in-Ok.new.self) c.args.text.now (10 ∷ []) c.put-in-Ok.result c.in-Ok.ensures.told c.put-in-Ok.ensures.told

pub returns-in-Err-clause-told : goal.returns-in-Err-clause-told
returns-in-Err-clause-told g c = prefix_front (g.O.Sink.written c.args.out.now) (g.O.Sink.written c.put.new.self) c.args.text.now (10 ∷ []) c.in-Err.ensures.told
