use Rattle.std.proofs.Common.{ap, Some}
use Rattle.vm_core.specs.Module.{state_at}
use Rattle.vm_core.specs.Ran.{outside}
use Rattle.vm_core.proofs.Settling.{stop_did, stop_no_host_fault, stop_no_out_fault, room_for_reply, replied_did, stopped_did, top_above}
use Rattle.vm_core.proofs.running.settle.Goals as goal

pub push_at-r-requires-clause-some : goal.push_at-r-requires-clause-some
push_at-r-requires-clause-some g c =
    top_above c.args.words.now c.args.r.now.top c.told-words
    (room_for_reply (g.H.Host.table c.args.host.now) c.requires.led.0 (state_at c.args.block.now c.args.words.now c.args.r.now) (Some c.args.halt) c.requires.led.1 c.in-Trap.number (ap Some c.in-Trap.is))

pub returns-in-Stop-clause-did : goal.returns-in-Stop-clause-did
returns-in-Stop-clause-did g c = λ t leads. stop_did (g.H.Host.table c.args.host.now) t (state_at c.args.block.now c.args.words.now c.args.r.now) (Some c.args.halt) leads c.in-Stop.stop (ap Some c.in-Stop.is) (outside (g.H.Host.asked c.args.host.now) (g.H.Host.replied c.args.host.now) (g.O.Sink.written c.args.out.now))

pub returns-in-Stop-clause-host_fault : goal.returns-in-Stop-clause-host_fault
returns-in-Stop-clause-host_fault g c = λ fault. absurd (stop_no_host_fault (g.H.Host.table c.args.host.now) c.requires.led.0 (state_at c.args.block.now c.args.words.now c.args.r.now) (Some c.args.halt) c.requires.led.1 c.in-Stop.stop (ap Some c.in-Stop.is) fault)

pub returns-in-Stop-clause-out_fault : goal.returns-in-Stop-clause-out_fault
returns-in-Stop-clause-out_fault g c = λ fault. absurd (stop_no_out_fault (g.H.Host.table c.args.host.now) c.requires.led.0 (state_at c.args.block.now c.args.words.now c.args.r.now) (Some c.args.halt) c.requires.led.1 c.in-Stop.stop (ap Some c.in-Stop.is) fault)

pub returns-in-Ok-clause-did : goal.returns-in-Ok-clause-did
returns-in-Ok-clause-did g c = λ t leads.
    replied_did (g.H.Host.table c.args.host.now) t (state_at c.args.block.now c.args.words.now c.args.r.now) (Some c.args.halt) leads c.in-Trap.number (ap Some c.in-Trap.is) c.serve.new.block
    (outside (g.H.Host.asked c.args.host.now) (g.H.Host.replied c.args.host.now) (g.O.Sink.written c.args.out.now)) (outside (g.H.Host.asked c.serve.new.host) (g.H.Host.replied c.serve.new.host) (g.O.Sink.written c.serve.new.out)) c.in-Ok.word _ c.in-Ok.ensures.did c.push_at-r.ensures.words

pub returns-in-Err-clause-did : goal.returns-in-Err-clause-did
returns-in-Err-clause-did g c = λ t leads.
    stopped_did (g.H.Host.table c.args.host.now) t (state_at c.args.block.now c.args.words.now c.args.r.now) (Some c.args.halt) leads c.in-Trap.number (ap Some c.in-Trap.is) c.serve.new.block
    (outside (g.H.Host.asked c.args.host.now) (g.H.Host.replied c.args.host.now) (g.O.Sink.written c.args.out.now)) (outside (g.H.Host.asked c.serve.new.host) (g.H.Host.replied c.serve.new.host) (g.O.Sink.written c.serve.new.out)) c.in-Err.stop c.in-Err.ensures.did
