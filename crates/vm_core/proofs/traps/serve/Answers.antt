use Rattle.std.proofs.Common.{◌≡◌, arith}
use Rattle.qv_outside.specs.Hosts.{sig_of}
use Rattle.vm_core.specs.State.{State}
use Rattle.vm_core.specs.Traps.{argument_of, asked, filled, moved, printed, raised, text_moved, trapped}
use Rattle.vm_core.proofs.Serving.{prints, raises, fills, moves, moves_text, asks, plain_serves, put_serves, raise_serves, call_serves, plain_no_host_fault, plain_no_out_fault, put_no_host_fault, raise_no_host_fault, call_no_out_fault}
use Rattle.vm_core.proofs.traps.serve.Goals as goal

pub returns-in-0-clause-did : goal.returns-in-0-clause-did
returns-in-0-clause-did g c = put_serves (trapped (g.H.Host.table c.args.host.now) c.args.number) printed (prints (g.H.Host.table c.args.host.now) c.args.number c.in-0.is) c.args.block.now c.args.program_stack (g.H.Host.asked c.args.host.now) (g.H.Host.replied c.args.host.now) (g.O.Sink.written c.args.out.now) (g.O.Sink.written c.print.new.out) c.print.result c.print.ensures.did

pub returns-in-0-clause-host_fault : goal.returns-in-0-clause-host_fault
returns-in-0-clause-host_fault g c = λ is. absurd (put_no_host_fault printed c.args.block.now c.args.program_stack c.args.block.now c.print.result _ _ c.print.ensures.did is)

pub returns-in-1-clause-did : goal.returns-in-1-clause-did
returns-in-1-clause-did g c = raise_serves (trapped (g.H.Host.table c.args.host.now) c.args.number) raised (raises (g.H.Host.table c.args.host.now) c.args.number c.in-1.is) c.args.block.now c.args.program_stack (g.H.Host.asked c.args.host.now) (g.H.Host.replied c.args.host.now) (g.O.Sink.written c.args.out.now) (g.O.Sink.written c.raise.new.out) c.raise.result c.raise.ensures.did

pub returns-in-1-clause-host_fault : goal.returns-in-1-clause-host_fault
returns-in-1-clause-host_fault g c = λ is. absurd (raise_no_host_fault raised c.args.block.now c.args.program_stack c.args.block.now c.raise.result _ _ c.raise.ensures.did is)

pub returns-in-100-clause-did : goal.returns-in-100-clause-did
returns-in-100-clause-did g c = plain_serves (trapped (g.H.Host.table c.args.host.now) c.args.number) (λ (s : State). filled s (argument_of s 0) (argument_of s 1) (argument_of s 2)) (fills (g.H.Host.table c.args.host.now) c.args.number c.in-100.is) c.args.block.now c.args.program_stack c.fill.new.block _ c.fill.result c.fill.ensures.did

pub returns-in-100-clause-host_fault : goal.returns-in-100-clause-host_fault
returns-in-100-clause-host_fault g c = λ is. absurd (plain_no_host_fault (λ (s : State). filled s (argument_of s 0) (argument_of s 1) (argument_of s 2)) c.args.block.now c.args.program_stack c.fill.new.block c.fill.result c.fill.ensures.did is)

pub returns-in-100-clause-out_fault : goal.returns-in-100-clause-out_fault
returns-in-100-clause-out_fault g c = λ is. absurd (plain_no_out_fault (λ (s : State). filled s (argument_of s 0) (argument_of s 1) (argument_of s 2)) c.args.block.now c.args.program_stack c.fill.new.block c.fill.result c.fill.ensures.did is)

pub returns-in-101-clause-did : goal.returns-in-101-clause-did
returns-in-101-clause-did g c = plain_serves (trapped (g.H.Host.table c.args.host.now) c.args.number) (λ (s : State). moved s (argument_of s 0) (argument_of s 1) (argument_of s 2)) (moves (g.H.Host.table c.args.host.now) c.args.number c.in-101.is) c.args.block.now c.args.program_stack c.copy.new.block _ c.copy.result c.copy.ensures.did

pub returns-in-101-clause-host_fault : goal.returns-in-101-clause-host_fault
returns-in-101-clause-host_fault g c = λ is. absurd (plain_no_host_fault (λ (s : State). moved s (argument_of s 0) (argument_of s 1) (argument_of s 2)) c.args.block.now c.args.program_stack c.copy.new.block c.copy.result c.copy.ensures.did is)

pub returns-in-101-clause-out_fault : goal.returns-in-101-clause-out_fault
returns-in-101-clause-out_fault g c = λ is. absurd (plain_no_out_fault (λ (s : State). moved s (argument_of s 0) (argument_of s 1) (argument_of s 2)) c.args.block.now c.args.program_stack c.copy.new.block c.copy.result c.copy.ensures.did is)

pub returns-in-102-clause-did : goal.returns-in-102-clause-did
returns-in-102-clause-did g c = plain_serves (trapped (g.H.Host.table c.args.host.now) c.args.number) (λ (s : State). text_moved s (argument_of s 0) (argument_of s 1) (argument_of s 2)) (moves_text (g.H.Host.table c.args.host.now) c.args.number c.in-102.is) c.args.block.now c.args.program_stack c.copy_text.new.block _ c.copy_text.result c.copy_text.ensures.did

pub returns-in-102-clause-host_fault : goal.returns-in-102-clause-host_fault
returns-in-102-clause-host_fault g c = λ is. absurd (plain_no_host_fault (λ (s : State). text_moved s (argument_of s 0) (argument_of s 1) (argument_of s 2)) c.args.block.now c.args.program_stack c.copy_text.new.block c.copy_text.result c.copy_text.ensures.did is)

pub returns-in-102-clause-out_fault : goal.returns-in-102-clause-out_fault
returns-in-102-clause-out_fault g c = λ is. absurd (plain_no_out_fault (λ (s : State). text_moved s (argument_of s 0) (argument_of s 1) (argument_of s 2)) c.args.block.now c.args.program_stack c.copy_text.new.block c.copy_text.result c.copy_text.ensures.did is)

pub returns-in_default-clause-did : goal.returns-in_default-clause-did
returns-in_default-clause-did g c =
    let asks_is : (s : State) → trapped (g.H.Host.table c.args.host.now) c.args.number s ≡ asked c.args.number s (sig_of (g.H.Host.table c.args.host.now) c.args.number) =
    asks (g.H.Host.table c.args.host.now) c.args.number (λ e. absurd (omega (arith, e))) (λ e. absurd (omega (arith, e))) (λ e. absurd (omega (arith, e))) (λ e. absurd (omega (arith, e))) (λ e. absurd (omega (arith, e))) in
    call_serves (trapped (g.H.Host.table c.args.host.now) c.args.number) (λ (s : State). asked c.args.number s (sig_of (g.H.Host.table c.args.host.now) c.args.number)) asks_is c.args.block.now c.args.program_stack c.ask.new.block _ _ _ _ _ c.ask.result c.ask.ensures.did

pub returns-in_default-clause-out_fault : goal.returns-in_default-clause-out_fault
returns-in_default-clause-out_fault g c = λ is. absurd (call_no_out_fault (λ (s : State). asked c.args.number s (sig_of (g.H.Host.table c.args.host.now) c.args.number)) c.args.block.now c.args.program_stack c.ask.new.block c.ask.result _ _ _ _ c.ask.ensures.did is)
