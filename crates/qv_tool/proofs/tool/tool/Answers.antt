use Rattle.std.proofs.Common.{map, string_bytes, Ok, Err}
use Rattle.qv_words.specs.Words.{reading}
use Rattle.qv_tool.specs.Work.{Works}
use Rattle.qv_tool.specs.World.{world_of}
use Rattle.qv_tool.proofs.Answering.{after_refusal, after_report, is_completed, is_exact, is_host_failed, is_read_failed, is_refused, is_refused_memory, is_write_failed}
use Rattle.qv_tool.proofs.tool.tool.Goals as goal

pub returns-in-Ok : goal.returns-in-Ok
returns-in-Ok g c =
    let before = world_of g.F.Files g.O.Sink g.H.Host c.args.files.now c.args.out.now c.args.host.now in
    let after = world_of g.F.Files g.O.Sink g.H.Host c.work.new.files c.work.new.out c.work.new.host in
    let works : Works (reading (map string_bytes c.args.words.now)) before after (Ok c.in-Ok.report) = c.in-Ok.ensures.works in
    let answers = after_report (reading (map string_bytes c.args.words.now)) before after (g.E.Sink.faults c.args.err.now) (g.E.Sink.faults c.put_line.new.err) (g.E.Sink.written c.args.err.now) (g.E.Sink.written c.put_line.new.err) c.put_line.result
    c.in-Ok.report c.deref.result.now works c.deref.ensures.value c.put_line.ensures in
    record {
      exact = is_exact _ _ _ _ _ _ _ _ answers;
      completed = is_completed _ _ _ _ _ _ _ _ answers;
      usage = answers.caused.usage_is;
      unreadable = answers.caused.unreadable_is;
      not_yet = answers.caused.not_yet_is;
      unserved = answers.caused.unserved_is;
      refused = is_refused _ _ _ _ _ _ _ _ answers;
      read_fault = answers.caused.read_fault_is;
      read_failed = is_read_failed _ _ _ _ _ _ _ _ answers;
      write_fault = answers.caused.write_fault_is;
      write_failed = is_write_failed _ _ _ _ _ _ _ _ answers;
      host_fault = answers.caused.host_fault_is;
      host_failed = is_host_failed _ _ _ _ _ _ _ _ answers;
      memory_line = answers.caused.memory_line_is;
      no_memory = is_refused_memory _ _ _ _ _ _ _ _ answers;
      quiet = answers.caused.quiet_is;
      host_table = works.table;
      host_kept = c.work.ensures.kept;
    }

pub returns-in-Err : goal.returns-in-Err
returns-in-Err g c =
    let before = world_of g.F.Files g.O.Sink g.H.Host c.args.files.now c.args.out.now c.args.host.now in
    let after = world_of g.F.Files g.O.Sink g.H.Host c.work.new.files c.work.new.out c.work.new.host in
    let works : Works (reading (map string_bytes c.args.words.now)) before after (Err c.in-Err.field-0) = c.in-Err.ensures.works in
    let answers = after_refusal (reading (map string_bytes c.args.words.now)) before after (g.E.Sink.faults c.args.err.now) (g.E.Sink.faults c.put_line-in-Err.new.err) (g.E.Sink.written c.args.err.now) (g.E.Sink.written c.put_line-in-Err.new.err) c.put_line-in-Err.result
    c.in-Err.field-0 works c.put_line-in-Err.ensures in
    record {
      exact = is_exact _ _ _ _ _ _ _ _ answers;
      completed = is_completed _ _ _ _ _ _ _ _ answers;
      usage = answers.caused.usage_is;
      unreadable = answers.caused.unreadable_is;
      not_yet = answers.caused.not_yet_is;
      unserved = answers.caused.unserved_is;
      refused = is_refused _ _ _ _ _ _ _ _ answers;
      read_fault = answers.caused.read_fault_is;
      read_failed = is_read_failed _ _ _ _ _ _ _ _ answers;
      write_fault = answers.caused.write_fault_is;
      write_failed = is_write_failed _ _ _ _ _ _ _ _ answers;
      host_fault = answers.caused.host_fault_is;
      host_failed = is_host_failed _ _ _ _ _ _ _ _ answers;
      memory_line = answers.caused.memory_line_is;
      no_memory = is_refused_memory _ _ _ _ _ _ _ _ answers;
      quiet = answers.caused.quiet_is;
      host_table = works.table;
      host_kept = c.work.ensures.kept;
    }
