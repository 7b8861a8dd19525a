use Rattle.std.proofs.Common.{rules, ◌≡◌, ◌∙◌, Some, false, ap, map, string_bytes}
use Rattle.std.specs.Prelude.{is_none, is_some, option_map}
use Rattle.qcc_front.specs.Job.{Job, job_shown, name_shown, single_unit}
use Rattle.qv_tool.specs.Task.{Assemble, Run, Build, task_of}
use Rattle.qv_tool.specs.Work.{Asks}
use Rattle.qv_tool.specs.World.{around_of}
use Rattle.qv_tool.proofs.Compiling.{build_asked, some_shown}
use Rattle.qv_tool.proofs.Linking.{files_ask}
use Rattle.qv_tool.proofs.Refusing.{served_by}
use Rattle.qv_tool.proofs.Told.{if_told}
use Rattle.qv_words.specs.Shown.{command_shown, define_shown}
use Rattle.qv_words.specs.Words.{BuildArgs}
use Rattle.qv_words.specs.declared.command.Command.TheVariants.{Qall as ReadQall}
use Rattle.qv_tool.proofs.tool.serve.Goals as goal

pub returns-in-None-clause-works : goal.returns-in-None-clause-works
returns-in-None-clause-works g c =
    let image = c.deref-in-None.result.now in
    let names = map string_bytes c.deref-in-None-2.result.now in
    let asked : task_of (command_shown c.args.command) ≡ Some (Assemble image names) = search rules in
    c.q3asm.ensures (around_of g.O.Sink g.H.Host c.args.out.now c.args.host.now) (command_shown c.args.command) (served_by (command_shown c.args.command) _ asked)
    (if_told (λ held. Asks (command_shown c.args.command) image names held) _ (λ held. files_ask (command_shown c.args.command) image names held asked))

pub returns-in-Qrun-clause-works : goal.returns-in-Qrun-clause-works
returns-in-Qrun-clause-works g c =
    let asked : task_of (command_shown c.args.command) ≡ Some (Run c.in-Qrun.steps c.deref-in-Qrun.result.now c.deref-in-Qrun-2.result.now) = search rules in
    c.qrun.ensures.works (command_shown c.args.command) asked

pub returns-clause-works : goal.returns-clause-works
returns-clause-works g c =
    let calls = c.deref-in-Qall.result.now in
    let image = c.deref-in-Qall-2.result.now in
    let args : BuildArgs = record {
      dirs = map string_bytes c.in-Qall.dirs.items;
      defs = map define_shown c.in-Qall.defs.items;
      binds = option_map string_bytes c.in-Qall.binds;
      seed_size = c.in-Qall.seed_size;
      steps = c.in-Qall.steps;
      calls = c.in-Qall.calls.items;
      image = string_bytes c.in-Qall.image;
      units = map string_bytes c.in-Qall.units.items;
    } in
    let job : Job = job_shown (record { units = c.in-Qall.units; dirs = c.in-Qall.dirs; defs = c.in-Qall.defs; binds = c.in-Qall.binds }) in
    let is : c.args.command ≡ ReadQall c.in-Qall.dirs c.in-Qall.defs c.in-Qall.binds c.in-Qall.seed_size c.in-Qall.steps c.in-Qall.calls c.in-Qall.image c.in-Qall.units = search rules in
    let none : is_some c.in-Qall.seed_size ≡ false = search rules in
    let lent : is_none c.single_unit-else-is_some.result ≡ false = search rules in
    let shown : name_shown c.single_unit-else-is_some.result ≡ single_unit job = search rules in
    let calls_are : calls ≡ c.in-Qall.calls.items = search rules in
    let image_is : image ≡ string_bytes c.in-Qall.image = search rules in
    let asked : task_of (command_shown c.args.command) ≡ Some (Build c.in-Qall.steps calls image job) = ap (λ x. task_of (command_shown x)) is ∙ build_asked args calls image none (some_shown _ _ shown lent) calls_are image_is in
    c.qall.ensures.works (command_shown c.args.command) asked
