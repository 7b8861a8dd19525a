use Rattle.std.proofs.Common.{List, Option, Result, Ok, sym, subst, ◌∙◌, map, string_bytes}
use Rattle.std.specs.Global.{Vec}
use Rattle.std.specs.Prelude.{ℕ}
use Rattle.qv_outside.specs.FileMap.{content}
use Rattle.pp_dir.specs.declared.fault.PpStop.{PpStop}
use Rattle.pp_dir.specs.declared.state.State.{State}
use Rattle.pp_dir.specs.Preprocessed.{Outcome, file_in}
use Rattle.pp_dir.specs.Endings.{Ends, IsRead}
use Rattle.pp_dir.proofs.Units.{unit_reads}
use Rattle.pp_dir.proofs.unit.read_unit.Goals as goal

pub returns-in-Ok-Some-clause-told : goal.returns-in-Ok-Some-clause-told
returns-in-Ok-Some-clause-told g c = λ m is.
    let dirs = map string_bytes c.args.dirs.now in
    let unit = c.args.unit.now in
    let read = subst (λ (o : Option (Vec ℕ)). IsRead unit (content m unit) (Ok o)) c.in-Ok-Some.field-0-is (subst (λ (r : Result (Option (Vec ℕ)) PpStop). IsRead unit (content m unit) r) c.in-Ok-Some.is (c.read_one.ensures.told m is)) in
    let whole = unit_reads (content m) dirs unit c.args.state.now c.in-Ok-Some.bytes.items read.0 read.1 in
    let ends = c.file_in.ensures.told m (c.read_one.ensures.keeps.same ∙ is) in
    let bytes = subst (λ (bs : List ℕ). Ends (file_in (content m) dirs 63 unit bs c.trying.new.self) c.file_in.result c.file_in.new.state) c.as_slice.ensures.value ends in
    subst (λ (o : Outcome State). Ends o c.file_in.result c.file_in.new.state) (sym whole)
    (subst (λ (s : State). Ends (file_in (content m) dirs 63 unit c.in-Ok-Some.bytes.items s) c.file_in.result c.file_in.new.state) c.in_ok-trying.ensures bytes)
