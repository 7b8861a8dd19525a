use Rattle.std.proofs.Common.{◌≡◌, sym, ap, subst, ◌∙◌, map, string_bytes, arith}
use Rattle.std.specs.Prelude.{Option, option_map, Result}
use Rattle.qv_outside.specs.FileMap.{content}
use Rattle.pp_dir.specs.declared.fault.PpStop.{PpStop}
use Rattle.pp_dir.specs.declared.search.Found.{Found}
use Rattle.pp_dir.specs.declared.state.State.{State}
use Rattle.pp_dir.specs.Preprocessed.{Outcome, searched}
use Rattle.pp_dir.specs.Endings.{Ends, EndsFound, found_shown}
use Rattle.pp_dir.specs.Forms.{candidates}
use Rattle.pp_dir.specs.Shown.{wanted_shown}
use Rattle.pp_dir.proofs.Sources.{search_ends}
use Rattle.pp_dir.proofs.file.Source.include_by.Goals as goal

pub returns-clause-told : goal.returns-clause-told
returns-clause-told g c = λ m is.
    let dirs = map string_bytes c.args.self.now.dirs.now in
    let names : map string_bytes c.as_slice.result.now ≡ candidates dirs c.args.self.now.file.now (wanted_shown c.args.wanted) = ap (map string_bytes) c.as_slice.ensures.value ∙ c.in_ok-names.ensures in
    let found = subst (λ (r : Result (Option Found) PpStop). EndsFound (searched (content m) (map string_bytes c.as_slice.result.now) c.args.state.now) r c.searched.new.self) c.in_ok-found.was (c.searched.ensures.told m is) in
    let ends = search_ends m dirs c.args.self.now.depth c.args.self.now.file.now c.args.line (wanted_shown c.args.wanted) c.args.state.now (option_map found_shown c.in_ok-found.found, c.searched.new.self) (omega (arith, c.if-self-eq0.false)) (ap (λ ns. searched (content m) ns c.args.state.now) (sym names) ∙ found) in
    subst (λ (o : Outcome State). Ends o c.read_found.result c.read_found.new.state) (sym ends) (c.read_found.ensures.told m (c.searched.ensures.keeps.same ∙ is))
