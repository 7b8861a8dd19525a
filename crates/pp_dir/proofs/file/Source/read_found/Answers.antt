use Rattle.std.proofs.Common.{ℕ, List, ◌-◌, sym, subst, map, string_bytes}
use Rattle.std.specs.Prelude.{Option, option_map}
use Rattle.qv_outside.specs.FileMap.{content}
use Rattle.pp_dir.specs.declared.search.Found.{Found}
use Rattle.pp_dir.specs.Preprocessed.{file_in}
use Rattle.pp_dir.specs.Endings.{Ends, found_shown}
use Rattle.pp_dir.specs.Sources as at
use Rattle.pp_dir.proofs.file.Source.read_found.Goals as goal

pub returns-clause-told : goal.returns-clause-told
returns-clause-told g c = λ m is.
    let dirs = map string_bytes c.args.self.now.dirs.now in
    let nested = c.requires.nested c.requires.deep in
    let read = nested.told _ _ _ _ _ _ _ _ _ c.within.ensures m is in
    let whole = subst (λ (bytes : List ℕ). Ends (file_in (content m) dirs (c.args.self.now.depth - 1) c.in-Some.found.name.now bytes c.args.state.now) c.within.result c.within.new.arg7) c.as_slice.ensures.value read in
    subst (λ (o : Option Found). Ends (at.read_found m dirs c.args.self.now.depth c.args.self.now.file.now c.args.line c.args.name.now (option_map found_shown o, c.args.state.now)) c.within.result c.within.new.arg7) (sym c.in-Some.is) whole
