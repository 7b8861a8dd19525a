use Rattle.std.proofs.Common.{◌≡◌, ℕ, ◌∷◌, Some, sym, ap, subst, ◌∙◌, map, string_bytes}
use Rattle.std.specs.Prelude.{Option, Result}
use Rattle.std.specs.Global.{Vec}
use Rattle.qv_outside.specs.FileMap.{content}
use Rattle.pp_dir.specs.declared.fault.PpStop.{PpStop}
use Rattle.pp_dir.specs.Preprocessed.{searched}
use Rattle.pp_dir.specs.Endings.{IsRead, Stops, state_behind}
use Rattle.pp_dir.proofs.Searching.{search_stops}
use Rattle.pp_dir.proofs.state.State.searched.Goals as goal

pub returns-in-Err-clause-told : goal.returns-in-Err-clause-told
returns-in-Err-clause-told g c = λ m is.
    let name = c.as_str-in-Some.result.now in
    let more = map string_bytes c.in-Some.more.now in
    let here : g.F.Files.held c.loop-name.files ≡ Some m = c.loop-name.invariant.keeps.same ∙ is in
    let read = subst (λ (r : Result (Option (Vec ℕ)) PpStop). IsRead name (content m name) r) c.in-Err.is (c.read_one.ensures.told m here) in
    let rest : map string_bytes c.loop-name.rest.now ≡ name ∷ more = ap (map string_bytes) c.in-Some.ensures.cases.0 ∙ ap (λ n. n ∷ more) (sym c.as_str-in-Some.ensures.value) in
    let total : searched (content m) (map string_bytes c.args.names.now) c.args.self.now ≡ searched (content m) (name ∷ more) c.loop-name.self = c.loop-name.invariant.told m is ∙ ap (λ ns. searched (content m) ns c.loop-name.self) rest in
    subst (λ o. Stops state_behind o c.in-Err.stop) (sym total) (search_stops (content m) name more c.loop-name.self c.in-Err.stop read)
