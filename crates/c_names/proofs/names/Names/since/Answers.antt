use Rattle.std.proofs.Common.{◌≡◌, ◌-◌, length, take, drop, sym, ap, subst, ◌∙◌}
use Rattle.std.specs.Prelude.{IfOk, min}
use Rattle.std.proofs.lemmas.List.{take_rest}
use Rattle.c_names.specs.Kept.{shown}
use Rattle.c_names.proofs.Layers.{shown-since}
use Rattle.c_names.proofs.names.Names.since.Goals as goal

pub returns : goal.returns
returns c =
    let entries = c.deref.result.now in
    let first = c.min-first.result in
    let is : first ≡ min c.args.len (length entries) = c.min-first.ensures ∙ ap (min c.args.len) (c.len.ensures ∙ sym c.deref.ensures.len) in
    let same : shown (take (length entries - first) (drop first entries)) ≡ drop c.args.len c.args.self.now =
    ap shown (take_rest entries first) ∙ ap (λ n. shown (drop n entries)) is ∙ shown-since entries c.args.len
    ∙ ap (λ es. drop c.args.len (shown es)) c.deref.ensures.value ∙ ap (drop c.args.len) c.self.view_is in
    subst (λ declared. IfOk c.copies.result (λ copy. copy ≡ declared)) same c.copies.ensures
