use Rattle.std.proofs.Common.{rules, ◌≡◌, ◌∙◌, ◌++◌, ◌∷◌, [], ◌<◌, length, Some, sym, ap, map, string_bytes}
use Rattle.std.proofs.lemmas.List.{map-append}
use Rattle.qv_tool.proofs.Listing.{added_name, added_none}
use Rattle.qv_tool.proofs.list.add_name.Goals as goal

pub returns-in_ok-push-in-Ok : goal.returns-in_ok-push-in-Ok
returns-in_ok-push-in-Ok c =
    let some : 0 < length c.args.line.now = search rules in
    let copied : string_bytes c.in_ok-from_str-in-Ok.field-0 ≡ c.args.line.now = c.in_ok-from_str-in-Ok.ensures.ok ∙ c.in-Ok.ensures.cases.0 in
    let more : map string_bytes c.push.new.self.items ≡ map string_bytes c.args.names.now.items ++ c.args.line.now ∷ [] =
    ap (map string_bytes) c.in_ok-push-in-Ok.ensures.items ∙ map-append string_bytes c.args.names.now.items (c.in_ok-from_str-in-Ok.field-0 ∷ []) ∙ ap (λ b. map string_bytes c.args.names.now.items ++ b ∷ []) copied in
    ap Some more ∙ sym (added_name (map string_bytes c.args.names.now.items) c.args.line.now some c.in-Ok.ensures.cases.1)

pub returns-in-Err : goal.returns-in-Err
returns-in-Err c =
    let some : 0 < length c.args.line.now = search rules in
    sym (added_none (map string_bytes c.args.names.now.items) c.args.line.now some c.in-Err.ensures.cases.0)
