use Rattle.std.proofs.Common.{rules, ◌≡◌, ◌∙◌, ◌∷◌, List, ℕ, Bool, Some, None, sym, ap, map, string_bytes}
use Rattle.std.specs.Prelude.{if◌then◌else◌}
use Rattle.asm_line.specs.Text.{lines_of}
use Rattle.qv_tool.specs.Names.{added_to, if_some, names_on, trimmed, without_return}
use Rattle.qv_tool.proofs.Listing.{one_bad, one_more, trimmed_more}
use Rattle.qv_tool.proofs.list.names_in.Goals as goal

pub returns-then-not-branch-2 : goal.returns-then-not-branch-2
returns-then-not-branch-2 c =
    let names : List (List ℕ) = map string_bytes c.loop-behind.names.items in
    let line : List ℕ = c.cut_line.result.0.now in
    let cut : lines_of c.loop-behind.rest.now ≡ line ∷ lines_of c.in-Some.behind.now = search rules in
    let bad : None ≡ added_to names (without_return line) =
    sym (ap (λ (t : Bool). if t then Some (map string_bytes c.add_name-in-loop-behind.new.names.items) else None) c.if-not-branch-2.true) ∙ c.in_ok-add_name-2.ensures ∙ ap (added_to names) c.without_return.ensures in
    ap if_some (sym c.loop-behind.invariant ∙ ap (names_on c.loop-behind.number names) (ap trimmed cut ∙ trimmed_more line c.in-Some.behind.now) ∙ one_bad c.loop-behind.number names (without_return line) (trimmed (lines_of c.in-Some.behind.now)) bad)

pub loop-behind-preserved : goal.loop-behind-preserved
loop-behind-preserved c =
    let names : List (List ℕ) = map string_bytes c.loop-behind.names.items in
    let more : List (List ℕ) = map string_bytes c.add_name-in-loop-behind.new.names.items in
    let line : List ℕ = c.cut_line.result.0.now in
    let cut : lines_of c.loop-behind.rest.now ≡ line ∷ lines_of c.in-Some.behind.now = search rules in
    let added : Some more ≡ added_to names (without_return line) =
    sym (ap (λ (t : Bool). if t then Some more else None) c.if-not-branch-2.false) ∙ c.in_ok-add_name-2.ensures ∙ ap (added_to names) c.without_return.ensures in
    let here : names_on c.loop-behind.number names (trimmed (lines_of c.loop-behind.rest.now)) ≡ names_on c.saturating_add-number.result more (trimmed (lines_of c.in-Some.behind.now)) =
    ap (names_on c.loop-behind.number names) (ap trimmed cut ∙ trimmed_more line c.in-Some.behind.now) ∙ one_more c.loop-behind.number names more (without_return line) (trimmed (lines_of c.in-Some.behind.now)) added ∙ ap (λ n. names_on n more (trimmed (lines_of c.in-Some.behind.now))) (sym c.saturating_add-number.ensures) in
    sym here ∙ c.loop-behind.invariant
