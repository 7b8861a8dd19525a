use Rattle.std.proofs.Common.{◌≡◌, map, drop, Option, sym, ap, ◌∙◌, subst}
use Rattle.std.specs.Prelude.{string_bytes, option_map, IfOk}
use Rattle.std.proofs.lemmas.List.{take_rest}
use Rattle.qv_words.specs.Words.{Command, command_with, read_from}
use Rattle.qv_words.specs.Shown.{command_shown, options_shown}
use Rattle.qv_words.proofs.Reading.{names_at, no_names_at}
use Rattle.qv_words.proofs.words.read_from.Goals as goal
use Rattle.qv_words.proofs.words.read_from.Goals.{then-loop-at-test+else-begins_with_dash, else-loop-at-test}

pub returns-clause-reading : goal.returns-clause-reading
returns-clause-reading c =
    let o = options_shown c.loop-at.options in
    let words = c.args.words.now in
    let at = c.loop-at.at in
    let names : command_with c.args.verb o (map string_bytes (drop at words)) ≡ read_from c.args.verb (map string_bytes (drop at words)) o =
    elim c.loop-at-test.branch [
      | then-loop-at-test+else-begins_with_dash w ↦
          names_at string_bytes c.args.verb o words at w.index-words-at.result w.as_bytes.result.now w.loop-at-test.true w.index-words-at.is w.as_bytes.ensures.value (sym w.begins_with_dash.ensures ∙ w.if-begins_with_dash.false)
      | else-loop-at-test w ↦ no_names_at string_bytes c.args.verb o words at w.loop-at-test.false
    ] in
    let P : Option Command → Type 0 = λ y. IfOk c.command_with.result (λ k. option_map command_shown k ≡ y) in
    subst P (ap (λ l. command_with c.args.verb o (map string_bytes l)) (take_rest words at) ∙ names ∙ c.loop-at.invariant.read) c.command_with.ensures.reading
