use Rattle.std.proofs.Common.{◌≡◌, [], ◌∷◌, map, drop, sym, ap, ◌∙◌, arith}
use Rattle.std.specs.Prelude.{string_bytes, is_some}
use Rattle.std.proofs.lemmas.List.{nil_from_length}
use Rattle.qv_words.specs.Words.{read_from, with_switch, with_option}
use Rattle.qv_words.specs.Shown.{options_shown}
use Rattle.qv_words.proofs.Reading.{switch_read, option_read, missing_read, read_on, read_refused, first_word}
use Rattle.qv_words.proofs.words.read_first.Goals as goal

pub returns-then-not-branch-clause-reading : goal.returns-then-not-branch-clause-reading
returns-then-not-branch-clause-reading c =
    let o = options_shown c.args.options.now in
    let words = map string_bytes c.args.rest.now in
    read_refused c.args.verb o (options_shown c.read_switch.new.options) c.in_ok-read_switch.field-0 (with_switch c.args.verb o c.args.word.now) (read_from c.args.verb (c.args.word.now ∷ words) o) words
    (switch_read c.args.verb o c.args.word.now words (sym (ap is_some c.switch_named.ensures) ∙ sym c.is_some.ensures ∙ c.if-is_some.true)) c.in_ok-read_switch.ensures c.if-not-branch.true

pub returns-then-is_some-clause-reading : goal.returns-then-is_some-clause-reading
returns-then-is_some-clause-reading c =
    let o = options_shown c.args.options.now in
    let words = map string_bytes c.args.rest.now in
    read_on c.args.verb o (options_shown c.read_switch.new.options) c.in_ok-read_switch.field-0 (with_switch c.args.verb o c.args.word.now) (read_from c.args.verb (c.args.word.now ∷ words) o) words
    (switch_read c.args.verb o c.args.word.now words (sym (ap is_some c.switch_named.ensures) ∙ sym c.is_some.ensures ∙ c.if-is_some.true)) c.in_ok-read_switch.ensures c.if-not-branch.false

pub returns-in_default-clause-reading : goal.returns-in_default-clause-reading
returns-in_default-clause-reading c =
    let o = options_shown c.args.options.now in
    let none : c.args.rest.now ≡ [] = nil_from_length c.args.rest.now (omega (arith, c.in_default.len_below)) in
    ap (λ l. read_from c.args.verb (c.args.word.now ∷ map string_bytes l) o) none
    ∙ missing_read c.args.verb o c.args.word.now (sym (ap is_some c.switch_named.ensures) ∙ sym c.is_some.ensures ∙ c.if-is_some.false) c.requires

pub returns-then-not-branch-2-clause-reading : goal.returns-then-not-branch-2-clause-reading
returns-then-not-branch-2-clause-reading c =
    let o = options_shown c.args.options.now in
    let words = map string_bytes (drop 1 c.args.rest.now) in
    let value = c.as_str.result.now in
    read_refused c.args.verb o (options_shown c.read_option.new.options) c.in_ok-read_option.field-0 (with_option c.args.verb o c.args.word.now value) (read_from c.args.verb (c.args.word.now ∷ map string_bytes c.args.rest.now) o) words
    (ap (λ l. read_from c.args.verb (c.args.word.now ∷ l) o) (first_word string_bytes c.args.rest.now c.value-item.result value (omega (arith, c.in-len1-up.len_at_least)) c.value-item.is c.as_str.ensures.value)
    ∙ option_read c.args.verb o c.args.word.now value words (sym (ap is_some c.switch_named.ensures) ∙ sym c.is_some.ensures ∙ c.if-is_some.false) c.requires)
    c.in_ok-read_option.ensures c.if-not-branch-2.true

pub returns-clause-reading : goal.returns-clause-reading
returns-clause-reading c =
    let o = options_shown c.args.options.now in
    let words = map string_bytes (drop 1 c.args.rest.now) in
    let value = c.as_str.result.now in
    read_on c.args.verb o (options_shown c.read_option.new.options) c.in_ok-read_option.field-0 (with_option c.args.verb o c.args.word.now value) (read_from c.args.verb (c.args.word.now ∷ map string_bytes c.args.rest.now) o) words
    (ap (λ l. read_from c.args.verb (c.args.word.now ∷ l) o) (first_word string_bytes c.args.rest.now c.value-item.result value (omega (arith, c.in-len1-up.len_at_least)) c.value-item.is c.as_str.ensures.value)
    ∙ option_read c.args.verb o c.args.word.now value words (sym (ap is_some c.switch_named.ensures) ∙ sym c.is_some.ensures ∙ c.if-is_some.false) c.requires)
    c.in_ok-read_option.ensures c.if-not-branch-2.false
