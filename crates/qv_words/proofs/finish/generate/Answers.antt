use Rattle.std.proofs.Common.{◌≡◌, [], length, map, Option, sym, ap, ◌∙◌, subst, arith}
use Rattle.std.specs.Prelude.{string_bytes, option_map, IfOk}
use Rattle.std.proofs.lemmas.Bool.Decides.{nat_tests}
use Rattle.std.proofs.lemmas.List.{nil_from_length}
use Rattle.qv_words.specs.declared.verb.Verb.TheVariants.{Generate}
use Rattle.qv_words.specs.Words.{Command, all_of, generates}
use Rattle.qv_words.specs.Shown.{command_shown, options_shown}
use Rattle.qv_words.proofs.finish.generate.Goals as goal

pub returns-clause-reading : goal.returns-clause-reading
returns-clause-reading c =
    let o = options_shown c.args.options in
    let zero_names : length c.args.names.now ≡ 0 = grind (arith, nat_tests, c.is_empty.ensures, c.if-not-is_empty.false) in
    let none : c.args.names.now ≡ [] = nil_from_length c.args.names.now zero_names in
    let P : Option Command → Type 0 = λ y. IfOk c.all_of.result (λ k. option_map command_shown k ≡ y) in
    subst P (ap (λ l. all_of Generate o (map string_bytes l)) c.new.ensures.items ∙ sym (ap (λ l. generates o (map string_bytes l)) none)) c.all_of.ensures.reading
