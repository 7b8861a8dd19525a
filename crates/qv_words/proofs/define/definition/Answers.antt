use Rattle.std.proofs.Common.{◌≡◌, false, Option, sym, ap, subst, lit<}
use Rattle.std.specs.Prelude.{IfOk, option_map, if◌then◌else◌, codes}
use Rattle.std.specs.List.{list_any, before_first, after_first}
use Rattle.qv_words.specs.Define.{is_equals, defined_as, definition_of}
use Rattle.qv_words.specs.Shown.{define_shown}
use Rattle.qv_words.proofs.Defining.{Pair, lacking}
use Rattle.qv_words.proofs.define.definition.Goals as goal

pub returns-in-None : goal.returns-in-None
returns-in-None c =
    let value = c.args.value.now in
    let none : list_any is_equals value ≡ false = lacking is_equals value (c.in-None.ensures.byte (lit< tt) (λ w o h. h)) in
    let P : Option Pair → Type 0 = λ y. IfOk c.defined_as-in-None.result (λ d. option_map define_shown d ≡ y) in
    let e : defined_as value (codes "1") ≡ definition_of value = sym (ap (λ k. if k then defined_as (before_first is_equals value) (after_first is_equals value) else defined_as value (codes "1")) none) in
    subst P e c.defined_as-in-None.ensures
