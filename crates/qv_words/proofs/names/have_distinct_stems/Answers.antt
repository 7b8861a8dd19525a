use Rattle.std.proofs.Common.{◌≡◌, ◌<◌, true, false, [], ◌∷◌, ◌++◌, length, get_or, take, map, sym, ap, ◌∙◌, arith}
use Rattle.std.specs.Prelude.{string_bytes, if◌then◌else◌}
use Rattle.std.specs.List.{list_any}
use Rattle.std.specs.Str.{bytes_eq}
use Rattle.std.proofs.lemmas.List.{length-map, get_or-map, map-append, take_more}
use Rattle.qv_words.specs.Names.{stem_of}
use Rattle.qv_words.proofs.Distinct.{came_before, not_before, any_lent, more_distinct, not_distinct}
use Rattle.qv_words.proofs.names.have_distinct_stems.Goals as goal

pub returns-then-not-branch : goal.returns-then-not-branch
returns-then-not-branch c =
    let units = map string_bytes c.args.units.now in
    let stems = map stem_of units in
    let i = c.loop-unit.unit-index in
    let lt : i < length units = omega (arith, c.loop-unit-test.true, length-map c.args.units.now string_bytes) in
    let is : get_or stems i [] ≡ c.stem.result.now =
    get_or-map stem_of units i [] [] lt ∙ ap stem_of (get_or-map string_bytes c.args.units.now i c.unit-item.result [] c.loop-unit-test.true ∙ ap string_bytes (sym c.unit-item.is) ∙ sym c.as_str.ensures.value) ∙ sym c.stem.ensures in
    let came : list_any (bytes_eq c.stem.result.now) (take i stems) ≡ true =
    ap (list_any (bytes_eq c.stem.result.now)) (sym c.loop-unit.invariant.stems) ∙ sym (any_lent c.stem.result.now c.loop-unit.stems.keys)
    ∙ came_before c.in_ok-insert.field-0 (list_any (λ k. bytes_eq c.stem.result.now k.now) c.loop-unit.stems.keys) c.in_ok-insert.ensures.added c.if-not-branch.true in
    sym (not_distinct stems i c.stem.result.now (omega (arith, lt, length-map units stem_of)) is came)

pub loop-unit-preserved : goal.loop-unit-preserved
loop-unit-preserved c =
    let units = map string_bytes c.args.units.now in
    let stems = map stem_of units in
    let i = c.loop-unit.unit-index in
    let lt : i < length units = omega (arith, c.loop-unit-test.true, length-map c.args.units.now string_bytes) in
    let within : i < length stems = omega (arith, lt, length-map units stem_of) in
    let is : get_or stems i [] ≡ c.stem.result.now =
    get_or-map stem_of units i [] [] lt ∙ ap stem_of (get_or-map string_bytes c.args.units.now i c.unit-item.result [] c.loop-unit-test.true ∙ ap string_bytes (sym c.unit-item.is) ∙ sym c.as_str.ensures.value) ∙ sym c.stem.ensures in
    let lent : list_any (λ k. bytes_eq c.stem.result.now k.now) c.loop-unit.stems.keys ≡ false =
    not_before c.in_ok-insert.field-0 (list_any (λ k. bytes_eq c.stem.result.now k.now) c.loop-unit.stems.keys) c.in_ok-insert.ensures.added c.if-not-branch.false in
    let other : list_any (bytes_eq c.stem.result.now) (take i stems) ≡ false =
    ap (list_any (bytes_eq c.stem.result.now)) (sym c.loop-unit.invariant.stems) ∙ sym (any_lent c.stem.result.now c.loop-unit.stems.keys) ∙ lent in
    record {
      stems =
          ap (map (λ k. k.now)) (c.in_ok-insert.ensures.keys ∙ ap (λ k. if k then c.loop-unit.stems.keys else c.loop-unit.stems.keys ++ c.stem.result ∷ []) lent)
          ∙ map-append (λ k. k.now) c.loop-unit.stems.keys (c.stem.result ∷ []) ∙ ap (λ l. l ++ c.stem.result.now ∷ []) c.loop-unit.invariant.stems
          ∙ ap (λ s. take i stems ++ s ∷ []) (sym is) ∙ sym (take_more stems i [] within);
      distinct = more_distinct stems i c.stem.result.now within is other c.loop-unit.invariant.distinct;
    }
