use Rattle.std.proofs.Common.{◌≡◌, ◌<◌, ◌≤◌, ℕ, List, [], Bool, true, false, length, map, get_or, string_bytes, below_more, sym, ap, ◌∙◌, arith}
use Rattle.std.specs.Prelude.{codes}
use Rattle.std.specs.Str.{bytes_eq}
use Rattle.std.proofs.lemmas.List.{get_or-map, length-map}
use Rattle.std.proofs.lemmas.List.Sums.{position_or_len_is}
use Rattle.qv_tool.specs.Own.{own_place}
use Rattle.qv_tool.proofs.own.own_from.Goals as goal

abbrev is_mark : List ℕ → Bool
is_mark word = bytes_eq word (codes "--")

module _ {W : Type 0} (text : W → List ℕ) where
  -- whether the word at a place is the mark
  at_place : (words : List W) (i : ℕ) (word : W) → i < length words → word ≡ get_or words i word → (found : Bool) → is_mark (text word) ≡ found → is_mark (get_or (map text words) i []) ≡ found
  at_place words i word lt is found e = ap is_mark (get_or-map text words i word [] lt ∙ sym (ap text is)) ∙ e

  -- a place before which there is no mark is the first one's where the mark stands there, or the words end there
  first_place : (words : List W) (i : ℕ) → i ≤ length words → ((k : ℕ) → k < i → is_mark (get_or (map text words) k []) ≡ false) → (i < length words → is_mark (get_or (map text words) i []) ≡ true) → i ≡ own_place (map text words)
  first_place words i le before here =
      sym (position_or_len_is is_mark (map text words) i [] (omega (arith, length-map words text)) before (λ lt. here (omega (arith, length-map words text))))

pub returns-then-eq : goal.returns-then-eq
returns-then-eq c =
    let words = c.args.words.now in
    let here = at_place string_bytes words c.loop-place.place c.index-words-place.result c.loop-place-test.true c.index-words-place.is true (ap is_mark (sym c.as_str.ensures.value) ∙ sym c.eq.ensures ∙ c.if-eq.true) in
    first_place string_bytes words c.loop-place.place (omega arith) c.loop-place.invariant (λ _. here)

pub loop-place-preserved : goal.loop-place-preserved
loop-place-preserved c =
    below_more _ _ c.loop-place.invariant
    (at_place string_bytes c.args.words.now c.loop-place.place c.index-words-place.result c.loop-place-test.true c.index-words-place.is false (ap is_mark (sym c.as_str.ensures.value) ∙ sym c.eq.ensures ∙ c.if-eq.false))

pub returns : goal.returns
returns c =
    let e : c.loop-place.place ≡ length c.args.words.now = omega arith in
    sym e ∙ first_place string_bytes c.args.words.now c.loop-place.place (omega arith) c.loop-place.invariant (λ lt. absurd (omega arith))
