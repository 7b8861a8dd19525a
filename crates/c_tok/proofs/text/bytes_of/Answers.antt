use Rattle.std.proofs.Common.{◌-◌, ◌++◌, drop, sym, ap, ◌∙◌}
use Rattle.std.specs.Prelude.{option_map}
use Rattle.std.proofs.lemmas.List.{take_rest}
use Rattle.c_tok.specs.Texts.{bytes_of}
use Rattle.c_tok.proofs.Characters.{bytes_none, bytes_more, bytes_done}
use Rattle.c_tok.proofs.text.bytes_of.Goals as goal

pub returns-in_default-character_at : goal.returns-in_default-character_at
returns-in_default-character_at c =
    sym (bytes_none c.loop-first.bytes c.in-Some.first.now c.in-Some.behind.now (bytes_of c.args.text.now) (sym c.character_at.ensures.value ∙ c.in_default-character_at.is)
    (ap (λ r. option_map (λ more. c.loop-first.bytes ++ more) (bytes_of r)) (sym c.in-Some.ensures.cases.0) ∙ c.loop-first.invariant))

pub loop-first-preserved : goal.loop-first-preserved
loop-first-preserved c =
    let behind = c.in-Some.behind.now in
    let character = c.in-Some-character_at.character in
    ap (λ r. option_map (λ more. c.push.new.self ++ more) (bytes_of r)) (take_rest behind (character.length - 1))
    ∙ ap (λ l. option_map (λ more. l ++ more) (bytes_of (drop (character.length - 1) behind))) c.in_ok-push.ensures.ok
    ∙ bytes_more c.loop-first.bytes c.in-Some.first.now behind character (bytes_of c.args.text.now) (sym c.character_at.ensures.value ∙ c.in-Some-character_at.is)
    (ap (λ r. option_map (λ more. c.loop-first.bytes ++ more) (bytes_of r)) (sym c.in-Some.ensures.cases.0) ∙ c.loop-first.invariant)

pub returns : goal.returns
returns c = bytes_done c.loop-first.bytes c.loop-first.rest.now (bytes_of c.args.text.now) c.in_default.ensures.cases c.loop-first.invariant
