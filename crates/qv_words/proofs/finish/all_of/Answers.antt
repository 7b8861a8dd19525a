use Rattle.std.proofs.Common.{◌≡◌, ℕ, List, Some, map, ap}
use Rattle.std.specs.Prelude.{string_bytes, option_map}
use Rattle.qv_words.specs.declared.verb.Verb.{Verb}
use Rattle.qv_words.specs.Words.{Options, Qall, steps_in, calls_in, all_of}
use Rattle.qv_words.specs.Shown.{define_shown, options_shown}
use Rattle.qv_words.proofs.finish.all_of.Goals as goal

-- a command whose parts are those of the options
built : (verb : Verb) (o : Options) (units : List (List ℕ)) (defs : List (List ℕ × List ℕ)) (steps : ℕ) (calls : List (List ℕ)) (image : List ℕ) →
    defs ≡ o.defs → steps ≡ steps_in verb o → calls ≡ calls_in o → o.image ≡ Some image →
    Some (Qall (record { dirs = o.dirs; defs = defs; binds = o.binds; seed_size = o.seed_size; steps = steps; calls = calls; image = image; units = units })) ≡ all_of verb o units
built verb o units defs steps calls image is_defs is_steps is_calls is_image = rw (is_defs, is_steps, is_calls, is_image)

pub returns-clause-reading : goal.returns-clause-reading
returns-clause-reading c =
    built c.args.verb (options_shown c.args.options) (map string_bytes c.args.units.items) (map define_shown c.in_ok-defs.defs.items) c.steps_in.result c.in_ok-calls.calls.items (string_bytes c.in-Some.image)
    (ap (map define_shown) c.in_ok-defs.ensures) c.steps_in.ensures c.in_ok-calls.ensures.all (ap (option_map string_bytes) c.in-Some.is)
