-- The bytes that a call lends, at most two texts.
use Rattle.std.specs.Prelude.{ℕ, ◌-◌, List, [], ◌∷◌, ◌++◌, length, replicate}
use Rattle.trap_sig.specs.declared.inputs.Inputs.{Inputs}
use Rattle.trap_sig.specs.declared.inputs.Inputs.TheVariants.{Nothing, One, Two}

abbrev pub texts_of : Inputs → List (List ℕ)
texts_of Nothing = []
texts_of (One first) = first.now ∷ []
texts_of (Two first second) = first.now ∷ second.now ∷ []

-- two texts, where those that are absent are empty
abbrev pub with_absent : List (List ℕ) → List (List ℕ)
with_absent texts = texts ++ replicate (2 - length texts) []
