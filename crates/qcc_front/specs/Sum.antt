-- Sums of terms, and what a unit that returns one does.
use Rattle.std.specs.Prelude.{ℕ, List, [], ◌∷◌, map, slice_index}
use Rattle.qv_base.specs.Word.{plus, minus}
use Rattle.qcc_front.specs.declared.sum.Term.{Term}
use Rattle.qcc_front.specs.declared.sum.Term.TheVariants.{Command, Number}
use Rattle.qcc_front.specs.declared.sum.Sign.{Sign}
use Rattle.qcc_front.specs.declared.sum.Sign.TheVariants.{Plus, Minus}
use Rattle.qcc_front.specs.declared.sum.SignedTerm.{SignedTerm}
use Rattle.qcc_front.specs.Source.{SourceRun, Done}

-- a first term, and those that are added or taken away behind it
pub record Sum : Type 0 where
  pub first : Term
  pub rest : List SignedTerm

-- a term's value, where the parameter has the value command
abbrev pub term_value : ℕ → Term → ℕ
term_value command Command = command
term_value command (Number n) = n

-- sums and differences of int wrap
abbrev pub combined : Sign → ℕ → ℕ → ℕ
combined Plus a b = plus a b
combined Minus a b = minus a b

-- operators of one rank go from left to right
abbrev pub value_from : ℕ → ℕ → List SignedTerm → ℕ
value_from command a [] = a
value_from command a (t ∷ ts) = value_from command (combined t.sign a (term_value command t.term)) ts

-- the sum's value as a word
abbrev pub value : Sum → ℕ → ℕ
value e command = value_from command (term_value command e.first) e.rest

-- `int vmMain(int command) { return E; }`: each call returns the sum's value at its first word, with no
-- turn and no event
abbrev pub sum_run : Sum → SourceRun
sum_run e table calls replies n = Done (map (λ args. value e (slice_index args 0)) calls) []
