-- Lines of text one after another are one section.
use Rattle.std.proofs.Common.{◌≡◌, Bool, true, false, not, List, [], ◌∷◌, ◌++◌, refl, sym, ap, ◌∙◌, append_assoc}
use Rattle.std.specs.Prelude.{if◌then◌else◌}
use Rattle.pp_tok.specs.declared.token.PpTok.{PpTok}
use Rattle.pp_tok.specs.declared.token.PpLine.{PpLine}
use Rattle.pp_dir.specs.declared.passage.Passage.{Passage}
use Rattle.pp_dir.specs.declared.passage.Passage.TheVariants as p
use Rattle.pp_dir.specs.Forms.{begins_directive, onto_section, passages_of}
use Rattle.pp_dir.specs.Parting.{begins_text}

-- the tokens of a line behind those of a section
abbrev pub with_line : PpLine → PpLine → PpLine
with_line s l = record { number = s.number; toks = s.toks ++ l.toks }

onto_twice : (s l : PpLine) (ps : List Passage) → onto_section s (onto_section l ps) ≡ onto_section (with_line s l) ps
onto_twice s l [] = refl
onto_twice s l (p.Section t ∷ ps) = ap (λ (ts : List PpTok). p.Section (record { number = s.number; toks = ts }) ∷ ps) (sym (append_assoc s.toks l.toks t.toks))
onto_twice s l (p.Directive t ∷ ps) = refl

chosen : (b : Bool) (x y : List Passage) → b ≡ false → (if b then x else y) ≡ y
chosen true x y is = absurd cc
chosen false x y is = refl

taken : (b : Bool) (x y : List Passage) → b ≡ true → (if b then x else y) ≡ x
taken true x y is = refl
taken false x y is = absurd cc

text : (b : Bool) → not b ≡ true → b ≡ false
text true is = absurd cc
text false is = refl

no_text : (b : Bool) → not b ≡ false → b ≡ true
no_text true is = refl
no_text false is = absurd cc

first_text : (l : PpLine) (ls : List PpLine) → begins_text (l ∷ ls) ≡ true → passages_of (l ∷ ls) ≡ onto_section l (passages_of ls)
unfolding passages_of
first_text l ls is = chosen (begins_directive l.toks) _ _ (text (begins_directive l.toks) is)

first_directive : (l : PpLine) (ls : List PpLine) → begins_text (l ∷ ls) ≡ false → passages_of (l ∷ ls) ≡ p.Directive l ∷ passages_of ls
unfolding passages_of
first_directive l ls is = taken (begins_directive l.toks) _ _ (no_text (begins_directive l.toks) is)

module _ (old ls : List PpLine) (l : PpLine) (is : old ≡ l ∷ ls) where
  pub text_first : begins_text old ≡ true → passages_of old ≡ onto_section l (passages_of ls)
  text_first h = ap passages_of is ∙ first_text l ls (ap begins_text (sym is) ∙ h)

  pub directive_first : begins_text old ≡ false → passages_of old ≡ p.Directive l ∷ passages_of ls
  directive_first h = ap passages_of is ∙ first_directive l ls (ap begins_text (sym is) ∙ h)

  pub text_goes : (s : PpLine) → begins_text old ≡ true → onto_section s (passages_of old) ≡ onto_section (with_line s l) (passages_of ls)
  text_goes s h = ap (onto_section s) (text_first h) ∙ onto_twice s l (passages_of ls)

ends_none : (s : PpLine) → onto_section s (passages_of []) ≡ p.Section s ∷ passages_of []
unfolding passages_of
ends_none s = refl

pub section_ends : (s : PpLine) (ls : List PpLine) → begins_text ls ≡ false → onto_section s (passages_of ls) ≡ p.Section s ∷ passages_of ls
section_ends s [] none = ends_none s
section_ends s (l ∷ ls) none = ap (onto_section s) (first_directive l ls none) ∙ ap (λ ps. p.Section s ∷ ps) (sym (first_directive l ls none))

pub no_passages : (ls : List PpLine) → ls ≡ [] → passages_of ls ≡ []
unfolding passages_of
no_passages [] is = refl
no_passages (l ∷ ls) is = absurd cc
