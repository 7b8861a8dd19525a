-- Spans: what is passed over is derived, and what is refused can be ended.
use Rattle.std.proofs.Common.{◌≡◌, ◌<◌, Bool, true, false, List, [], ◌∷◌, ◌++◌, length, Some, refl, sym, subst, ◌∙◌, arith, append_assoc}
use Rattle.std.specs.Prelude.{◌&&◌}
use Rattle.c_tok.specs.declared.mark.Mark.{Mark}
use Rattle.c_tok.specs.declared.mark.Mark.TheVariants as m
use Rattle.c_tok.specs.declared.token.CTokKind.{CTokKind}
use Rattle.c_tok.specs.declared.token.CTokKind.TheVariants as c
use Rattle.c_tree.specs.declared.at.At.{At}
use Rattle.c_tree.specs.declared.height.Heights.{Heights}
use Rattle.c_tree.specs.declared.height.Tall.{Tall}
use Rattle.c_tree.specs.Heights.{tall}
use Rattle.c_decl.specs.declared.kind.Mode.{Mode}
use Rattle.c_decl.specs.Tokens.{Token, tok, mark, nowhere, head_of}
use Rattle.c_decl.specs.State.{State}
use Rattle.c_decl.specs.Marks.{passable, closer}
use Rattle.c_decl.specs.Grammar as g
use Rattle.c_decl.specs.Grammar.{Tree, Derives, begins_specs, is_paren}
use Rattle.c_decl.specs.Input.{Input, Parser, head, next, left}
use Rattle.c_decl.specs.Entries as en
use Rattle.c_decl.specs.Entries.{Entry, phrase_of}
use Rattle.c_decl.specs.Declarators as dr
use Rattle.c_decl.proofs.Tests.{or_false}
use Rattle.c_decl.proofs.Runs.{Needs, at}
use Rattle.c_decl.proofs.Took.{Says, Goes, Moves, Open, opened, can, done, moves, loop_to, mark_then, choose, then_, then_by}
use Rattle.c_decl.proofs.SoundDeclarators as sd
use Rattle.c_decl.proofs.SoundDeclarators.{word_is}
use Rattle.c_decl.proofs.Got.{Parts, part_reads, Got}

-- the beginning of what doesn't begin with a word doesn't either
no_word : (a : Bool) (S : State) (us more : List Token) → a && en.word_comes (at (us ++ more) S) ≡ false → a && begins_specs S us ≡ false
no_word true S [] more off = refl
no_word false S us more off = refl
no_word true S (t ∷ us) more off = sym (word_is (t ∷ us ++ more) S) ∙ off

passes_needs : {A : Type 0} (inside : Bool) → Needs {A = A} (λ _. en.passes inside)
unfolding en.passes head left
passes_needs inside _ i on = by i.rest on where
  by : (rest : List Token) → en.passes_kind inside (head_of rest) ≡ true → 0 < length rest
  by [] e = absurd cc
  by (t ∷ rest) e = omega arith

module _ (mode : Mode) (part : (c : Entry) → Parser (Tall (Tree (phrase_of c)))) (room : Heights) (parts : Parts mode part) where
  abbrev Passed : Bool → State → Says (Tall (Unit {0}))
  Passed inside S x us k = Derives mode (g.passed inside) S x.height us tt k.state

  within_ends : {inside : Bool} {S T : State} {h : Heights} {us : List Token} → Derives mode (g.passed inside) S h us tt T
      → (a : At) (o : CTokKind) (close : Mark) → closer o ≡ Some close
      → (seen more ending : List Token) → is_paren o && en.word_comes (at (seen ++ more) T) ≡ false → (g' : Heights) (U : State)
      → Derives mode (g.span true) T g' (seen ++ ending) tt U
      → Open (Passed inside S) ((us ++ (tok o a ∷ [])) ++ seen)
  within_ends {T = T} f a o close is [] more ending off g' U h =
      opened (mark nowhere close) (can (tall tt _) T (g.within a nowhere o close is (no_word (is_paren o) T [] more off) f
      (g.spanned g.begun)) (simp append_assoc))
  within_ends {T = T} f a o close is (t ∷ seen) more ending off g' U h =
      opened (ending ++ mark nowhere close) (can (tall tt _) U
      (g.within a nowhere o close is (no_word (is_paren o) T (t ∷ seen) more off) f h) (simp append_assoc))

  bracketed_goes : {inside : Bool} {S T : State} (x : Tall (Unit {0})) (us : List Token) → Passed inside S x us (at [] T)
      → (a : At) (o : CTokKind) (close : Mark) → closer o ≡ Some close → (rest : List Token)
      → is_paren o && en.word_comes (at rest T) ≡ false → Goes (Passed inside S) (us ++ (tok o a ∷ [])) (at rest T)
      (dr.bracketed mode part room x close (at rest T))
  unfolding dr.bracketed
  bracketed_goes {T = T} x us f a o close is rest off =
      let Off : List Token → Type 0 = λ z. is_paren o && en.word_comes (at z T) ≡ false in
      then_by (part_reads parts (en.span true) (at rest T))
      (λ seen more ending y U parts h. within_ends f a o close is seen more ending (subst Off parts off) y.height U h)
      (λ y k vs parts h. mark_then close _ λ b more. done (g.within a b o close is
      (no_word (is_paren o) T vs k.rest (subst Off parts off)) f h) refl)

  paren_goes : {inside : Bool} {S T : State} (x : Tall (Unit {0})) (us : List Token) → Passed inside S x us (at [] T)
      → (a : At) (rest : List Token)
      → Goes (Passed inside S) (us ++ mark a m.OpenParen) (at rest T) (dr.opened mode part room x true m.CloseParen (at rest T))
  unfolding dr.opened dr.typed_span
  paren_goes {T = T} x us f a rest = choose (en.word_comes (at rest T)) _ _
      (λ _. then_ (sd.type_name_reads mode part room parts (at rest T)) λ y k vs h. mark_then m.CloseParen _ λ b more.
      done (g.typed a b f h) refl)
      (λ off. bracketed_goes x us f a (c.Mark m.OpenParen) m.CloseParen refl rest off)

  pass_kind : {inside : Bool} {S T : State} (x : Tall (Unit {0})) (us : List Token) → Passed inside S x us (at [] T)
      → (o : CTokKind) (a : At) (rest : List Token)
      → en.passes_kind inside (Some o) ≡ true → Moves (Passed inside S) us (at (tok o a ∷ rest) T)
      (dr.pass_next mode part room x (Some o) (at (tok o a ∷ rest) T))
  unfolding next dr.opened
  pass_kind x us f (c.Mark m.OpenParen) a rest on = moves (paren_goes x us f a rest)
  pass_kind x us f (c.Mark m.OpenBracket) a rest on = moves (bracketed_goes x us f a (c.Mark m.OpenBracket) m.CloseBracket refl rest refl)
  pass_kind x us f (c.Mark m.Question) a rest on = moves (bracketed_goes x us f a (c.Mark m.Question) m.Colon refl rest refl)
  pass_kind {inside = inside} x us f o a rest on = moves (done (g.over a o (or_false (passable inside o) on) f) refl)

  pass_moves : {inside : Bool} {S : State} (x : Tall (Unit {0})) (T : State) (rest us : List Token) → en.passes inside (at rest T) ≡ true
      → Passed inside S x us (at [] T)
      → Moves (Passed inside S) us (at rest T) (dr.pass mode part room x (at rest T))
  unfolding dr.pass en.passes head
  pass_moves x T [] us on f = absurd cc
  pass_moves x T (t ∷ rest) us on f = pass_kind x us f t.kind t.at rest on

  abbrev Whole_ : Bool → State → Says (Tall (Unit {0}))
  Whole_ inside S x us k = Passed inside S x us k × (en.passes inside k ≡ false)

  pub span_reads : (inside : Bool) (i : Input) → Goes (Got mode (en.span inside) i.state) [] i (dr.spanned mode part room inside i)
  unfolding dr.spanned
  span_reads inside i =
      then_ {D = Whole_ inside i.state} (loop_to {D = Passed inside i.state}
      (λ _. en.passes inside) (passes_needs inside) (dr.pass mode part room) (λ x k us on f. pass_moves x k.state k.rest us on f)
      (λ x us k f off. (f, off)) _ i [] g.begun) λ x k us f. done (g.spanned f.0, f.1) refl
