-- Texts that passing goes over, one behind another.
use Rattle.std.proofs.Common.{◌≡◌, ◌<◌, Bool, true, false, List, [], ◌∷◌, ◌++◌, Option, Some, None, refl, sym, ap, subst, ◌∙◌, arith, append_assoc}
use Rattle.std.specs.Prelude.{◌&&◌}
use Rattle.std.proofs.lemmas.List.{append-nil}
use Rattle.c_type.specs.declared.operator.BinOp.{BinOp}
use Rattle.c_tok.specs.declared.mark.Mark.{Mark}
use Rattle.c_tok.specs.declared.mark.Mark.TheVariants as m
use Rattle.c_tok.specs.declared.token.CTokKind.{CTokKind}
use Rattle.c_tok.specs.declared.token.CTokKind.TheVariants as c
use Rattle.c_tree.specs.declared.at.At.{At}
use Rattle.c_tree.specs.declared.operator.Access.{Access}
use Rattle.c_tree.specs.declared.operator.Infix.{Infix}
use Rattle.c_tree.specs.declared.operator.Step.{Step}
use Rattle.c_tree.specs.declared.operator.UnaryOp.{UnaryOp}
use Rattle.c_tree.specs.declared.expr.TypeName.{TypeName}
use Rattle.c_tree.specs.declared.height.Heights.{Heights}
use Rattle.c_tree.specs.Heights as class
use Rattle.c_tree.specs.Heights.{none, join, raise, lower, count, Below}
use Rattle.c_decl.specs.declared.kind.Mode.TheVariants.{Spans}
use Rattle.c_decl.specs.Tokens.{Token, tok, mark}
use Rattle.c_decl.specs.State.{State}
use Rattle.c_decl.specs.Marks.{passable, closer, access_of, step_of, unary_of, infix_of, assign_of}
use Rattle.c_decl.specs.Grammar as g
use Rattle.c_decl.specs.Grammar.{Phrase, Tree, Derives, begins_specs, is_paren}
use Rattle.c_decl.proofs.Room.{both_below, none_below, inner_below, outer_below, room_raised, count_below}
use Rattle.c_decl.proofs.Begins.{First, starts}
use Rattle.c_decl.proofs.Seconds.{expr_word}

-- ---- texts

-- a text that passing goes over
pub record Text (bound : Heights) (b : Bool) (S : State) (ts : List Token) (T : State) : Type 0 where
  pub height : Heights
  pub low : Below height bound
  pub derives : Derives Spans (g.passed b) S height ts tt T

-- passing goes on over ts
pub record Goes (bound : Heights) (b : Bool) (S : State) (ts : List Token) (T : State) : Type 0 where
  pub go : (K : State) (us : List Token) → Text bound b K us S → Text bound b K (us ++ ts) T

-- a span with commas, as between brackets
pub record Inside (bound : Heights) (S : State) (ts : List Token) (T : State) : Type 0 where
  pub height : Heights
  pub low : Below height bound
  pub derives : Derives Spans (g.span true) S height ts tt T

-- what nests so deep is passed over with one less
pub record Texts (b : Bool) (S : State) (h : Heights) (ts : List Token) (T : State) : Type 0 where
  pub goes : (bound : Heights) → Below h (raise class.expression bound) → Goes bound b S ts T

-- it may stand between brackets, and begins with no word of specifiers
pub record Bracketed (S : State) (h : Heights) (ts : List Token) (T : State) : Type 0 where
  pub inside : (bound : Heights) → 0 < count class.expression bound → Below h bound → Inside bound S ts T
  pub word : begins_specs S ts ≡ false

regroup : (vs ts us : List Token) (o : CTokKind) (a : At) (ws : List Token)
    → (vs ++ ts) ++ (tok o a ∷ []) ++ us ++ ws ≡ vs ++ (ts ++ (tok o a ∷ []) ++ us ++ ws)
regroup vs ts us o a ws = simp append_assoc

module _ {bound : Heights} {b : Bool} where
  pub stay : {S : State} → Goes bound b S [] S
  stay {S = S} = record { go = λ K us t. subst (λ (z : List Token). Text bound b K z S) (sym (append-nil us)) t }

  pub then_ : {S T U : State} {ts us : List Token} → Goes bound b S ts T → Goes bound b T us U → Goes bound b S (ts ++ us) U
  then_ {U = U} {ts = ts} {us = us} r s = record {
    go = λ K vs t. subst (λ (z : List Token). Text bound b K z U) (append_assoc vs ts us) (s.go K (vs ++ ts) (r.go K vs t));
  }

  -- one token more
  pub over : {S T : State} {ts : List Token} (a : At) (o : CTokKind) → passable b o ≡ true → Goes bound b S ts T
      → Goes bound b S (ts ++ (tok o a ∷ [])) T
  over a o on r = then_ r (record { go = λ K us t. record { height = t.height; low = t.low; derives = g.over a o on t.derives } })

  -- brackets with a span between them
  pub boxed : {S T U : State} {ts us : List Token} (a a' : At) (o : CTokKind) (close : Mark) → closer o ≡ Some close
      → is_paren o && begins_specs T us ≡ false → Goes bound b S ts T → Inside bound T us U
      → Goes bound b S (ts ++ (tok o a ∷ []) ++ us ++ mark a' close) U
  boxed {U = U} {ts = ts} {us = us} a a' o close is off r s = record {
    go = λ K vs t. let k = r.go K vs t in subst (λ (z : List Token). Text bound b K z U) (regroup vs ts us o a (mark a' close))
        (record {
          height = join k.height s.height;
          low = both_below _ _ bound k.low s.low;
          derives = g.within a a' o close is off k.derives s.derives;
        });
  }

  -- parentheses with a type name between them
  pub cast_over : {S T U : State} {h : Heights} {ts us : List Token} {x : TypeName} (a a' : At) → Goes bound b S ts T → Below h bound
      → Derives Spans g.type_name T h us x U → Goes bound b S (ts ++ mark a m.OpenParen ++ us ++ mark a' m.CloseParen) U
  cast_over {U = U} {h = h} {ts = ts} {us = us} a a' r low d = record {
    go = λ K vs t. let k = r.go K vs t in
        subst (λ (z : List Token). Text bound b K z U) (regroup vs ts us (c.Mark m.OpenParen) a (mark a' m.CloseParen))
        (record { height = join k.height h; low = both_below _ _ bound k.low low; derives = g.typed a a' k.derives d });
  }

pub start : {bound : Heights} {b : Bool} {S : State} → Text bound b S [] S
start {bound = bound} = record { height = none; low = none_below bound; derives = g.begun }

pub span_of : {S T : State} {h : Heights} {ts : List Token} (b : Bool) → Texts b S h ts T → (bound : Heights)
    → 0 < count class.expression bound → Below h bound → Text (lower class.expression bound) b S ts T
span_of {S = S} {h = h} b t bound some low =
    (t.goes (lower class.expression bound) (rw (room_raised class.expression bound some) low)).go S [] start

pub span_low : {h : Heights} (bound : Heights) → 0 < count class.expression bound → Below h (lower class.expression bound)
    → Below (raise class.expression h) bound
span_low {h = h} bound some low =
    let up = outer_below class.expression h (lower class.expression bound) low in rw (room_raised class.expression bound some) at up

-- what stands between brackets
pub bracketed : {S T : State} {h : Heights} {ts : List Token} → Texts true S h ts T → First (starts S) ts → Bracketed S h ts T
bracketed {S = S} t first = record {
  inside = λ bound some low. let k = span_of true t bound some low in
      record { height = raise class.expression k.height; low = span_low bound some k.low; derives = g.spanned k.derives };
  word = ap (λ (z : List Token). begins_specs S z) first.is ∙ expr_word S first.first first.ok;
}

some_room : {h bound : Heights} → 0 < count class.expression h → Below h bound → 0 < count class.expression bound
some_room {h = h} {bound = bound} some low = omega (arith, count_below class.expression h bound low)

pub inner : {h bound : Heights} → Below (raise class.expression h) (raise class.expression bound) → Below h bound
inner {h = h} {bound = bound} low = inner_below class.expression h bound low

paren_off : (o : CTokKind) (off : Bool) → off ≡ false → is_paren o && off ≡ false
paren_off o off e = rw e (by_test (is_paren o)) where
  by_test : (b : Bool) → b && false ≡ false
  by_test true = refl
  by_test false = refl

-- brackets around what is derived, where something else nests too
pub around : {bound : Heights} {b : Bool} {S T U : State} {f h : Heights} {ts us : List Token} (a a' : At) (o : CTokKind) (close : Mark)
    → closer o ≡ Some close → 0 < count class.expression f → Below f bound → Below h bound → Goes bound b S ts T → Bracketed T h us U
    → Goes bound b S (ts ++ (tok o a ∷ []) ++ us ++ mark a' close) U
around {bound = bound} a a' o close is some low low' r s =
    boxed a a' o close is (paren_off o _ s.word) r (s.inside bound (some_room some low) low')

-- ---- operators are passed over

passes_if : {A : Type 0} (f : Option CTokKind → Option A) (b : Bool)
    → f (Some (c.Mark m.OpenParen)) ≡ None → f (Some (c.Mark m.CloseParen)) ≡ None → f (Some (c.Mark m.OpenBracket)) ≡ None
    → f (Some (c.Mark m.CloseBracket)) ≡ None → f (Some (c.Mark m.OpenBrace)) ≡ None → f (Some (c.Mark m.CloseBrace)) ≡ None
    → f (Some (c.Mark m.Semicolon)) ≡ None → f (Some (c.Mark m.Question)) ≡ None → f (Some (c.Mark m.Colon)) ≡ None
    → f (Some (c.Mark m.Comma)) ≡ None → (o : CTokKind) {a : A} → f (Some o) ≡ Some a → passable b o ≡ true
passes_if f b c1 c2 c3 c4 c5 c6 c7 c8 c9 c10 (c.Mark m.OpenParen) e = absurd cc
passes_if f b c1 c2 c3 c4 c5 c6 c7 c8 c9 c10 (c.Mark m.CloseParen) e = absurd cc
passes_if f b c1 c2 c3 c4 c5 c6 c7 c8 c9 c10 (c.Mark m.OpenBracket) e = absurd cc
passes_if f b c1 c2 c3 c4 c5 c6 c7 c8 c9 c10 (c.Mark m.CloseBracket) e = absurd cc
passes_if f b c1 c2 c3 c4 c5 c6 c7 c8 c9 c10 (c.Mark m.OpenBrace) e = absurd cc
passes_if f b c1 c2 c3 c4 c5 c6 c7 c8 c9 c10 (c.Mark m.CloseBrace) e = absurd cc
passes_if f b c1 c2 c3 c4 c5 c6 c7 c8 c9 c10 (c.Mark m.Semicolon) e = absurd cc
passes_if f b c1 c2 c3 c4 c5 c6 c7 c8 c9 c10 (c.Mark m.Question) e = absurd cc
passes_if f b c1 c2 c3 c4 c5 c6 c7 c8 c9 c10 (c.Mark m.Colon) e = absurd cc
passes_if f b c1 c2 c3 c4 c5 c6 c7 c8 c9 c10 (c.Mark m.Comma) e = absurd cc
passes_if f b c1 c2 c3 c4 c5 c6 c7 c8 c9 c10 _ e = refl

pub access_passes : (b : Bool) (o : CTokKind) {x : Access} → access_of (Some o) ≡ Some x → passable b o ≡ true
access_passes b o e = passes_if access_of b refl refl refl refl refl refl refl refl refl refl o e

pub step_passes : (b : Bool) (o : CTokKind) {x : Step} → step_of (Some o) ≡ Some x → passable b o ≡ true
step_passes b o e = passes_if step_of b refl refl refl refl refl refl refl refl refl refl o e

pub unary_passes : (b : Bool) (o : CTokKind) {x : UnaryOp} → unary_of (Some o) ≡ Some x → passable b o ≡ true
unary_passes b o e = passes_if unary_of b refl refl refl refl refl refl refl refl refl refl o e

pub infix_passes : (b : Bool) (o : CTokKind) {x : Infix} → infix_of (Some o) ≡ Some x → passable b o ≡ true
infix_passes b o e = passes_if infix_of b refl refl refl refl refl refl refl refl refl refl o e

pub assign_passes : (b : Bool) (o : CTokKind) {x : Option BinOp} → assign_of (Some o) ≡ Some x → passable b o ≡ true
assign_passes b o e = passes_if assign_of b refl refl refl refl refl refl refl refl refl refl o e
