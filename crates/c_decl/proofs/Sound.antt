-- What is read is derived, and what is refused can be ended, whatever the room.
use Rattle.std.proofs.Common.{ℕ, zero, suc, ◌+◌, Bool, true, false, List, [], ◌∷◌, ◌++◌, refl, arith, append_assoc}
use Rattle.c_tok.specs.declared.mark.Mark.TheVariants as m
use Rattle.c_tok.specs.declared.token.CTokKind.TheVariants as c
use Rattle.c_tree.specs.declared.expr.Specs.{Specs}
use Rattle.c_tree.specs.declared.height.Heights.{Heights}
use Rattle.c_tree.specs.declared.height.Tall.{Tall}
use Rattle.c_tree.specs.Heights as class
use Rattle.c_tree.specs.Heights.{tall}
use Rattle.c_decl.specs.declared.kind.DeclKind.{DeclKind}
use Rattle.c_decl.specs.declared.kind.DeclKind.TheVariants as k
use Rattle.c_decl.specs.declared.kind.Mode.{Mode}
use Rattle.c_decl.specs.Tokens.{Token, tok, mark, name, nowhere}
use Rattle.c_decl.specs.State.{State}
use Rattle.c_decl.specs.Grammar as g
use Rattle.c_decl.specs.Grammar.{Tree, Derives}
use Rattle.c_decl.specs.Input.{Input, Parser, head}
use Rattle.c_decl.specs.Entries as en
use Rattle.c_decl.specs.Entries.{Entry, phrase_of}
use Rattle.c_decl.proofs.Runs.{if_meets}
use Rattle.c_decl.proofs.Took.{Says, Of, Goes, Reads, Open, opened, can, refuses, as_}
use Rattle.c_decl.proofs.Fresh.{fresh_named, fresh}
use Rattle.c_decl.proofs.SoundDeclarators as sd
use Rattle.c_decl.proofs.SoundSpans as sp_
use Rattle.c_decl.specs.Reading as rd
use Rattle.c_decl.proofs.SoundExpressions as sx
use Rattle.c_decl.proofs.SoundPassed as sa
use Rattle.c_decl.proofs.SoundStatements as ss
use Rattle.c_decl.proofs.Got.{Parts, Got, plain, nought, nought_cast, nought_assignment, zero_}

-- ---- the shortest text of each

least_direct : (mode : Mode) (kind : DeclKind) (typed : Bool) (S : State) → Open (Of mode (g.direct kind typed) S) []
least_direct mode k.Named typed S = opened (name nowhere (fresh S))
    (can (tall _ _) S (g.solid refl (g.naming refl (fresh_named typed S))) refl)
least_direct mode k.Param typed S = opened (name nowhere (fresh S))
    (can (tall _ _) S (g.solid refl (g.naming refl (fresh_named typed S))) refl)
least_direct mode k.Abstract typed S = opened (mark nowhere m.OpenBracket ++ mark nowhere m.CloseBracket)
    (can (tall _ _) S (g.solid refl (g.array nowhere nowhere (g.absent refl) g.left_out)) refl)

up : {A B : Type 0} {D : Says A} {E : Says B} {ts : List Token} (f : A → B)
    → ((x : A) (us : List Token) (k : Input) → D x us k → E (f x) us k) → Open D ts → Open E ts
up f more o = opened o.closing (can (f o.can.tree) o.can.behind (more o.can.tree _ _ o.can.derives) refl)

least_member : {mode : Mode} {S T : State} {h : Heights} {ts : List Token} {x : Specs} → Derives mode (g.specs true) S h ts x T
    → Open (Of mode g.member S) ts
least_member {T = T} {x = x} f = opened (name nowhere (fresh T) ++ mark nowhere m.Semicolon)
    (can (tall _ _) _ (g.member_of nowhere false f (g.one (g.plain_field
    (g.straight (g.solid refl (g.naming {a = nowhere} {n = fresh T} refl (fresh_named x.is_typed T))))))) (simp append_assoc))

least_members : (mode : Mode) (S : State) → Open (Of mode g.members S) []
least_members mode S =
    let o : Open (Of mode g.member S) (mark nowhere m.Int) = least_member
    (g.specified (g.a_spec (g.word nowhere (c.Mark m.Int) refl refl))) in
    opened (mark nowhere m.OpenBrace ++ (mark nowhere m.Int ++ o.closing) ++ mark nowhere m.CloseBrace)
    (can (tall _ _) _ (g.enclosed nowhere nowhere (g.first o.can.derives)) refl)

pub at_once : (mode : Mode) (c : Entry) (S : State) → Open (Got mode c S) []
unfolding head en.passes
at_once mode en.comma S = opened (tok (c.Constant zero_) nowhere ∷ []) (can (tall _ _) S (g.alone nought_assignment) refl)
at_once mode en.assignment S = opened (tok (c.Constant zero_) nowhere ∷ []) (can (tall _ _) S nought_assignment refl)
at_once mode en.conditional S = opened (tok (c.Constant zero_) nowhere ∷ []) (can (tall _ _) S (g.tested (g.operand nought_cast)) refl)
at_once mode en.cast S = opened (tok (c.Constant zero_) nowhere ∷ []) (can (tall _ _) S nought_cast refl)
at_once mode en.unary S = opened (tok (c.Constant zero_) nowhere ∷ []) (can (tall _ _) S (g.bare (g.simple nought)) refl)
at_once mode en.init S = opened (tok (c.Constant zero_) nowhere ∷ []) (can (tall _ _) S (g.value nought_assignment) refl)
at_once mode (en.binary n) S = opened (tok (c.Constant zero_) nowhere ∷ []) (can (tall _ _) S (g.operand nought_cast, (omega arith)) refl)
at_once mode (en.span inside) S = opened [] (can (tall tt _) S (g.spanned g.begun, refl) refl)
at_once mode en.members S = least_members mode S
at_once mode (en.direct kind typed) S = least_direct mode kind typed S
at_once mode (en.declarator kind typed) S = up (λ x. x) (λ _ _ _ f. g.straight f) (least_direct mode kind typed S)
at_once mode en.statement S = opened (mark nowhere m.Semicolon)
    (can (tall _ _) S (g.expression nowhere g.left_out, λ _. g.expression nowhere g.left_out) refl)
at_once mode (en.behind_label a n) S = opened (mark nowhere m.Colon ++ mark nowhere m.Semicolon)
    (can (tall _ _) S (g.colon nowhere (g.expression nowhere g.left_out)) refl)
at_once mode en.block S = opened (mark nowhere m.OpenBrace ++ mark nowhere m.CloseBrace)
    (can (tall _ _) _ (g.braced nowhere nowhere (g.empty {S = S})) refl)

-- ---- one layer

module _ (mode : Mode) (part : (c : Entry) → Parser (Tall (Tree (phrase_of c)))) (room : Heights) (parts : Parts mode part) where
  pub layer_reads : (c : Entry) (i : Input) → Goes (Got mode c i.state) [] i (rd.layer mode part room c i)
  layer_reads en.comma i = sx.comma_reads mode part room parts i
  layer_reads en.assignment i = sx.assignment_reads mode part room parts i
  layer_reads en.conditional i = sx.conditional_reads mode part room parts i
  layer_reads en.cast i = sx.cast_reads mode part room parts i
  layer_reads en.unary i = sx.unary_reads mode part room parts i
  layer_reads en.init i = sx.init_reads mode part room parts i
  layer_reads (en.binary n) i = sx.binary_reads mode part room parts (n + 1) (omega arith) i
  layer_reads (en.span inside) i = sa.span_reads mode part room parts inside i
  layer_reads en.members i = sp_.enclosed_reads mode part room parts i
  layer_reads (en.declarator kind typed) i = sd.declarator_reads mode part room parts kind typed i
  layer_reads (en.direct kind typed) i = sd.direct_reads mode part room parts kind typed i
  layer_reads en.statement i = ss.statement_reads mode part room parts i
  layer_reads (en.behind_label a n) i = as_ (λ _ _ _ f. f.0) (ss.colon_reads mode part room parts a n i)
  layer_reads en.block i = ss.block_reads mode part room parts i

-- ---- whatever the room

pub sound : (mode : Mode) (n : ℕ) (room : Heights) (c : Entry) (i : Input) → Goes (Got mode c i.state) [] i (rd.reader mode n room c i)
unfolding rd.reader
sound mode zero room c i = refuses (at_once mode c i.state)
sound mode (suc n) room c i = if_meets _
    (λ _. layer_reads mode (rd.reader mode n (class.lower (en.class_of c) room)) (class.lower (en.class_of c) room)
    (sound mode n (class.lower (en.class_of c) room)) c i)
    (λ _. refuses (at_once mode c i.state))

-- a part that is read is derived
pub sound_part : (mode : Mode) (n : ℕ) (room : Heights) (c : Entry) (i : Input) → Reads mode (phrase_of c) i (rd.reader mode n room c i)
sound_part mode n room c i = as_ (plain c) (sound mode n room c i)
