-- What is known of each part, and what is read one after another.
use Rattle.std.proofs.Common.{◌≡◌, ◌+◌, ◌<◌, Bool, true, false, List, [], ◌∷◌, Ok, refl, append_assoc}
use Rattle.c_tok.specs.declared.mark.Mark.{Mark}
use Rattle.c_tok.specs.declared.mark.Mark.TheVariants as m
use Rattle.c_tok.specs.declared.token.CTokKind.TheVariants as c
use Rattle.c_type.specs.declared.kind.IntKind.TheVariants as int_kind
use Rattle.c_tok.specs.declared.constant.Constant.{Constant}
use Rattle.c_tree.specs.declared.expr.Expr.TheVariants as e
use Rattle.c_tree.specs.declared.height.Tall.{Tall}
use Rattle.c_tree.specs.Heights as class
use Rattle.c_tree.specs.Heights.{none, raise}
use Rattle.c_decl.specs.declared.kind.Mode.{Mode}
use Rattle.c_decl.specs.Tokens.{Token, tok, nowhere}
use Rattle.c_decl.specs.State.{State}
use Rattle.c_decl.specs.Marks.{tight}
use Rattle.c_decl.specs.Grammar as g
use Rattle.c_decl.specs.Grammar.{Phrase, Tree, Derives}
use Rattle.c_decl.specs.Input.{Input, Parser, and_then, head, sees, looped}
use Rattle.c_decl.specs.Entries as en
use Rattle.c_decl.specs.Entries.{Entry, phrase_of}
use Rattle.c_decl.proofs.Tests.{and_left}
use Rattle.c_decl.proofs.Runs.{at}
use Rattle.c_decl.proofs.Took.{as_, Says, Of, Goes, Reads, done, skip_mark, then_, loop}

-- What else is known where a part ends: no operator comes next that it could take, and before an `else` a statement is closed.
abbrev pub Got : (mode : Mode) (c : Entry) → State → Says (Tall (Tree (phrase_of c)))
Got mode (en.binary n) S x ts k = Derives mode (g.binary (n + 1)) S x.height ts x.tree k.state × (tight (head k) < n + 1)
Got mode (en.span inside) S x ts k = Derives mode (g.span inside) S x.height ts x.tree k.state × (en.passes inside k ≡ false)
Got mode en.statement S x ts k = Derives mode (g.statement false) S x.height ts x.tree k.state
    × (sees m.Else k ≡ true → Derives mode (g.statement true) S x.height ts x.tree k.state)
Got mode c S x ts k = Derives mode (phrase_of c) S x.height ts x.tree k.state

pub plain : {mode : Mode} (c : Entry) {S : State} (x : Tall (Tree (phrase_of c))) (ts : List Token) (k : Input) → Got mode c S x ts k
    → Of mode (phrase_of c) S x ts k
plain (en.binary n) x ts k got = got.0
plain (en.span inside) x ts k got = got.0
plain en.statement x ts k got = got.0
plain en.comma x ts k got = got
plain en.assignment x ts k got = got
plain en.conditional x ts k got = got
plain en.cast x ts k got = got
plain en.unary x ts k got = got
plain en.init x ts k got = got
plain en.members x ts k got = got
plain (en.declarator _ _) x ts k got = got
plain (en.direct _ _) x ts k got = got
plain (en.behind_label _ _) x ts k got = got
plain en.block x ts k got = got

-- what is read as each part, and refused
abbrev pub Parts : (mode : Mode) → ((c : Entry) → Parser (Tall (Tree (phrase_of c)))) → Type 0
Parts mode part = (c : Entry) (i : Input) → Goes (Got mode c i.state) [] i (part c i)

pub part_reads : {mode : Mode} {part : (c : Entry) → Parser (Tall (Tree (phrase_of c)))} → Parts mode part → (c : Entry) (i : Input)
    → Reads mode (phrase_of c) i (part c i)
part_reads parts c i = as_ (plain c) (parts c i)

-- ---- one after another

module _ {mode : Mode} where
  -- more behind commas
  pub commas : {p : Phrase} (q : Parser (Tall (Tree p))) → ((i : Input) → Reads mode p i (q i)) → (more : Input → Bool)
      → ((i : Input) → more i ≡ true → sees m.Comma i ≡ true)
      → {S : State} (x : Tall (List (Tree p))) (j : Input) (us : List Token) → Derives mode (g.parted p) S x.height us x.tree j.state
      → Goes (Of mode (g.parted p) S) us j (looped (λ _. more) (en.comma_then q) x j)
  unfolding en.comma_then
  commas q reads more comes = loop (λ y k vs on f.
      skip_mark m.Comma (λ i. and_then (q i) (λ x l. Ok (en.with_next y x, l))) (comes k on) λ a rest.
      then_ (reads (at rest k.state)) λ z l ws h. done (g.another a f h) (simp append_assoc))

  pub parted_reads : {p : Phrase} (q : Parser (Tall (Tree p))) → ((i : Input) → Reads mode p i (q i)) → (i : Input)
      → Reads mode (g.parted p) i (en.parted q i)
  unfolding en.parted
  parted_reads q reads i = then_ (reads i) λ x j us f. commas q reads (sees m.Comma) (λ _ on. on) _ j us (g.one f)

  pub parted_before_reads : {p : Phrase} (stop : Mark) (q : Parser (Tall (Tree p))) → ((i : Input) → Reads mode p i (q i)) → (i : Input)
      → Reads mode (g.parted p) i (en.parted_before stop q i)
  unfolding en.parted_before en.comma_before
  parted_before_reads stop q reads i = then_ (reads i) λ x j us f.
      commas q reads (en.comma_before stop) (λ k on. and_left (sees m.Comma k) _ on) _ j us (g.one f)

  pub some_reads : {p : Phrase} (more : Input → Bool) (q : Parser (Tall (Tree p))) → ((i : Input) → Reads mode p i (q i)) → (i : Input)
      → Reads mode (g.some p) i (en.some_while more q i)
  unfolding en.some_while en.then_one
  some_reads more q reads i = then_ (reads i) λ x j us f. loop
      (λ y k vs _ h. then_ (reads k) λ z l ws h'. done (g.further h h') refl) _ j us (g.first f)

-- ---- shortest texts

abbrev pub zero_ : Constant
zero_ = record { value = 0; kind = int_kind.Int }

abbrev pub nought : {mode : Mode} {S : State} → Derives mode g.primary S (raise class.expression none)
    (tok (c.Constant zero_) nowhere ∷ []) (e.Constant nowhere 0 int_kind.Int) S
nought = g.constant {a = nowhere} {v = zero_}

abbrev pub nought_cast : {mode : Mode} {S : State} → Derives mode g.cast S (raise class.expression none)
    (tok (c.Constant zero_) nowhere ∷ []) (e.Constant nowhere 0 int_kind.Int) S
nought_cast = g.uncast (g.bare (g.simple nought))

abbrev pub nought_assignment : {mode : Mode} {S : State} → Derives mode g.assignment S (raise class.expression none)
    (tok (c.Constant zero_) nowhere ∷ []) (e.Constant nowhere 0 int_kind.Int) S
nought_assignment = g.valued (g.tested (g.operand nought_cast))
