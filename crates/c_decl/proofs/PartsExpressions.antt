-- Expressions and initializers that are read from the midst of a unit's tokens are what the public calls promise.
use Rattle.std.proofs.Common.{◌≡◌, ℕ, zero, suc, ◌+◌, ◌<◌, ◌≤◌, true, false, cond, List, [], ◌++◌, length, Option, Some, None, Result, Ok, Err, refl, sym, ap, subst, ◌∙◌, arith}
use Rattle.std.specs.Prelude.{nat_lt}
use Rattle.std.proofs.lemmas.Bool.{ltb-true}
use Rattle.std.proofs.lemmas.List.{append-nil}
use Rattle.c_type.specs.declared.operator.BinOp.{BinOp}
use Rattle.c_tok.specs.declared.mark.Mark.TheVariants as m
use Rattle.c_tok.specs.declared.token.CTok.{CTok}
use Rattle.c_tok.specs.declared.token.CTokKind.{CTokKind}
use Rattle.c_tok.specs.declared.token.CTokKind.TheVariants as c
use Rattle.c_names.specs.declared.names.Declared.{Declared}
use Rattle.c_tree.specs.declared.declaration.Init.{Init}
use Rattle.c_tree.specs.declared.expr.Expr.{Expr}
use Rattle.c_tree.specs.declared.height.Heights.{Heights}
use Rattle.c_tree.specs.declared.height.Tall.{Tall}
use Rattle.c_tree.specs.Heights as class
use Rattle.c_tree.specs.Heights.{raise, lower, count, sum, Below, tall}
use Rattle.c_decl.specs.declared.fault.Halt.{Halt}
use Rattle.c_decl.specs.declared.fault.ParseFault.{ParseFault}
use Rattle.c_decl.specs.declared.kind.Mode.TheVariants.{Whole}
use Rattle.c_decl.specs.declared.read.Read.{Read}
use Rattle.c_decl.specs.Tokens.{Token, head_of, same_mark}
use Rattle.c_decl.specs.State.{State}
use Rattle.c_decl.specs.Marks.{tight, assign_of}
use Rattle.c_decl.specs.Grammar as g
use Rattle.c_decl.specs.Grammar.{Phrase, Tree, Derives}
use Rattle.c_decl.specs.Input.{Input, Outcome, Parser, left, next, head, sees, expect, is_mark}
use Rattle.c_decl.specs.Entries as en
use Rattle.c_decl.specs.Entries.{Entry, phrase_of, class_of, fits}
use Rattle.c_decl.specs.Expressions as er
use Rattle.c_decl.specs.Reading.{reader, read, layer}
use Rattle.c_decl.specs.Units.{limits}
use Rattle.c_decl.specs.Told.{Tells}
use Rattle.c_decl.specs.Parts.{no_operator, no_comma, anything, ReadsComma, ReadsAssignment, ReadsConditional, ReadsInit}
use Rattle.c_decl.proofs.Runs.{at, Meets, fine, refused, bind_meets, weaker, if_meets, looped_meets, eat_then, sees_needs}
use Rattle.c_decl.proofs.Room.{room_raised}
use Rattle.c_decl.proofs.Local.{parts_steady}
use Rattle.c_decl.proofs.SoundExpressions as sx
use Rattle.c_decl.proofs.Sound.{sound, sound_part}
use Rattle.c_decl.proofs.Got as got
use Rattle.c_decl.proofs.Children.{counted, child}
use Rattle.c_decl.proofs.Complete.{complete}
use Rattle.c_decl.proofs.Sinks.{Sinks, Low}
use Rattle.c_decl.proofs.SinksDeclarators as si
use Rattle.c_decl.proofs.SinksExpressions as se
use Rattle.c_decl.proofs.PartsTold.{IsLow, Stopped, Facts, part_read}
use Rattle.c_decl.proofs.PartsRead.{any, pick_meets, next_smaller, Limited, enough, is_low, part_start}

-- ---- within any room

low_layer : {part : (c : Entry) → Parser (Tall (Tree (phrase_of c)))} {room : Heights} → si.Lows Whole part room → (c : Entry)
    → si.covers Whole c ≡ true → (i : Input) → Sinks (Low (raise (class_of c) room)) i (layer Whole part room c i)
low_layer {part = part} {room = room} parts en.comma on i = se.comma_low part room parts i
low_layer {part = part} {room = room} parts en.assignment on i = se.assignment_low part room parts i
low_layer {part = part} {room = room} parts en.conditional on i = se.conditional_low part room parts i
low_layer {part = part} {room = room} parts en.cast on i = se.cast_low part room parts i
low_layer {part = part} {room = room} parts en.unary on i = se.unary_low part room parts i
low_layer {part = part} {room = room} parts en.init on i = se.init_low part room parts i
low_layer {part = part} {room = room} parts (en.binary n) on i = se.binary_low part room parts (n + 1) i
low_layer {part = part} {room = room} parts en.members on i = si.enclosed_low Whole part room parts i
low_layer {part = part} {room = room} parts (en.declarator kind typed) on i = si.declarator_low Whole part room parts kind typed i
low_layer {part = part} {room = room} parts (en.direct kind typed) on i = si.direct_low Whole part room parts kind typed i
low_layer {part = part} {room = room} parts (en.span inside) on i = si.span_low Whole part room parts inside i
low_layer parts _ on i = absurd cc

lows : (n : ℕ) (room : Heights) → si.Lows Whole (reader Whole n room) room
unfolding reader
lows zero room c on i = refused tt
lows (suc n) room c on i = if_meets (nat_lt 0 (count (class_of c) room))
    (λ some. subst (λ (z : Heights). Sinks (Low z) i (layer Whole (reader Whole n (lower (class_of c) room)) (lower (class_of c) room) c i))
    (room_raised (class_of c) room (ltb-true 0 _ some)) (low_layer (lows n (lower (class_of c) room)) c on i))
    (λ _. refused tt)

-- ---- what comes next

abbrev Ends : {X : Type 0} → Outcome (Tall X) → Type 0
Ends o = Meets (λ x j. tight (head_of j.rest) < 3) (λ _. Unit {0}) o

no_question : (o : Option CTokKind) → tight o < 4 → is_mark m.Question o ≡ false → tight o < 3
unfolding same_mark
no_question (Some (c.Mark m.Question)) lt off = absurd cc
no_question _ lt off = omega arith

met : {A : Type 0} {P : A → Input → Type 0} {Q : Halt → Type 0} {a : A} {j : Input} → Meets P Q (Ok (a, j)) → P a j
met (fine h) = h

both : {A : Type 0} {P P' : A → Input → Type 0} {Q Q' : Halt → Type 0} (o : Outcome A) → Meets P Q o → Meets P' Q' o
    → Meets (λ x j. P x j × P' x j) (λ _. Unit {0}) o
both (Ok p) h k = fine (met h, met k)
both (Err e) h k = refused tt

module _ (part : (c : Entry) → Parser (Tall (Tree (phrase_of c)))) (room : Heights) (parts : got.Parts Whole part) where
  binary_ends : (i : Input) → Meets (λ x j. tight (head_of j.rest) < 4) (λ _. Unit {0}) (er.binary_rule Whole part room 4 i)
  unfolding head
  binary_ends i = weaker (sx.binary_reads Whole part room parts 4 (omega arith) i) (λ _ _. tt) (λ x k t. t.derives.1)

  module _ (conditionals : (i : Input) → Ends (part en.conditional i)) where
    chosen_ends : (x : Tall Expr) (i : Input) → Ends (er.chosen Whole part room x i)
    unfolding er.chosen
    chosen_ends x i = bind_meets (any (fits room x.height i)) (λ _ q. q) λ _ j _. bind_meets (any (part en.comma j)) (λ _ q. q) λ y k _.
        bind_meets (any (expect m.Colon k)) (λ _ q. q) λ _ l _. bind_meets (conditionals l) (λ _ q. q) λ z l' lt. fine lt

    conditional_ends : (i : Input) → Ends (er.conditional_rule Whole part room i)
    unfolding er.conditional_rule sees head
    conditional_ends i = bind_meets (binary_ends i) (λ _ q. q) λ x j lt. eat_then m.Question j
        (λ b. cond {A = Parser (Tall Expr)} b (er.chosen Whole part room x) (λ k. Ok (x, k)))
        (λ p more _ _. chosen_ends x (at more j.state)) (λ off. fine (no_question (head_of j.rest) lt off))

    module _ (assignments : (i : Input) → Ends (part en.assignment i)) where
      assign_ends : (x : Tall Expr) (o : Option (Option BinOp)) (i : Input) → tight (head_of i.rest) < 3
          → Ends (er.assign_by Whole part room x o i)
      unfolding er.assigned
      assign_ends x (Some op) i lt = bind_meets (any (fits room x.height (next i))) (λ _ q. q) λ _ j _.
          bind_meets (assignments j) (λ _ q. q) λ y k lt'. fine lt'
      assign_ends x None i lt = fine lt

      assignment_ends : (i : Input) → Ends (er.assignment_rule Whole part room i)
      unfolding er.assignment_rule er.assign_or
      assignment_ends i = bind_meets (conditional_ends i) (λ _ q. q) λ x j lt. pick_meets (en.is_unary x.tree) _ _
          (λ _. assign_ends x (assign_of (head j)) j lt) (λ _. fine lt)

      module _ (lows_ : si.Lows Whole part room) where
        joined_ends : (x : Tall Expr) (i : Input) → Ends (er.joined Whole part room x i)
        unfolding er.joined
        joined_ends x i = bind_meets (any (fits room x.height i)) (λ _ q. q) λ _ j _.
            bind_meets (assignments j) (λ _ q. q) λ y k lt. fine lt

        turn_ends : (x : Tall Expr) (i : Input) → sees m.Comma i ≡ true
            → Meets (λ y j. (tight (head_of j.rest) < 3) × (left j < left i)) (λ _. Unit {0}) (er.comma_next Whole part room x i)
        unfolding er.comma_next
        turn_ends x i on = weaker (both (er.joined Whole part room x (next i)) (joined_ends x (next i))
            (se.joined_low part room lows_ x (next i)))
            (λ _ _. tt) (λ y j s. (
              s.0,
              let a : left j ≤ left (next i) = s.1.less in
                  let b : left (next i) < left i = next_smaller i (sees_needs {A = Tall Expr} m.Comma x i on) in omega arith,
            ))

        comma_ends : (i : Input) → Stopped g.comma no_comma (er.comma_rule Whole part room i)
        unfolding er.comma_rule sees head
        comma_ends i = bind_meets (assignment_ends i) (λ _ q. q) λ x j lt. looped_meets (λ _. sees m.Comma) (sees_needs m.Comma)
            (er.comma_next Whole part room) (λ y k. tight (head_of k.rest) < 3) (λ _. Unit {0}) (λ y k on _. turn_ends y k on) x j lt

conditional_stops : (n : ℕ) (room : Heights) (i : Input) → Ends (reader Whole n room en.conditional i)
unfolding reader
conditional_stops zero room i = refused tt
conditional_stops (suc n) room i = if_meets (nat_lt 0 (count class.expression room))
    (λ _. conditional_ends _ (lower class.expression room) (sound Whole n (lower class.expression room))
    (conditional_stops n (lower class.expression room)) i) (λ _. refused tt)

assignment_stops : (n : ℕ) (room : Heights) (i : Input) → Ends (reader Whole n room en.assignment i)
unfolding reader
assignment_stops zero room i = refused tt
assignment_stops (suc n) room i = if_meets (nat_lt 0 (count class.expression room))
    (λ _. assignment_ends _ (lower class.expression room) (sound Whole n (lower class.expression room))
    (conditional_stops n (lower class.expression room)) (assignment_stops n (lower class.expression room)) i) (λ _. refused tt)

comma_stops : (n : ℕ) (room : Heights) (i : Input) → Stopped g.comma no_comma (reader Whole n room en.comma i)
unfolding reader
comma_stops zero room i = refused tt
comma_stops (suc n) room i = if_meets (nat_lt 0 (count class.expression room))
    (λ _. comma_ends _ (lower class.expression room) (sound Whole n (lower class.expression room))
    (conditional_stops n (lower class.expression room)) (assignment_stops n (lower class.expression room))
    (lows n (lower class.expression room)) i) (λ _. refused tt)

-- ---- what is known of the reading functions

plain_end : (c : Entry) (S T : State) (h : Heights) (ts : List Token) (x : Tree (phrase_of c))
    → Limited Whole c (at (ts ++ []) S) ≡ Ok (tall x h, at [] T) → Limited Whole c (at ts S) ≡ Ok (tall x h, at [] T)
plain_end c S T h ts x e = ap (λ (z : List Token). Limited Whole c (at z S)) (sym (append-nil ts)) ∙ e

comma_facts : Facts Whole g.comma no_comma (Limited Whole en.comma)
comma_facts = record {
  sound = λ i. sound_part Whole (sum limits) limits en.comma i;
  stops = comma_stops (sum limits) limits;
  local = λ F. (parts_steady F Whole (sum limits) limits enough).comma;
  complete = λ S T h ts x d low. plain_end en.comma S T h ts x
      ((child en.comma enough low (counted d) (λ j l q b. complete d j l q b)).gives [] (omega arith));
}

assignment_facts : Facts Whole g.assignment no_operator (Limited Whole en.assignment)
assignment_facts = record {
  sound = λ i. sound_part Whole (sum limits) limits en.assignment i;
  stops = assignment_stops (sum limits) limits;
  local = λ F. (parts_steady F Whole (sum limits) limits enough).assignment;
  complete = λ S T h ts x d low. plain_end en.assignment S T h ts x
      ((child en.assignment enough low (counted d) (λ j l q b. complete d j l q b)).gives [] (omega arith));
}

conditional_facts : Facts Whole g.conditional no_operator (Limited Whole en.conditional)
conditional_facts = record {
  sound = λ i. sound_part Whole (sum limits) limits en.conditional i;
  stops = conditional_stops (sum limits) limits;
  local = λ F. (parts_steady F Whole (sum limits) limits enough).conditional;
  complete = λ S T h ts x d low. plain_end en.conditional S T h ts x
      ((child en.conditional enough low (counted d) (λ j l q b. complete d j l q b)).gives [] (omega arith));
}

init_facts : Facts Whole g.init anything (Limited Whole en.init)
init_facts = record {
  sound = λ i. sound_part Whole (sum limits) limits en.init i;
  stops = λ i. any (Limited Whole en.init i);
  local = λ F. (parts_steady F Whole (sum limits) limits enough).init;
  complete = λ S T h ts x d low. plain_end en.init S T h ts x
      ((child en.init enough low (counted d) (λ j l q b. complete d j l q b)).gives [] (omega arith));
}

low_read : (c : Entry) → si.covers Whole c ≡ true → (i : Input) → IsLow (Limited Whole c i)
low_read c on i = is_low (lows (sum limits) limits c on i)

-- ---- what a call answers that reads so, unless memory is refused

module _ (toks : List CTok) (n : ℕ) (le : n ≤ length toks) (names after : List Declared) where
  abbrev Outcome_of : (c : Entry) → Outcome (Tall (Tree (phrase_of c)))
  Outcome_of c = read Whole limits c (part_start toks n names)

  pub comma_read : (result : Result (Read Expr) ParseFault) → Tells toks (Outcome_of en.comma) after result
      → ReadsComma toks n names after result
  unfolding read
  comma_read = part_read comma_facts toks n le names (low_read en.comma refl (part_start toks n names)) after

  pub assignment_read : (result : Result (Read Expr) ParseFault) → Tells toks (Outcome_of en.assignment) after result
      → ReadsAssignment toks n names after result
  unfolding read
  assignment_read = part_read assignment_facts toks n le names (low_read en.assignment refl (part_start toks n names)) after

  pub conditional_read : (result : Result (Read Expr) ParseFault) → Tells toks (Outcome_of en.conditional) after result
      → ReadsConditional toks n names after result
  unfolding read
  conditional_read = part_read conditional_facts toks n le names (low_read en.conditional refl (part_start toks n names)) after

  pub init_read : (result : Result (Read Init) ParseFault) → Tells toks (Outcome_of en.init) after result
      → ReadsInit toks n names after result
  unfolding read
  init_read = part_read init_facts toks n le names (low_read en.init refl (part_start toks n names)) after
