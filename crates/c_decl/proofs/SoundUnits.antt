-- Units: what is read is derived, and what is refused can be ended.
use Rattle.std.proofs.Common.{◌≡◌, ◌<◌, ◌≤◌, true, false, cond, length, length-append, arith, ltb-true, ltb-false, List, [], ◌∷◌, ◌++◌, Option, Ok, refl, sym, subst}
use Rattle.std.specs.Prelude.{nat_lt, ◌||◌}
use Rattle.std.proofs.Math.Seq.{take-append_seam}
use Rattle.c_tree.specs.declared.height.Heights.{Heights}
use Rattle.c_tok.specs.declared.mark.Mark.TheVariants as m
use Rattle.c_tree.specs.declared.stmt.Block.{Block}
use Rattle.c_tree.specs.declared.stmt.External.{External}
use Rattle.c_tree.specs.declared.stmt.External.TheVariants as ext
use Rattle.c_decl.specs.declared.marking.Marked.TheVariants.{ImplicitInt}
use Rattle.c_names.specs.declared.names.Declared.{Declared}
use Rattle.c_tree.specs.Begins.{declarator_at, or_at}
use Rattle.c_tree.specs.declared.expr.Specs.{Specs}
use Rattle.c_tree.specs.declared.declaring.Declaring.{Declaring}
use Rattle.c_tree.specs.declared.height.Heights.{Heights}
use Rattle.c_tree.specs.declared.height.Tall.{Tall}
use Rattle.c_tree.specs.Heights.{tall}
use Rattle.c_tree.specs.Specs.{no_specs}
use Rattle.c_decl.specs.declared.kind.DeclKind.TheVariants as k
use Rattle.c_decl.specs.declared.kind.Mode.{Mode}
use Rattle.c_decl.specs.Tokens.{Token}
use Rattle.c_decl.specs.State.{State, declares, leave, leave_out_all, enter, some_names}
use Rattle.c_decl.specs.Grammar as g
use Rattle.c_decl.specs.Grammar.{Tree, Derives}
use Rattle.c_decl.specs.Input.{Input, Parser, left, sees}
use Rattle.c_decl.specs.Entries as en
use Rattle.c_decl.specs.Entries.{Entry, phrase_of}
use Rattle.c_decl.proofs.Runs.{Needs, at}
use Rattle.c_decl.proofs.Took.{Says, loop_to, then_moves, Of, Goes, Reads, done, knowing, here_mark_then, mark_then, eat_then, then_on, choose, then_}
use Rattle.c_decl.proofs.SoundSpans as sp_
use Rattle.c_decl.specs.Statements as sr
use Rattle.c_decl.proofs.SoundStatements as ss
use Rattle.c_decl.proofs.Got.{Parts, part_reads, commas, some_reads}

block_some : {mode : Mode} {S T : State} {h : Heights} {ts : List Token} {x : Block} → Derives mode g.block S h ts x T → 0 < length ts
block_some (g.braced a b f) = simp length-append (omega arith)

-- an external declaration has a token
external_some : {mode : Mode} {S T : State} {h : Heights} {ts : List Token} {x : External} → Derives mode g.external S h ts x T
    → 0 < length ts
external_some (g.declaration_ (g.declares_none a f)) = simp length-append (omega arith)
external_some (g.declaration_ (g.declares_some a f h)) = simp length-append (omega arith)
external_some (g.definition f h f' h') = let l = block_some h' in simp length-append (omega arith)
external_some (g.implied_function f h) = let l = block_some h in simp length-append (omega arith)
external_some (g.implied_declaration a f) = simp length-append (omega arith)

some_left : {A : Type 0} → Needs {A = A} (λ _ j. nat_lt 0 (left j))
some_left _ j on = ltb-true 0 (left j) on

none_left : (j : Input) → nat_lt 0 (left j) ≡ false → j.rest ≡ []
unfolding left
none_left j off = by j.rest (ltb-false 0 (left j) off) where
  by : (rest : List Token) → length rest ≤ 0 → rest ≡ []
  by [] le = refl
  by (t ∷ rest) le = absurd (omega arith)

leave_enter : (params : Option (List Declared)) (S : State) → leave S (enter params S) ≡ S
unfolding leave enter
leave_enter params S = rw (take-append_seam S.names (some_names params)) refl

-- all is read
abbrev pub Units : Mode → State → Says (Tall (List External))
Units mode S x us k = Derives mode (g.some g.external) S x.height us x.tree k.state × (k.rest ≡ [])

module _ (mode : Mode) (part : (c : Entry) → Parser (Tall (Tree (phrase_of c)))) (room : Heights) (parts : Parts mode part) where
  old_reads : (i : Input) → Reads mode (g.optional (g.some g.declaration)) i (sr.old_declarations mode part room i)
  unfolding sr.old_declarations
  old_reads i = choose (en.word_comes i) _ _
      (λ _. then_ (some_reads _ _ (ss.declaration_reads mode part room parts) i) λ xs k us f. done (g.given f) refl)
      (λ _. done g.left_out refl)

  definition_goes : {S T U : State} (x : Tall Specs) (y : Tall Declaring) (us vs rest : List Token)
      → Derives mode (g.specs true) S x.height us x.tree T
      → Derives mode (g.declarator k.Named x.tree.is_typed) T y.height vs y.tree U
      → Goes (Of mode g.external S) (us ++ vs) (at rest (enter y.tree.params (declares y.tree.name x.tree.is_typedef U)))
      (sr.definition mode part room x y (declares y.tree.name x.tree.is_typedef U)
      (at rest (enter y.tree.params (declares y.tree.name x.tree.is_typedef U))))
  unfolding sr.definition
  definition_goes x y us vs rest f h = then_ (old_reads (at rest _)) λ z l ws f'. then_ (part_reads parts en.block l) λ b l' ws' h'.
      knowing refl (done (g.definition f h f' h') refl)

  declared_goes : {S T U : State} (x : Tall Specs) (y : Tall Declaring) (us vs rest : List Token)
      → Derives mode (g.specs true) S x.height us x.tree T
      → Derives mode (g.declarator k.Named x.tree.is_typed) T y.height vs y.tree U
      → Goes (Of mode g.external S) (us ++ vs) (at rest (declares y.tree.name x.tree.is_typedef U))
      (sr.declared_from mode part room x y (at rest (declares y.tree.name x.tree.is_typedef U)))
  unfolding sr.declared_from
  declared_goes x y us vs rest f h =
      then_on us (ss.init_or_goes mode part room parts y vs h rest) λ z k ws h'.
      then_on us (commas _ (ss.init_declarator_reads mode part room parts x.tree.is_typed x.tree.is_typedef) (sees m.Comma)
      (λ _ on. on) _ k ws (g.one h')) λ zs l ws' h''.
      mark_then m.Semicolon _ λ a more. done (g.declaration_ (g.declares_some a f h'')) refl

  specified_goes : {S : State} (x : Tall Specs) (j : Input) (us : List Token) → Derives mode (g.specs true) S x.height us x.tree j.state
      → Goes (Of mode g.external S) us j (sr.specified_from mode part room x j)
  unfolding sr.specified_from
  specified_goes {S = S} x j us f = then_ (part_reads parts (en.declarator k.Named x.tree.is_typed) j) λ y k vs h.
      let U : State = declares y.tree.name x.tree.is_typedef k.state in
      let G : State → Type 0 = λ V. Goes (Of mode g.external S) (us ++ vs) (at k.rest (enter y.tree.params U))
      (sr.declared_from mode part room x y (at k.rest V)) in
      let l : Input = at k.rest (enter y.tree.params U) in
      knowing {k = l} refl (choose (sees m.OpenBrace l || en.word_comes l) _ _
      (λ _. definition_goes x y us vs k.rest f h)
      (λ _. subst G (sym (leave_enter y.tree.params U)) (knowing refl (declared_goes x y us vs k.rest f h))))

  specified_reads : (i : Input) → Reads mode g.external i (sr.specified mode part room i)
  unfolding sr.specified
  specified_reads i = then_ (sp_.specs_reads mode part room parts true i) λ x j us f.
      eat_then m.Semicolon (λ ends. cond {A = Parser (Tall External)} ends
      (λ l. Ok (tall (ext.Declaration (record { specs = x.tree; declarators = [] })) x.height, l))
      (sr.specified_from mode part room x))
      (λ a more. done (g.declaration_ (g.declares_none a f)) refl)
      (λ _. specified_goes x j us f)

  implied_goes : {S : State} (x : Tall Declaring) (j : Input) (us : List Token)
      → Derives mode (g.declarator k.Named false) S x.height us x.tree j.state
      → Goes (Of mode g.external S) us (at j.rest (declares x.tree.name false j.state))
      (sr.implied_declaration mode part room x (at j.rest (declares x.tree.name false j.state)))
  unfolding sr.implied_declaration
  implied_goes x j us f = then_on [] (ss.init_or_goes mode part room parts x us f j.rest) λ y l vs h.
      here_mark_then m.Semicolon (λ a _ j. Ok (
        tall (ext.Declaration
            (record { specs = no_specs (or_at a (declarator_at y.tree.declarator)); declarators = y.tree ∷ [] })) y.height,
        record j { state = leave_out_all ImplicitInt (or_at a (declarator_at y.tree.declarator)) j.state },
      )) λ a more.
      knowing refl (done (g.implied_declaration a h) refl)

  implied_reads : (i : Input) → Reads mode g.external i (sr.implied mode part room i)
  unfolding sr.implied sr.implied_function
  implied_reads i = then_ (part_reads parts (en.declarator k.Named false) i) λ x k us f.
      let U : State = declares x.tree.name false k.state in
      knowing {k = at k.rest U} refl (choose (sees m.OpenBrace (at k.rest U)) _ _
      (λ _. knowing {k = at k.rest (enter x.tree.params U)} refl
      (then_ (part_reads parts en.block (at k.rest (enter x.tree.params U))) λ b l vs h.
      knowing refl (done (g.implied_function f h) refl)))
      (λ _. implied_goes x k us f))

  pub external_reads : (i : Input) → Reads mode g.external i (sr.external mode part room i)
  unfolding sr.external
  external_reads i = choose (en.word_comes i) _ _ (λ _. specified_reads i) (λ _. implied_reads i)

  pub unit_reads : (i : Input) → Goes (Units mode i.state) [] i (sr.unit mode part room i)
  unfolding sr.unit en.some_while en.then_one
  unit_reads i = then_ (external_reads i) λ x j us f.
      loop_to {D = Of mode (g.some g.external) i.state} (λ _ l. nat_lt 0 (left l)) some_left (en.then_one (sr.external mode part room))
      (λ y k vs _ h. then_moves (external_reads k) (λ _ _ _ h'. external_some h') λ z l ws h'. done (g.further h h') refl)
      (λ y vs k h off. (h, none_left k off)) _ j us (g.first f)
