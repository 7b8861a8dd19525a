-- Declarations and units are read.
use Rattle.std.proofs.Common.{◌≡◌, ℕ, Bool, true, false, List, [], ◌∷◌, ◌++◌, Option, Some, Ok, refl, sym, ap, ◌∙◌, append_assoc}
use Rattle.std.specs.Prelude.{◌||◌, is_some}
use Rattle.std.proofs.lemmas.List.{append-nil}
use Rattle.c_tok.specs.declared.mark.Mark.TheVariants as m
use Rattle.c_tok.specs.declared.token.CTokKind.{CTokKind}
use Rattle.c_tok.specs.declared.token.CTokKind.TheVariants as c
use Rattle.c_tree.specs.declared.at.At.{At}
use Rattle.c_tree.specs.declared.expr.Specs.{Specs}
use Rattle.c_tree.specs.declared.declaring.Declaring.{Declaring}
use Rattle.c_tree.specs.declared.declaration.InitDeclarator.{InitDeclarator}
use Rattle.c_tree.specs.declared.declaration.Declaration.{Declaration}
use Rattle.c_tree.specs.declared.stmt.Block.{Block}
use Rattle.c_tree.specs.declared.stmt.External.{External}
use Rattle.c_tree.specs.declared.stmt.External.TheVariants as ext
use Rattle.c_tree.specs.declared.height.Heights.{Heights}
use Rattle.c_tree.specs.declared.height.Tall.{Tall}
use Rattle.c_tree.specs.Heights.{join, tall}
use Rattle.c_tree.specs.Begins.{declarator_at, or_at}
use Rattle.c_tree.specs.Specs.{no_specs}
use Rattle.c_names.specs.declared.names.Declared.{Declared}
use Rattle.c_decl.specs.declared.kind.DeclKind.TheVariants as k
use Rattle.c_decl.specs.declared.kind.Mode.{Mode}
use Rattle.c_decl.specs.declared.marking.Marked.TheVariants.{OldStyle, ImplicitInt}
use Rattle.c_decl.specs.Tokens.{Token, mark, is_empty, head_of, same_mark}
use Rattle.c_decl.specs.State.{State, declares, enter, leave, leave_out_all, leave_out_if, some_names}
use Rattle.c_decl.specs.Grammar as g
use Rattle.c_decl.specs.Grammar.{Tree, is_word}
use Rattle.c_decl.specs.Input.{Input, Parser, left, next, after, head, here, sees, expect, is_mark}
use Rattle.c_decl.specs.Entries as en
use Rattle.c_decl.specs.Entries.{Entry, phrase_of, spec_comes, word_comes}
use Rattle.c_decl.specs.Statements as sr
use Rattle.c_decl.specs.Reading.{reader}
use Rattle.c_decl.proofs.Runs.{at}
use Rattle.std.proofs.Math.Seq.{take-append_seam}
use Rattle.c_decl.proofs.Led.{stopped}
use Rattle.c_decl.proofs.Begins.{First, shape_starts, or_first, or_second, off_first, at_mark}
use Rattle.c_decl.proofs.Claims.{behind_declarator, suffix_kind, Reads, PartReads, InitGiven, DeclarationGiven, specs_alone, with_list}
use Rattle.c_decl.proofs.Children.{placed, word_first, by_first}
use Rattle.c_decl.proofs.CompleteSpecs.{shape_word}
use Rattle.c_decl.proofs.CompleteDeclarators.{specs_shape}

leave_enter : (params : Option (List Declared)) (S : State) → leave S (enter params S) ≡ S
unfolding leave enter
leave_enter params S = ap (λ (z : List Declared). record S { names = z }) (take-append_seam S.names (some_names params))

semicolon_specs : (typed : Bool) (T : State) (a : At) (rest : List Token)
    → (is_mark m.OpenBrace (head_of (mark a m.Semicolon ++ rest)) ≡ false) × (en.word_at T typed
    (head_of (mark a m.Semicolon ++ rest)) ≡ false)
unfolding same_mark
semicolon_specs typed T a rest = (refl, refl)

word_suffix : (S : State) (o : CTokKind) → is_word S false o ≡ true → suffix_kind (Some o) ≡ false
unfolding same_mark
word_suffix S (c.Mark m.OpenParen) e = absurd cc
word_suffix S (c.Mark m.OpenBracket) e = absurd cc
word_suffix S _ e = refl

-- behind a declarator comes neither a body nor a declaration
no_body : (S : State) (o : Option CTokKind) → behind_declarator o ≡ true → (is_mark m.OpenBrace o ≡ false) × (en.word_at S false o ≡ false)
unfolding same_mark
no_body S (Some (c.Mark m.Assign)) e = (refl, refl)
no_body S (Some (c.Mark m.Comma)) e = (refl, refl)
no_body S (Some (c.Mark m.Semicolon)) e = (refl, refl)
no_body S _ e = absurd cc

-- declarations and a body
body_heads : (S : State) (vs ws rest : List Token) → (is_empty vs ≡ false → First (λ o. is_word S false o) vs)
    → First (λ o. is_mark m.OpenBrace (Some o)) ws
    → (suffix_kind (head_of (vs ++ (ws ++ rest))) ≡ false) × (is_mark m.OpenBrace (head_of (vs ++ (ws ++ rest))) || en.word_at S false
    (head_of (vs ++ (ws ++ rest))) ≡ true)
unfolding same_mark
body_heads S [] ws rest o brace =
    let e = by_first (is_mark m.OpenBrace) true (λ k e. e) brace rest in
    (at_mark suffix_kind m.OpenBrace (head_of (ws ++ rest)) e, or_first _ _ e)
body_heads S (t ∷ vs) ws rest o brace =
    let f = o refl in (
      by_first suffix_kind false (word_suffix S) f (ws ++ rest),
      or_second (is_mark m.OpenBrace (Some t.kind)) _
          (by_first (en.word_at S false) true (λ k e. e) f (ws ++ rest)),
    )

module _ (mode : Mode) (n : ℕ) (room : Heights) where
  abbrev Room : (c : Entry) → Parser (Tall (Tree (phrase_of c)))
  Room = reader mode n room

  specified_given : {i j : Input} {x : Tall Declaration} → DeclarationGiven mode n room i x j → word_comes i ≡ true
      → sr.external mode Room room i ≡ Ok (tall (ext.Declaration x.tree) x.height, j)
  unfolding sr.external sr.specified sr.specified_from sr.declared_from word_comes spec_comes after expect sees head same_mark
  specified_given (specs_alone first ends) word = rw (word, first, ends) refl
  specified_given (with_list {y = y} {l = l} first off list ends) word =
      let s = stopped list (at_mark (is_mark m.Comma) m.Semicolon (head_of l.rest) ends) in
      let g = s.gives in
      let before : State = declares g.declarator.tree.name y.tree.is_typedef g.behind.state in
      let none_ = no_body (enter g.declarator.tree.params before) (head_of g.behind.rest) g.ends in
      rw (word, first, off, g.first, none_.0, none_.1, leave_enter g.declarator.tree.params before, g.second, s.loops, ends) refl

  implied_given : {i j : Input} {x : Tall InitDeclarator} → InitGiven mode n room false false i x j → word_comes i ≡ false
      → (a : At) (rest : List Token) (T : State) → j ≡ at (mark a m.Semicolon ++ rest) T
      → sr.external mode Room room i ≡ Ok (
        tall
            (ext.Declaration (record { specs = no_specs (or_at a (declarator_at x.tree.declarator)); declarators = x.tree ∷ [] })) x.height,
        at rest (leave_out_all ImplicitInt (or_at a (declarator_at x.tree.declarator)) T),
      )
  unfolding sr.external sr.implied sr.implied_declaration sees head next here expect same_mark
  implied_given g word a rest T e =
      rw (word, g.first, (no_body g.behind.state (head_of g.behind.rest) g.ends).0, g.second, e) refl

module _ {mode : Mode} {n : ℕ} {room : Heights} where
  pub declares_none_reads : {S T : State} {h : Heights} (a : At) {ts : List Token} {x : Specs} → Reads mode n room (g.specs true) S h ts x T
      → Reads mode n room g.declaration S h (ts ++ mark a m.Semicolon) (record { specs = x; declarators = [] }) T
  unfolding sees head next same_mark
  declares_none_reads {T = T} {h = h} a {ts = ts} {x = x} r = placed (λ rest. ts ++ (mark a m.Semicolon ++ rest))
      (λ rest. simp append_assoc) (λ rest _.
      specs_alone {y = tall x h} {k = at (mark a m.Semicolon ++ rest) T}
      (r.gives (mark a m.Semicolon ++ rest) (semicolon_specs x.is_typed T a rest)) refl)

  pub declares_some_reads : {S T U : State} {h f : Heights} (a : At) {ts us : List Token} {x : Specs} {ys : List InitDeclarator}
      → First (shape_starts k.Named x.is_typed T) us
      → Reads mode n room (g.specs true) S h ts x T → Reads mode n room (g.parted (g.init_declarator x.is_typed x.is_typedef)) T f us ys U
      → Reads mode n room g.declaration S (join h f) (ts ++ us ++ mark a m.Semicolon) (record { specs = x; declarators = ys }) U
  unfolding sees head next same_mark
  declares_some_reads {T = T} {U = U} {h = h} {f = f} a {ts = ts} {us = us} {x = x} {ys = ys} o r p = placed
      (λ rest. ts ++ (us ++ (mark a m.Semicolon ++ rest))) (λ rest. simp append_assoc) (λ rest _.
      let behind : List Token = mark a m.Semicolon ++ rest in
      with_list {y = tall x h} {k = at (us ++ behind) T} {l = at behind U} {ys = tall ys f}
      (r.gives (us ++ behind) (specs_shape k.Named x.is_typed T o behind))
      (off_first m.Semicolon refl o behind) (p.gives behind refl refl) refl)

  pub declaration_reads : {S T : State} {h : Heights} {ts : List Token} {x : Declaration} → First (λ o. is_word S false o) ts
      → Reads mode n room g.declaration S h ts x T
      → Reads mode n room g.external S h ts (ext.Declaration x) T
  declaration_reads {S = S} o r = record { gives = λ rest _. specified_given mode n room (r.gives rest tt) (word_first S o rest) }

  pub definition_reads : {S T U V W : State} {h g' f f' : Heights} {ts us vs ws : List Token} {x : Specs} {y : Declaring}
      {z : Option (List Declaration)} {b : Block}
      → First (λ o. is_word S false o) ts → First (shape_starts k.Named x.is_typed T) us
      → (is_empty vs ≡ false → First (λ o. is_word (enter y.params (declares y.name x.is_typedef U)) false o) vs)
      → First (λ o. is_mark m.OpenBrace (Some o)) ws
      → Reads mode n room (g.specs true) S h ts x T → PartReads mode n room (en.declarator k.Named x.is_typed) T g' us y U
      → Reads mode n room (g.optional (g.some g.declaration)) (enter y.params (declares y.name x.is_typedef U)) f vs z V
      → PartReads mode n room en.block V f' ws b W
      → Reads mode n room g.external S (join h (join g' (join f f'))) (ts ++ us ++ vs ++ ws)
      (ext.Function (record { specs = x; declarator = y.tree; body = b }))
      (leave_out_if (is_some z) OldStyle x.at (leave (declares y.name x.is_typedef U) W))
  unfolding sr.external sr.specified sr.specified_from sr.definition word_comes spec_comes after sees head
  definition_reads {S = S} {T = T} {U = U} {ts = ts} {us = us} {vs = vs} {ws = ws} {x = x} {y = y} word shape vword brace r p q b = placed
      (λ rest. ts ++ (us ++ (vs ++ (ws ++ rest)))) (λ rest. simp append_assoc) (λ rest _.
      let behind : List Token = vs ++ (ws ++ rest) in
      let heads = body_heads (enter y.params (declares y.name x.is_typedef U)) vs ws rest vword brace in
      rw (
        word_first S word (us ++ behind),
        r.gives (us ++ behind) (specs_shape k.Named x.is_typed T shape behind),
        off_first m.Semicolon refl shape behind,
        p.gives behind (heads.0, λ no. absurd cc),
        heads.1,
        q.gives (ws ++ rest)
            (by_first (is_mark m.OpenBrace) true (λ k e. e) brace rest),
        b.gives rest tt,
      ) refl)

  pub implied_function_reads : {S T U : State} {h f : Heights} {ts us : List Token} {x : Declaring} {b : Block}
      → First (shape_starts k.Named false S) ts → First (λ o. is_mark m.OpenBrace (Some o)) us
      → PartReads mode n room (en.declarator k.Named false) S h ts x T
      → PartReads mode n room en.block (enter x.params (declares x.name false T)) f us b U
      → Reads mode n room g.external S (join h f) (ts ++ us)
      (ext.Function (record { specs = no_specs (g.begins b.at x); declarator = x.tree; body = b }))
      (leave_out_all ImplicitInt (g.begins b.at x) (leave (declares x.name false T) U))
  unfolding sr.external sr.implied sr.implied_function word_comes spec_comes sees head same_mark
  implied_function_reads {S = S} {ts = ts} {us = us} shape brace p b = placed (λ rest. ts ++ (us ++ rest)) (λ rest. simp append_assoc)
      (λ rest _.
      let e = by_first (is_mark m.OpenBrace) true (λ k e. e) brace rest in
      rw (
        by_first (en.word_at S false) false (shape_word k.Named false S) shape (us ++ rest),
        p.gives (us ++ rest)
            (at_mark suffix_kind m.OpenBrace (head_of (us ++ rest)) e, λ no. absurd cc),
        e,
        b.gives rest tt,
      ) refl)

  pub implied_declaration_reads : {S T : State} {h : Heights} (a : At) {ts : List Token} {x : InitDeclarator}
      → First (shape_starts k.Named false S) ts → Reads mode n room (g.init_declarator false false) S h ts x T
      → Reads mode n room g.external S h (ts ++ mark a m.Semicolon)
      (ext.Declaration (record { specs = no_specs (or_at a (declarator_at x.declarator)); declarators = x ∷ [] }))
      (leave_out_all ImplicitInt (or_at a (declarator_at x.declarator)) T)
  unfolding word_comes spec_comes head
  implied_declaration_reads {S = S} {T = T} a {ts = ts} shape r = placed (λ rest. ts ++ (mark a m.Semicolon ++ rest))
      (λ rest. simp append_assoc) (λ rest _.
      implied_given mode n room (r.gives (mark a m.Semicolon ++ rest) refl)
      (by_first (en.word_at S false) false (shape_word k.Named false S) shape (mark a m.Semicolon ++ rest)) a rest T refl)

  -- a whole unit
  pub unit_reads : {S T : State} {h : Heights} {ts : List Token} {xs : List External} → Reads mode n room (g.some g.external) S h ts xs T
      → sr.unit mode (reader mode n room) room (at ts S) ≡ Ok (tall xs h, at [] T)
  unfolding sr.unit en.some_while left
  unit_reads {S = S} {ts = ts} r =
      let s = stopped (r.gives [] tt refl) refl in
      ap (λ (z : List Token). sr.unit mode (reader mode n room) room (at z S)) (sym (append-nil ts)) ∙ rw (s.gives, s.loops) refl
