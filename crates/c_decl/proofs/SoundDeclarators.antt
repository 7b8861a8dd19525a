-- Declarators, parameters and types: what is read is derived, and what is refused can be ended.
use Rattle.std.proofs.Common.{◌≡◌, ℕ, ◌<◌, Bool, true, false, not, cond, List, [], ◌∷◌, ◌++◌, length, take, Option, Some, None, Ok, refl, sym, subst, ◌∙◌, arith, append_assoc}
use Rattle.std.specs.Prelude.{◌&&◌, ◌||◌, is_some}
use Rattle.std.proofs.Math.Seq.{take-length}
use Rattle.c_tok.specs.declared.mark.Mark.{Mark}
use Rattle.c_tok.specs.declared.mark.Mark.TheVariants as m
use Rattle.c_tok.specs.declared.token.CTokKind.{CTokKind}
use Rattle.c_tok.specs.declared.token.CTokKind.TheVariants as c
use Rattle.c_tree.specs.declared.at.At.{At}
use Rattle.c_tree.specs.declared.operator.PointerWord.{PointerWord}
use Rattle.c_tree.specs.declared.declaring.Declaring.{Declaring}
use Rattle.c_tree.specs.declared.declaring.Params.{Params}
use Rattle.c_tree.specs.declared.height.Heights.{Heights}
use Rattle.c_tree.specs.declared.height.Tall.{Tall}
use Rattle.c_tree.specs.Heights as class
use Rattle.c_tree.specs.Heights.{none, join, raise, tall}
use Rattle.c_decl.specs.declared.kind.DeclKind.{DeclKind}
use Rattle.c_decl.specs.declared.kind.DeclKind.TheVariants as k
use Rattle.c_decl.specs.declared.kind.Mode.{Mode}
use Rattle.c_decl.specs.Tokens.{is_empty, Token, tok, mark, name, nowhere, same_mark, head_of}
use Rattle.c_decl.specs.State.{State, is_type, leave, declared_since}
use Rattle.c_decl.specs.Marks.{pointer_of}
use Rattle.c_decl.specs.Grammar as g
use Rattle.c_decl.specs.Grammar.{Tree, Derives, begins_specs, is_named, is_abstract, nothing, called, function_of, no_params}
use Rattle.c_decl.specs.Input.{Input, Parser, and_then, head, here, next, left, sees, expect, is_mark}
use Rattle.c_decl.specs.Entries as en
use Rattle.c_decl.specs.Entries.{Entry, phrase_of}
use Rattle.c_decl.specs.Declarators as dr
use Rattle.c_decl.proofs.Tests.{clash, not_true, and_left, and_right, or_left}
use Rattle.c_decl.proofs.Runs.{Needs, at}
use Rattle.c_decl.proofs.Took.{open_, shut, Says, Of, Goes, Moves, Reads, Open, opened, closed, can, done, knowing, refuses, moves, loop_to, here_eat_then, fits_then, token, skip_mark, mark_then, eat_then, by_token, then_on, choose, then_, then_by, loop, as_}
use Rattle.c_decl.proofs.Fresh.{fresh_named, fresh, fresh_is}
use Rattle.c_decl.proofs.SoundSpans as sp_
use Rattle.c_decl.proofs.Got.{Parts, part_reads, parted_before_reads}

filled : {X : Type 0} (us : List Token) (a : At) (m : Mark) → is_empty (us ++ mark a m) ≡ true → X
filled [] a m e = absurd cc
filled (u ∷ us) a m e = absurd cc

leave_same : (S : State) → leave S S ≡ S
unfolding leave
leave_same S = let e : take (length S.names) S.names ≡ S.names = take-length S.names in rw e refl

-- a word comes next
pub word_is : (rest : List Token) (S : State) → en.word_comes (at rest S) ≡ begins_specs S rest
unfolding en.word_comes en.spec_comes head
word_is [] S = refl
word_is (t ∷ rest) S = refl

-- the beginning of what doesn't begin with a word doesn't either
group_ok : (named : Bool) (S : State) (us more : List Token) (closes : Bool)
    → not named && (en.word_comes (at (us ++ more) S) || closes) ≡ false → named || not (begins_specs S us) ≡ true
group_ok true S us more closes off = refl
group_ok false S [] more closes off = refl
group_ok false S (t ∷ us) more closes off = let e = sym (word_is (t ∷ us ++ more) S) ∙ or_left _ closes off in rw e refl

module _ (mode : Mode) (part : (c : Entry) → Parser (Tall (Tree (phrase_of c)))) (room : Heights) (parts : Parts mode part) where
  -- ---- declarators

  word_goes : (ws : Tall (List PointerWord)) {S T : State} {us : List Token} → Derives mode g.pointer_words S ws.height us ws.tree T
      → (a : At) (o : CTokKind) (rest : List Token) (found : Option PointerWord) → pointer_of (Some o) ≡ found
      → Goes (Of mode g.pointer_words S) us (at (tok o a ∷ rest) T) (dr.with_word mode part room ws found (at (tok o a ∷ rest) T))
  unfolding next
  word_goes ws {T = T} f a o rest None is = refuses (closed ws T f)
  word_goes ws f a o rest (Some w) is = token (done (g.more_words a o is f) refl)

  words_reads : (i : Input) → Reads mode g.pointer_words i (dr.pointer_words mode part room i)
  unfolding dr.pointer_words dr.pointer_word
  words_reads i = loop (λ ws k us _ f. by_token (λ _ next. dr.with_word mode part room ws (pointer_of next))
      (refuses (closed ws k.state f)) (λ o a rest. word_goes ws f a o rest (pointer_of (Some o)) refl)) _ i [] g.no_words

  -- what a direct declarator begins with, and the suffixes so far; at first a suffix must follow if nothing was read
  abbrev Stems : DeclKind → Bool → State → Says (Tall Declaring)
  Stems kind typed S x us k = Derives mode (g.stem kind typed) S x.height us x.tree k.state ×
      (is_empty us ≡ true → en.suffix_comes k ≡ true)

  least_stem : (kind : DeclKind) (typed : Bool) {S : State} → is_abstract kind ≡ false → Open (Stems kind typed S) []
  least_stem kind typed {S = S} is = opened (name nowhere (fresh S))
      (can (tall (called nowhere (fresh S)) _) S (g.naming is (fresh_named typed S), λ e. absurd cc) refl)

  pub open_stem : (kind : DeclKind) (typed : Bool) {S : State} → Open (Stems kind typed S) []
  open_stem k.Named typed = least_stem k.Named typed refl
  open_stem k.Param typed = least_stem k.Param typed refl
  open_stem k.Abstract typed {S = S} =
      opened (mark nowhere m.OpenBracket ++ mark nowhere m.CloseBracket)
      (can (tall _ _) S (g.array nowhere nowhere (g.absent {S = S} refl) g.left_out, λ e. absurd cc) refl)

  grouped_ends : (kind : DeclKind) (typed : Bool) {S : State} (a : At) (seen more ending : List Token) (h : Heights) (x : Declaring)
      (T : State) (closes : Bool)
      → not (is_named kind) && (en.word_comes (at (seen ++ more) S) || closes) ≡ false
      → Derives mode (g.declarator kind typed) S h (seen ++ ending) x T
      → Open (Stems kind typed S) (mark a m.OpenParen ++ seen)
  grouped_ends k.Named typed a seen more ending h x T closes off f =
      opened (ending ++ mark nowhere m.CloseParen) (can (tall _ _) T (g.grouped a nowhere refl f, λ e. absurd cc) (simp append_assoc))
  grouped_ends kind typed {S = S} a (t ∷ seen) more ending h x T closes off f =
      opened (ending ++ mark nowhere m.CloseParen) (can (tall _ _) T
      (g.grouped a nowhere (group_ok (is_named kind) S (t ∷ seen) more closes off) f, λ e. absurd cc) (simp append_assoc))
  grouped_ends k.Param typed {S = S} a [] more ending h x T closes off f =
      opened (mark nowhere m.Star ++ mark nowhere m.CloseParen)
      (can (tall _ _) S (g.grouped a nowhere refl (g.pointed nowhere refl g.no_words), λ e. absurd cc) refl)
  grouped_ends k.Abstract typed {S = S} a [] more ending h x T closes off f =
      opened (mark nowhere m.Star ++ mark nowhere m.CloseParen)
      (can (tall _ _) S (g.grouped a nowhere refl (g.pointed nowhere refl g.no_words), λ e. absurd cc) refl)

  grouped_goes : (kind : DeclKind) (typed : Bool) {S : State} (a : At) (rest : List Token) (closes : Bool)
      → not (is_named kind) && (en.word_comes (at rest S) || closes) ≡ false
      → Goes (Stems kind typed S) (mark a m.OpenParen) (at rest S) (dr.grouped mode part room kind typed a (at rest S))
  unfolding dr.grouped
  grouped_goes kind typed {S = S} a rest closes off = then_by (part_reads parts (en.declarator kind typed) (at rest S))
      (λ seen more ending x T parts f. grouped_ends kind typed a seen more ending x.height x.tree T closes
      (subst (λ (z : List Token). not (is_named kind) && (en.word_comes (at z S) || closes) ≡ false) parts off) f)
      (λ x k us parts f. mark_then m.CloseParen _ λ b more. done (
        g.grouped a b (group_ok (is_named kind) S us k.rest closes
            (subst (λ (z : List Token). not (is_named kind) && (en.word_comes (at z S) || closes) ≡ false) parts off)) f,
        λ e.
            absurd cc,
      ) refl)

  naming_goes : (kind : DeclKind) (typed : Bool) (S : State) (a : At) (n : List ℕ) (rest : List Token) (b : Bool)
      → not (is_abstract kind) && (typed || not (is_type S n)) ≡ b
      → Goes (Stems kind typed S) [] (at (name a n ++ rest) S) (dr.naming mode part room a n b (at (name a n ++ rest) S))
  unfolding next
  naming_goes kind typed S a n rest false is = refuses (open_stem kind typed)
  naming_goes kind typed S a n rest true is = token (done (
    g.naming (not_true _ (and_left _ _ is))
        (and_right (not (is_abstract kind)) _ is),
    λ e. absurd cc,
  ) refl)

  nothing_goes : (kind : DeclKind) (typed : Bool) (j : Input) → is_named kind ≡ false → en.suffix_comes j ≡ true
      → Goes (Stems kind typed j.state) [] j (Ok (tall nothing none, j))
  nothing_goes kind typed j is on = done (g.absent is, λ _. on) refl

  base_kind : (kind : DeclKind) (typed : Bool) (S : State) (o : CTokKind) (a : At) (rest : List Token)
      → Goes (Stems kind typed S) [] (at (tok o a ∷ rest) S) (dr.base_by mode part room kind typed a (Some o) (at (tok o a ∷ rest) S))
  unfolding next en.opens_params en.suffix_comes sees head same_mark
  base_kind kind typed S (c.Ident n) a rest = naming_goes kind typed S a n rest _ refl
  base_kind kind typed S (c.Mark m.OpenParen) a rest = choose
      (not (is_named kind) && (en.word_comes (at rest S) || sees m.CloseParen (at rest S))) _ _
      (λ on. nothing_goes kind typed (at (mark a m.OpenParen ++ rest) S) (not_true _ (and_left _ _ on)) refl)
      (λ off. token (grouped_goes kind typed a rest (sees m.CloseParen (at rest S)) off))
  base_kind kind typed S (c.Mark m.OpenBracket) a rest = choose (is_named kind) _ _
      (λ _. refuses (open_stem kind typed))
      (λ off. nothing_goes kind typed (at (mark a m.OpenBracket ++ rest) S) off refl)
  base_kind kind typed S o a rest = refuses (open_stem kind typed)

  base_reads : (kind : DeclKind) (typed : Bool) (i : Input) → Goes (Stems kind typed i.state) [] i (dr.base mode part room kind typed i)
  unfolding dr.base
  base_reads kind typed i = by_token (dr.base_by mode part room kind typed) (refuses (open_stem kind typed))
      (λ o a rest. base_kind kind typed i.state o a rest)

  size_reads : (i : Input) → Reads mode (g.optional g.slot) i (dr.size mode part room i)
  unfolding dr.size
  size_reads i = choose (sees m.CloseBracket i) _ _ (λ _. done g.left_out refl)
      (λ _. then_ (sp_.slot_reads mode part room parts i) λ x k us f. done (g.given f) refl)

  array_goes : {kind : DeclKind} {typed : Bool} {S T : State} (x : Tall Declaring) (us : List Token)
      → Derives mode (g.stem kind typed) S x.height us x.tree T → (a : At) (rest : List Token)
      → Goes (Stems kind typed S) (us ++ mark a m.OpenBracket) (at rest T) (dr.array mode part room x a (at rest T))
  unfolding dr.array
  array_goes x us f a rest =
      fits_then room x.height _ λ more. then_ (size_reads (at more _)) λ n k vs h. mark_then m.CloseBracket _ λ b rest.
      done (g.array a b f h, filled (us ++ mark a m.OpenBracket ++ vs) b m.CloseBracket) (simp append_assoc)

  -- ---- parameters

  param_reads : (i : Input) → Reads mode g.param i (dr.param mode part room i)
  unfolding dr.param dr.declared
  param_reads i =
      then_ (sp_.specs_reads mode part room parts true i) λ x j us f.
      choose (en.declarator_comes k.Param x.tree.is_typed j) _ _
      (λ _. then_ (part_reads parts (en.declarator k.Param x.tree.is_typed) j) λ y k vs h. knowing refl (done (g.declared f h) refl))
      (λ _. done (g.unnamed f) refl)

  params_reads : (i : Input) → Reads mode g.params i (dr.params mode part room i)
  unfolding dr.params
  params_reads i =
      then_ (parted_before_reads m.Ellipsis _ param_reads i) λ xs j us f.
      eat_then m.Comma (λ found. cond {A = Parser (Tall Params)} found
      (λ k. and_then (expect m.Ellipsis k) (λ _ l. Ok (tall (record { items = xs.tree; is_variadic = true }) xs.height, l)))
      (λ k. Ok (tall (record { items = xs.tree; is_variadic = false }) xs.height, k)))
      (λ a more. mark_then m.Ellipsis _ λ b rest. done (g.variadic a b f) (simp append_assoc))
      (λ _. done (g.some_parameters f) refl)

  function_goes : {kind : DeclKind} {typed : Bool} {S T : State} (x : Tall Declaring) (us : List Token)
      → Derives mode (g.stem kind typed) S x.height us x.tree T → (a : At) (rest : List Token)
      → Goes (Stems kind typed S) (us ++ mark a m.OpenParen) (at rest T) (dr.function mode part room x a (at rest T))
  unfolding dr.function
  function_goes x us f a rest =
      then_ (params_reads (at rest _)) λ ps k vs h. mark_then m.CloseParen _ λ b more.
      knowing refl (done (g.function a b f h, filled (us ++ mark a m.OpenParen ++ vs) b m.CloseParen) (simp append_assoc))

  none_goes : {kind : DeclKind} {typed : Bool} {S T : State} (x : Tall Declaring) (us : List Token)
      → Derives mode (g.stem kind typed) S x.height us x.tree T → (a b : At) (rest : List Token)
      → Goes (Stems kind typed S) ((us ++ mark a m.OpenParen) ++ mark b m.CloseParen) (at rest T)
      (Ok (tall (function_of a x.tree no_params (declared_since T T)) (raise class.declarator (join x.height none)), at rest T))
  none_goes {kind = kind} {typed = typed} {S = S} {T = T} x us f a b rest =
      let G : State → Type 0 = λ U. Goes (Stems kind typed S) ((us ++ mark a m.OpenParen) ++ mark b m.CloseParen) (at rest T)
      (Ok (tall (function_of a x.tree no_params (declared_since T T)) (raise class.declarator (join x.height none)), at rest U)) in
      subst G (leave_same T) (knowing refl (done (
        g.function a b f g.no_parameters,
        filled
            (us ++ mark a m.OpenParen ++ []) b m.CloseParen,
      ) (simp append_assoc)))

  -- ---- names in place of parameters

  identifier_by : {D : Says (Unit {0})} {ts : List Token} (S : State) (a : At) (n : List ℕ) (rest : List Token) (b : Bool)
      → is_type S n ≡ b
      → ((a : At) (n : List ℕ) (rest : List Token) → is_type S n ≡ false → D tt (ts ++ name a n) (at rest S))
      → Goes D ts (at (name a n ++ rest) S) (dr.identifier_or mode part room n b (at (name a n ++ rest) S))
  unfolding next
  identifier_by S a n rest true is go = refuses (opened (name nowhere (fresh S)) (can tt S (go nowhere (fresh S) [] (fresh_is S)) refl))
  identifier_by S a n rest false is go = token (done (go a n rest is) refl)

  identifier_kind : {D : Says (Unit {0})} {ts : List Token} (S : State) (o : CTokKind) (a : At) (rest : List Token)
      → ((a : At) (n : List ℕ) (rest : List Token) → is_type S n ≡ false → D tt (ts ++ name a n) (at rest S))
      → Goes D ts (at (tok o a ∷ rest) S) (dr.identifier_by mode part room (Some o) (at (tok o a ∷ rest) S))
  identifier_kind S (c.Ident n) a rest go = identifier_by S a n rest (is_type S n) refl go
  identifier_kind S o a rest go = refuses (opened (name nowhere (fresh S)) (can tt S (go nowhere (fresh S) [] (fresh_is S)) refl))

  identifier_goes : {D : Says (Unit {0})} {ts : List Token} (j : Input)
      → ((a : At) (n : List ℕ) (rest : List Token) → is_type j.state n ≡ false → D tt (ts ++ name a n) (at rest j.state))
      → Goes D ts j (dr.identifier mode part room j)
  unfolding dr.identifier
  identifier_goes j go = by_token (λ _ next. dr.identifier_by mode part room next)
      (refuses (opened (name nowhere (fresh j.state)) (can tt j.state (go nowhere (fresh j.state) [] (fresh_is j.state)) refl)))
      (λ o a rest. identifier_kind j.state o a rest go)

  abbrev Names : State → Says (Unit {0})
  Names S _ us k = Derives mode g.identifiers S none us tt k.state

  old_style_goes : {kind : DeclKind} {typed : Bool} {S T : State} (x : Tall Declaring) (us : List Token)
      → Derives mode (g.stem kind typed) S x.height us x.tree T → is_some x.tree.name ≡ true
      → (a : At) (rest : List Token) → Goes (Stems kind typed S) (us ++ mark a m.OpenParen) (at rest T)
      (dr.old_style mode part room x a (at rest T))
  unfolding dr.old_style dr.next_identifier
  old_style_goes {T = T} x us f is a rest =
      then_ {D = Names T} (identifier_goes (at rest T) (λ b n more is. g.an_identifier is)) λ _ j vs h.
      then_on (us ++ mark a m.OpenParen) (loop {D = Names T} (λ _ k ws on h. skip_mark m.Comma (dr.identifier mode part room) on λ b more.
      identifier_goes (at more k.state) (λ b' n rest off. g.more_identifiers b b' n off h)) tt j vs h) λ _ k ws h.
      mark_then m.CloseParen _ λ b more.
      knowing refl (done (g.old_style a b is f h, filled (us ++ mark a m.OpenParen ++ ws) b m.CloseParen) (simp append_assoc))

  list_by_goes : {kind : DeclKind} {typed : Bool} {S T : State} (x : Tall Declaring) (us : List Token)
      → Derives mode (g.stem kind typed) S x.height us x.tree T → (a : At) (rest : List Token)
      (word closes : Bool) → sees m.CloseParen (at rest T) ≡ closes
      → Goes (Stems kind typed S) (us ++ mark a m.OpenParen) (at rest T) (dr.list_by mode part room x a word closes (at rest T))
  unfolding next
  list_by_goes x us f a rest true closes is = function_goes x us f a rest
  list_by_goes {T = T} x us f a rest false true is =
      skip_mark m.CloseParen (λ i. Ok (
        tall (function_of a x.tree no_params (declared_since i.state i.state))
            (raise class.declarator (join x.height none)),
        i,
      )) is λ b more. none_goes x us f a b more
  list_by_goes {T = T} x us f a rest false false is = choose (is_some x.tree.name) _ _
      (λ on. old_style_goes x us f on a rest)
      (λ _. refuses (let o = open_ (none_goes x us f a nowhere []) in shut (mark nowhere m.CloseParen) o))

  list_goes : {kind : DeclKind} {typed : Bool} {S T : State} (x : Tall Declaring) (us : List Token)
      → Derives mode (g.stem kind typed) S x.height us x.tree T → (a : At) (rest : List Token)
      → Goes (Stems kind typed S) (us ++ mark a m.OpenParen) (at rest T) (dr.list mode part room x a (at rest T))
  unfolding dr.list
  list_goes {T = T} x us f a rest = fits_then room x.height _ λ more.
      list_by_goes x us f a more (en.word_comes (at more T)) (sees m.CloseParen (at more T)) refl

  suffix_kind : {kind : DeclKind} {typed : Bool} {S T : State} (x : Tall Declaring) (us : List Token)
      → Derives mode (g.stem kind typed) S x.height us x.tree T
      → (o : CTokKind) (a : At) (rest : List Token) → en.suffix_comes (at (tok o a ∷ rest) T) ≡ true
      → Moves (Stems kind typed S) us (at (tok o a ∷ rest) T) (dr.suffix mode part room x (at (tok o a ∷ rest) T))
  unfolding dr.suffix en.suffix_comes sees head here next same_mark
  suffix_kind x us f (c.Mark m.OpenBracket) a rest on = moves (array_goes x us f a rest)
  suffix_kind x us f (c.Mark m.OpenParen) a rest on = moves (list_goes x us f a rest)
  suffix_kind x us f o a rest on = absurd cc

  suffix_moves : {kind : DeclKind} {typed : Bool} {S : State} (x : Tall Declaring) (T : State) (rest us : List Token)
      → en.suffix_comes (at rest T) ≡ true → Derives mode (g.stem kind typed) S x.height us x.tree T
      → Moves (Stems kind typed S) us (at rest T) (dr.suffix mode part room x (at rest T))
  unfolding en.suffix_comes sees head
  suffix_moves x T [] us on f = absurd cc
  suffix_moves x T (t ∷ rest) us on f = suffix_kind x us f t.kind t.at rest on

  suffix_needs : Needs {A = Tall Declaring} (λ _. en.suffix_comes)
  unfolding en.suffix_comes sees head left
  suffix_needs _ i on = by i.rest on where
    by : (rest : List Token) → is_mark m.OpenBracket (head_of rest) || is_mark m.OpenParen (head_of rest) ≡ true → 0 < length rest
    by [] on = absurd cc
    by (t ∷ rest) on = omega arith

  pub direct_reads : (kind : DeclKind) (typed : Bool) (i : Input)
      → Reads mode (g.direct kind typed) i (dr.direct_rule mode part room kind typed i)
  unfolding dr.direct_rule
  direct_reads kind typed i = then_ (base_reads kind typed i) λ x j us f.
      loop_to {D = Stems kind typed i.state} (λ _. en.suffix_comes) suffix_needs (dr.suffix mode part room)
      (λ y k vs on h. suffix_moves y k.state k.rest vs on h.0)
      (λ y vs k h off. g.solid (whole vs (en.suffix_comes k) off h.1) h.0) x j us f where
        whole : (vs : List Token) (b : Bool) → b ≡ false → (is_empty vs ≡ true → b ≡ true) → is_empty vs ≡ false
        whole [] b off more = clash b (more refl) off
        whole (t ∷ vs) b off more = refl

  pub declarator_reads : (kind : DeclKind) (typed : Bool) (i : Input)
      → Reads mode (g.declarator kind typed) i (dr.declarator_rule mode part room kind typed i)
  unfolding dr.declarator_rule dr.starred dr.pointed
  declarator_reads kind typed i = here_eat_then m.Star
      (λ a found. cond {A = Parser (Tall Declaring)} found (dr.starred mode part room kind typed a)
      (dr.direct_rule mode part room kind typed))
      (λ a rest. then_ (words_reads (at rest i.state)) λ ws k us f. choose (is_named kind || en.direct_comes kind typed k) _ _
      (λ _. then_ (part_reads parts (en.direct kind typed) k) λ x l vs h. done (g.starred a f h) refl)
      (λ off. done (g.pointed a (or_left (is_named kind) _ off) f) refl))
      (λ _. as_ (λ _ _ _ f. g.straight f) (direct_reads kind typed i))

  pub type_name_reads : (i : Input) → Reads mode g.type_name i (dr.type_name mode part room i)
  unfolding dr.type_name dr.typed_name
  type_name_reads i =
      then_ (sp_.specs_reads mode part room parts false i) λ x j us f.
      choose (en.declarator_comes k.Abstract x.tree.is_typed j) _ _
      (λ _. then_ (part_reads parts (en.declarator k.Abstract x.tree.is_typed) j) λ y k vs h. done (g.type_of f h) refl)
      (λ _. done (g.type_alone f) refl)
