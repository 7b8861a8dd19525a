-- What the phrases show of the tokens of trees, and lists of tokens.
use Rattle.std.proofs.Common.{◌≡◌, ℕ, Bool, true, false, not, List, [], ◌∷◌, ◌++◌, map, Option, Some, None, is_some, refl, sym, ap, ◌∙◌, append_assoc, append-nil}
use Rattle.c_tok.specs.declared.mark.Mark.TheVariants as m
use Rattle.c_tok.specs.declared.token.CTokKind.TheVariants as c
use Rattle.c_tree.specs.declared.at.At.{At}
use Rattle.c_decl.specs.declared.marking.Marked.{Marked}
use Rattle.c_decl.specs.Tokens as t
use Rattle.c_decl.specs.Tokens.{Token}
use Rattle.c_decl.specs.State.{State, declare, declares, leave_out, leave_out_if}
use Rattle.c_decl.specs.Grammar.{Phrase, Tree, parted, some, optional, arguments, init, passed, span, slot, spec, words, specs, members, member, field, enumerator, declarator, direct, stem, pointer_words, identifiers, params, param, type_name, init_declarator, declaration, statement, behind_label, for_head, block, body, external}
use Rattle.c_decl.specs.Spelled as s
use Rattle.c_decl.specs.Spelled.{Kinds, kinds, all, behind_commas, given, tag, ending, dots, tokens_of_declarator, tokens_of_expr, tokens_of_slot, tokens_of_spec, tokens_of_enumerator, tokens_of_member, tokens_of_param, tokens_of_specs, tokens_of_type_name, tokens_of_init, tokens_of_init_declarator, tokens_of_declaration, tokens_of_head, tokens_of_stmt, tokens_of_block, tokens_of_external}

abbrev tail_of : Kinds → Kinds
tail_of [] = []
tail_of (x ∷ xs) = xs

abbrev pub tokens : (p : Phrase) → Tree p → Kinds
tokens (parted p) xs = s.parted (map (tokens p) xs)
tokens (some p) xs = all (map (tokens p) xs)
tokens (optional p) x = given (tokens p) x
tokens arguments xs = s.parted (map tokens_of_expr xs)
tokens init x = tokens_of_init x
tokens (passed _) x = []
tokens (span _) x = []
tokens slot x = tokens_of_slot x
tokens (spec _ _) x = tokens_of_spec x
tokens (words _) x = tokens_of_specs x
tokens (specs _) x = tokens_of_specs x
tokens members xs = s.mark m.OpenBrace ++ all (map tokens_of_member xs) ++ s.mark m.CloseBrace
tokens member x = tokens_of_member x
tokens (field _ _) x = tokens_of_declarator x
tokens enumerator x = tokens_of_enumerator x
tokens (declarator _ _) x = tokens_of_declarator x.tree
tokens (direct _ _) x = tokens_of_declarator x.tree
tokens (stem _ _) x = tokens_of_declarator x.tree
tokens pointer_words ws = s.pointer_words ws
tokens identifiers x = []
tokens params x = s.parted (map tokens_of_param x.items) ++ dots x.is_variadic
tokens param x = tokens_of_param x
tokens type_name x = tokens_of_type_name x
tokens (init_declarator _ _) x = tokens_of_init_declarator x
tokens declaration x = tokens_of_declaration x
tokens (statement _) x = tokens_of_stmt x
tokens (behind_label _ _ _) x = tail_of (tokens_of_stmt x)
tokens for_head x = tokens_of_head x
tokens block x = tokens_of_block x
tokens (body _) x = all (map tokens_of_declaration x.declarations) ++ all (map tokens_of_stmt x.statements)
tokens external x = tokens_of_external x
tokens _ x = tokens_of_expr x

-- whether the tokens of a phrase are in its tree
abbrev pub told : Phrase → Bool
told (parted p) = told p
told (some p) = told p
told (optional p) = told p
told (passed _) = false
told (span _) = false
told (field has_width _) = not has_width
told identifiers = false
told _ = true

-- They are those of the tree. Those of a list begin as behind a comma, as it has an item; behind a label's name, with it.
abbrev pub Shows : (p : Phrase) → List Token → Tree p → Type 0
Shows (parted p) ts xs = c.Mark m.Comma ∷ kinds ts ≡ behind_commas (map (tokens p) xs)
Shows (behind_label _ a n) ts x = c.Ident n ∷ kinds ts ≡ tokens_of_stmt x
Shows (body has_begun) ts x = (kinds ts ≡ all (map tokens_of_declaration x.declarations) ++ all (map tokens_of_stmt x.statements)) × (has_begun ≡ false → x.statements ≡ [])
Shows p ts x = kinds ts ≡ tokens p x

pub parted_shows : {ks : Kinds} (xs : List Kinds) → c.Mark m.Comma ∷ ks ≡ behind_commas xs → ks ≡ s.parted xs
unfolding behind_commas
parted_shows [] e = absurd cc
parted_shows (x ∷ xs) e = ap tail_of e

pub shown : (p : Phrase) (ts : List Token) (x : Tree p) → Shows p ts x → kinds ts ≡ tokens p x
shown (parted p) ts xs e = parted_shows (map (tokens p) xs) e
shown (behind_label _ _ _) ts x e = ap tail_of e
shown (body _) ts x e = e.0
shown p ts x e = e

-- ---- lists

pub kinds_none : kinds [] ≡ []
unfolding kinds
kinds_none = refl

pub kinds_more : (x : Token) (ts : List Token) → kinds (x ∷ ts) ≡ x.kind ∷ kinds ts
unfolding kinds
kinds_more x ts = refl

pub kinds_append : (ts us : List Token) → kinds (ts ++ us) ≡ kinds ts ++ kinds us
unfolding kinds
kinds_append [] us = refl
kinds_append (t ∷ ts) us = ap (λ z. t.kind ∷ z) (kinds_append ts us)

pub all_more : (xs : List Kinds) (y : Kinds) → all (xs ++ y ∷ []) ≡ all xs ++ y
unfolding all
all_more [] y = append-nil y
all_more (x ∷ xs) y = simp (all_more xs y, append_assoc)

pub behind_more : (xs : List Kinds) (y : Kinds) → behind_commas (xs ++ y ∷ []) ≡ behind_commas xs ++ c.Mark m.Comma ∷ y
unfolding behind_commas
behind_more [] y = ap (λ z. c.Mark m.Comma ∷ z) (append-nil y)
behind_more (x ∷ xs) y = simp (behind_more xs y, append_assoc)

pub map_more : {X Y : Type 0} (f : X → Y) (xs : List X) (y : X) → map f (xs ++ y ∷ []) ≡ map f xs ++ f y ∷ []
map_more f [] y = refl
map_more f (x ∷ xs) y = ap (λ z. f x ∷ z) (map_more f xs y)

pub tag_kinds : (b : At) (n : Option (List ℕ)) → kinds (t.tag b n) ≡ tag n
unfolding kinds
tag_kinds b None = refl
tag_kinds b (Some n) = refl

pub ending_kinds : (comma_ends : Bool) (b : At) → kinds (t.ending comma_ends b) ≡ ending comma_ends
unfolding kinds
ending_kinds false b = refl
ending_kinds true b = refl

pub none_given : {X : Type 0} (f : X → Kinds) (x : Option X) → is_some x ≡ false → given f x ≡ []
none_given f None e = refl
none_given f (Some x) e = absurd cc

pub ruleset on_tokens = (kinds_none, kinds_more, kinds_append, tag_kinds, ending_kinds, all_more, map_more, append_assoc, append-nil)

-- ---- marks

pub no_mark : {X Y : Type 0} {x : X} → Some x ≡ None → Y
no_mark e = absurd cc

pub declares_clear : (n : Option (List ℕ)) (is_typedef : Bool) (S : State) → (declares n is_typedef S).marked ≡ None → S.marked ≡ None
unfolding declare
declares_clear None is_typedef S e = e
declares_clear (Some n) is_typedef S e = e

pub unless_clear : (out : Bool) (kind : Marked) (a : At) (S : State) → (leave_out_if out kind a S).marked ≡ None → (out ≡ false) × (S.marked ≡ None)
unfolding leave_out
unless_clear false kind a S e = (refl, e)
unless_clear true kind a S e = no_mark e
