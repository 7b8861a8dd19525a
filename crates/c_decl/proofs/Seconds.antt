-- What the first two tokens of what is derived tell.
use Rattle.std.proofs.Common.{◌≡◌, ℕ, Bool, true, false, not, cond, List, [], ◌∷◌, ◌++◌, Option, Some, None, refl, ap, ◌∙◌, append_assoc}
use Rattle.std.specs.Prelude.{◌&&◌}
use Rattle.c_tok.specs.declared.mark.Mark.TheVariants as m
use Rattle.c_tok.specs.declared.token.CTokKind.{CTokKind}
use Rattle.c_tok.specs.declared.token.CTokKind.TheVariants as c
use Rattle.c_tree.specs.declared.at.At.{At}
use Rattle.c_tree.specs.declared.expr.Expr.{Expr}
use Rattle.c_tree.specs.declared.height.Heights.{Heights}
use Rattle.c_decl.specs.declared.kind.DeclKind.TheVariants as k
use Rattle.c_decl.specs.declared.kind.Mode.{Mode}
use Rattle.c_decl.specs.Tokens.{Token, tok, mark, is_empty, head_of, tail_of, same_mark}
use Rattle.c_decl.specs.State.{State}
use Rattle.c_decl.specs.Marks.{infix_of, assign_of, unary_of, step_of, access_of, word_of, record_of}
use Rattle.c_decl.specs.Grammar as g
use Rattle.c_decl.specs.Grammar.{Phrase, Tree, Derives, is_word, begins_specs, is_named, nothing}
use Rattle.c_decl.specs.Input.{next, head, sees, is_mark}
use Rattle.c_decl.specs.Entries.{spec_comes, word_comes, opens_type}
use Rattle.c_decl.proofs.Runs.{at}
use Rattle.c_decl.proofs.Begins.{First, begins, starts, shape_starts, excludes, never_is}

pub record Never (P : List Token → Bool) (ts : List Token) : Type 0 where
  pub off : (rest : List Token) → P (ts ++ rest) ≡ false

pub longer : {P : List Token → Bool} {ts : List Token} (us : List Token) → Never P ts → Never P (ts ++ us)
longer {P = P} {ts = ts} us n = record { off = λ rest. ap P (append_assoc ts us rest) ∙ n.off (us ++ rest) }

pub of_first : {P : CTokKind → Bool} {ts : List Token} (Q : List Token → Bool)
    → ((o : CTokKind) (a : At) (more : List Token) → P o ≡ true → Q (tok o a ∷ more) ≡ false) → First P ts → Never Q ts
of_first Q f o = record { off = λ rest. ap (λ (z : List Token). Q (z ++ rest)) o.is ∙ f o.first o.place (o.more ++ rest) o.ok }

-- ---- a name, and a colon behind it

abbrev pub ident_kind : CTokKind → Bool
ident_kind (c.Ident n) = true
ident_kind _ = false

abbrev pub labels : List Token → Bool
labels [] = false
labels (t ∷ rest) = ident_kind t.kind && is_mark m.Colon (head_of rest)

pub record Unlabelled (ts : List Token) : Type 0 where
  pub off : (rest : List Token) → is_mark m.Colon (head_of rest) ≡ false → labels (ts ++ rest) ≡ false

weak : {ts : List Token} → Never labels ts → Unlabelled ts
weak n = record { off = λ rest _. n.off rest }

then_token : {ts : List Token} (o : CTokKind) (a : At) → is_mark m.Colon (Some o) ≡ false → Unlabelled ts
    → Never labels (ts ++ (tok o a ∷ []))
then_token {ts = ts} o a off u = record { off = λ rest. ap labels (append_assoc ts (tok o a ∷ []) rest) ∙ u.off (tok o a ∷ rest) off }

then_first : {P : CTokKind → Bool} {ts us : List Token} → ((o : CTokKind) → P o ≡ true → is_mark m.Colon (Some o) ≡ false) → Unlabelled ts
    → First P us → Never labels (ts ++ us)
then_first {ts = ts} {us = us} f u o = record {
  off = λ rest.
      ap labels (append_assoc ts us rest) ∙ u.off (us ++ rest)
      (ap (λ (z : List Token). is_mark m.Colon (head_of (z ++ rest))) o.is ∙ f o.first o.ok);
}

not_ident : {A : Type 0} (f : Option CTokKind → Option A) → ((n : List ℕ) → f (Some (c.Ident n)) ≡ None) → (o : CTokKind) {a : A}
    → f (Some o) ≡ Some a → ident_kind o ≡ false
not_ident f off (c.Ident n) e = absurd (let z = off n in cc)
not_ident f off _ e = refl

no_ident : (o : CTokKind) (a : At) (ts : List Token) → ident_kind o ≡ false → Never labels (tok o a ∷ ts)
no_ident o a ts off = record { off = λ rest. rw off refl }

abbrev Label : Phrase → List Token → Type 0
Label g.primary ts = Unlabelled ts
Label g.postfix ts = Unlabelled ts
Label g.unary ts = Unlabelled ts
Label g.cast ts = Unlabelled ts
Label (g.binary n) ts = Unlabelled ts
Label g.conditional ts = Unlabelled ts
Label g.assignment ts = Unlabelled ts
Label g.comma ts = Unlabelled ts
Label (g.optional g.comma) ts = is_empty ts ≡ false → Unlabelled ts
Label (g.spec storage typed) ts = Unlabelled ts
Label (g.words storage) ts = Unlabelled ts
Label (g.specs storage) ts = Unlabelled ts
Label g.declaration ts = Never labels ts
Label _ ts = Unit {0}

none_label : (p : Phrase) → Label (g.optional p) []
none_label g.comma = λ e. absurd cc
none_label _ = tt

given_label : (p : Phrase) (ts : List Token) → Label p ts → Label (g.optional p) ts
given_label g.comma ts l = λ _. l
given_label _ ts l = tt

pub label_of : {mode : Mode} {p : Phrase} {S T : State} {h : Heights} {ts : List Token} {x : Tree p} → Derives mode p S h ts x T
    → Label p ts
unfolding same_mark
label_of (g.left_out {p = p}) = none_label p
label_of (g.given {p = p} {ts = ts} d) = given_label p ts (label_of d)
label_of (g.named is) = record { off = λ rest off. off }
label_of g.constant = record { off = λ rest off. refl }
label_of g.text = record { off = λ rest off. refl }
label_of (g.paren a b d) = record { off = λ rest off. refl }
label_of (g.simple d) = label_of d
label_of (g.subscript a b d f) = weak (longer _ (longer _ (then_token (c.Mark m.OpenBracket) a refl (label_of d))))
label_of (g.call a b d f) = weak (longer _ (longer _ (then_token (c.Mark m.OpenParen) a refl (label_of d))))
label_of (g.reached a b o n is d) = weak (longer _ (then_token o a (never_is access_of m.Colon refl o is) (label_of d)))
label_of (g.stepped a o is d) = weak (then_token o a (never_is step_of m.Colon refl o is) (label_of d))
label_of (g.bare d) = label_of d
label_of (g.step a o is d) = weak (no_ident o a _ (not_ident step_of (λ _. refl) o is))
label_of (g.prefixed a o is d) = weak (no_ident o a _ (not_ident unary_of (λ _. refl) o is))
label_of (g.measured a d) = record { off = λ rest off. refl }
label_of (g.measured_type a b b' d) = record { off = λ rest off. refl }
label_of (g.uncast d) = label_of d
label_of (g.converted a b d f) = record { off = λ rest off. refl }
label_of (g.operand d) = label_of d
label_of (g.operated a o is le d f) = weak (longer _ (then_token o a (never_is infix_of m.Colon refl o is) (label_of d)))
label_of (g.tested d) = label_of d
label_of (g.chosen a b d f v) = weak (longer _ (longer _ (longer _ (then_token (c.Mark m.Question) a refl (label_of d)))))
label_of (g.valued d) = label_of d
label_of (g.assigned a o is d f) = weak (longer _ (then_token o a (never_is assign_of m.Colon refl o is) (label_of d)))
label_of (g.alone d) = label_of d
label_of (g.joined a d f) = weak (longer _ (then_token (c.Mark m.Comma) a refl (label_of d)))
label_of (g.word a o is ok) = weak (no_ident o a [] (not_ident word_of (λ _. refl) o is))
label_of (g.record_with a b o n is d) = weak (no_ident o a _ (not_ident record_of (λ _. refl) o is))
label_of (g.record_tag a b o n is) = weak (no_ident o a _ (not_ident record_of (λ _. refl) o is))
label_of (g.enum_with a a' b b' b'' n comma_ends d) = record { off = λ rest off. refl }
label_of (g.enum_tag a b n) = record { off = λ rest off. refl }
label_of (g.alias is) = record { off = λ rest off. off }
label_of (g.a_spec d) = label_of d
label_of (g.more_specs {T = T} {xs = xs} d f) = weak (then_first (excludes (is_word T xs.is_typed) m.Colon refl) (label_of d) (begins f))
label_of (g.specified d) = label_of d
label_of (g.declares_none a d) = then_token (c.Mark m.Semicolon) a refl (label_of d)
label_of (g.declares_some a {x = x} d f) = longer _
    (then_first (excludes (shape_starts k.Named x.is_typed _) m.Colon refl) (label_of d) (begins f refl))
label_of _ = tt

-- ---- a parenthesis, and a word of specifiers behind it

pub expr_word : (S : State) (o : CTokKind) → starts S o ≡ true → is_word S false o ≡ false
expr_word S (c.Ident n) e = not_yes _ e where
  not_yes : (a : Bool) → not a ≡ true → a ≡ false
  not_yes true e = absurd cc
  not_yes false e = refl
expr_word S (c.Constant v) e = refl
expr_word S (c.Text bytes) e = refl
expr_word S (c.Mark m.OpenParen) e = refl
expr_word S (c.Mark m.Sizeof) e = refl
expr_word S (c.Mark m.PlusPlus) e = refl
expr_word S (c.Mark m.MinusMinus) e = refl
expr_word S (c.Mark m.Ampersand) e = refl
expr_word S (c.Mark m.Star) e = refl
expr_word S (c.Mark m.Plus) e = refl
expr_word S (c.Mark m.Minus) e = refl
expr_word S (c.Mark m.Tilde) e = refl
expr_word S (c.Mark m.Exclamation) e = refl
expr_word S _ e = absurd cc

abbrev pub opens : State → List Token → Bool
opens S ts = is_mark m.OpenParen (head_of ts) && begins_specs S (tail_of ts)

pub opens_is : (S : State) (ts : List Token) → opens_type (at ts S) ≡ opens S ts
unfolding opens_type word_comes spec_comes sees head next
opens_is S [] = refl
opens_is S (t ∷ []) = by_test (is_mark m.OpenParen (Some t.kind)) where
  by_test : (b : Bool) → cond b false false ≡ (b && false)
  by_test true = refl
  by_test false = refl
opens_is S (t ∷ u ∷ ts) = by_test (is_mark m.OpenParen (Some t.kind)) where
  by_test : (b : Bool) → cond b (is_word S false u.kind) false ≡ (b && is_word S false u.kind)
  by_test true = refl
  by_test false = refl

abbrev Cast : Phrase → State → List Token → Type 0
Cast g.primary S ts = Never (opens S) ts
Cast g.postfix S ts = Never (opens S) ts
Cast g.unary S ts = Never (opens S) ts
Cast _ S ts = Unit {0}

cast_off : {mode : Mode} {p : Phrase} {S T : State} {h : Heights} {ts : List Token} {x : Tree p} → Derives mode p S h ts x T → Cast p S ts
unfolding same_mark
cast_off (g.named is) = record { off = λ rest. refl }
cast_off g.constant = record { off = λ rest. refl }
cast_off g.text = record { off = λ rest. refl }
cast_off (g.paren {S = S} a b {ts = ts} d) =
    let inner : Never (begins_specs S) ts = of_first (begins_specs S) (λ o p more ok. expr_word S o ok) (begins d) in
    record { off = λ rest. (longer (mark b m.CloseParen) inner).off rest }
cast_off (g.simple d) = cast_off d
cast_off (g.subscript a b d f) = longer _ (longer _ (longer _ (cast_off d)))
cast_off (g.call a b d f) = longer _ (longer _ (longer _ (cast_off d)))
cast_off (g.reached a b o n is d) = longer _ (longer _ (cast_off d))
cast_off (g.stepped a o is d) = longer _ (cast_off d)
cast_off (g.bare d) = cast_off d
cast_off (g.step a o is d) = record { off = λ rest. rw (never_is step_of m.OpenParen refl o is) refl }
cast_off (g.prefixed a o is d) = record { off = λ rest. rw (never_is unary_of m.OpenParen refl o is) refl }
cast_off (g.measured a d) = record { off = λ rest. refl }
cast_off (g.measured_type a b b' d) = record { off = λ rest. refl }
cast_off _ = tt

pub no_cast : {mode : Mode} {S T : State} {h : Heights} {ts : List Token} {x : Expr} → Derives mode g.unary S h ts x T
    → (rest : List Token) → opens_type (at (ts ++ rest) S) ≡ false
no_cast {S = S} {ts = ts} d rest = opens_is S (ts ++ rest) ∙ (cast_off d).off rest

-- ---- a declarator that is empty is nothing

abbrev Empty : (p : Phrase) → List Token → Tree p → Type 0
Empty (g.stem kind typed) ts x = is_empty ts ≡ true → (x ≡ nothing) × (is_named kind ≡ false)
Empty _ ts x = Unit {0}

none_empty : {A : Type 0} (ts us vs : List Token) (o : CTokKind) (a : At) → is_empty (ts ++ (tok o a ∷ []) ++ us ++ vs) ≡ true → A
none_empty [] us vs o a e = absurd cc
none_empty (t ∷ ts) us vs o a e = absurd cc

pub empty_stem : {mode : Mode} {p : Phrase} {S T : State} {h : Heights} {ts : List Token} {x : Tree p} → Derives mode p S h ts x T
    → Empty p ts x
empty_stem (g.absent is) = λ e. (refl, is)
empty_stem (g.naming is ok) = λ e. absurd cc
empty_stem (g.grouped a b off d) = λ e. absurd cc
empty_stem (g.array a b {ts = ts} {us = us} d f) = λ e. none_empty ts us _ _ _ e
empty_stem (g.function a b {ts = ts} {us = us} d f) = λ e. none_empty ts us _ _ _ e
empty_stem (g.old_style a b {ts = ts} {us = us} is d f) = λ e. none_empty ts us _ _ _ e
empty_stem _ = tt
