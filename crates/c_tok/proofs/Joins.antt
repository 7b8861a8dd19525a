-- Adjacent strings joined from the left.
use Rattle.std.proofs.Common.{◌≡◌, ℕ, List, [], ◌∷◌, ◌++◌, None, refl, sym, ap, ◌∙◌, append_assoc, append-nil}
use Rattle.std.specs.Prelude.{Result, Ok, Err}
use Rattle.qv_base.specs.declared.place.Place.{Place}
use Rattle.pp_tok.specs.declared.token.PpTok.{PpTok}
use Rattle.c_tok.specs.declared.token.CTok.{CTok}
use Rattle.c_tok.specs.declared.token.CTokKind.{CTokKind}
use Rattle.c_tok.specs.declared.token.CTokKind.TheVariants as c
use Rattle.c_tok.specs.declared.fault.TokFault.{TokFault}
use Rattle.c_tok.specs.Results.{on_ok, and_then}
use Rattle.c_tok.specs.Tokens.{kind_of, tokens_of, both, onto, onto_next, joined, c_tokens}
use Rattle.c_tok.specs.Joining.{with_token, with_tokens}

-- what is known of a token that is no string
abbrev pub IsPlain : CTokKind → Type 0
IsPlain (c.Text s) = ⊥
IsPlain k = Unit {0}

none_behind : (a b : CTokKind) → IsPlain b → both a b ≡ None
none_behind (c.Mark m) b plain = refl
none_behind (c.Ident n) b plain = refl
none_behind (c.Constant k) b plain = refl
none_behind (c.Text s) (c.Mark m) plain = refl
none_behind (c.Text s) (c.Ident n) plain = refl
none_behind (c.Text s) (c.Constant k) plain = refl
none_behind (c.Text s) (c.Text r) plain = absurd plain

-- behind a token
pub with_last : (xs : List CTok) (x t : CTok) → with_token (xs ++ x ∷ []) t ≡ xs ++ onto x (t ∷ [])
with_last [] x t = refl
with_last (y ∷ []) x t = refl
with_last (y ∷ z ∷ xs) x t = ap (λ l. y ∷ l) (with_last (z ∷ xs) x t)

pub with_plain : (xs : List CTok) (t : CTok) → IsPlain t.kind → with_token xs t ≡ xs ++ t ∷ []
with_plain [] t plain = refl
with_plain (x ∷ []) t plain = ap (onto_next x t []) (none_behind x.kind t.kind plain)
with_plain (x ∷ y ∷ xs) t plain = ap (λ l. x ∷ l) (with_plain (y ∷ xs) t plain)

none_before : (a b : CTokKind) → IsPlain a → both a b ≡ None
none_before (c.Mark m) b plain = refl
none_before (c.Ident n) b plain = refl
none_before (c.Constant k) b plain = refl
none_before (c.Text s) b plain = absurd plain

onto_plain : (x : CTok) (l : List CTok) → IsPlain x.kind → onto x l ≡ x ∷ l
onto_plain x [] plain = refl
onto_plain x (y ∷ ys) plain = ap (onto_next x y ys) (none_before x.kind y.kind plain)

-- what comes first and what comes last are joined in any order

abbrev tk : CTokKind → Place → CTok
tk kind place = record { kind = kind; place = place }

text_one : (a : List ℕ) (p : Place) (k : CTokKind) (q : Place) (d : CTokKind) (r : Place) → onto (tk (c.Text a) p) (onto (tk k q) (tk d r ∷ [])) ≡ with_token (onto (tk (c.Text a) p) (tk k q ∷ [])) (tk d r)
text_one a p (c.Mark m) q d r = refl
text_one a p (c.Ident n) q d r = refl
text_one a p (c.Constant k) q d r = refl
text_one a p (c.Text b) q (c.Mark m) r = refl
text_one a p (c.Text b) q (c.Ident n) r = refl
text_one a p (c.Text b) q (c.Constant k) r = refl
text_one a p (c.Text b) q (c.Text s) r = ap (λ l. tk (c.Text l) p ∷ []) (sym (append_assoc a b s))

text_more : (a : List ℕ) (p : Place) (k : CTokKind) (q : Place) (z : CTok) (l : List CTok) (t : CTok) →
    onto (tk (c.Text a) p) (with_token (tk k q ∷ z ∷ l) t) ≡ with_token (onto (tk (c.Text a) p) (tk k q ∷ z ∷ l)) t
text_more a p (c.Mark m) q z l t = refl
text_more a p (c.Ident n) q z l t = refl
text_more a p (c.Constant k) q z l t = refl
text_more a p (c.Text b) q z l t = refl

before_text : (a : List ℕ) (p : Place) (l : List CTok) (t : CTok) → onto (tk (c.Text a) p) (with_token l t) ≡ with_token (onto (tk (c.Text a) p) l) t
before_text a p [] t = refl
before_text a p (y ∷ []) t = text_one a p y.kind y.place t.kind t.place
before_text a p (y ∷ z ∷ l) t = text_more a p y.kind y.place z l t

before_plain : (x : CTok) (l : List CTok) (t : CTok) → IsPlain x.kind → onto x (with_token l t) ≡ with_token (onto x l) t
before_plain x [] t plain = refl
before_plain x (y ∷ l) t plain = onto_plain x (with_token (y ∷ l) t) plain ∙ sym (ap (λ l. with_token l t) (onto_plain x (y ∷ l) plain))

before_kind : (kind : CTokKind) (p : Place) (l : List CTok) (t : CTok) → onto (tk kind p) (with_token l t) ≡ with_token (onto (tk kind p) l) t
before_kind (c.Mark m) p l t = before_plain (tk (c.Mark m) p) l t tt
before_kind (c.Ident n) p l t = before_plain (tk (c.Ident n) p) l t tt
before_kind (c.Constant k) p l t = before_plain (tk (c.Constant k) p) l t tt
before_kind (c.Text a) p l t = before_text a p l t

before : (x : CTok) (l : List CTok) (t : CTok) → onto x (with_token l t) ≡ with_token (onto x l) t
before x l t = before_kind x.kind x.place l t

joined_nil : joined [] ≡ []
unfolding joined
joined_nil = refl

joined_more : (x : CTok) (xs : List CTok) → joined (x ∷ xs) ≡ onto x (joined xs)
unfolding joined
joined_more x xs = refl

joined_end : (xs : List CTok) (t : CTok) → joined (xs ++ t ∷ []) ≡ with_token (joined xs) t
joined_end [] t = joined_more t [] ∙ ap (onto t) joined_nil ∙ sym (ap (λ l. with_token l t) joined_nil)
joined_end (x ∷ xs) t = joined_more x (xs ++ t ∷ []) ∙ ap (onto x) (joined_end xs t) ∙ before x (joined xs) t ∙ sym (ap (λ l. with_token l t) (joined_more x xs))

joined_both : (xs ts : List CTok) → with_tokens (joined xs) ts ≡ joined (xs ++ ts)
joined_both xs [] = sym (ap joined (append-nil xs))
joined_both xs (t ∷ ts) = sym (ap (λ l. with_tokens l ts) (joined_end xs t)) ∙ joined_both (xs ++ t ∷ []) ts ∙ ap joined (append_assoc xs (t ∷ []) ts)

from_none : (ts : List CTok) → with_tokens [] ts ≡ joined ts
from_none ts = sym (ap (λ l. with_tokens l ts) joined_nil) ∙ joined_both [] ts

all_from_none : (r : Result (List CTok) TokFault) → on_ok (with_tokens []) r ≡ on_ok joined r
all_from_none (Ok ts) = ap (λ l. Ok l) (from_none ts)
all_from_none (Err e) = refl

pub begins : (toks : List PpTok) → on_ok (with_tokens []) (tokens_of toks) ≡ c_tokens toks
unfolding c_tokens
begins toks = all_from_none (tokens_of toks)

-- token by token

abbrev pub of_kind : CTokKind → PpTok → CTok
of_kind kind t = record { kind = kind; place = t.place }

more_by : (out : List CTok) (x : CTok) (r : Result (List CTok) TokFault) → on_ok (with_tokens out) (on_ok (λ xs. x ∷ xs) r) ≡ on_ok (with_tokens (with_token out x)) r
more_by out x (Ok xs) = refl
more_by out x (Err e) = refl

abbrev by_kind : List CTok → PpTok → List PpTok → Result CTokKind TokFault → Result (List CTok) TokFault
by_kind out t ts r = on_ok (with_tokens out) (and_then (λ x. on_ok (λ xs. x ∷ xs) (tokens_of ts)) (on_ok (λ kind. of_kind kind t) r))

first : (out : List CTok) (t : PpTok) (ts : List PpTok) → on_ok (with_tokens out) (tokens_of (t ∷ ts)) ≡ by_kind out t ts (kind_of t)
unfolding tokens_of
first out t ts = refl

pub goes : (out : List CTok) (t : PpTok) (ts : List PpTok) (kind : CTokKind) → kind_of t ≡ Ok kind → on_ok (with_tokens out) (tokens_of (t ∷ ts)) ≡ on_ok (with_tokens (with_token out (of_kind kind t))) (tokens_of ts)
goes out t ts kind is = first out t ts ∙ ap (by_kind out t ts) is ∙ more_by out (of_kind kind t) (tokens_of ts)

pub fails : (out : List CTok) (t : PpTok) (ts : List PpTok) (e : TokFault) → kind_of t ≡ Err e → on_ok (with_tokens out) (tokens_of (t ∷ ts)) ≡ Err e
fails out t ts e is = first out t ts ∙ ap (by_kind out t ts) is

pub ends : (out : List CTok) → on_ok (with_tokens out) (tokens_of []) ≡ Ok out
unfolding tokens_of
ends out = refl
