-- Passing a span goes over whatever is derived, with the same state behind it and no deeper.
use Rattle.std.proofs.Common.{◌≡◌, ℕ, ◌<◌, Bool, true, false, not, List, [], ◌∷◌, ◌++◌, length, Option, Some, None, refl, sym, ap, subst, ◌∙◌, arith}
use Rattle.std.specs.Prelude.{◌||◌, is_some}
use Rattle.c_tok.specs.declared.mark.Mark.TheVariants as m
use Rattle.c_tok.specs.declared.token.CTokKind.{CTokKind}
use Rattle.c_tok.specs.declared.token.CTokKind.TheVariants as c
use Rattle.c_names.specs.declared.names.Declared.{Declared}
use Rattle.c_tree.specs.declared.at.At.{At}
use Rattle.c_tree.specs.declared.operator.PointerWord.{PointerWord}
use Rattle.c_tree.specs.declared.operator.RecordKind.{RecordKind}
use Rattle.c_tree.specs.declared.expr.Declarator.{Declarator}
use Rattle.c_tree.specs.declared.expr.Declarator.TheVariants as d_
use Rattle.c_tree.specs.declared.expr.Enumerator.{Enumerator}
use Rattle.c_tree.specs.declared.expr.Expr.{Expr}
use Rattle.c_tree.specs.declared.expr.Member.{Member}
use Rattle.c_tree.specs.declared.expr.Param.{Param}
use Rattle.c_tree.specs.declared.expr.Slot.{Slot}
use Rattle.c_tree.specs.declared.expr.Slot.TheVariants as sl
use Rattle.c_tree.specs.declared.expr.Spec.{Spec}
use Rattle.c_tree.specs.declared.expr.Spec.TheVariants as sp
use Rattle.c_tree.specs.declared.expr.Specs.{Specs}
use Rattle.c_tree.specs.declared.declaring.Declaring.{Declaring}
use Rattle.c_tree.specs.declared.declaring.Params.{Params}
use Rattle.c_tree.specs.declared.height.Heights.{Heights}
use Rattle.c_tree.specs.Heights as class
use Rattle.c_tree.specs.Heights.{none, join, raise, count, Below}
use Rattle.c_tree.specs.Begins.{spec_at, declarator_at, declarator_begins, or_at}
use Rattle.c_tree.specs.Specs.{is_type_spec, is_typedef_spec, one_spec, with_spec}
use Rattle.c_decl.specs.declared.kind.Mode.TheVariants.{Whole, Spans}
use Rattle.c_decl.specs.declared.kind.DeclKind.TheVariants as k
use Rattle.c_decl.specs.declared.marking.Marked.TheVariants.{OldStyle, ImplicitInt, BitField}
use Rattle.c_decl.specs.Tokens.{Token, tok, mark}
use Rattle.c_decl.specs.State.{State, declares, declared_since, leave_out, leave_out_if}
use Rattle.c_decl.specs.Marks.{passable}
use Rattle.c_decl.specs.Grammar as g
use Rattle.c_decl.specs.Grammar.{Phrase, Tree, Derives, nothing, called, begins, nearest, function_of, no_params}
use Rattle.c_decl.proofs.Room.{left_below, right_below, both_below, none_below, outer_below, higher_below}
use Rattle.c_decl.proofs.Begins.{First}
use Rattle.c_decl.proofs.Begins as bg
use Rattle.c_decl.proofs.Children.{lefts, rights, counted}
use Rattle.c_decl.proofs.Passing.{Goes, Texts, Bracketed, stay, then_, over, cast_over, around, bracketed, span_of, span_low, inner, access_passes, step_passes, unary_passes, infix_passes, assign_passes}

-- ---- what both trees of the same tokens tell

pub record Told : Type 0 where
  pub at : At
  pub is_typed : Bool
  pub is_typedef : Bool

abbrev pub told : Specs → Told
told x = record { at = x.at; is_typed = x.is_typed; is_typedef = x.is_typedef }

pub record Shape : Type 0 where
  pub at : Option At
  pub name : Option (List ℕ)
  pub params : Option (List Declared)

abbrev pub shape : Declaring → Shape
shape x = record { at = declarator_at x.tree; name = x.name; params = x.params }

abbrev pub Same : (p : Phrase) → Tree p → Tree p → Type 0
Same (g.spec storage typed) x y = told (one_spec x) ≡ told (one_spec y)
Same (g.words storage) x y = told x ≡ told y
Same (g.specs storage) x y = told x ≡ told y
Same (g.declarator kind typed) x y = shape x ≡ shape y
Same (g.direct kind typed) x y = shape x ≡ shape y
Same (g.stem kind typed) x y = shape x ≡ shape y
Same _ x y = Unit {0}

-- the same tokens with spans
pub record Alike (p : Phrase) (S : State) (h : Heights) (ts : List Token) (x : Tree p) (T : State) : Type 0 where
  pub height : Heights
  pub tree : Tree p
  pub low : Below height h
  pub same : Same p x tree
  pub derives : Derives Spans p S height ts tree T

-- Passed over: each by itself, or what stands between brackets; or read alike.
pub data Role : Type 0 where
  each commas between alike apart : Role

abbrev pub listed : Role → Role
listed each = commas
listed alike = alike
listed _ = apart

abbrev pub only_alike : Role → Role
only_alike alike = alike
only_alike _ = apart

abbrev pub role : Phrase → Role
role (g.parted p) = listed (role p)
role (g.some p) = only_alike (role p)
role (g.optional p) = only_alike (role p)
role g.primary = each
role g.postfix = each
role g.arguments = between
role g.unary = each
role g.cast = each
role (g.binary n) = each
role g.conditional = each
role g.assignment = each
role g.comma = commas
role g.slot = alike
role (g.spec storage typed) = alike
role (g.words storage) = alike
role (g.specs storage) = alike
role g.members = alike
role g.member = alike
role (g.field w typed) = alike
role g.enumerator = alike
role (g.declarator kind typed) = alike
role (g.direct kind typed) = alike
role (g.stem kind typed) = alike
role g.pointer_words = alike
role g.identifiers = alike
role g.params = alike
role g.param = alike
role g.type_name = alike
role _ = apart

abbrev pub Claim : Role → (p : Phrase) → State → Heights → List Token → Tree p → State → Type 0
Claim each p S h ts x T = (b : Bool) → Texts b S h ts T
Claim commas p S h ts x T = Texts true S h ts T
Claim between p S h ts x T = Bracketed S h ts T
Claim alike p S h ts x T = Alike p S h ts x T
Claim apart p S h ts x T = Unit {0}

-- ---- heights

below_trans : (a b c : Heights) → Below a b → Below b c → Below a c
below_trans a b c h f = grind arith

below_same : (a : Heights) → Below a a
below_same a = grind arith

join_low : {a b c d : Heights} → Below a c → Below b d → Below (join a b) (join c d)
join_low {a = a} {b = b} {c = c} {d = d} h f = both_below a b (join c d)
    (below_trans a c (join c d) h (left_below c d (join c d) (below_same (join c d))))
    (below_trans b d (join c d) f (right_below c d (join c d) (below_same (join c d))))

raise_low : {a b : Heights} (c : class.Class) → Below a b → Below (raise c a) (raise c b)
raise_low {a = a} {b = b} c low = outer_below c a b low

-- ---- expressions

-- one token
single : {b : Bool} {S : State} {h : Heights} (a : At) (o : CTokKind) → passable b o ≡ true → Texts b S h (tok o a ∷ []) S
single a o on = record { goes = λ bound low. over a o on stay }

-- what nests one deeper than its parts
node : {b : Bool} {S T : State} {h : Heights} {ts : List Token} → ((bound : Heights) → Below h bound → Goes bound b S ts T)
    → Texts b S (raise class.expression h) ts T
node f = record { goes = λ bound low. f bound (inner low) }

part : {b : Bool} {S T : State} {h bound : Heights} {ts : List Token} → Texts b S h ts T → Below h bound → Goes bound b S ts T
part {h = h} {bound = bound} t low = t.goes bound (higher_below class.expression h bound low)

nothing_between : {S : State} → Bracketed S none [] S
nothing_between = record {
  inside = λ bound some low. record
      { height = raise class.expression none; low = span_low bound some (none_below _); derives = g.spanned g.begun };
  word = refl;
}

whole_only : Whole ≡ Spans → ⊥
whole_only e = absurd cc

-- ---- slots

slot_of : {P : CTokKind → Bool} {S T : State} {h : Heights} {ts : List Token} {x : Slot} → Texts false S h ts T
    → 0 < count class.expression h → First P ts → Alike g.slot S h ts x T
slot_of {S = S} {T = T} {h = h} {ts = ts} t some first =
    let s = span_of false t h some (below_same h) in
    let f : Token = tok first.first first.place in
    let tree : Slot = sl.Span (record { first = f.at.number; count = length (f ∷ first.more); names = S.names }) in
    let D : List Token → Type 0 = λ z. Derives Spans (g.span false) S (raise class.expression s.height) z tt T in
    let E : List Token → Type 0 = λ z. Derives Spans g.slot S (raise class.expression s.height) z tree T in
    record {
      height = raise class.expression s.height;
      tree = tree;
      low = span_low h some s.low;
      same = tt;
      derives = subst E (sym first.is) (g.passed_over f refl (subst D first.is (g.spanned s.derives)));
    }

-- ---- specifiers and declarators

still : {p : Phrase} {S T : State} {h : Heights} {ts : List Token} {x : Tree p} → Same p x x → Derives Spans p S h ts x T
    → Alike p S h ts x T
still {h = h} {x = x} same d = record { height = h; tree = x; low = below_same h; same = same; derives = d }

record_told : (a : At) (kind : RecordKind) (n : Option (List ℕ)) (xs ys : List Member)
    → told (one_spec (sp.Record a kind n xs)) ≡ told (one_spec (sp.Record a kind n ys))
unfolding spec_at is_type_spec is_typedef_spec
record_told a kind n xs ys = rw (sp.outs-Record a kind n xs, sp.outs-Record a kind n ys) refl

enum_told : (a : At) (n : Option (List ℕ)) (ends : Bool) (xs ys : List Enumerator)
    → told (one_spec (sp.Enum a n xs ends)) ≡ told (one_spec (sp.Enum a n ys ends))
unfolding spec_at is_type_spec is_typedef_spec
enum_told a n ends xs ys = rw (sp.outs-Enum a n xs ends, sp.outs-Enum a n ys ends) refl

abbrev with_told : Told → Told → Told
with_told t u = record { at = t.at; is_typed = t.is_typed || u.is_typed; is_typedef = t.is_typedef || u.is_typedef }

with_same : (xs ys : Specs) (x y : Spec) → told xs ≡ told ys → told (one_spec x) ≡ told (one_spec y)
    → told (with_spec xs x) ≡ told (with_spec ys y)
with_same xs ys x y e f = ap (λ (t : Told). with_told t (told (one_spec x))) e ∙ ap (with_told (told ys)) f

-- around a declarator, with the same beginning
around_same : (x y : Declaring) (t u : Declarator) → declarator_at t ≡ declarator_at u → shape x ≡ shape y
    → shape (g.around t x) ≡ shape (g.around u y)
around_same x y t u e f =
    ap (λ (a : Option At). record (shape x) { at = a }) e ∙ ap (λ (s : Shape). record s { at = declarator_at u }) f

pointer_at : (a : At) (ws : List PointerWord) (t : Declarator) → declarator_at (d_.Pointer a ws t) ≡ Some a
unfolding declarator_at
pointer_at a ws t = ap declarator_begins (d_.outs-Pointer a ws t)

grouped_at : (a : At) (t : Declarator) → declarator_at (d_.Grouped a t) ≡ Some a
unfolding declarator_at
grouped_at a t = ap declarator_begins (d_.outs-Grouped a t)

array_at : (a : At) (t : Declarator) (n : Option Slot) → declarator_at (d_.Array a t n) ≡ Some a
unfolding declarator_at
array_at a t n = ap declarator_begins (d_.outs-Array a t n)

function_at : (a : At) (t : Declarator) (ps : List Param) (more : Bool) → declarator_at (d_.Function a t ps more) ≡ Some a
unfolding declarator_at
function_at a t ps more = ap declarator_begins (d_.outs-Function a t ps more)

array_same : (a : At) (x y : Declaring) (n n' : Option Slot) → shape x ≡ shape y
    → shape (g.around (d_.Array (begins a x) x.tree n) x) ≡ shape (g.around (d_.Array (begins a y) y.tree n') y)
array_same a x y n n' e = around_same x y _ _
    (array_at (begins a x) x.tree n ∙ ap (λ (s : Shape). Some (or_at a s.at)) e ∙ sym (array_at (begins a y) y.tree n')) e

abbrev of_function : List Declared → Shape → Shape
of_function ds s = record s { params = nearest s.params ds }

function_same : (a : At) (x y : Declaring) (ps qs : Params) (ds : List Declared) → shape x ≡ shape y
    → shape (function_of a x ps ds) ≡ shape (function_of a y qs ds)
function_same a x y ps qs ds e = ap (of_function ds) (around_same x y (d_.Function (begins a x) x.tree ps.items ps.is_variadic)
    (d_.Function (begins a y) y.tree qs.items qs.is_variadic)
    (function_at _ x.tree ps.items ps.is_variadic ∙ ap (λ (s : Shape). Some (or_at a s.at)) e
    ∙ sym (function_at _ y.tree qs.items qs.is_variadic)) e)

-- ---- lists

none_claim : (r : Role) (p : Phrase) (S : State) → Claim (only_alike r) (g.optional p) S none [] None S
none_claim alike p S = still tt g.left_out
none_claim each p S = tt
none_claim commas p S = tt
none_claim between p S = tt
none_claim apart p S = tt

module _ (p : Phrase) (S T : State) (h : Heights) (ts : List Token) (x : Tree p) where
  given_claim : (r : Role) → Claim r p S h ts x T → Claim (only_alike r) (g.optional p) S h ts (Some x) T
  given_claim alike s = record { height = s.height; tree = Some s.tree; low = s.low; same = tt; derives = g.given s.derives }
  given_claim each s = tt
  given_claim commas s = tt
  given_claim between s = tt
  given_claim apart s = tt

  first_claim : (r : Role) → Claim r p S h ts x T → Claim (only_alike r) (g.some p) S h ts (x ∷ []) T
  first_claim alike s = record { height = s.height; tree = s.tree ∷ []; low = s.low; same = tt; derives = g.first s.derives }
  first_claim each s = tt
  first_claim commas s = tt
  first_claim between s = tt
  first_claim apart s = tt

  one_claim : (r : Role) → Claim r p S h ts x T → Claim (listed r) (g.parted p) S h ts (x ∷ []) T
  one_claim alike s = record { height = s.height; tree = s.tree ∷ []; low = s.low; same = tt; derives = g.one s.derives }
  one_claim each s = s true
  one_claim commas s = tt
  one_claim between s = tt
  one_claim apart s = tt

  module _ (U : State) (f : Heights) (us : List Token) (xs : List (Tree p)) where
    further_claim : (r : Role) → Claim (only_alike r) (g.some p) U f us xs S → Claim r p S h ts x T
        → Claim (only_alike r) (g.some p) U (join f h) (us ++ ts) (xs ++ x ∷ []) T
    further_claim alike s r = record {
      height = join s.height r.height;
      tree = s.tree ++ r.tree ∷ [];
      low = join_low s.low r.low;
      same = tt;
      derives = g.further s.derives r.derives;
    }
    further_claim each s r = tt
    further_claim commas s r = tt
    further_claim between s r = tt
    further_claim apart s r = tt

    another_claim : (r : Role) (a : At) → Claim (listed r) (g.parted p) U f us xs S → Claim r p S h ts x T
        → Claim (listed r) (g.parted p) U (join f h) (us ++ mark a m.Comma ++ ts) (xs ++ x ∷ []) T
    another_claim alike a s r = record {
      height = join s.height r.height;
      tree = s.tree ++ r.tree ∷ [];
      low = join_low s.low r.low;
      same = tt;
      derives = g.another a s.derives r.derives;
    }
    another_claim each a s r = record {
      goes = λ bound low. then_ (over a (c.Mark m.Comma) refl (s.goes bound (lefts f h low))) ((r true).goes bound (rights f h low));
    }
    another_claim commas a s r = tt
    another_claim between a s r = tt
    another_claim apart a s r = tt

-- ---- whatever is derived

pub spans : {p : Phrase} {S T : State} {h : Heights} {ts : List Token} {x : Tree p} → Derives Whole p S h ts x T
    → Claim (role p) p S h ts x T
spans (g.one {p = p} d) = one_claim p _ _ _ _ _ (role p) (spans d)
spans (g.another {p = p} a d f) = another_claim p _ _ _ _ _ _ _ _ _ (role p) a (spans d) (spans f)
spans (g.first {p = p} d) = first_claim p _ _ _ _ _ (role p) (spans d)
spans (g.further {p = p} d f) = further_claim p _ _ _ _ _ _ _ _ _ (role p) (spans d) (spans f)
spans (g.left_out {p = p}) = none_claim (role p) p _
spans (g.given {p = p} d) = given_claim p _ _ _ _ _ (role p) (spans d)
spans (g.named {a = a} {n = n} is) = λ i. single a (c.Ident n) refl
spans (g.constant {a = a} {v = v}) = λ i. single a (c.Constant v) refl
spans (g.text {a = a} {bytes = bytes}) = λ i. single a (c.Text bytes) refl
spans (g.paren a b d) = λ i. node λ bound low.
    around a b (c.Mark m.OpenParen) m.CloseParen refl (counted d) low low stay (bracketed (spans d) (bg.begins d))
spans (g.simple d) = spans d
spans (g.subscript {h = h} {g = f} a b d e) = λ i. node λ bound low.
    around a b (c.Mark m.OpenBracket) m.CloseBracket refl (counted d) (lefts h f low) (rights h f low) (part (spans d i) (lefts h f low))
    (bracketed (spans e) (bg.begins e))
spans (g.call {h = h} {g = f} a b d e) = λ i. node λ bound low.
    around a b (c.Mark m.OpenParen) m.CloseParen refl (counted d) (lefts h f low) (rights h f low)
    (part (spans d i) (lefts h f low)) (spans e)
spans (g.reached a b o n is d) = λ i. node λ bound low. over b (c.Ident n) refl (over a o (access_passes i o is) (part (spans d i) low))
spans (g.stepped a o is d) = λ i. node λ bound low. over a o (step_passes i o is) (part (spans d i) low)
spans g.no_arguments = nothing_between
spans (g.some_arguments d) = bracketed (spans d) (bg.begins d refl)
spans (g.bare d) = spans d
spans (g.step a o is d) = λ i. node λ bound low. then_ (over a o (step_passes i o is) stay) (part (spans d i) low)
spans (g.prefixed a o is d) = λ i. node λ bound low. then_ (over a o (unary_passes i o is) stay) (part (spans d i) low)
spans (g.measured a d) = λ i. node λ bound low. then_ (over a (c.Mark m.Sizeof) refl stay) (part (spans d i) low)
spans (g.measured_type {h = h} a b b' d) = λ i. node λ bound low.
    let s = spans d in cast_over b b' (over a (c.Mark m.Sizeof) refl stay) (below_trans s.height h bound s.low low) s.derives
spans (g.uncast d) = spans d
spans (g.converted {h = h} {g = f} a b d e) = λ i. node λ bound low.
    let s = spans d in then_ (cast_over a b stay (below_trans s.height h bound s.low (lefts h f low)) s.derives)
    (part (spans e i) (rights h f low))
spans (g.operand d) = spans d
spans (g.operated {h = h} {g = f} a o is le d e) = λ i. node λ bound low.
    then_ (over a o (infix_passes i o is) (part (spans d i) (lefts h f low))) (part (spans e i) (rights h f low))
spans (g.tested d) = spans d
spans (g.chosen {h = h} {g = f} {f = v} a b d e t) = λ i. node λ bound low. let more = rights h (join f v) low in then_
    (around a b (c.Mark m.Question) m.Colon refl (counted d) (lefts h (join f v) low) (lefts f v more)
    (part (spans d i) (lefts h (join f v) low))
    (bracketed (spans e) (bg.begins e))) (part (spans t i) (rights f v more))
spans (g.valued d) = spans d
spans (g.assigned {h = h} {g = f} a o is d e) = λ i. node λ bound low.
    then_ (over a o (assign_passes i o is) (part (spans d i) (lefts h f low))) (part (spans e i) (rights h f low))
spans (g.alone d) = spans d true
spans (g.joined {h = h} {g = f} a d e) = node λ bound low.
    then_ (over a (c.Mark m.Comma) refl (part (spans d) (lefts h f low))) (part (spans e true) (rights h f low))
spans (g.whole is d) = slot_of (spans d false) (counted d) (bg.begins d)
spans (g.passed_over t is d) = absurd (whole_only is)
spans (g.word a o is ok) = still refl (g.word a o is ok)
spans (g.record_with a b o n {kind = kind} {xs = xs} is d) = let s = spans d in record {
  height = s.height;
  tree = sp.Record a kind n s.tree;
  low = s.low;
  same = record_told a kind n xs s.tree;
  derives = g.record_with a b o n is s.derives;
}
spans (g.record_tag a b o n is) = still refl (g.record_tag a b o n is)
spans (g.enum_with a a' b b' b'' n ends {xs = xs} d) = let s = spans d in record {
  height = s.height;
  tree = sp.Enum a n s.tree ends;
  low = s.low;
  same = enum_told a n ends xs s.tree;
  derives = g.enum_with a a' b b' b'' n ends s.derives;
}
spans (g.enum_tag a b n) = still refl (g.enum_tag a b n)
spans (g.alias is) = still refl (g.alias is)
spans (g.a_spec d) = let s = spans d in
    record { height = s.height; tree = one_spec s.tree; low = s.low; same = s.same; derives = g.a_spec s.derives }
spans (g.more_specs {storage = storage} {T = T} {U = U} {us = us} {xs = xs} {y = y} d e) = let s = spans d in let r = spans e in record {
  height = join s.height r.height;
  tree = with_spec s.tree r.tree;
  low = join_low s.low r.low;
  same = with_same xs s.tree y r.tree s.same r.same;
  derives = g.more_specs s.derives
      (subst (λ (t : Told). Derives Spans (g.spec storage t.is_typed) T r.height us r.tree U) s.same r.derives);
}
spans (g.specified {storage = storage} {S = S} {T = T} {ts = ts} d) = let s = spans d in record {
  height = s.height;
  tree = s.tree;
  low = s.low;
  same = s.same;
  derives = subst (λ (t : Told). Derives Spans (g.specs storage) S s.height ts s.tree (leave_out_if (not t.is_typed) ImplicitInt t.at T))
      (sym s.same) (g.specified s.derives);
}
spans (g.enclosed a b d) = let s = spans d in
    record {
      height = raise class.members s.height;
      tree = s.tree;
      low = raise_low class.members s.low;
      same = tt;
      derives = g.enclosed a b s.derives;
    }
spans (g.member_of {S = S} {T = T} {U = U} a w {ts = ts} {us = us} d e) = let s = spans d in let r = spans e in
    let tree : Member = record { specs = s.tree; declarators = r.tree } in
    record {
      height = join s.height r.height;
      tree = tree;
      low = join_low s.low r.low;
      same = tt;
      derives = subst (λ (t : Told). Derives Spans g.member S (join s.height r.height) (ts ++ us ++ mark a m.Semicolon) tree
          (leave_out_if w BitField t.at U)) (sym s.same) (g.member_of a w s.derives
          (subst (λ (t : Told). Derives Spans (g.parted (g.field w t.is_typed)) T r.height us r.tree U) s.same r.derives));
    }
spans (g.plain_field d) = let s = spans d in
    record { height = s.height; tree = s.tree.tree; low = s.low; same = tt; derives = g.plain_field s.derives }
spans (g.width a d) = let s = spans d in
    record { height = s.height; tree = d_.Nothing; low = s.low; same = tt; derives = g.width a s.derives }
spans (g.field_width a d e) = let s = spans d in let r = spans e in record {
  height = join s.height r.height;
  tree = s.tree.tree;
  low = join_low s.low r.low;
  same = tt;
  derives = g.field_width a s.derives r.derives;
}
spans g.counted = still tt g.counted
spans (g.counted_from a b n d) = let s = spans d in record {
  height = s.height;
  tree = record { at = a; name = n; value = Some s.tree };
  low = s.low;
  same = tt;
  derives = g.counted_from a b n s.derives;
}
spans (g.straight d) = let s = spans d in
    record { height = s.height; tree = s.tree; low = s.low; same = s.same; derives = g.straight s.derives }
spans (g.starred a {ws = ws} {x = x} d e) = let s = spans d in let r = spans e in record {
  height = raise class.declarator (join s.height r.height);
  tree = g.around (d_.Pointer a s.tree r.tree.tree) r.tree;
  low = raise_low class.declarator (join_low s.low r.low);
  same = around_same x r.tree _ _ (pointer_at a ws x.tree ∙ sym (pointer_at a s.tree r.tree.tree)) r.same;
  derives = g.starred a s.derives r.derives;
}
spans (g.pointed a {ws = ws} is d) = let s = spans d in record {
  height = raise class.declarator s.height;
  tree = g.around (d_.Pointer a s.tree d_.Nothing) nothing;
  low = raise_low class.declarator s.low;
  same = around_same nothing nothing _ _ (pointer_at a ws d_.Nothing ∙ sym (pointer_at a s.tree d_.Nothing)) refl;
  derives = g.pointed a is s.derives;
}
spans g.no_words = still tt g.no_words
spans (g.more_words a o {w = w} is d) = let s = spans d in
    record { height = s.height; tree = s.tree ++ w ∷ []; low = s.low; same = tt; derives = g.more_words a o is s.derives }
spans (g.solid some d) = let s = spans d in
    record { height = s.height; tree = s.tree; low = s.low; same = s.same; derives = g.solid some s.derives }
spans (g.absent is) = still refl (g.absent is)
spans (g.naming is ok) = still refl (g.naming is ok)
spans (g.grouped a b {x = x} off d) = let s = spans d in record {
  height = raise class.declarator s.height;
  tree = g.around (d_.Grouped a s.tree.tree) s.tree;
  low = raise_low class.declarator s.low;
  same = around_same x s.tree _ _ (grouped_at a x.tree ∙ sym (grouped_at a s.tree.tree)) s.same;
  derives = g.grouped a b off s.derives;
}
spans (g.array a b {x = x} {size = size} d e) = let s = spans d in let r = spans e in record {
  height = raise class.declarator (join s.height r.height);
  tree = g.around (d_.Array (begins a s.tree) s.tree.tree r.tree) s.tree;
  low = raise_low class.declarator (join_low s.low r.low);
  same = array_same a x s.tree size r.tree s.same;
  derives = g.array a b s.derives r.derives;
}
spans (g.function {T = T} {U = U} a b {x = x} {ps = ps} d e) = let s = spans d in let r = spans e in record {
  height = raise class.declarator (join s.height r.height);
  tree = function_of a s.tree r.tree (declared_since T U);
  low = raise_low class.declarator (join_low s.low r.low);
  same = function_same a x s.tree ps r.tree (declared_since T U) s.same;
  derives = g.function a b s.derives r.derives;
}
spans (g.old_style {kind = kind} {is_typed = typed} {S = S} {U = U} a b {ts = ts} {us = us} {x = x} is d e) =
    let s = spans d in let r = spans e in
    let tree : Declaring = function_of a s.tree no_params [] in
    record {
      height = raise class.declarator (join s.height r.height);
      tree = tree;
      low = raise_low class.declarator (join_low s.low r.low);
      same = function_same a x s.tree no_params no_params [] s.same;
      derives = subst (λ (t : Shape). Derives Spans (g.stem kind typed) S (raise class.declarator (join s.height r.height))
          (ts ++ mark a m.OpenParen ++ us ++ mark b m.CloseParen) tree (leave_out OldStyle (or_at a t.at) U)) (sym s.same)
          (g.old_style a b (sym (ap (λ (t : Shape). is_some t.name) s.same) ∙ is) s.derives r.derives);
    }
spans (g.an_identifier is) = still tt (g.an_identifier is)
spans (g.more_identifiers a b n is d) = let s = spans d in
    record { height = s.height; tree = tt; low = s.low; same = tt; derives = g.more_identifiers a b n is s.derives }
spans g.no_parameters = still tt g.no_parameters
spans (g.some_parameters d) = let s = spans d in record {
  height = s.height;
  tree = record { items = s.tree; is_variadic = false };
  low = s.low;
  same = tt;
  derives = g.some_parameters s.derives;
}
spans (g.variadic a b d) = let s = spans d in record {
  height = s.height;
  tree = record { items = s.tree; is_variadic = true };
  low = s.low;
  same = tt;
  derives = g.variadic a b s.derives;
}
spans (g.unnamed d) = let s = spans d in record {
  height = s.height;
  tree = record { specs = s.tree; declarator = d_.Nothing };
  low = s.low;
  same = tt;
  derives = g.unnamed s.derives;
}
spans (g.declared {S = S} {T = T} {U = U} {ts = ts} {us = us} {x = x} {y = y} d e) = let s = spans d in let r = spans e in
    let tree : Param = record { specs = s.tree; declarator = r.tree.tree } in
    record {
      height = join s.height r.height;
      tree = tree;
      low = join_low s.low r.low;
      same = tt;
      derives = subst (λ (n : Shape). Derives Spans g.param S (join s.height r.height) (ts ++ us) tree (declares n.name x.is_typedef U))
          (sym r.same)
          (subst (λ (t : Told). Derives Spans g.param S (join s.height r.height) (ts ++ us) tree (declares r.tree.name t.is_typedef U))
          (sym s.same) (g.declared s.derives
          (subst (λ (t : Told). Derives Spans (g.declarator k.Param t.is_typed) T r.height us r.tree U) s.same r.derives)));
    }
spans (g.type_alone d) = let s = spans d in record {
  height = s.height;
  tree = record { specs = s.tree; declarator = d_.Nothing };
  low = s.low;
  same = tt;
  derives = g.type_alone s.derives;
}
spans (g.type_of {T = T} {U = U} {us = us} d e) = let s = spans d in let r = spans e in record {
  height = join s.height r.height;
  tree = record { specs = s.tree; declarator = r.tree.tree };
  low = join_low s.low r.low;
  same = tt;
  derives = g.type_of s.derives
      (subst (λ (t : Told). Derives Spans (g.declarator k.Abstract t.is_typed) T r.height us r.tree U) s.same r.derives);
}
spans _ = tt

-- ---- a span for an expression, no deeper than it

pub record Spanned (b : Bool) (S : State) (h : Heights) (ts : List Token) (T : State) : Type 0 where
  pub height : Heights
  pub low : Below height h
  pub derives : Derives Spans (g.span b) S height ts tt T

spanned : {b : Bool} {S T : State} {h : Heights} {ts : List Token} → Texts b S h ts T → 0 < count class.expression h → Spanned b S h ts T
spanned {b = b} {h = h} t some = let s = span_of b t h some (below_same h) in
    record { height = raise class.expression s.height; low = span_low h some s.low; derives = g.spanned s.derives }

-- as a slot is
pub conditional_span : {S T : State} {h : Heights} {ts : List Token} {x : Expr} → Derives Whole g.conditional S h ts x T → (b : Bool)
    → Spanned b S h ts T
conditional_span d b = spanned (spans d b) (counted d)

-- as it stands between brackets
pub comma_span : {S T : State} {h : Heights} {ts : List Token} {x : Expr} → Derives Whole g.comma S h ts x T → Spanned true S h ts T
comma_span d = spanned (spans d) (counted d)
