-- How what is derived begins.
use Rattle.std.proofs.Common.{◌≡◌, ℕ, Bool, true, false, not, List, [], ◌∷◌, ◌++◌, Option, Some, None, refl, sym, ap, subst, ◌∙◌}
use Rattle.std.specs.Prelude.{◌||◌, is_some}
use Rattle.c_tok.specs.declared.mark.Mark.{Mark}
use Rattle.c_tok.specs.declared.mark.Mark.TheVariants as m
use Rattle.c_tok.specs.declared.token.CTokKind.{CTokKind}
use Rattle.c_tok.specs.declared.token.CTokKind.TheVariants as c
use Rattle.c_tree.specs.declared.at.At.{At}
use Rattle.c_tree.specs.declared.operator.RecordKind.{RecordKind}
use Rattle.c_tree.specs.declared.operator.SpecWord.{SpecWord}
use Rattle.c_tree.specs.declared.operator.Step.{Step}
use Rattle.c_tree.specs.declared.operator.UnaryOp.{UnaryOp}
use Rattle.c_tree.specs.declared.height.Heights.{Heights}
use Rattle.c_decl.specs.declared.kind.Control.{Control}
use Rattle.c_decl.specs.declared.kind.Jump.{Jump}
use Rattle.c_decl.specs.declared.kind.DeclKind.{DeclKind}
use Rattle.c_decl.specs.declared.kind.DeclKind.TheVariants as k
use Rattle.c_decl.specs.declared.kind.Mode.{Mode}
use Rattle.c_decl.specs.declared.kind.Mode.TheVariants.{Whole, Spans}
use Rattle.c_decl.specs.Tokens.{Token, tok, is_empty, head_of, same_mark}
use Rattle.c_decl.specs.State.{State, is_type}
use Rattle.c_decl.specs.Marks.{unary_of, step_of, word_of, record_of, control_of, jump_of, passable, closer}
use Rattle.c_decl.specs.Grammar as g
use Rattle.c_decl.specs.Grammar.{Phrase, Tree, Derives, is_word, is_abstract}
use Rattle.c_decl.specs.Input.{is_mark}
use Rattle.c_decl.specs.Entries.{names_declarator, passes_kind}
use Rattle.c_decl.proofs.Runs.{same_mark_is}

-- ---- which tokens begin a phrase

abbrev pub bare_starts : State → CTokKind → Bool
bare_starts S (c.Ident n) = not (is_type S n)
bare_starts S (c.Constant v) = true
bare_starts S (c.Text bytes) = true
bare_starts S (c.Mark m.OpenParen) = true
bare_starts S _ = false

abbrev pub starts : State → CTokKind → Bool
starts S (c.Ident n) = not (is_type S n)
starts S (c.Constant v) = true
starts S (c.Text bytes) = true
starts S (c.Mark m.OpenParen) = true
starts S (c.Mark m.Sizeof) = true
starts S (c.Mark k) = is_some (step_of (Some (c.Mark k))) || is_some (unary_of (Some (c.Mark k)))

abbrev pub init_starts : State → CTokKind → Bool
init_starts S (c.Mark m.OpenBrace) = true
init_starts S o = starts S o

abbrev pub slot_starts : Mode → State → CTokKind → Bool
slot_starts Whole S o = starts S o
slot_starts Spans S o = passes_kind false (Some o)

abbrev pub shape_starts : DeclKind → Bool → State → CTokKind → Bool
shape_starts kind typed S (c.Mark m.Star) = true
shape_starts kind typed S o = names_declarator kind typed S (Some o)

abbrev pub field_starts : Bool → State → CTokKind → Bool
field_starts typed S (c.Mark m.Colon) = true
field_starts typed S o = shape_starts k.Named typed S o

abbrev pub is_ident : State → CTokKind → Bool
is_ident S (c.Ident n) = true
is_ident S _ = false

abbrev pub plain_ident : State → CTokKind → Bool
plain_ident S (c.Ident n) = not (is_type S n)
plain_ident S _ = false

-- not an `else` or a brace that closes, and no word of specifiers but a name
abbrev pub statement_starts : State → CTokKind → Bool
statement_starts S (c.Mark m.Else) = false
statement_starts S (c.Mark m.CloseBrace) = false
statement_starts S (c.Mark k) = not (is_word S false (c.Mark k))
statement_starts S _ = true

abbrev pub external_starts : State → CTokKind → Bool
external_starts S o = is_word S false o || shape_starts k.Named false S o

abbrev pub starts_of : Mode → Phrase → State → CTokKind → Bool
starts_of mode g.primary = bare_starts
starts_of mode g.postfix = bare_starts
starts_of mode g.init = init_starts
starts_of mode (g.passed b) = λ S o. passes_kind b (Some o)
starts_of mode (g.span b) = λ S o. passes_kind b (Some o)
starts_of mode g.slot = slot_starts mode
starts_of mode (g.spec storage typed) = λ S o. is_word S typed o
starts_of mode (g.words storage) = λ S o. is_word S false o
starts_of mode (g.specs storage) = λ S o. is_word S false o
starts_of mode g.members = λ S o. is_mark m.OpenBrace (Some o)
starts_of mode g.member = λ S o. is_word S false o
starts_of mode (g.field w typed) = field_starts typed
starts_of mode g.enumerator = is_ident
starts_of mode (g.declarator kind typed) = shape_starts kind typed
starts_of mode (g.direct kind typed) = λ S o. names_declarator kind typed S (Some o)
starts_of mode (g.stem kind typed) = λ S o. names_declarator kind typed S (Some o)
starts_of mode g.identifiers = plain_ident
starts_of mode g.param = λ S o. is_word S false o
starts_of mode g.type_name = λ S o. is_word S false o
starts_of mode (g.init_declarator typed is_typedef) = shape_starts k.Named typed
starts_of mode g.declaration = λ S o. is_word S false o
starts_of mode (g.statement closed) = statement_starts
starts_of mode (g.behind_label closed a n) = λ S o. is_mark m.Colon (Some o)
starts_of mode g.block = λ S o. is_mark m.OpenBrace (Some o)
starts_of mode g.external = external_starts
starts_of mode _ = starts

pub record First (P : CTokKind → Bool) (ts : List Token) : Type 0 where
  pub first : CTokKind
  pub place : At
  pub more : List Token
  pub is : ts ≡ tok first place ∷ more
  pub ok : P first ≡ true

-- what lists are made of
abbrev pub is_item : Phrase → Bool
is_item g.assignment = true
is_item g.init = true
is_item g.enumerator = true
is_item (g.field _ _) = true
is_item g.param = true
is_item (g.init_declarator _ _) = true
is_item g.member = true
is_item g.declaration = true
is_item g.external = true
is_item _ = false

abbrev pub Begins : Mode → Phrase → State → List Token → Type 0
Begins mode (g.parted p) S ts = is_item p ≡ true → First (starts_of mode p S) ts
Begins mode (g.some p) S ts = is_item p ≡ true → First (starts_of mode p S) ts
Begins mode (g.optional g.comma) S ts = is_empty ts ≡ false → First (starts S) ts
Begins mode (g.optional (g.some g.declaration)) S ts = is_empty ts ≡ false → First (λ o. is_word S false o) ts
Begins mode (g.optional _) S ts = Unit {0}
Begins mode g.arguments S ts = Unit {0}
Begins mode (g.passed b) S ts = is_empty ts ≡ false → First (starts_of mode (g.passed b) S) ts
Begins mode (g.span b) S ts = is_empty ts ≡ false → First (starts_of mode (g.span b) S) ts
Begins mode (g.stem kind typed) S ts = is_empty ts ≡ false → First (starts_of mode (g.stem kind typed) S) ts
Begins mode g.pointer_words S ts = Unit {0}
Begins mode g.params S ts = Unit {0}
Begins mode g.for_head S ts = Unit {0}
Begins mode (g.body _) S ts = Unit {0}
Begins mode p S ts = First (starts_of mode p S) ts

pub item_begins : (mode : Mode) (p : Phrase) (S : State) (ts : List Token) → is_item p ≡ true → Begins mode p S ts
    → First (starts_of mode p S) ts
item_begins mode g.assignment S ts item b = b
item_begins mode g.init S ts item b = b
item_begins mode g.enumerator S ts item b = b
item_begins mode (g.field _ _) S ts item b = b
item_begins mode g.param S ts item b = b
item_begins mode (g.init_declarator _ _) S ts item b = b
item_begins mode g.member S ts item b = b
item_begins mode g.declaration S ts item b = b
item_begins mode g.external S ts item b = b
item_begins mode _ S ts item b = absurd cc

given_begins : (mode : Mode) (p : Phrase) (S : State) (ts : List Token) → Begins mode p S ts → Begins mode (g.optional p) S ts
given_begins mode g.comma S ts b = λ _. b
given_begins mode (g.some g.declaration) S ts b = λ _. b refl
given_begins mode _ S ts b = tt

none_begins : (mode : Mode) (p : Phrase) (S : State) → Begins mode (g.optional p) S []
none_begins mode g.comma S = λ e. absurd cc
none_begins mode (g.some g.declaration) S = λ e. absurd cc
none_begins mode _ S = tt

extend : {P : CTokKind → Bool} {ts : List Token} (us : List Token) → First P ts → First P (ts ++ us)
extend us o = record { first = o.first; place = o.place; more = o.more ++ us; is = ap (λ (z : List Token). z ++ us) o.is; ok = o.ok }

pub weaken : {P Q : CTokKind → Bool} {ts : List Token} → ((o : CTokKind) → P o ≡ true → Q o ≡ true) → First P ts → First Q ts
weaken f o = record { first = o.first; place = o.place; more = o.more; is = o.is; ok = f o.first o.ok }

-- what begins with P is not the mark
pub excludes : (P : CTokKind → Bool) (k : Mark) → P (c.Mark k) ≡ false → (o : CTokKind) → P o ≡ true → is_mark k (Some o) ≡ false
excludes P k off (c.Mark j) e = by_test _ refl where
  by_test : (b : Bool) → same_mark j k ≡ b → b ≡ false
  by_test true is = absurd (let f = ap (λ (z : Mark). P (c.Mark z)) (same_mark_is j k is) in cc)
  by_test false is = refl
excludes P k off _ e = refl

pub excluded : (P : Option CTokKind → Bool) (k : Mark) → P (Some (c.Mark k)) ≡ false → (o : Option CTokKind) → P o ≡ true
    → is_mark k o ≡ false
excluded P k off (Some o) e = excludes (λ z. P (Some z)) k off o e
excluded P k off None e = refl

pub off_first : {P : CTokKind → Bool} {ts : List Token} (k : Mark) → P (c.Mark k) ≡ false → First P ts → (rest : List Token)
    → is_mark k (head_of (ts ++ rest)) ≡ false
off_first {P = P} k off o rest = ap (λ (z : List Token). is_mark k (head_of (z ++ rest))) o.is ∙ excludes P k off o.first o.ok

-- what is something is not a mark that isn't, and no name
pub never_is : {A : Type 0} (f : Option CTokKind → Option A) (k : Mark) → f (Some (c.Mark k)) ≡ None → (o : CTokKind) {a : A}
    → f (Some o) ≡ Some a → is_mark k (Some o) ≡ false
never_is f k off o e = excludes (λ z. is_some (f (Some z))) k (ap is_some off) o (ap is_some e)

-- all of a mark that comes next
pub mark_is : (k : Mark) (o : Option CTokKind) → is_mark k o ≡ true → o ≡ Some (c.Mark k)
mark_is k (Some (c.Mark j)) e = ap (λ (z : Mark). Some (c.Mark z)) (same_mark_is j k e)
mark_is k _ e = absurd cc

pub at_mark : (Q : Option CTokKind → Bool) (k : Mark) (o : Option CTokKind) → is_mark k o ≡ true → Q o ≡ Q (Some (c.Mark k))
at_mark Q k o e = ap Q (mark_is k o e)

at_first : {P : CTokKind → Bool} (o : CTokKind) (a : At) (ts : List Token) → P o ≡ true → First P (tok o a ∷ ts)
at_first o a ts ok = record { first = o; place = a; more = ts; is = refl; ok = ok }

-- nothing, or what begins so, and then a token
end_empty : {P : CTokKind → Bool} (ts : List Token) (o : CTokKind) (a : At) → P o ≡ true → (is_empty ts ≡ false → First P ts)
    → First P (ts ++ (tok o a ∷ []))
end_empty [] o a ok b = at_first o a [] ok
end_empty (t ∷ ts) o a ok b = extend (tok o a ∷ []) (b refl)

extend_empty : {P : CTokKind → Bool} (ts : List Token) (o : CTokKind) (a : At) (us : List Token) → P o ≡ true
    → (is_empty ts ≡ false → First P ts) → First P (ts ++ (tok o a ∷ []) ++ us)
extend_empty ts o a us ok b = extend us (end_empty ts o a ok b)

bare_start : (S : State) (o : CTokKind) → bare_starts S o ≡ true → starts S o ≡ true
bare_start S (c.Ident n) e = e
bare_start S (c.Constant v) e = refl
bare_start S (c.Text bytes) e = refl
bare_start S (c.Mark m.OpenParen) e = refl
bare_start S _ e = absurd cc

step_start : (S : State) (o : CTokKind) (how : Step) → step_of (Some o) ≡ Some how → starts S o ≡ true
step_start S (c.Mark m.PlusPlus) how e = refl
step_start S (c.Mark m.MinusMinus) how e = refl
step_start S _ how e = absurd cc

unary_start : (S : State) (o : CTokKind) (how : UnaryOp) → unary_of (Some o) ≡ Some how → starts S o ≡ true
unary_start S (c.Mark m.Ampersand) how e = refl
unary_start S (c.Mark m.Star) how e = refl
unary_start S (c.Mark m.Plus) how e = refl
unary_start S (c.Mark m.Minus) how e = refl
unary_start S (c.Mark m.Tilde) how e = refl
unary_start S (c.Mark m.Exclamation) how e = refl
unary_start S _ how e = absurd cc

init_start : (S : State) (o : CTokKind) → starts S o ≡ true → init_starts S o ≡ true
init_start S (c.Mark m.OpenBrace) e = refl
init_start S _ e = e

word_start : (S : State) (typed : Bool) (o : CTokKind) (w : SpecWord) → word_of (Some o) ≡ Some w → is_word S typed o ≡ true
word_start S typed (c.Mark m.Struct) w e = refl
word_start S typed (c.Mark m.Union) w e = refl
word_start S typed (c.Mark m.Enum) w e = refl
word_start S typed (c.Mark o) w e = ap is_some e
word_start S typed _ w e = absurd cc

record_start : (S : State) (typed : Bool) (o : CTokKind) (w : RecordKind) → record_of (Some o) ≡ Some w → is_word S typed o ≡ true
record_start S typed (c.Mark m.Struct) w e = refl
record_start S typed (c.Mark m.Union) w e = refl
record_start S typed _ w e = absurd cc

naming_start : (kind : DeclKind) (typed : Bool) (S : State) (n : List ℕ) → is_abstract kind ≡ false → typed || not (is_type S n) ≡ true
    → names_declarator kind typed S (Some (c.Ident n)) ≡ true
naming_start kind typed S n e f = rw (e, f) refl

named_shape : (kind : DeclKind) (typed : Bool) (S : State) (o : CTokKind) → names_declarator kind typed S (Some o) ≡ true
    → shape_starts kind typed S o ≡ true
named_shape kind typed S (c.Mark m.Star) e = refl
named_shape kind typed S _ e = e

shape_field : (typed : Bool) (S : State) (o : CTokKind) → shape_starts k.Named typed S o ≡ true → field_starts typed S o ≡ true
shape_field typed S (c.Mark m.Colon) e = refl
shape_field typed S _ e = e

expr_statement : (S : State) (o : CTokKind) → starts S o ≡ true → statement_starts S o ≡ true
expr_statement S (c.Ident n) e = refl
expr_statement S (c.Constant v) e = refl
expr_statement S (c.Text bytes) e = refl
expr_statement S (c.Mark m.OpenParen) e = refl
expr_statement S (c.Mark m.Sizeof) e = refl
expr_statement S (c.Mark m.PlusPlus) e = refl
expr_statement S (c.Mark m.MinusMinus) e = refl
expr_statement S (c.Mark m.Ampersand) e = refl
expr_statement S (c.Mark m.Star) e = refl
expr_statement S (c.Mark m.Plus) e = refl
expr_statement S (c.Mark m.Minus) e = refl
expr_statement S (c.Mark m.Tilde) e = refl
expr_statement S (c.Mark m.Exclamation) e = refl
expr_statement S _ e = absurd cc

control_start : (S : State) (o : CTokKind) (w : Control) → control_of (Some o) ≡ Some w → statement_starts S o ≡ true
control_start S (c.Mark m.Switch) w e = refl
control_start S (c.Mark m.While) w e = refl
control_start S _ w e = absurd cc

jump_start : (S : State) (o : CTokKind) (w : Jump) → jump_of (Some o) ≡ Some w → statement_starts S o ≡ true
jump_start S (c.Mark m.Continue) w e = refl
jump_start S (c.Mark m.Break) w e = refl
jump_start S _ w e = absurd cc

brace_statement : (S : State) (o : CTokKind) → is_mark m.OpenBrace (Some o) ≡ true → statement_starts S o ≡ true
unfolding same_mark
brace_statement S (c.Mark m.OpenBrace) e = refl
brace_statement S _ e = absurd cc

pub or_first : (a b : Bool) → a ≡ true → a || b ≡ true
or_first true b e = refl
or_first false b e = absurd cc

pub or_second : (a b : Bool) → b ≡ true → a || b ≡ true
or_second true b e = refl
or_second false b e = e

passable_start : (b : Bool) (o : CTokKind) → passable b o ≡ true → passes_kind b (Some o) ≡ true
passable_start b o e = or_first (passable b o) (is_some (closer o)) e

closer_start : (b : Bool) (o : CTokKind) (close : Mark) → closer o ≡ Some close → passes_kind b (Some o) ≡ true
closer_start b o close e = or_second (passable b o) (is_some (closer o)) (ap is_some e)

whole_slot : (mode : Mode) (S : State) → mode ≡ Whole → (o : CTokKind) → starts S o ≡ true → slot_starts mode S o ≡ true
whole_slot mode S is o e = subst (λ (z : Mode). slot_starts z S o ≡ true) (sym is) e

span_slot : (mode : Mode) (S : State) → mode ≡ Spans → (o : CTokKind) → passes_kind false (Some o) ≡ true → slot_starts mode S o ≡ true
span_slot mode S is o e = subst (λ (z : Mode). slot_starts z S o ≡ true) (sym is) e

pub begins : {mode : Mode} {p : Phrase} {S T : State} {h : Heights} {ts : List Token} {x : Tree p} → Derives mode p S h ts x T
    → Begins mode p S ts
unfolding same_mark
begins (g.one {p = p} d) = λ item. item_begins _ p _ _ item (begins d)
begins (g.another {p = p} a d f) = λ item. extend _ (extend _ (begins d item))
begins (g.first {p = p} d) = λ item. item_begins _ p _ _ item (begins d)
begins (g.further {p = p} d f) = λ item. extend _ (begins d item)
begins {mode = mode} (g.left_out {p = p} {S = S}) = none_begins mode p S
begins (g.given {p = p} d) = given_begins _ p _ _ (begins d)
begins (g.named {a = a} {n = n} is) = at_first (c.Ident n) a [] (ap not is)
begins (g.constant {a = a} {v = v}) = at_first (c.Constant v) a [] refl
begins (g.text {a = a} {bytes = bytes}) = at_first (c.Text bytes) a [] refl
begins (g.paren a b d) = at_first (c.Mark m.OpenParen) a _ refl
begins (g.simple d) = begins d
begins (g.subscript a b d f) = extend _ (extend _ (extend _ (begins d)))
begins (g.call a b d f) = extend _ (extend _ (extend _ (begins d)))
begins (g.reached a b o n is d) = extend _ (extend _ (begins d))
begins (g.stepped a o is d) = extend _ (begins d)
begins (g.bare d) = weaken (bare_start _) (begins d)
begins (g.step a o is d) = at_first o a _ (step_start _ o _ is)
begins (g.prefixed a o is d) = at_first o a _ (unary_start _ o _ is)
begins (g.measured a d) = at_first (c.Mark m.Sizeof) a _ refl
begins (g.measured_type a b b' d) = at_first (c.Mark m.Sizeof) a _ refl
begins (g.uncast d) = begins d
begins (g.converted a b d f) = at_first (c.Mark m.OpenParen) a _ refl
begins (g.operand d) = begins d
begins (g.operated a o is le d f) = extend _ (extend _ (begins d))
begins (g.tested d) = begins d
begins (g.chosen a b d f v) = extend _ (extend _ (extend _ (extend _ (begins d))))
begins (g.valued d) = begins d
begins (g.assigned a o is d f) = extend _ (extend _ (begins d))
begins (g.alone d) = begins d
begins (g.joined a d f) = extend _ (extend _ (begins d))
begins (g.value d) = weaken (init_start _) (begins d)
begins (g.braces a b b' comma_ends d) = at_first (c.Mark m.OpenBrace) a _ refl
begins g.begun = λ e. absurd cc
begins (g.over {inside = b} a o {ts = ts} on d) = λ _. end_empty ts o a (passable_start b o on) (begins d)
begins (g.within {inside = b} a a' o close {ts = ts} {us = us} is off d f) = λ _. extend _
    (extend_empty ts o a us (closer_start b o close is) (begins d))
begins (g.typed {inside = b} a a' {ts = ts} {us = us} d f) = λ _. extend _
    (extend_empty ts (c.Mark m.OpenParen) a us (or_second (passable b (c.Mark m.OpenParen)) _ refl) (begins d))
begins (g.spanned d) = begins d
begins {mode = mode} (g.whole is d) = weaken (whole_slot mode _ is) (begins d)
begins {mode = mode} (g.passed_over t is d) = weaken (span_slot mode _ is) (begins d refl)
begins (g.word a o is ok) = at_first o a [] (word_start _ _ o _ is)
begins (g.record_with a b o n is d) = at_first o a _ (record_start _ _ o _ is)
begins (g.record_tag a b o n is) = at_first o a _ (record_start _ _ o _ is)
begins (g.enum_with a a' b b' b'' n comma_ends d) = at_first (c.Mark m.Enum) a _ refl
begins (g.enum_tag a b n) = at_first (c.Mark m.Enum) a _ refl
begins (g.alias {a = a} {n = n} is) = at_first (c.Ident n) a [] is
begins (g.a_spec d) = begins d
begins (g.more_specs d f) = extend _ (begins d)
begins (g.specified d) = begins d
begins (g.enclosed a b d) = at_first (c.Mark m.OpenBrace) a _ refl
begins (g.member_of a w d f) = extend _ (extend _ (begins d))
begins (g.plain_field {is_typed = typed} d) = weaken (shape_field typed _) (begins d)
begins (g.width a d) = at_first (c.Mark m.Colon) a _ refl
begins (g.field_width {is_typed = typed} a d f) = extend _ (extend _ (weaken (shape_field typed _) (begins d)))
begins (g.counted {a = a} {n = n}) = at_first (c.Ident n) a [] refl
begins (g.counted_from a b n d) = at_first (c.Ident n) a _ refl
begins (g.straight {kind = kind} {is_typed = typed} d) = weaken (named_shape kind typed _) (begins d)
begins (g.starred a d f) = at_first (c.Mark m.Star) a _ refl
begins (g.pointed a is d) = at_first (c.Mark m.Star) a _ refl
begins (g.solid some d) = begins d some
begins (g.absent is) = λ e. absurd cc
begins (g.naming {kind = kind} {is_typed = typed} {a = a} {n = n} is ok) = λ _. at_first (c.Ident n) a []
    (naming_start kind typed _ n is ok)
begins (g.grouped a b off d) = λ _. at_first (c.Mark m.OpenParen) a _ refl
begins (g.array a b {ts = ts} {us = us} d f) = λ _. extend _ (extend_empty ts (c.Mark m.OpenBracket) a us refl (begins d))
begins (g.function a b {ts = ts} {us = us} d f) = λ _. extend _ (extend_empty ts (c.Mark m.OpenParen) a us refl (begins d))
begins (g.old_style a b {ts = ts} {us = us} is d f) = λ _. extend _ (extend_empty ts (c.Mark m.OpenParen) a us refl (begins d))
begins (g.an_identifier {a = a} {n = n} is) = at_first (c.Ident n) a [] (ap not is)
begins (g.more_identifiers a b n is d) = extend _ (extend _ (begins d))
begins (g.unnamed d) = begins d
begins (g.declared d f) = extend _ (begins d)
begins (g.type_alone d) = begins d
begins (g.type_of d f) = extend _ (begins d)
begins (g.plainly d) = begins d
begins (g.initialized a d f) = extend _ (extend _ (begins d))
begins (g.declares_none a d) = extend _ (begins d)
begins (g.declares_some a d f) = extend _ (extend _ (begins d))
begins (g.labelled a n d) = at_first (c.Ident n) a _ refl
begins (g.colon b d) = at_first (c.Mark m.Colon) b _ refl
begins (g.case_ a b d f) = at_first (c.Mark m.Case) a _ refl
begins (g.default_ a b d) = at_first (c.Mark m.Default) a _ refl
begins (g.compound {S = S} d) = weaken (brace_statement S) (begins d)
begins (g.expression {S = S} a {ts = ts} d) = end_empty ts (c.Mark m.Semicolon) a refl (λ some. weaken (expr_statement S) (begins d some))
begins (g.if_ a b b' d f) = at_first (c.Mark m.If) a _ refl
begins (g.if_else a b b' b'' d f v) = at_first (c.Mark m.If) a _ refl
begins (g.control_ {S = S} a b b' o is d f) = at_first o a _ (control_start S o _ is)
begins (g.do_ a a' b b' b'' d f) = at_first (c.Mark m.Do) a _ refl
begins (g.for_ a b b' d f) = at_first (c.Mark m.For) a _ refl
begins (g.goto_ a b b' n) = at_first (c.Mark m.Goto) a _ refl
begins (g.jump_ {S = S} a b o is) = at_first o a _ (jump_start S o _ is)
begins (g.return_ a b d) = at_first (c.Mark m.Return) a _ refl
begins (g.braced a b d) = at_first (c.Mark m.OpenBrace) a _ refl
begins (g.declaration_ {S = S} d) = weaken (λ o e. or_first (is_word S false o) _ e) (begins d)
begins (g.definition {S = S} d f v b) = extend _ (extend _ (extend _ (weaken (λ o e. or_first (is_word S false o) _ e) (begins d))))
begins (g.implied_function {S = S} d b) = extend _
    (weaken (λ o e. or_second (is_word S false o) (shape_starts k.Named false S o) e) (begins d))
begins (g.implied_declaration {S = S} a d) = extend _
    (weaken (λ o e. or_second (is_word S false o) (shape_starts k.Named false S o) e) (begins d))
begins _ = tt
