-- What the parser looks at, and the lists that it reads.
use Rattle.std.specs.Prelude.{ℕ, ◌+◌, Bool, true, false, not, ◌&&◌, ◌||◌, if◌then◌else◌, nat_lt, List, [], ◌∷◌, ◌++◌, Option, Some, None, is_some}
use Rattle.c_tok.specs.declared.mark.Mark.{Mark}
use Rattle.c_tok.specs.declared.mark.Mark.TheVariants as m
use Rattle.c_tok.specs.declared.token.CTokKind.{CTokKind}
use Rattle.c_tok.specs.declared.token.CTokKind.TheVariants as c
use Rattle.c_tree.specs.declared.at.At.{At}
use Rattle.c_tree.specs.declared.expr.Expr.{Expr, Expr-F, out-Expr}
use Rattle.c_tree.specs.declared.expr.Slot.{Slot}
use Rattle.c_tree.specs.declared.expr.Spec.{Spec}
use Rattle.c_tree.specs.declared.expr.Specs.{Specs}
use Rattle.c_tree.specs.declared.expr.Member.{Member}
use Rattle.c_tree.specs.declared.expr.Enumerator.{Enumerator}
use Rattle.c_tree.specs.declared.expr.Declarator.{Declarator}
use Rattle.c_tree.specs.declared.expr.Param.{Param}
use Rattle.c_tree.specs.declared.expr.TypeName.{TypeName}
use Rattle.c_tree.specs.declared.height.Heights.{Heights}
use Rattle.c_tree.specs.declared.height.Tall.{Tall}
use Rattle.c_tree.specs.Heights as class
use Rattle.c_tree.specs.Heights.{Class, join, is_below, tall}
use Rattle.c_decl.specs.declared.kind.DeclKind.{DeclKind}
use Rattle.c_decl.specs.State.{State, is_type}
use Rattle.c_decl.specs.Marks.{tight, pointer_of, passable, closer}
use Rattle.c_decl.specs.Grammar as g
use Rattle.c_decl.specs.Grammar.{Phrase, is_word, is_abstract}
use Rattle.c_decl.specs.Input.{◌>>=◌, Input, head, next, left, Parser, ◌>>◌, pure, refuse, skip, sees, looped}

-- what a part may be read as: each of these counts in a class of heights
pub data Entry : Type 0 where
  comma assignment conditional cast unary init : Entry
  -- operators that bind tighter than the number
  binary : ℕ → Entry
  span : Bool → Entry
  members : Entry
  declarator : DeclKind → Bool → Entry
  direct : DeclKind → Bool → Entry
  statement : Entry
  behind_label : At → List ℕ → Entry
  block : Entry

abbrev pub phrase_of : Entry → Phrase
phrase_of comma = g.comma
phrase_of assignment = g.assignment
phrase_of conditional = g.conditional
phrase_of cast = g.cast
phrase_of unary = g.unary
phrase_of init = g.init
phrase_of (binary n) = g.binary (n + 1)
phrase_of (span inside) = g.span inside
phrase_of members = g.members
phrase_of (declarator kind typed) = g.declarator kind typed
phrase_of (direct kind typed) = g.direct kind typed
phrase_of statement = g.statement false
phrase_of (behind_label a n) = g.behind_label false a n
phrase_of block = g.block

abbrev pub class_of : Entry → Class
class_of init = class.initializer
class_of members = class.members
class_of (declarator _ _) = class.declarator
class_of (direct _ _) = class.declarator
class_of statement = class.statement
class_of (behind_label _ _) = class.statement
class_of block = class.statement
class_of _ = class.expression

abbrev pub word_at : State → Bool → Option CTokKind → Bool
word_at S typed (Some k) = is_word S typed k
word_at S typed None = false

-- a word of specifiers comes next; true: behind a type
unfoldable pub spec_comes : Bool → Input → Bool
spec_comes typed i = word_at i.state typed (head i)

unfoldable pub word_comes : Input → Bool
word_comes i = spec_comes false i

-- what may stand left of `=`
abbrev pub is_unary_at : Expr-F Declarator Expr Slot Spec Enumerator Member Param Specs TypeName → Bool
is_unary_at (Expr-F.Cast _ _ _) = false
is_unary_at (Expr-F.Binary _ _ _ _) = false
is_unary_at (Expr-F.Conditional _ _ _ _) = false
is_unary_at (Expr-F.Assign _ _ _ _) = false
is_unary_at (Expr-F.Comma _ _ _) = false
is_unary_at _ = true

unfoldable pub is_unary : Expr → Bool
is_unary x = is_unary_at (out-Expr x)

-- an operator that binds at least so tightly comes next
unfoldable pub goes_on : ℕ → Input → Bool
goes_on least i = not (nat_lt (tight (head i)) least)

-- a parenthesis and a type name come next
unfoldable pub opens_type : Input → Bool
opens_type i = if sees m.OpenParen i then word_comes (next i) else false

-- a comma comes next, and behind it not the mark
unfoldable pub comma_before : Mark → Input → Bool
comma_before stop i = sees m.Comma i && not (sees stop (next i))

abbrev pub passes_kind : Bool → Option CTokKind → Bool
passes_kind inside (Some o) = passable inside o || is_some (closer o)
passes_kind inside None = false

-- a span goes on here
unfoldable pub passes : Bool → Input → Bool
passes inside i = passes_kind inside (head i)

abbrev pub names_declarator : DeclKind → Bool → State → Option CTokKind → Bool
names_declarator kind typed S (Some (c.Ident n)) = not (is_abstract kind) && (typed || not (is_type S n))
names_declarator kind typed S (Some (c.Mark m.OpenParen)) = true
names_declarator kind typed S (Some (c.Mark m.OpenBracket)) = true
names_declarator kind typed S _ = false

-- a direct declarator of a kind that may have no name comes next
unfoldable pub direct_comes : DeclKind → Bool → Input → Bool
direct_comes kind typed i = names_declarator kind typed i.state (head i)

unfoldable pub declarator_comes : DeclKind → Bool → Input → Bool
declarator_comes kind typed i = sees m.Star i || direct_comes kind typed i

-- a parenthesis comes next, and a list of parameters in it
unfoldable pub opens_params : Input → Bool
opens_params i = word_comes (next i) || sees m.CloseParen (next i)

unfoldable pub suffix_comes : Input → Bool
suffix_comes i = sees m.OpenBracket i || sees m.OpenParen i

unfoldable pub pointer_comes : Input → Bool
pointer_comes i = is_some (pointer_of (head i))

abbrev pub starts_label : Option CTokKind → Input → Bool
starts_label (Some (c.Ident n)) i = is_type i.state n || sees m.Colon (next i)
starts_label _ i = false

-- A label comes next. A typedef name begins no other statement.
unfoldable pub label_comes : Input → Bool
label_comes i = starts_label (head i) i

-- the name of a type, if one comes next
abbrev pub type_name_at : State → Option CTokKind → Option (List ℕ)
type_name_at S (Some (c.Ident n)) = if is_type S n then Some n else None
type_name_at S _ = None

-- the block goes on
unfoldable pub body_comes : Input → Bool
body_comes i = not (sees m.CloseBrace i) && nat_lt 0 (left i)

-- ---- lists

abbrev pub with_next : {X : Type 0} → Tall (List X) → Tall X → Tall (List X)
with_next row x = tall (row.tree ++ x.tree ∷ []) (join row.height x.height)

-- one more behind a comma
unfoldable pub comma_then : {X : Type 0} → Parser (Tall X) → Tall (List X) → Parser (Tall (List X))
comma_then p row = skip >> (do x ← p; pure (with_next row x))

-- one after another, parted by commas
unfoldable pub parted : {X : Type 0} → Parser (Tall X) → Parser (Tall (List X))
parted p = do
  x ← p
  looped (λ _. sees m.Comma) (comma_then p) (tall (x.tree ∷ []) x.height)

-- the same, up to a comma that the mark follows
unfoldable pub parted_before : {X : Type 0} → Mark → Parser (Tall X) → Parser (Tall (List X))
parted_before stop p = do
  x ← p
  looped (λ _. comma_before stop) (comma_then p) (tall (x.tree ∷ []) x.height)

-- one more
unfoldable pub then_one : {X : Type 0} → Parser (Tall X) → Tall (List X) → Parser (Tall (List X))
then_one p row = do x ← p; pure (with_next row x)

-- one after another, while more come
unfoldable pub some_while : {X : Type 0} → (Input → Bool) → Parser (Tall X) → Parser (Tall (List X))
some_while more p = do
  x ← p
  looped (λ _. more) (then_one p) (tall (x.tree ∷ []) x.height)

-- a part that may stand in a node here
unfoldable pub fits : Heights → Heights → Parser (Unit {0})
fits room h = λ i. if is_below h room then pure tt i else refuse i
