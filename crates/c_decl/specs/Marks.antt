-- What marks stand for.
use Rattle.std.specs.Prelude.{ℕ, Bool, true, false, Option, Some, None}
use Rattle.c_type.specs.declared.operator.BinOp.{BinOp}
use Rattle.c_type.specs.declared.operator.BinOp.TheVariants as b
use Rattle.c_tok.specs.declared.mark.Mark.{Mark}
use Rattle.c_tok.specs.declared.mark.Mark.TheVariants as m
use Rattle.c_tok.specs.declared.token.CTokKind.{CTokKind}
use Rattle.c_tok.specs.declared.token.CTokKind.TheVariants as c
use Rattle.c_decl.specs.declared.kind.Control.{Control}
use Rattle.c_decl.specs.declared.kind.Control.TheVariants as control
use Rattle.c_decl.specs.declared.kind.Jump.{Jump}
use Rattle.c_decl.specs.declared.kind.Jump.TheVariants as jump
use Rattle.c_tree.specs.declared.operator.Access.{Access}
use Rattle.c_tree.specs.declared.operator.Access.TheVariants as access
use Rattle.c_tree.specs.declared.operator.Infix.{Infix}
use Rattle.c_tree.specs.declared.operator.Infix.TheVariants as infix_
use Rattle.c_tree.specs.declared.operator.PointerWord.{PointerWord}
use Rattle.c_tree.specs.declared.operator.PointerWord.TheVariants as pointer
use Rattle.c_tree.specs.declared.operator.RecordKind.{RecordKind}
use Rattle.c_tree.specs.declared.operator.RecordKind.TheVariants as record_kind
use Rattle.c_tree.specs.declared.operator.SpecWord.{SpecWord}
use Rattle.c_tree.specs.declared.operator.SpecWord.TheVariants as w
use Rattle.c_tree.specs.declared.operator.Step.{Step}
use Rattle.c_tree.specs.declared.operator.Step.TheVariants as step
use Rattle.c_tree.specs.declared.operator.UnaryOp.{UnaryOp}
use Rattle.c_tree.specs.declared.operator.UnaryOp.TheVariants as unary

-- how tightly what comes next joins to an expression before it, and 0 for what can't
abbrev pub tightness : Mark → ℕ
tightness m.Comma = 1
tightness m.Assign = 2
tightness m.StarAssign = 2
tightness m.SlashAssign = 2
tightness m.PercentAssign = 2
tightness m.PlusAssign = 2
tightness m.MinusAssign = 2
tightness m.ShiftLeftAssign = 2
tightness m.ShiftRightAssign = 2
tightness m.AmpersandAssign = 2
tightness m.CaretAssign = 2
tightness m.BarAssign = 2
tightness m.Question = 3
tightness m.OrOr = 4
tightness m.AndAnd = 5
tightness m.Bar = 6
tightness m.Caret = 7
tightness m.Ampersand = 8
tightness m.EqualEqual = 9
tightness m.NotEqual = 9
tightness m.Less = 10
tightness m.Greater = 10
tightness m.LessEqual = 10
tightness m.GreaterEqual = 10
tightness m.ShiftLeft = 11
tightness m.ShiftRight = 11
tightness m.Plus = 12
tightness m.Minus = 12
tightness m.Star = 13
tightness m.Slash = 13
tightness m.Percent = 13
tightness m.OpenBracket = 14
tightness m.OpenParen = 14
tightness m.Dot = 14
tightness m.Arrow = 14
tightness m.PlusPlus = 14
tightness m.MinusMinus = 14
tightness _ = 0

abbrev pub tight : Option CTokKind → ℕ
tight (Some (c.Mark k)) = tightness k
tight _ = 0

-- an operator between two operands, of the tightness above (ANSI C X3.159-1989, 3.3.5 to 3.3.14)
abbrev pub infix_of : Option CTokKind → Option Infix
infix_of (Some (c.Mark m.OrOr)) = Some infix_.LogicalOr
infix_of (Some (c.Mark m.AndAnd)) = Some infix_.LogicalAnd
infix_of (Some (c.Mark m.Bar)) = Some (infix_.Plain b.Or)
infix_of (Some (c.Mark m.Caret)) = Some (infix_.Plain b.Xor)
infix_of (Some (c.Mark m.Ampersand)) = Some (infix_.Plain b.And)
infix_of (Some (c.Mark m.EqualEqual)) = Some (infix_.Plain b.Equal)
infix_of (Some (c.Mark m.NotEqual)) = Some (infix_.Plain b.NotEqual)
infix_of (Some (c.Mark m.Less)) = Some (infix_.Plain b.Less)
infix_of (Some (c.Mark m.Greater)) = Some (infix_.Plain b.Greater)
infix_of (Some (c.Mark m.LessEqual)) = Some (infix_.Plain b.AtMost)
infix_of (Some (c.Mark m.GreaterEqual)) = Some (infix_.Plain b.AtLeast)
infix_of (Some (c.Mark m.ShiftLeft)) = Some (infix_.Plain b.ShiftLeft)
infix_of (Some (c.Mark m.ShiftRight)) = Some (infix_.Plain b.ShiftRight)
infix_of (Some (c.Mark m.Plus)) = Some (infix_.Plain b.Add)
infix_of (Some (c.Mark m.Minus)) = Some (infix_.Plain b.Subtract)
infix_of (Some (c.Mark m.Star)) = Some (infix_.Plain b.Multiply)
infix_of (Some (c.Mark m.Slash)) = Some (infix_.Plain b.Divide)
infix_of (Some (c.Mark m.Percent)) = Some (infix_.Plain b.Remainder)
infix_of _ = None

-- an assignment, with the operator before its `=` (ANSI C X3.159-1989, 3.3.16)
abbrev pub assign_of : Option CTokKind → Option (Option BinOp)
assign_of (Some (c.Mark m.Assign)) = Some None
assign_of (Some (c.Mark m.StarAssign)) = Some (Some b.Multiply)
assign_of (Some (c.Mark m.SlashAssign)) = Some (Some b.Divide)
assign_of (Some (c.Mark m.PercentAssign)) = Some (Some b.Remainder)
assign_of (Some (c.Mark m.PlusAssign)) = Some (Some b.Add)
assign_of (Some (c.Mark m.MinusAssign)) = Some (Some b.Subtract)
assign_of (Some (c.Mark m.ShiftLeftAssign)) = Some (Some b.ShiftLeft)
assign_of (Some (c.Mark m.ShiftRightAssign)) = Some (Some b.ShiftRight)
assign_of (Some (c.Mark m.AmpersandAssign)) = Some (Some b.And)
assign_of (Some (c.Mark m.CaretAssign)) = Some (Some b.Xor)
assign_of (Some (c.Mark m.BarAssign)) = Some (Some b.Or)
assign_of _ = None

-- an operator before a cast expression (ANSI C X3.159-1989, 3.3.3)
abbrev pub unary_of : Option CTokKind → Option UnaryOp
unary_of (Some (c.Mark m.Ampersand)) = Some unary.Address
unary_of (Some (c.Mark m.Star)) = Some unary.Indirection
unary_of (Some (c.Mark m.Plus)) = Some unary.Plus
unary_of (Some (c.Mark m.Minus)) = Some unary.Negate
unary_of (Some (c.Mark m.Tilde)) = Some unary.Complement
unary_of (Some (c.Mark m.Exclamation)) = Some unary.Not
unary_of _ = None

abbrev pub step_of : Option CTokKind → Option Step
step_of (Some (c.Mark m.PlusPlus)) = Some step.Increment
step_of (Some (c.Mark m.MinusMinus)) = Some step.Decrement
step_of _ = None

abbrev pub access_of : Option CTokKind → Option Access
access_of (Some (c.Mark m.Dot)) = Some access.Dot
access_of (Some (c.Mark m.Arrow)) = Some access.Arrow
access_of _ = None

-- a keyword among specifiers (ANSI C X3.159-1989, 3.5.1 to 3.5.3)
abbrev pub word_of : Option CTokKind → Option SpecWord
word_of (Some (c.Mark m.Typedef)) = Some w.Typedef
word_of (Some (c.Mark m.Extern)) = Some w.Extern
word_of (Some (c.Mark m.Static)) = Some w.Static
word_of (Some (c.Mark m.Auto)) = Some w.Auto
word_of (Some (c.Mark m.Register)) = Some w.Register
word_of (Some (c.Mark m.Const)) = Some w.Const
word_of (Some (c.Mark m.Volatile)) = Some w.Volatile
word_of (Some (c.Mark m.Void)) = Some w.Void
word_of (Some (c.Mark m.Char)) = Some w.Char
word_of (Some (c.Mark m.Short)) = Some w.Short
word_of (Some (c.Mark m.Int)) = Some w.Int
word_of (Some (c.Mark m.Long)) = Some w.Long
word_of (Some (c.Mark m.Signed)) = Some w.Signed
word_of (Some (c.Mark m.Unsigned)) = Some w.Unsigned
word_of _ = None

abbrev pub record_of : Option CTokKind → Option RecordKind
record_of (Some (c.Mark m.Struct)) = Some record_kind.Struct
record_of (Some (c.Mark m.Union)) = Some record_kind.Union
record_of _ = None

-- a word of a pointer, behind its first star
abbrev pub pointer_of : Option CTokKind → Option PointerWord
pointer_of (Some (c.Mark m.Star)) = Some pointer.Star
pointer_of (Some (c.Mark m.Const)) = Some pointer.Const
pointer_of (Some (c.Mark m.Volatile)) = Some pointer.Volatile
pointer_of _ = None

abbrev pub control_of : Option CTokKind → Option Control
control_of (Some (c.Mark m.Switch)) = Some control.Switch
control_of (Some (c.Mark m.While)) = Some control.While
control_of _ = None

abbrev pub jump_of : Option CTokKind → Option Jump
jump_of (Some (c.Mark m.Continue)) = Some jump.Continue
jump_of (Some (c.Mark m.Break)) = Some jump.Break
jump_of _ = None

-- what a span passes over by itself: no bracket, and nothing that parts or ends what spans stand in
abbrev pub plain : Mark → Bool
plain m.OpenParen = false
plain m.CloseParen = false
plain m.OpenBracket = false
plain m.CloseBracket = false
plain m.OpenBrace = false
plain m.CloseBrace = false
plain m.Semicolon = false
plain m.Question = false
plain m.Colon = false
plain m.Comma = false
plain _ = true

-- and between brackets a comma too
abbrev pub passable : Bool → CTokKind → Bool
passable inside (c.Mark m.Comma) = inside
passable inside (c.Mark k) = plain k
passable inside _ = true

-- which mark closes an opening one
abbrev pub closer : CTokKind → Option Mark
closer (c.Mark m.OpenParen) = Some m.CloseParen
closer (c.Mark m.OpenBracket) = Some m.CloseBracket
closer (c.Mark m.Question) = Some m.Colon
closer _ = None
