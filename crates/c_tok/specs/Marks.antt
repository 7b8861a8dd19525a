-- Keywords and punctuators by their spellings (ANSI C X3.159-1989, 3.1.1, 3.1.5 and 3.1.6).
use Rattle.std.specs.Prelude.{codes, ℕ, List, [], ◌∷◌, Option, option_map, find}
use Rattle.std.specs.Str.{bytes_eq}
use Rattle.c_tok.specs.declared.mark.Mark.{Mark}
use Rattle.c_tok.specs.declared.mark.Mark.TheVariants as m

abbrev pub keywords : List (List ℕ × Mark)
keywords =
    (codes "auto", m.Auto) ∷ (codes "break", m.Break) ∷ (codes "case", m.Case) ∷ (codes "char", m.Char) ∷ (codes "const", m.Const) ∷ (codes "continue", m.Continue) ∷
    (codes "default", m.Default) ∷ (codes "do", m.Do) ∷ (codes "double", m.Double) ∷ (codes "else", m.Else) ∷ (codes "enum", m.Enum) ∷ (codes "extern", m.Extern) ∷
    (codes "float", m.Float) ∷ (codes "for", m.For) ∷ (codes "goto", m.Goto) ∷ (codes "if", m.If) ∷ (codes "int", m.Int) ∷ (codes "long", m.Long) ∷
    (codes "register", m.Register) ∷ (codes "return", m.Return) ∷ (codes "short", m.Short) ∷ (codes "signed", m.Signed) ∷ (codes "sizeof", m.Sizeof) ∷ (codes "static", m.Static) ∷
    (codes "struct", m.Struct) ∷ (codes "switch", m.Switch) ∷ (codes "typedef", m.Typedef) ∷ (codes "union", m.Union) ∷ (codes "unsigned", m.Unsigned) ∷ (codes "void", m.Void) ∷
    (codes "volatile", m.Volatile) ∷ (codes "while", m.While) ∷ []

abbrev pub punctuators : List (List ℕ × Mark)
punctuators =
    (codes "[", m.OpenBracket) ∷ (codes "]", m.CloseBracket) ∷ (codes "(", m.OpenParen) ∷ (codes ")", m.CloseParen) ∷ (codes "{", m.OpenBrace) ∷ (codes "}", m.CloseBrace) ∷
    (codes ".", m.Dot) ∷ (codes "->", m.Arrow) ∷ (codes "++", m.PlusPlus) ∷ (codes "--", m.MinusMinus) ∷ (codes "&", m.Ampersand) ∷ (codes "*", m.Star) ∷
    (codes "+", m.Plus) ∷ (codes "-", m.Minus) ∷ (codes "~", m.Tilde) ∷ (codes "!", m.Exclamation) ∷ (codes "/", m.Slash) ∷ (codes "%", m.Percent) ∷
    (codes "<<", m.ShiftLeft) ∷ (codes ">>", m.ShiftRight) ∷ (codes "<", m.Less) ∷ (codes ">", m.Greater) ∷ (codes "<=", m.LessEqual) ∷ (codes ">=", m.GreaterEqual) ∷
    (codes "==", m.EqualEqual) ∷ (codes "!=", m.NotEqual) ∷ (codes "^", m.Caret) ∷ (codes "|", m.Bar) ∷ (codes "&&", m.AndAnd) ∷ (codes "||", m.OrOr) ∷
    (codes "?", m.Question) ∷ (codes ":", m.Colon) ∷ (codes ";", m.Semicolon) ∷ (codes "...", m.Ellipsis) ∷ (codes "=", m.Assign) ∷ (codes "*=", m.StarAssign) ∷
    (codes "/=", m.SlashAssign) ∷ (codes "%=", m.PercentAssign) ∷ (codes "+=", m.PlusAssign) ∷ (codes "-=", m.MinusAssign) ∷ (codes "<<=", m.ShiftLeftAssign) ∷ (codes ">>=", m.ShiftRightAssign) ∷
    (codes "&=", m.AmpersandAssign) ∷ (codes "^=", m.CaretAssign) ∷ (codes "|=", m.BarAssign) ∷ (codes ",", m.Comma) ∷ (codes "#", m.Hash) ∷ (codes "##", m.HashHash) ∷ []

-- the token that has this spelling in a table
abbrev pub spelled_in : List (List ℕ × Mark) → List ℕ → Option Mark
spelled_in rows spelling = option_map (λ row. row.1) (find (λ row. bytes_eq spelling row.0) rows)
