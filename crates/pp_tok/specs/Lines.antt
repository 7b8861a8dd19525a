-- The lines of a file and their tokens.
use Rattle.std.specs.Prelude.{◌≡◌, ℕ, zero, suc, ◌+◌, ◌-◌, ◌==◌, Bool, true, false, List, [], ◌∷◌, ◌++◌, map, flat_map, take, Some, None, Result, Ok, Err, if◌then◌else◌}
use Rattle.qv_base.specs.Place.{capped}
use Rattle.pp_tok.specs.declared.token.PpKind.{PpKind}
use Rattle.pp_tok.specs.declared.token.PpTok.{PpTok}
use Rattle.pp_tok.specs.declared.token.PpLine.{PpLine}
use Rattle.pp_tok.specs.declared.token.PpTokFault.{PpTokFault}
use Rattle.pp_tok.specs.declared.token.PpTokFault.TheVariants.{OpenComment, NoMemory}
use Rattle.pp_tok.specs.declared.piece.What.TheVariants.{Blank, LineEnd, Token}
use Rattle.pp_tok.specs.declared.piece.LineState.{LineState}
use Rattle.pp_tok.specs.declared.piece.LineState.TheVariants.{Start, Other}
use Rattle.pp_tok.specs.declared.lines.OpenLine.{OpenLine}
use Rattle.pp_tok.specs.Chars.{Char, chars_from}
use Rattle.pp_tok.specs.Pieces.{piece_at, state_behind}

-- the value of an Ok mapped
abbrev pub on_ok : {A B : Type 0} → (A → B) → Result A ℕ → Result B ℕ
on_ok f (Ok x) = Ok (f x)
on_ok f (Err line) = Err line

abbrev pub bytes_of : List Char → List ℕ
bytes_of cs = map (λ c. c.byte) cs

-- whether no token stands before
abbrev pub is_start : LineState → Bool
is_start Start = true
is_start state = false

-- a line of which nothing is read
abbrev pub fresh : ℕ → OpenLine
fresh number = record { line = record { number = number; toks = [] }; state = Start; space = false }

abbrev pub with_blank : OpenLine → OpenLine
with_blank part = record part { space = true }

-- a token of this class behind the part of a line that is read: the line of its first byte, and its bytes
abbrev pub token_of : ℕ → OpenLine → PpKind → ℕ → List ℕ → PpTok
token_of file part kind line spelling = record {
  kind = kind;
  spelling = spelling;
  place = record { file = file; line = line };
  space = part.space;
  first = is_start part.state;
  hidden = [];
}

abbrev pub with_token : OpenLine → PpTok → OpenLine
with_token part t = record {
  line = record { number = part.line.number; toks = part.line.toks ++ t ∷ [] };
  state = state_behind part.state t.kind t.spelling;
  space = false;
}

-- the lines of a text whose first n characters belong to the piece before it, behind a part of its first line;
-- or the line on which an open comment begins. Where that line isn't begun, it is none at the end of the text
unfoldable pub lines_behind : ℕ → ℕ → Bool → OpenLine → List Char → Result (List PpLine) ℕ
lines_behind file n begun part [] = Ok (if begun then part.line ∷ [] else [])
lines_behind file (suc n) begun part (c ∷ cs) = lines_behind file n begun part cs
lines_behind file zero begun part (c ∷ cs) =
    elim (piece_at part.state c.byte (bytes_of cs)) [
      | None ↦ Err c.line
      | Some p ↦ elim p.what [
        | Blank ↦ lines_behind file (p.length - 1) true (with_blank part) cs
        | LineEnd ↦ on_ok (λ ls. part.line ∷ ls) (lines_behind file (p.length - 1) false (fresh (capped (c.line + 1))) cs)
        | Token kind ↦ lines_behind file (p.length - 1) true (with_token part (token_of file part kind c.line (take p.length (bytes_of (c ∷ cs))))) cs
      ]
    ]

-- the lines of the file that has this number; or the line on which an open comment begins
unfoldable pub lines_of : ℕ → List ℕ → Result (List PpLine) ℕ
lines_of file bytes = lines_behind file 0 false (fresh 1) (chars_from 1 bytes)

abbrev pub tokens_in : List PpLine → List PpTok
tokens_in lines = flat_map (λ line. line.toks) lines

-- the tokens of the file that has this number
unfoldable pub tokens_of : ℕ → List ℕ → Result (List PpTok) ℕ
tokens_of file bytes = on_ok tokens_in (lines_of file bytes)

-- a text that stands in the middle of line 1 of file 0: a line feed in it is a blank
abbrev pub middle : OpenLine
middle = record { line = record { number = 1; toks = [] }; state = Other; space = false }

abbrev pub char_of_text : ℕ → Char
char_of_text b = record { byte = if b == 10 then 32 else b; line = 1 }

-- the tokens of such a text
unfoldable pub text_of : List ℕ → Result (List PpTok) ℕ
text_of text = on_ok tokens_in (lines_behind 0 0 true middle (map char_of_text text))

-- what reading gives is as defined; want of memory alone is free
abbrev pub AreRead : {A : Type 0} → Result A PpTokFault → Result A ℕ → Type 0
AreRead (Ok x) read = read ≡ Ok x
AreRead (Err (OpenComment line)) read = read ≡ Err line
AreRead (Err NoMemory) read = Unit {0}
