-- The piece that stands first in a text: a blank, a line end or a token.
use Rattle.std.specs.Prelude.{codes, ℕ, ◌+◌, ◌==◌, Bool, false, ◌&&◌, ◌||◌, List, [], ◌∷◌, drop, Option, Some, None, option_map, unwrap_or, if◌then◌else◌}
use Rattle.std.specs.Str.{bytes_eq}
use Rattle.qv_base.specs.Decimal.{is_digit}
use Rattle.pp_tok.specs.declared.token.PpKind.{PpKind}
use Rattle.pp_tok.specs.declared.token.PpKind.TheVariants.{Ident, Number, Char, Text, Punct, Header, Byte}
use Rattle.pp_tok.specs.declared.piece.Piece.{Piece}
use Rattle.pp_tok.specs.declared.piece.What.TheVariants.{Blank, LineEnd, Token}
use Rattle.pp_tok.specs.declared.piece.LineState.{LineState}
use Rattle.pp_tok.specs.declared.piece.LineState.TheVariants.{Start, Hash, Include, Other}
use Rattle.pp_tok.specs.Chars.{starts_with}
use Rattle.pp_tok.specs.Lengths.{is_letter, is_blank, is_quote, name_length, number_length, constant_length, header_length, comment_length, punctuator_length}

abbrev pub starts_with_digit : List ℕ → Bool
starts_with_digit [] = false
starts_with_digit (b ∷ bs) = is_digit b

-- pieces of n bytes

abbrev pub blank_piece : ℕ → Piece
blank_piece n = record { length = n; what = Blank }

abbrev pub token_piece : PpKind → ℕ → Piece
token_piece kind n = record { length = n; what = Token kind }

abbrev pub kind_of_constant : ℕ → PpKind
kind_of_constant quote = if quote == 34 then Text else Char

-- a constant whose quote stands first and that ends on its line
abbrev pub constant_at : List ℕ → Option Piece
constant_at [] = None
constant_at (b ∷ bs) = if is_quote b then option_map (λ n. token_piece (kind_of_constant b) (1 + n)) (constant_length b false bs) else None

-- one byte more
abbrev pub longer : Piece → Piece
longer p = record p { length = 1 + p.length }

-- a constant behind L, which belongs to it
abbrev pub wide_at : ℕ → List ℕ → Option Piece
wide_at b bs = if b == 76 then option_map longer (constant_at bs) else None

-- the name of a header, where one is read
abbrev pub header_at : LineState → ℕ → List ℕ → Option Piece
header_at Include b bs =
    if b == 60 then option_map (λ n. token_piece Header (1 + n)) (header_length 62 bs) else (
    if b == 34 then option_map (λ n. token_piece Header (1 + n)) (header_length 34 bs) else None)
header_at state b bs = None

-- a punctuator, or else the byte alone
abbrev pub punctuator_or_byte : ℕ → Piece
punctuator_or_byte n = if n == 0 then token_piece Byte 1 else token_piece Punct n

-- the token that begins with this byte, where no name of a header is read
unfoldable pub token_at : ℕ → List ℕ → Piece
token_at b bs =
    if is_letter b then unwrap_or (wide_at b bs) (token_piece Ident (1 + name_length bs)) else (
    if is_digit b || (b == 46 && starts_with_digit bs) then token_piece Number (1 + number_length b bs) else (
    if is_quote b then unwrap_or (constant_at (b ∷ bs)) (token_piece Byte 1) else
    punctuator_or_byte (punctuator_length (b ∷ bs))))

-- the piece that begins with this byte; none where it is an open comment
unfoldable pub piece_at : LineState → ℕ → List ℕ → Option Piece
piece_at state b bs =
    if is_blank b then Some (blank_piece 1) else (
    if b == 10 then Some (record { length = 1; what = LineEnd }) else (
    if b == 47 && starts_with 42 bs then option_map (λ n. blank_piece (2 + n)) (comment_length (drop 1 bs)) else
    Some (unwrap_or (header_at state b bs) (token_at b bs))))

-- which tokens stand before the next piece, behind a token with this spelling
abbrev pub state_behind : LineState → PpKind → List ℕ → LineState
state_behind Start Punct spelling = if bytes_eq spelling (codes "#") then Hash else Other
state_behind Hash Ident spelling = if bytes_eq spelling (codes "include") then Include else Other
state_behind state kind spelling = Other
