-- Spellings that are one token.
use Rattle.std.specs.Prelude.{ℕ, ◌==◌, Bool, false, ◌&&◌, List, [], ◌∷◌, length, Option, Some, None, option_and_then, if◌then◌else◌}
use Rattle.std.specs.List.{list_all}
use Rattle.pp_tok.specs.declared.token.PpKind.{PpKind}
use Rattle.pp_tok.specs.declared.piece.What.{What}
use Rattle.pp_tok.specs.declared.piece.What.TheVariants.{Blank, LineEnd, Token}
use Rattle.pp_tok.specs.declared.piece.LineState.TheVariants.{Other}
use Rattle.pp_tok.specs.Lengths.{is_letter, is_name_byte}
use Rattle.pp_tok.specs.Pieces.{piece_at}

-- the class of a piece that is a token
abbrev pub kind_of : What → Option PpKind
kind_of Blank = None
kind_of LineEnd = None
kind_of (Token kind) = Some kind

-- the class of the one token that these bytes are, where they are one; no name of a header is read
unfoldable pub sole_kind_of : List ℕ → Option PpKind
sole_kind_of [] = None
sole_kind_of (b ∷ bs) = option_and_then (λ p. if p.length == length (b ∷ bs) then kind_of p.what else None) (piece_at Other b bs)

-- a letter or an underscore, and then letters, underscores and digits
unfoldable pub is_identifier : List ℕ → Bool
is_identifier [] = false
is_identifier (b ∷ bs) = is_letter b && list_all is_name_byte bs
