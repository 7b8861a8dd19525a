-- Tokens with their numbers.
use Rattle.std.specs.Prelude.{ℕ, suc, Bool, true, false, List, [], ◌∷◌, Option, Some, None}
use denote.Enum.Bare.{sameb}
use Rattle.c_tok.specs.declared.mark.Mark.{Mark}
use Rattle.c_tok.specs.declared.mark.Mark.TheVariants as m
use Rattle.c_tok.specs.contracts.mark.Mark.{the_type}
use Rattle.c_tok.specs.declared.token.CTok.{CTok}
use Rattle.c_tok.specs.declared.token.CTokKind.{CTokKind}
use Rattle.c_tok.specs.declared.token.CTokKind.TheVariants as c
use Rattle.c_tree.specs.declared.at.At.{At}

pub record Token : Type 0 where
  pub kind : CTokKind
  pub at : At

-- the tokens of a unit, numbered from k
unfoldable pub numbered : ℕ → List CTok → List Token
numbered k [] = []
numbered k (t ∷ ts) = record { kind = t.kind; at = record { place = t.place; number = k } } ∷ numbered (suc k) ts

abbrev pub tok : CTokKind → At → Token
tok k p = record { kind = k; at = p }

-- a mark at a place
abbrev pub mark : At → Mark → List Token
mark p m = tok (c.Mark m) p ∷ []

abbrev pub name : At → List ℕ → List Token
name p n = tok (c.Ident n) p ∷ []

-- the names that a record, an enumeration may have
abbrev pub tag : At → Option (List ℕ) → List Token
tag p None = []
tag p (Some n) = name p n

-- a comma behind the last item of a list
abbrev pub ending : Bool → At → List Token
ending false p = []
ending true p = tok (c.Mark m.Comma) p ∷ []

-- `==` on marks
unfoldable pub same_mark : Mark → Mark → Bool
same_mark = sameb the_type

abbrev pub head_of : List Token → Option CTokKind
head_of [] = None
head_of (t ∷ rest) = Some t.kind

abbrev pub tail_of : List Token → List Token
tail_of [] = []
tail_of (t ∷ rest) = rest

abbrev pub nowhere : At
nowhere = record { place = record { file = 0; line = 1 }; number = 0 }

abbrev pub at_of : List Token → At
at_of [] = nowhere
at_of (t ∷ rest) = t.at

abbrev pub is_empty : List Token → Bool
is_empty [] = true
is_empty (t ∷ rest) = false
