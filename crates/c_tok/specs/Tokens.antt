-- C tokens (ANSI C X3.159-1989, 3.1).
use Rattle.std.specs.Prelude.{ℕ, nat_le, Bool, ◌||◌, List, [], ◌∷◌, ◌++◌, length, Option, Some, None, option_map, Result, Ok, Err, if◌then◌else◌}
use Rattle.std.specs.Option.{ok_or}
use Rattle.qv_base.specs.declared.place.Place.{Place}
use Rattle.pp_tok.specs.declared.token.PpTok.{PpTok}
use Rattle.pp_tok.specs.declared.token.PpKind.{PpKind}
use Rattle.pp_tok.specs.declared.token.PpKind.TheVariants as pp
use Rattle.pp_tok.specs.Chars.{starts_with}
use Rattle.c_tok.specs.declared.mark.Mark.{Mark}
use Rattle.c_tok.specs.declared.token.CTok.{CTok}
use Rattle.c_tok.specs.declared.token.CTokKind.{CTokKind}
use Rattle.c_tok.specs.declared.token.CTokKind.TheVariants as c
use Rattle.c_tok.specs.declared.fault.TokFault.{TokFault}
use Rattle.c_tok.specs.declared.fault.TokFault.TheVariants.{StrayByte, OpenQuote, NameTooLong}
use Rattle.c_tok.specs.Results.{on_ok, and_then}
use Rattle.c_tok.specs.Marks.{keywords, punctuators, spelled_in}
use Rattle.c_tok.specs.Numbers.{number_constant}
use Rattle.c_tok.specs.Texts.{character_constant, string_bytes}

-- what a token is, by its place and its spelling

abbrev pub name_or_keyword : Place → List ℕ → Option Mark → Result CTokKind TokFault
name_or_keyword place s (Some mark) = Ok (c.Mark mark)
name_or_keyword place s None = if nat_le (length s) 127 then Ok (c.Ident s) else Err (NameTooLong place)

abbrev pub begins_with_quote : List ℕ → Bool
begins_with_quote s = starts_with 34 s || starts_with 39 s

abbrev pub kind_by : PpKind → Place → List ℕ → Result CTokKind TokFault
kind_by pp.Ident place s = name_or_keyword place s (spelled_in keywords s)
kind_by pp.Number place s = on_ok c.Constant (number_constant place s)
kind_by pp.Char place s = on_ok c.Constant (character_constant place s)
kind_by pp.Text place s = on_ok c.Text (string_bytes place s)
kind_by pp.Punct place s = ok_or (option_map c.Mark (spelled_in punctuators s)) (StrayByte place)
kind_by pp.Header place s = Err (StrayByte place)
kind_by pp.Byte place s = Err (if begins_with_quote s then OpenQuote place else StrayByte place)

unfoldable pub kind_of : PpTok → Result CTokKind TokFault
kind_of t = kind_by t.kind t.place t.spelling

abbrev pub token_of : PpTok → Result CTok TokFault
token_of t = on_ok (λ kind. record { kind = kind; place = t.place }) (kind_of t)

-- the tokens one by one; the first fault counts
unfoldable pub tokens_of : List PpTok → Result (List CTok) TokFault
tokens_of [] = Ok []
tokens_of (t ∷ ts) = and_then (λ x. on_ok (λ xs. x ∷ xs) (tokens_of ts)) (token_of t)

-- two strings as one
abbrev pub both : CTokKind → CTokKind → Option CTokKind
both (c.Text a) (c.Text b) = Some (c.Text (a ++ b))
both a b = None

abbrev pub onto_next : CTok → CTok → List CTok → Option CTokKind → List CTok
onto_next x y ys (Some kind) = record { kind = kind; place = x.place } ∷ ys
onto_next x y ys None = x ∷ y ∷ ys

-- a token before others; a string takes the bytes of one that stands first
abbrev pub onto : CTok → List CTok → List CTok
onto x [] = x ∷ []
onto x (y ∷ ys) = onto_next x y ys (both x.kind y.kind)

-- adjacent strings are one, at the place of the first
unfoldable pub joined : List CTok → List CTok
joined [] = []
joined (x ∷ xs) = onto x (joined xs)

-- the C tokens of a unit's tokens, or the first fault
unfoldable pub c_tokens : List PpTok → Result (List CTok) TokFault
c_tokens ts = on_ok joined (tokens_of ts)
