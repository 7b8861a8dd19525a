-- Which texts a definition may have.
use Rattle.std.specs.Prelude.{ℕ, ◌-◌, ◌==◌, Bool, true, false, ◌&&◌, not, List, codes, length, Option, Some, None, Result, Ok, Err, slice_get}
use Rattle.std.specs.List.{list_any}
use Rattle.std.specs.Str.{bytes_eq}
use Rattle.pp_tok.specs.declared.token.PpKind.{PpKind}
use Rattle.pp_tok.specs.declared.token.PpKind.TheVariants.{Punct}
use Rattle.pp_tok.specs.declared.token.PpTok.{PpTok}
use Rattle.pp_tok.specs.Lines.{text_of}

abbrev pub is_punctuator : PpKind → Bool
is_punctuator Punct = true
is_punctuator kind = false

-- the punctuator `##`
abbrev pub is_paste : Option PpTok → Bool
is_paste None = false
is_paste (Some token) = is_punctuator token.kind && bytes_eq token.spelling (codes "##")

-- no comment is open, and `##` is neither the first token nor the last one
abbrev pub are_framed : Result (List PpTok) ℕ → Bool
are_framed (Err line) = false
are_framed (Ok tokens) = not (is_paste (slice_get tokens 0)) && not (is_paste (slice_get tokens (length tokens - 1)))

-- a text of one line without an open comment, and with no `##` at its ends
abbrev pub is_definition_text : List ℕ → Bool
is_definition_text text = not (list_any (λ b. b == 10) text) && are_framed (text_of text)
