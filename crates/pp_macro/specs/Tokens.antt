-- Tokens, and the names that they hide.
use Rattle.std.specs.Prelude.{ℕ, Bool, true, false, ◌&&◌, ◌||◌, ◌==◌, filter, flat_map, if◌then◌else◌, List, [], ◌∷◌, ◌++◌}
use Rattle.std.specs.List.{list_any}
use Rattle.std.specs.Str.{bytes_eq}
use Rattle.pp_tok.specs.declared.token.PpTok.{PpTok}
use Rattle.pp_tok.specs.declared.token.PpKind.{PpKind}
use Rattle.pp_tok.specs.declared.token.PpKind.TheVariants as k

abbrev pub is_ident : PpKind → Bool
is_ident k.Ident = true
is_ident _ = false

abbrev pub is_punct : PpKind → Bool
is_punct k.Punct = true
is_punct _ = false

-- whether a token is this punctuator
abbrev pub is_mark : List ℕ → PpTok → Bool
is_mark mark t = is_punct t.kind && bytes_eq t.spelling mark

abbrev pub is_among : List ℕ → List (List ℕ) → Bool
is_among name names = list_any (λ n. bytes_eq n name) names

-- whether a token's hide set holds its own name
abbrev pub hides_itself : PpTok → Bool
hides_itself t = is_among t.spelling t.hidden

-- the names that both hide
abbrev pub common : List (List ℕ) → List (List ℕ) → List (List ℕ)
common hidden others = filter (λ name. is_among name others) hidden

-- the token, hiding these names too
abbrev pub hiding : List (List ℕ) → PpTok → PpTok
hiding names t = record { kind = t.kind; spelling = t.spelling; place = t.place; space = t.space; first = t.first; hidden = t.hidden ++ names }

-- a token with the blanks of another one
abbrev pub made : PpKind → List ℕ → PpTok → PpTok
made kind spelling t = record { kind = kind; spelling = spelling; place = t.place; space = t.space; first = t.first; hidden = [] }

-- inside quotes: `\` before each `\` and `"`
abbrev pub escaped : List ℕ → List ℕ
escaped bytes = flat_map (λ b. if b == 34 || b == 92 then 92 ∷ b ∷ [] else b ∷ []) bytes

-- in quotes
abbrev pub quoted : List ℕ → List ℕ
quoted bytes = 34 ∷ bytes ++ 34 ∷ []
