-- How tokens are added behind others. No public clause names it.
use Rattle.std.specs.Prelude.{List, [], ◌∷◌}
use Rattle.c_tok.specs.declared.token.CTok.{CTok}
use Rattle.c_tok.specs.Tokens.{onto}

-- a token behind others: a string goes to the last one, where it is a string
abbrev pub with_token : List CTok → CTok → List CTok
with_token [] t = t ∷ []
with_token (x ∷ []) t = onto x (t ∷ [])
with_token (x ∷ y ∷ xs) t = x ∷ with_token (y ∷ xs) t

-- and more of them
abbrev pub with_tokens : List CTok → List CTok → List CTok
with_tokens xs [] = xs
with_tokens xs (t ∷ ts) = with_tokens (with_token xs t) ts
