-- How lines are taken one after another. No public clause names it.
use Rattle.std.specs.Prelude.{◌≡◌, ◌<◌, Bool, true, false, not, List, [], ◌∷◌, length, Option, Some, None, Result, Ok, Err}
use Rattle.qv_base.specs.declared.NoMemory.{NoMemory}
use Rattle.pp_tok.specs.declared.token.PpLine.{PpLine}
use Rattle.pp_dir.specs.declared.passage.Passage.{Passage}
use Rattle.pp_dir.specs.Forms.{begins_directive, passages_of}

-- whether a line of text comes next
abbrev pub begins_text : List PpLine → Bool
begins_text [] = false
begins_text (l ∷ ls) = not (begins_directive l.toks)

-- the next line, where it is one of text
abbrev pub PopsText : List PpLine → Option PpLine → List PpLine → Type 0
PopsText old None new = (new ≡ old) × (begins_text old ≡ false)
PopsText old (Some l) new = (old ≡ l ∷ new) × (begins_text old ≡ true)

-- the next passage
abbrev pub Parts : List PpLine → Result (Option Passage) NoMemory → List PpLine → Type 0
Parts old (Ok None) new = old ≡ []
Parts old (Ok (Some x)) new = (passages_of old ≡ x ∷ passages_of new) × (length new < length old)
Parts old (Err e) new = Unit {0}
