-- The names in the list of `-f`.
use Rattle.std.specs.Prelude.{ℕ, ◌+◌, ◌-◌, ◌&&◌, nat_lt, nat_le, List, [], ◌∷◌, ◌++◌, length, take, Option, Some, None, Result, Ok, Err, if◌then◌else◌}
use Rattle.std.specs.Io.BufRead.{ends_with_byte}
use Rattle.std.specs.Str.{is_utf8}
use Rattle.qv_base.specs.Place.{capped}
use Rattle.asm_line.specs.Text.{lines_of}

-- a line without the carriage return that ends it
abbrev pub without_return : List ℕ → List ℕ
without_return line = if ends_with_byte 13 line then take (length line - 1) line else line

-- a carriage return counts as a line's end only before a line feed, so the last line keeps its own
abbrev pub trimmed : List (List ℕ) → List (List ℕ)
trimmed [] = []
trimmed (line ∷ []) = line ∷ []
trimmed (line ∷ next ∷ lines) = without_return line ∷ trimmed (next ∷ lines)

-- the names and a line's: an empty line has none, and one that isn't UTF-8 is at fault
abbrev pub added_to : List (List ℕ) → List ℕ → Option (List (List ℕ))
added_to names [] = Some names
added_to names (b ∷ bs) = if is_utf8 (b ∷ bs) then Some (names ++ (b ∷ bs) ∷ []) else None

-- what comes behind a line with this number
abbrev pub behind_line : ℕ → Option (List (List ℕ)) → (List (List ℕ) → Result (List (List ℕ)) ℕ) → Result (List (List ℕ)) ℕ
behind_line number None later = Err number
behind_line number (Some names) later = later names

-- the names before a line with this number, and those on it and on the lines behind it; or the number of the
-- first line at fault
abbrev pub names_on : ℕ → List (List ℕ) → List (List ℕ) → Result (List (List ℕ)) ℕ
names_on number names [] = Ok names
names_on number names (line ∷ lines) = behind_line number (added_to names line) (λ more. names_on (capped (number + 1)) more lines)

-- there are 1 to 4,096 of them
abbrev pub if_some : Result (List (List ℕ)) ℕ → Result (List (List ℕ)) ℕ
if_some (Ok names) = if nat_lt 0 (length names) && nat_le (length names) 4096 then Ok names else Err 0
if_some (Err number) = Err number

-- the names in a list, one a line, or the number of the line at fault: 0 where there is no name or too many
abbrev pub names_in : List ℕ → Result (List (List ℕ)) ℕ
names_in list = if_some (names_on 1 [] (trimmed (lines_of list)))
