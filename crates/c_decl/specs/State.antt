-- What is known between two tokens: the names declared so far, and the first construct that is left out.
use Rattle.std.specs.Prelude.{ℕ, ◌++◌, nat_lt, nat_le, Bool, true, false, if◌then◌else◌, List, [], ◌∷◌, length, take, drop, Option, Some, None}
use Rattle.c_names.specs.declared.names.Declared.{Declared}
use Rattle.c_names.specs.Names.{is_typedef_name}
use Rattle.c_tree.specs.declared.at.At.{At}
use Rattle.c_decl.specs.declared.marking.Marked.{Marked}
use Rattle.c_decl.specs.declared.marking.Marking.{Marking}

pub record State : Type 0 where
  pub names : List Declared
  pub marked : Option Marking

unfoldable pub is_type : State → List ℕ → Bool
is_type S n = is_typedef_name S.names n

unfoldable pub declare : List ℕ → Bool → State → State
declare n is_typedef S = record S { names = S.names ++ (record { name = n; is_typedef = is_typedef }) ∷ [] }

-- a declarator declares its name, if it has one
abbrev pub declares : Option (List ℕ) → Bool → State → State
declares None is_typedef S = S
declares (Some n) is_typedef S = declare n is_typedef S

abbrev pub some_names : Option (List Declared) → List Declared
some_names None = []
some_names (Some names) = names

-- the parameters of a function, in its body
unfoldable pub enter : Option (List Declared) → State → State
enter params S = record S { names = S.names ++ some_names params }

-- behind a scope: what was declared in it is gone
unfoldable pub leave : State → State → State
leave before S = record S { names = take (length before.names) S.names }

-- what was declared since
unfoldable pub declared_since : State → State → List Declared
declared_since before S = drop (length before.names) S.names

abbrev pub earlier : Option Marking → Marking → Marking
earlier None m = m
earlier (Some old) m = if nat_lt m.at.number old.at.number then m else old

abbrev pub no_later : Option Marking → Marking → Marking
no_later None m = m
no_later (Some old) m = if nat_le m.at.number old.at.number then m else old

-- A construct that is left out. The one that begins first counts; of two that begin together the one that is met first.
unfoldable pub leave_out : Marked → At → State → State
leave_out kind at S = record S { marked = Some (earlier S.marked (record { at = at; kind = kind })) }

-- one that is met at its first token, so before whatever is in it
unfoldable pub leave_out_all : Marked → At → State → State
leave_out_all kind at S = record S { marked = Some (no_later S.marked (record { at = at; kind = kind })) }

abbrev pub leave_out_if : Bool → Marked → At → State → State
leave_out_if true kind at S = leave_out kind at S
leave_out_if false kind at S = S
