-- How the parser reads: with one token in hand, and room for what may still nest.
use Rattle.std.specs.Prelude.{ℕ, zero, suc, ◌+◌, if◌then◌else◌, nat_lt, List, Ok}
use Rattle.c_tree.specs.declared.stmt.External.{External}
use Rattle.c_tree.specs.declared.height.Heights.{Heights}
use Rattle.c_tree.specs.declared.height.Tall.{Tall}
use Rattle.c_tree.specs.Heights.{lower, count, sum, is_below}
use Rattle.c_decl.specs.declared.kind.Mode.{Mode}
use Rattle.c_decl.specs.declared.kind.Mode.TheVariants.{Whole}
use Rattle.c_decl.specs.Grammar.{Tree}
use Rattle.c_decl.specs.Input.{Parser, ◌>>=◌, refuse}
use Rattle.c_decl.specs.Entries.{Entry, comma, assignment, conditional, cast, unary, init, binary, span, members, declarator, direct, statement, behind_label, block, phrase_of, class_of}
use Rattle.c_decl.specs.Declarators.{spanned, enclosed, declarator_rule, direct_rule}
use Rattle.c_decl.specs.Expressions.{comma_rule, assignment_rule, conditional_rule, cast_rule, unary_rule, init_rule, binary_rule}
use Rattle.c_decl.specs.Statements.{statement_rule, colon_rule, braced, unit}

module _ (mode : Mode) (part : (c : Entry) → Parser (Tall (Tree (phrase_of c)))) (room : Heights) where
  abbrev pub layer : (c : Entry) → Parser (Tall (Tree (phrase_of c)))
  layer comma = comma_rule mode part room
  layer assignment = assignment_rule mode part room
  layer conditional = conditional_rule mode part room
  layer cast = cast_rule mode part room
  layer unary = unary_rule mode part room
  layer init = init_rule mode part room
  layer (binary n) = binary_rule mode part room (n + 1)
  layer (span inside) = spanned mode part room inside
  layer members = enclosed mode part room
  layer (declarator kind typed) = declarator_rule mode part room kind typed
  layer (direct kind typed) = direct_rule mode part room kind typed
  layer statement = statement_rule mode part room
  layer (behind_label a n) = colon_rule mode part room a n
  layer block = braced mode part room

-- What may be read as c within the room. The number is at least the sum of the room.
unfoldable pub reader : Mode → ℕ → Heights → (c : Entry) → Parser (Tall (Tree (phrase_of c)))
reader mode zero room c = λ i. refuse i
reader mode (suc n) room c = λ i. if nat_lt 0 (count (class_of c) room) then layer mode (reader mode n (lower (class_of c) room)) (lower (class_of c) room) c i else refuse i

unfoldable pub read : Mode → Heights → (c : Entry) → Parser (Tall (Tree (phrase_of c)))
read mode room = reader mode (sum room) room

-- what was read, within the room
unfoldable pub ended : {X : Type 0} → Heights → Tall X → Parser (Tall X)
ended room x = λ i. if is_below x.height room then Ok (x, i) else refuse i

-- the tokens are one unit
unfoldable pub parse : Heights → Parser (Tall (List External))
parse room = unit Whole (read Whole room) room >>= ended room
