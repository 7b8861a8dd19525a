-- How deep each class of constructs nests, and room for it.
use Rattle.std.specs.Prelude.{ℕ, ◌+◌, ◌-◌, ◌≤◌, max, Bool, ◌&&◌, nat_le}
use Rattle.c_tree.specs.declared.height.Heights.{Heights}
use Rattle.c_tree.specs.declared.height.Tall.{Tall}

pub data Class : Type 0 where
  expression declarator initializer statement members : Class

abbrev pub none : Heights
none = record { expression = 0; declarator = 0; initializer = 0; statement = 0; members = 0 }

-- how deep the deeper of two nests
unfoldable pub join : Heights → Heights → Heights
join a b = record {
  expression = max a.expression b.expression;
  declarator = max a.declarator b.declarator;
  initializer = max a.initializer b.initializer;
  statement = max a.statement b.statement;
  members = max a.members b.members;
}

-- one more of a class
unfoldable pub raise : Class → Heights → Heights
raise expression h = record h { expression = h.expression + 1 }
raise declarator h = record h { declarator = h.declarator + 1 }
raise initializer h = record h { initializer = h.initializer + 1 }
raise statement h = record h { statement = h.statement + 1 }
raise members h = record h { members = h.members + 1 }

-- one less of a class
unfoldable pub lower : Class → Heights → Heights
lower expression h = record h { expression = h.expression - 1 }
lower declarator h = record h { declarator = h.declarator - 1 }
lower initializer h = record h { initializer = h.initializer - 1 }
lower statement h = record h { statement = h.statement - 1 }
lower members h = record h { members = h.members - 1 }

unfoldable pub count : Class → Heights → ℕ
count expression h = h.expression
count declarator h = h.declarator
count initializer h = h.initializer
count statement h = h.statement
count members h = h.members

unfoldable pub sum : Heights → ℕ
sum h = h.expression + h.declarator + h.initializer + h.statement + h.members

-- within limits
pub record Below (h room : Heights) : Type 0 where
  pub expression : h.expression ≤ room.expression
  pub declarator : h.declarator ≤ room.declarator
  pub initializer : h.initializer ≤ room.initializer
  pub statement : h.statement ≤ room.statement
  pub members : h.members ≤ room.members

unfoldable pub is_below : Heights → Heights → Bool
is_below h room = nat_le h.expression room.expression && nat_le h.declarator room.declarator && nat_le h.initializer room.initializer
    && nat_le h.statement room.statement && nat_le h.members room.members

abbrev pub tall : {X : Type 0} → X → Heights → Tall X
tall tree height = record { tree = tree; height = height }
