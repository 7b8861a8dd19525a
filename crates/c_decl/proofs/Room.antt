-- Heights and room for them.
use Rattle.std.proofs.Common.{◌≡◌, ℕ, ◌+◌, ◌-◌, ◌<◌, ◌≤◌, true, refl, ap, arith}
use Rattle.std.specs.Prelude.{nat_le}
use Rattle.std.proofs.lemmas.Bool.{le-leb, leb-true}
use Rattle.c_decl.proofs.Tests.{and_left, and_right}
use Rattle.c_tree.specs.declared.height.Heights.{Heights}
use Rattle.c_tree.specs.Heights as class
use Rattle.c_tree.specs.Heights.{Class, none, join, raise, lower, count, sum, Below, is_below}

pub left_below : (a b room : Heights) → Below (join a b) room → Below a room
unfolding join
left_below a b room h = grind arith

pub right_below : (a b room : Heights) → Below (join a b) room → Below b room
unfolding join
right_below a b room h = grind arith

pub both_below : (a b room : Heights) → Below a room → Below b room → Below (join a b) room
unfolding join
both_below a b room h k = grind arith

pub none_below : (room : Heights) → Below none room
none_below room = grind arith

-- what may be one higher in a class, and its parts
pub inner_below : (c : Class) (h room : Heights) → Below (raise c h) (raise c room) → Below h room
unfolding raise
inner_below class.expression h room b = grind arith
inner_below class.declarator h room b = grind arith
inner_below class.initializer h room b = grind arith
inner_below class.statement h room b = grind arith
inner_below class.members h room b = grind arith

-- the other way round
pub outer_below : (c : Class) (h room : Heights) → Below h room → Below (raise c h) (raise c room)
unfolding raise
outer_below class.expression h room b = grind arith
outer_below class.declarator h room b = grind arith
outer_below class.initializer h room b = grind arith
outer_below class.statement h room b = grind arith
outer_below class.members h room b = grind arith

pub higher_below : (c : Class) (h room : Heights) → Below h room → Below h (raise c room)
unfolding raise
higher_below class.expression h room b = grind arith
higher_below class.declarator h room b = grind arith
higher_below class.initializer h room b = grind arith
higher_below class.statement h room b = grind arith
higher_below class.members h room b = grind arith

-- a room with some of a class is one of what is lower by one
pub room_raised : (c : Class) (room : Heights) → 0 < count c room → raise c (lower c room) ≡ room
unfolding raise lower count
room_raised class.expression room some = let e : room.expression - 1 + 1 ≡ room.expression = omega arith in
    ap (λ (n : ℕ). record room { expression = n }) e
room_raised class.declarator room some = let e : room.declarator - 1 + 1 ≡ room.declarator = omega arith in
    ap (λ (n : ℕ). record room { declarator = n }) e
room_raised class.initializer room some = let e : room.initializer - 1 + 1 ≡ room.initializer = omega arith in
    ap (λ (n : ℕ). record room { initializer = n }) e
room_raised class.statement room some = let e : room.statement - 1 + 1 ≡ room.statement = omega arith in
    ap (λ (n : ℕ). record room { statement = n }) e
room_raised class.members room some = let e : room.members - 1 + 1 ≡ room.members = omega arith in
    ap (λ (n : ℕ). record room { members = n }) e

pub sum_lower : (c : Class) (room : Heights) → 0 < count c room → sum room ≡ sum (lower c room) + 1
unfolding sum lower count
sum_lower class.expression room some = omega arith
sum_lower class.declarator room some = omega arith
sum_lower class.initializer room some = omega arith
sum_lower class.statement room some = omega arith
sum_lower class.members room some = omega arith

pub count_raise : (c : Class) (h : Heights) → 0 < count c (raise c h)
unfolding raise count
count_raise class.expression h = omega arith
count_raise class.declarator h = omega arith
count_raise class.initializer h = omega arith
count_raise class.statement h = omega arith
count_raise class.members h = omega arith

pub count_below : (c : Class) (h room : Heights) → Below h room → count c h ≤ count c room
unfolding count
count_below class.expression h room b = b.expression
count_below class.declarator h room b = b.declarator
count_below class.initializer h room b = b.initializer
count_below class.statement h room b = b.statement
count_below class.members h room b = b.members

pub below_is : (h room : Heights) → Below h room → is_below h room ≡ true
unfolding is_below
below_is h room b = rw (
  le-leb h.expression room.expression b.expression,
  le-leb h.declarator room.declarator b.declarator,
  le-leb
      h.initializer room.initializer b.initializer,
  le-leb h.statement room.statement b.statement,
  le-leb h.members room.members b.members,
)
    refl

-- a room holds what was tested to be below it
pub below_of : (h room : Heights) → is_below h room ≡ true → Below h room
unfolding is_below
below_of h room is =
    let a = and_left _ (nat_le h.members room.members) is in let b = and_left _ (nat_le h.statement room.statement) a in
    let c = and_left _ (nat_le h.initializer room.initializer) b in
    record {
      expression = leb-true _ _ (and_left (nat_le h.expression room.expression) _ c);
      declarator = leb-true _ _ (and_right (nat_le h.expression room.expression) _ c);
      initializer = leb-true _ _ (and_right _ (nat_le h.initializer room.initializer) b);
      statement = leb-true _ _ (and_right _ (nat_le h.statement room.statement) a);
      members = leb-true _ _ (and_right _ (nat_le h.members room.members) is);
    }
