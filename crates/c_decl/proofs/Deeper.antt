-- One layer of the readers.
use Rattle.std.proofs.Common.{◌≡◌, ℕ, zero, suc, ◌<◌, Result, Ok, Err, refl, ap, subst, ◌∙◌, arith}
use Rattle.std.specs.Prelude.{IfOk}
use Rattle.std.proofs.lemmas.Bool.{lt-ltb, le-ltb}
use Rattle.c_tree.specs.declared.height.Heights.{Heights}
use Rattle.c_tree.specs.declared.height.Tall.{Tall}
use Rattle.c_tree.specs.Heights as class
use Rattle.c_tree.specs.Heights.{Class, raise, lower, count, sum, Below}
use Rattle.c_decl.specs.declared.fault.Halt.{Halt}
use Rattle.c_decl.specs.declared.kind.Mode.{Mode}
use Rattle.c_decl.specs.declared.kind.DeclPart.{DeclPart}
use Rattle.c_decl.specs.declared.kind.DeclPart.TheVariants as decl
use Rattle.c_decl.specs.Input.{Input, refusal}
use Rattle.c_decl.specs.Entries as e
use Rattle.c_decl.specs.Entries.{Entry, class_of}
use Rattle.c_decl.specs.Reading.{reader, layer}
use Rattle.c_decl.specs.Layers.{decl_rule_of}
use Rattle.c_decl.specs.Nests.{parts_of, decl_of}
use Rattle.c_decl.proofs.Room.{sum_lower, room_raised}

pub reader_is : (m : Mode) (room : Heights) (c : Entry) (i : Input) → 0 < count (class_of c) room
    → parts_of m room c i ≡ layer m (parts_of m (lower (class_of c) room)) (lower (class_of c) room) c i
unfolding reader
reader_is m room c i some =
    let e : sum room ≡ suc (sum (lower (class_of c) room)) = let s = sum_lower (class_of c) room some in omega arith in
    ap (λ (n : ℕ). reader m n room c i) e ∙ rw (lt-ltb 0 (count (class_of c) room) some) refl

none_by : (n : ℕ) (m : Mode) (room : Heights) (c : Entry) (i : Input) → count (class_of c) room ≡ 0 → reader m n room c i ≡ Err (refusal i)
unfolding reader
none_by zero m room c i none = refl
none_by (suc n) m room c i none = rw (le-ltb 0 (count (class_of c) room) (omega arith)) refl

pub reader_none : (m : Mode) (room : Heights) (c : Entry) (i : Input) → count (class_of c) room ≡ 0 → parts_of m room c i ≡ Err (refusal i)
reader_none m room c i none = none_by (sum room) m room c i none

pub decl_is : (m : Mode) (room : Heights) (p : DeclPart) (i : Input) → 0 < room.declarator → decl_of m room p i ≡ decl_rule_of m (lower class.declarator room) p i
unfolding count
decl_is m room (decl.Declarator kind typed) i some = reader_is m room (e.declarator kind typed) i some
decl_is m room (decl.Direct kind typed) i some = reader_is m room (e.direct kind typed) i some

pub decl_none : (m : Mode) (room : Heights) (p : DeclPart) (i : Input) → room.declarator ≡ 0 → decl_of m room p i ≡ Err (refusal i)
unfolding count
decl_none m room (decl.Declarator kind typed) i none = reader_none m room (e.declarator kind typed) i none
decl_none m room (decl.Direct kind typed) i none = reader_none m room (e.direct kind typed) i none

back : (c : Class) (h room : Heights) → 0 < count c room → Below h (raise c (lower c room)) → Below h room
back c h room some b = subst (λ (z : Heights). Below h z) (room_raised c room some) b

pub low_back : {X : Type 0} (c : Class) (room low : Heights) (r : Result (Tall X) Halt) → low ≡ lower c room → 0 < count c room → IfOk r (λ x. Below x.height (raise c low)) → IfOk r (λ x. Below x.height room)
low_back c room low (Ok x) e some h = back c x.height room some (subst (λ (z : Heights). Below x.height (raise c z)) e h)
low_back c room low (Err e) _ some h = tt
