use Rattle.std.proofs.Common.{◌≡◌, ◌-◌}
use Rattle.c_decl.specs.Input.{turns, looped}
use Rattle.c_tree.specs.Heights.{Below}
use Rattle.c_decl.specs.Declarators as r
use Rattle.c_decl.specs.Entries as entries
use Rattle.c_decl.specs.Nests.{parts_of}
use Rattle.c_decl.proofs.rules.Rules.more_specs.Given as goal

abbrev pub invariant-loop-turn : goal.invariant-loop-turn
invariant-loop-turn g l = record { same : looped (λ xs. entries.spec_comes xs.tree.is_typed) (r.next_spec l.self.mode (parts_of l.self.mode l.self.room) l.self.room l.storage) l.fn.left l.fn.cursor ≡ turns (λ xs. entries.spec_comes xs.tree.is_typed) (r.next_spec l.self.mode (parts_of l.self.mode l.self.room) l.self.room l.storage) (l._turn-end - l._turn) l.left l.cursor; low : Below l.left.height (l.self.room) }
