use Rattle.std.proofs.Common.{◌≡◌, ◌-◌}
use Rattle.c_decl.specs.Input.{turns, looped}
use Rattle.c_tree.specs.Heights.{Below}
use Rattle.c_decl.specs.Declarators as r
use Rattle.c_decl.specs.Entries as entries
use Rattle.c_decl.specs.Nests.{parts_of}
use Rattle.c_decl.proofs.spans.Spans.passed.Given as goal

abbrev pub invariant-loop-turn : goal.invariant-loop-turn
invariant-loop-turn g l = record { same : looped (λ _. entries.passes l.inside) (r.pass l.self.rules.mode (parts_of l.self.rules.mode l.self.rules.room) l.self.rules.room) l.fn.left l.fn.cursor ≡ turns (λ _. entries.passes l.inside) (r.pass l.self.rules.mode (parts_of l.self.rules.mode l.self.rules.room) l.self.rules.room) (l._turn-end - l._turn) l.left l.cursor; low : Below l.left.height (l.self.rules.room) }
