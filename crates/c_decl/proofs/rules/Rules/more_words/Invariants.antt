use Rattle.std.proofs.Common.{◌≡◌, ◌-◌}
use Rattle.c_decl.specs.Input.{turns, looped}
use Rattle.c_tree.specs.Heights.{Below}
use Rattle.c_decl.specs.Declarators as r
use Rattle.c_decl.specs.Entries as entries
use Rattle.c_decl.specs.Nests.{parts_of}
use Rattle.c_decl.proofs.rules.Rules.more_words.Given as goal

abbrev pub invariant-loop-turn : goal.invariant-loop-turn
invariant-loop-turn g l = record { same : looped (λ _. entries.pointer_comes) (r.pointer_word l.self.mode (parts_of l.self.mode l.self.room) l.self.room) l.fn.left l.fn.cursor ≡ turns (λ _. entries.pointer_comes) (r.pointer_word l.self.mode (parts_of l.self.mode l.self.room) l.self.room) (l._turn-end - l._turn) l.left l.cursor; low : Below l.left.height (l.self.room) }
