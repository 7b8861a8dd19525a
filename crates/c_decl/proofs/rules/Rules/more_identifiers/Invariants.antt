use Rattle.std.proofs.Common.{◌≡◌, ◌-◌}
use Rattle.c_decl.specs.Input.{turns, looped, sees}
use Rattle.c_decl.specs.Declarators as r
use Rattle.c_tok.specs.declared.mark.Mark.TheVariants as m
use Rattle.c_decl.specs.Nests.{parts_of}
use Rattle.c_decl.proofs.rules.Rules.more_identifiers.Given as goal

abbrev pub invariant-loop-turn : goal.invariant-loop-turn
invariant-loop-turn g l = record { same : looped (λ _. sees m.Comma) (r.next_identifier l.self.mode (parts_of l.self.mode l.self.room) l.self.room) tt l.fn.cursor ≡ turns (λ _. sees m.Comma) (r.next_identifier l.self.mode (parts_of l.self.mode l.self.room) l.self.room) (l._turn-end - l._turn) tt l.cursor }
