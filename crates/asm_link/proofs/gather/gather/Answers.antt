use Rattle.std.proofs.Common.{◌≡◌, ◌&&◌, List, ◌∷◌, length, sym, ap, ◌∙◌, arith}
use Rattle.std.specs.List.{list_all}
use Rattle.asm_link.proofs.Gathering.{named_step}
use Rattle.asm_link.specs.Definitions.{known, state_after}
use Rattle.asm_link.specs.Lookup.{lookup}
use Rattle.asm_link.specs.Reader.{left}
use Rattle.asm_link.specs.Shown.{before_of, line_of, texts_of}
use Rattle.asm_link.specs.Source.{SourceLine, carries, source_of}
use Rattle.asm_link.proofs.gather.gather.Goals as goal

pub loop-line-preserved : goal.loop-line-preserved
loop-line-preserved c =
    let rest : List SourceLine = left c.next_line.new.self in
    let x : SourceLine = line_of c.in-Some.line in
    let is : left c.loop-line.reader ≡ x ∷ rest = c.in-Some.ensures.next in
    let longer : length (left c.loop-line.reader) ≡ length (x ∷ rest) = ap length is in
    record {
      bound = omega (arith, c.advance.ensures.bound, c.loop-line.invariant.bound);
      count = omega (arith, longer, c.loop-line.invariant.count);
      few = grind (arith, c.loop-line.invariant.few, c.if-at.false);
      counted = ap (λ s. state_after s rest) c.advance.ensures.is ∙ sym (ap (state_after (before_of c.loop-line.state)) is) ∙ c.loop-line.invariant.counted;
      carried = sym (ap (λ b. b && list_all carries rest) c.in-Some.ensures.carried) ∙ sym (ap (list_all carries) is) ∙ c.loop-line.invariant.carried;
      named = λ file name.
          named_step c.loop-line.at (before_of c.loop-line.state) (before_of c.advance.new.s) x (left c.loop-line.reader) rest file name (known (source_of (texts_of c.args.files.now)) file name) (λ a. lookup a c.loop-line.names file name) (λ a. lookup a c.note.new.names file name)
          is c.advance.ensures.is (c.in_ok-note.ensures rest file name) (c.loop-line.invariant.named file name);
    }
