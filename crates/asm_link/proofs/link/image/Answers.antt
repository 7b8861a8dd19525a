use Rattle.std.proofs.Common.{◌≡◌, List, ap}
use Rattle.asm_link.proofs.Limits.{some_code, count_fits, code_fits, encodable, branches_within, block_fits}
use Rattle.asm_link.specs.Definitions.{state_after}
use Rattle.asm_link.specs.Source.{SourceLine, source_of}
use Rattle.asm_link.specs.State.{start}
use Rattle.asm_link.specs.Shown.{texts_of}
use Rattle.asm_link.proofs.link.image.Goals as goal

pub invariant_of-result : goal.invariant_of-result
invariant_of-result c =
    let all : List SourceLine = source_of (texts_of c.args.tables.now.files.now) in
    let bss : c.args.tables.now.last.bss_size ≡ (state_after start all).bss_size = ap (λ s. s.bss_size) c.args.tables.now.counted in
    record {
      some_code = rw c.requires.code (some_code all c.requires.end);
      count_fits = rw c.requires.code (count_fits all c.requires.well);
      code_fits = rw c.requires.code (code_fits all c.requires.well);
      encodable = rw c.requires.code (encodable all c.requires.well c.args.tables.now.carried);
      branches_within = rw c.requires.code (branches_within all c.requires.well);
      block_fits = rw (c.in_ok-pad.ensures, c.requires.data_part, c.in_ok-pad-2.ensures, c.requires.lit, c.rounded.ensures, c.from.ensures, bss) (block_fits all c.requires.end);
    }
