use Rattle.std.proofs.Common.{rules, ◌≡◌}
use Rattle.qv_image.specs.Shown.{qvm_of}
use Rattle.qv_dis.specs.Text.{disassembly}
use Rattle.qv_dis.proofs.Back.{code_back, image_same}
use Rattle.qv_dis.proofs.text.disassemble.Goals as goal

pub returns-clause-text : goal.returns-clause-text
unfolding disassembly
returns-clause-text c = search rules

pub returns-clause-code : goal.returns-clause-code
unfolding disassembly
returns-clause-code c =
    let text : c.into_bytes.result.items ≡ disassembly (qvm_of c.args.image.now) = search rules in
    code_back (qvm_of c.args.image.now) c.into_bytes.result.items c.in_ok-append_image.ensures.image text

pub returns-clause-same : goal.returns-clause-same
unfolding disassembly
returns-clause-same c =
    let text : c.into_bytes.result.items ≡ disassembly (qvm_of c.args.image.now) = search rules in
    image_same (qvm_of c.args.image.now) c.into_bytes.result.items c.in_ok-append_image.ensures.image text
