use Rattle.std.proofs.Common.{rules, ◌≡◌, ◌∙◌, ap}
use Rattle.qv_image.specs.Image.{IsImage, file_bytes}
use Rattle.qv_image.specs.Read.{read_bytes}
use Rattle.qv_image.specs.Shown.{qvm_of}
use Rattle.qv_image.proofs.Written.{read_bytes-file_bytes}
use Rattle.qv_image.proofs.write.write_image.Goals as goal

pub returns-clause-read : goal.returns-clause-read
returns-clause-read c =
    let bytes : c.append_data.new.out.items ≡ file_bytes (qvm_of c.args.image.now) = search rules in
    let image : IsImage (qvm_of c.args.image.now) = search rules in
    ap read_bytes bytes ∙ read_bytes-file_bytes (qvm_of c.args.image.now) image
