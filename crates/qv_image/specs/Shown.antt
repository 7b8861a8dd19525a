-- An image as its parts.
use Rattle.qv_image.specs.declared.image.Image.{Image}
use Rattle.qv_image.specs.Image.{Qvm}

abbrev pub qvm_of : Image → Qvm
qvm_of i = record { code = i.code.items; data_part = i.data_part.items; lit = i.lit.items; bss = i.bss }
