-- Faults of code as faults of an image.
use Rattle.qv_ops.specs.declared.decode.CodeFault.{CodeFault}
use Rattle.qv_ops.specs.declared.decode.CodeFault.TheVariants.{NoMemory as NoMemoryForCode}
use Rattle.qv_image.specs.declared.fault.ImageFault.{ImageFault}
use Rattle.qv_image.specs.declared.fault.ImageFault.TheVariants.{Code, NoMemory}

-- the image's fault where its code has this one: want of memory stays that
abbrev pub image_fault : CodeFault → ImageFault
image_fault NoMemoryForCode = NoMemory
image_fault fault = Code fault
