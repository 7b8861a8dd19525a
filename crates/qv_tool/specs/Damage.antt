-- The lines of faults in images.
use Rattle.std.specs.Prelude.{ℕ, List, ◌++◌, codes}
use Rattle.std.specs.Fmt.{decimal}
use Rattle.qv_ops.specs.declared.decode.CodeFault.{CodeFault}
use Rattle.qv_ops.specs.declared.decode.CodeFault.TheVariants.{CodeShort, BadOpcode, FloatOpcode, BranchOut, TailLong, NoMemory as NoMemoryForCode}
use Rattle.qv_image.specs.declared.fault.ImageFault.{ImageFault}
use Rattle.qv_image.specs.declared.fault.ImageFault.TheVariants.{HeaderShort, BadMagic, NegativeLength, NoCode, CodeTooLarge, CodeOutside, DataOutside, DataTooLarge, Code, NoMemory}

abbrev pub code_text : CodeFault → List ℕ
code_text (CodeShort at) = codes "code short at " ++ decimal at
code_text (BadOpcode at op) = codes "bad opcode " ++ (decimal op ++ (codes " at " ++ decimal at))
code_text (FloatOpcode at op) = codes "float opcode " ++ (decimal op ++ (codes " at " ++ decimal at))
code_text (BranchOut at) = codes "branch out at " ++ decimal at
code_text (TailLong left) = codes "tail " ++ decimal left
code_text NoMemoryForCode = codes "no memory"

abbrev pub damage_text : ImageFault → List ℕ
damage_text (HeaderShort len) = codes "header short " ++ decimal len
damage_text (BadMagic word) = codes "bad magic " ++ decimal word
damage_text (NegativeLength field) = codes "negative length " ++ decimal field
damage_text NoCode = codes "no code"
damage_text (CodeTooLarge len) = codes "code too large " ++ decimal len
damage_text CodeOutside = codes "code outside"
damage_text DataOutside = codes "data outside"
damage_text (DataTooLarge size) = codes "data too large " ++ decimal size
damage_text (Code fault) = code_text fault
damage_text NoMemory = codes "no memory"
