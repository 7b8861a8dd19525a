-- The text of lines.
use Rattle.std.specs.Prelude.{ℕ, List, ◌++◌, codes, map}
use Rattle.std.specs.Fmt.{decimal}
use Rattle.asm_line.specs.Text.{text_of}
use Rattle.qasm_write.specs.declared.line.UnitLine.{UnitLine}
use Rattle.qasm_write.specs.declared.line.UnitLine.TheVariants.{Open, Parameter, Load, Constant, Add, Subtract, Return, Close}

-- a line without its line feed
abbrev pub line_text : UnitLine → List ℕ
line_text Open = codes "proc vmMain 0 0"
line_text Parameter = codes "ADDRFP4 0"
line_text Load = codes "INDIRI4"
line_text (Constant n) = codes "CNSTI4 " ++ decimal n
line_text Add = codes "ADDI4"
line_text Subtract = codes "SUBI4"
line_text Return = codes "RETI4"
line_text Close = codes "endproc vmMain 0 0"

-- each line with its line feed
abbrev pub unit_text : List UnitLine → List ℕ
unit_text lines = text_of (map line_text lines)
