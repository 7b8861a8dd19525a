-- The words that begin lines, and what each says of its line.
use Rattle.std.specs.Prelude.{codes, ℕ, Bool, true, ◌==◌, List, [], ◌∷◌, find, Option, option_map}
use Rattle.std.specs.List.{list_any}
use Rattle.std.specs.Str.{bytes_eq}
use Rattle.qv_ops.specs.Table.{width_of_op}
use Rattle.qv_ops.specs.declared.op.Op.TheVariants.{Pop, Const, Jump, Eq, Ne, Lti, Lei, Gti, Gei, Ltu, Leu, Gtu, Geu, Load1, Load2, Load4, Store1, Store2, Store4, Negi, Add, Sub, Divi, Divu, Modi, Modu, Muli, Mulu, Band, Bor, Bxor, Bcom, Lsh, Rshi, Rshu}
use Rattle.asm_line.specs.declared.line.AsmSegment.TheVariants.{Code, Data, Lit, Bss}
use Rattle.asm_line.specs.declared.words.Meaning.{Meaning}
use Rattle.asm_line.specs.declared.words.Meaning.TheVariants.{Plain, WithExpression, LocalAddress, ParamAddress, CopiesBlock, Extends, MaybeNumber, Argument, Calls, Returns, Opens, Closes, Segment, Labels, Equates, Addresses, Bytes, Skips, Aligns, PassRest, Raw, Floating}

abbrev pub words_table : List (List ℕ × Meaning)
words_table =
    (codes "proc", Opens) ∷
    (codes "endproc", Closes) ∷
    (codes "CNSTI1", WithExpression Const) ∷
    (codes "CNSTU1", WithExpression Const) ∷
    (codes "CNSTI2", WithExpression Const) ∷
    (codes "CNSTU2", WithExpression Const) ∷
    (codes "CNSTI4", WithExpression Const) ∷
    (codes "CNSTU4", WithExpression Const) ∷
    (codes "CNSTP4", WithExpression Const) ∷
    (codes "ADDRGP4", WithExpression Const) ∷
    (codes "ADDRLP4", LocalAddress) ∷
    (codes "ADDRFP4", ParamAddress) ∷
    (codes "INDIRI1", Plain Load1) ∷
    (codes "INDIRU1", Plain Load1) ∷
    (codes "INDIRI2", Plain Load2) ∷
    (codes "INDIRU2", Plain Load2) ∷
    (codes "INDIRI4", Plain Load4) ∷
    (codes "INDIRU4", Plain Load4) ∷
    (codes "INDIRP4", Plain Load4) ∷
    (codes "ASGNI1", Plain Store1) ∷
    (codes "ASGNU1", Plain Store1) ∷
    (codes "ASGNI2", Plain Store2) ∷
    (codes "ASGNU2", Plain Store2) ∷
    (codes "ASGNI4", Plain Store4) ∷
    (codes "ASGNU4", Plain Store4) ∷
    (codes "ASGNP4", Plain Store4) ∷
    (codes "ASGNB", CopiesBlock) ∷
    (codes "INDIRB", MaybeNumber) ∷
    (codes "ARGI4", Argument) ∷
    (codes "ARGU4", Argument) ∷
    (codes "ARGP4", Argument) ∷
    (codes "CALLI4", Calls) ∷
    (codes "CALLU4", Calls) ∷
    (codes "CALLP4", Calls) ∷
    (codes "CALLV", Calls) ∷
    (codes "RETI4", Returns) ∷
    (codes "RETU4", Returns) ∷
    (codes "RETP4", Returns) ∷
    (codes "RETV", Returns) ∷
    (codes "ADDI4", Plain Add) ∷
    (codes "ADDU4", Plain Add) ∷
    (codes "ADDP4", Plain Add) ∷
    (codes "SUBI4", Plain Sub) ∷
    (codes "SUBU4", Plain Sub) ∷
    (codes "SUBP4", Plain Sub) ∷
    (codes "MULI4", Plain Muli) ∷
    (codes "MULU4", Plain Mulu) ∷
    (codes "DIVI4", Plain Divi) ∷
    (codes "DIVU4", Plain Divu) ∷
    (codes "MODI4", Plain Modi) ∷
    (codes "MODU4", Plain Modu) ∷
    (codes "RSHI4", Plain Rshi) ∷
    (codes "RSHU4", Plain Rshu) ∷
    (codes "BANDI4", Plain Band) ∷
    (codes "BANDU4", Plain Band) ∷
    (codes "BORI4", Plain Bor) ∷
    (codes "BORU4", Plain Bor) ∷
    (codes "BXORI4", Plain Bxor) ∷
    (codes "BXORU4", Plain Bxor) ∷
    (codes "BCOMI4", Plain Bcom) ∷
    (codes "BCOMU4", Plain Bcom) ∷
    (codes "LSHI4", Plain Lsh) ∷
    (codes "LSHU4", Plain Lsh) ∷
    (codes "NEGI4", Plain Negi) ∷
    (codes "JUMPV", Plain Jump) ∷
    (codes "pop", Plain Pop) ∷
    (codes "EQI4", WithExpression Eq) ∷
    (codes "EQU4", WithExpression Eq) ∷
    (codes "NEI4", WithExpression Ne) ∷
    (codes "NEU4", WithExpression Ne) ∷
    (codes "LTI4", WithExpression Lti) ∷
    (codes "LEI4", WithExpression Lei) ∷
    (codes "GTI4", WithExpression Gti) ∷
    (codes "GEI4", WithExpression Gei) ∷
    (codes "LTU4", WithExpression Ltu) ∷
    (codes "LEU4", WithExpression Leu) ∷
    (codes "GTU4", WithExpression Gtu) ∷
    (codes "GEU4", WithExpression Geu) ∷
    (codes "CVII4", Extends) ∷
    (codes "CVII1", MaybeNumber) ∷
    (codes "CVII2", MaybeNumber) ∷
    (codes "CVIU1", MaybeNumber) ∷
    (codes "CVIU2", MaybeNumber) ∷
    (codes "CVIU4", MaybeNumber) ∷
    (codes "CVUI1", MaybeNumber) ∷
    (codes "CVUI2", MaybeNumber) ∷
    (codes "CVUI4", MaybeNumber) ∷
    (codes "CVUU1", MaybeNumber) ∷
    (codes "CVUU2", MaybeNumber) ∷
    (codes "CVUU4", MaybeNumber) ∷
    (codes "CVPU4", MaybeNumber) ∷
    (codes "CVPP4", MaybeNumber) ∷
    (codes "CVUP4", MaybeNumber) ∷
    (codes "code", Segment Code) ∷
    (codes "data", Segment Data) ∷
    (codes "lit", Segment Lit) ∷
    (codes "bss", Segment Bss) ∷
    (codes "LABELV", Labels) ∷
    (codes "equ", Equates) ∷
    (codes "address", Addresses) ∷
    (codes "byte", Bytes) ∷
    (codes "skip", Skips) ∷
    (codes "align", Aligns) ∷
    (codes "export", PassRest) ∷
    (codes "import", PassRest) ∷
    (codes "file", PassRest) ∷
    (codes "line", PassRest) ∷
    (codes "op", Raw) ∷
    (codes "ADDF4", Floating) ∷
    (codes "SUBF4", Floating) ∷
    (codes "MULF4", Floating) ∷
    (codes "DIVF4", Floating) ∷
    (codes "NEGF4", Floating) ∷
    (codes "CNSTF4", Floating) ∷
    (codes "INDIRF4", Floating) ∷
    (codes "ASGNF4", Floating) ∷
    (codes "ARGF4", Floating) ∷
    (codes "CALLF4", Floating) ∷
    (codes "RETF4", Floating) ∷
    (codes "EQF4", Floating) ∷
    (codes "NEF4", Floating) ∷
    (codes "LTF4", Floating) ∷
    (codes "LEF4", Floating) ∷
    (codes "GTF4", Floating) ∷
    (codes "GEF4", Floating) ∷
    (codes "CVFI4", Floating) ∷
    (codes "CVIF4", Floating) ∷
    (codes "CVFF4", Floating) ∷ []

-- what a word says of the line that it begins
abbrev pub meaning_of : List ℕ → Option Meaning
meaning_of word = option_map (λ w. w.1) (find (λ w. bytes_eq word w.0) words_table)

-- an instruction with an expression carries four bytes, another one nothing
abbrev pub suits : Meaning → Bool
suits (Plain op) = width_of_op op == 0
suits (WithExpression op) = width_of_op op == 4
suits meaning = true

-- the names of the opcodes of floating-point arithmetic
abbrev pub float_names : List (List ℕ)
float_names =
    codes "EQF" ∷ codes "NEF" ∷ codes "LTF" ∷ codes "LEF" ∷ codes "GTF" ∷ codes "GEF"
    ∷ codes "NEGF" ∷ codes "ADDF" ∷ codes "SUBF" ∷ codes "DIVF" ∷ codes "MULF" ∷ codes "CVIF" ∷ codes "CVFI" ∷ []

abbrev pub is_float_name : List ℕ → Bool
is_float_name name = list_any (bytes_eq name) float_names
