-- The table of opcodes.
use Rattle.std.specs.Prelude.{codes, ℕ, Bool, true, false, ◌==◌, ◌&&◌, ◌||◌, nat_le, List, [], ◌∷◌, Option, find}
use Rattle.std.specs.Str.{bytes_eq}
use Rattle.qv_ops.specs.declared.op.Op.{Op}
use Rattle.qv_ops.specs.declared.op.Op.TheVariants.{Ignore, Break, Enter, Leave, Call, Push, Pop, Const, Local, Jump, Eq, Ne, Lti, Lei, Gti, Gei, Ltu, Leu, Gtu, Geu, Load1, Load2, Load4, Store1, Store2, Store4, Arg, BlockCopy, Sex8, Sex16, Negi, Add, Sub, Divi, Divu, Modi, Modu, Muli, Mulu, Band, Bor, Bxor, Bcom, Lsh, Rshi, Rshu}

-- an opcode's number
abbrev pub number_of_op : Op → ℕ
number_of_op Ignore = 1
number_of_op Break = 2
number_of_op Enter = 3
number_of_op Leave = 4
number_of_op Call = 5
number_of_op Push = 6
number_of_op Pop = 7
number_of_op Const = 8
number_of_op Local = 9
number_of_op Jump = 10
number_of_op Eq = 11
number_of_op Ne = 12
number_of_op Lti = 13
number_of_op Lei = 14
number_of_op Gti = 15
number_of_op Gei = 16
number_of_op Ltu = 17
number_of_op Leu = 18
number_of_op Gtu = 19
number_of_op Geu = 20
number_of_op Load1 = 27
number_of_op Load2 = 28
number_of_op Load4 = 29
number_of_op Store1 = 30
number_of_op Store2 = 31
number_of_op Store4 = 32
number_of_op Arg = 33
number_of_op BlockCopy = 34
number_of_op Sex8 = 35
number_of_op Sex16 = 36
number_of_op Negi = 37
number_of_op Add = 38
number_of_op Sub = 39
number_of_op Divi = 40
number_of_op Divu = 41
number_of_op Modi = 42
number_of_op Modu = 43
number_of_op Muli = 44
number_of_op Mulu = 45
number_of_op Band = 46
number_of_op Bor = 47
number_of_op Bxor = 48
number_of_op Bcom = 49
number_of_op Lsh = 50
number_of_op Rshi = 51
number_of_op Rshu = 52

-- an opcode's name
abbrev pub name_of_op : Op → List ℕ
name_of_op Ignore = codes "IGNORE"
name_of_op Break = codes "BREAK"
name_of_op Enter = codes "ENTER"
name_of_op Leave = codes "LEAVE"
name_of_op Call = codes "CALL"
name_of_op Push = codes "PUSH"
name_of_op Pop = codes "POP"
name_of_op Const = codes "CONST"
name_of_op Local = codes "LOCAL"
name_of_op Jump = codes "JUMP"
name_of_op Eq = codes "EQ"
name_of_op Ne = codes "NE"
name_of_op Lti = codes "LTI"
name_of_op Lei = codes "LEI"
name_of_op Gti = codes "GTI"
name_of_op Gei = codes "GEI"
name_of_op Ltu = codes "LTU"
name_of_op Leu = codes "LEU"
name_of_op Gtu = codes "GTU"
name_of_op Geu = codes "GEU"
name_of_op Load1 = codes "LOAD1"
name_of_op Load2 = codes "LOAD2"
name_of_op Load4 = codes "LOAD4"
name_of_op Store1 = codes "STORE1"
name_of_op Store2 = codes "STORE2"
name_of_op Store4 = codes "STORE4"
name_of_op Arg = codes "ARG"
name_of_op BlockCopy = codes "BLOCK_COPY"
name_of_op Sex8 = codes "SEX8"
name_of_op Sex16 = codes "SEX16"
name_of_op Negi = codes "NEGI"
name_of_op Add = codes "ADD"
name_of_op Sub = codes "SUB"
name_of_op Divi = codes "DIVI"
name_of_op Divu = codes "DIVU"
name_of_op Modi = codes "MODI"
name_of_op Modu = codes "MODU"
name_of_op Muli = codes "MULI"
name_of_op Mulu = codes "MULU"
name_of_op Band = codes "BAND"
name_of_op Bor = codes "BOR"
name_of_op Bxor = codes "BXOR"
name_of_op Bcom = codes "BCOM"
name_of_op Lsh = codes "LSH"
name_of_op Rshi = codes "RSHI"
name_of_op Rshu = codes "RSHU"

-- how many bytes of operand it carries
abbrev pub width_of_op : Op → ℕ
width_of_op Ignore = 0
width_of_op Break = 0
width_of_op Enter = 4
width_of_op Leave = 4
width_of_op Call = 0
width_of_op Push = 0
width_of_op Pop = 0
width_of_op Const = 4
width_of_op Local = 4
width_of_op Jump = 0
width_of_op Eq = 4
width_of_op Ne = 4
width_of_op Lti = 4
width_of_op Lei = 4
width_of_op Gti = 4
width_of_op Gei = 4
width_of_op Ltu = 4
width_of_op Leu = 4
width_of_op Gtu = 4
width_of_op Geu = 4
width_of_op Load1 = 0
width_of_op Load2 = 0
width_of_op Load4 = 0
width_of_op Store1 = 0
width_of_op Store2 = 0
width_of_op Store4 = 0
width_of_op Arg = 1
width_of_op BlockCopy = 4
width_of_op Sex8 = 0
width_of_op Sex16 = 0
width_of_op Negi = 0
width_of_op Add = 0
width_of_op Sub = 0
width_of_op Divi = 0
width_of_op Divu = 0
width_of_op Modi = 0
width_of_op Modu = 0
width_of_op Muli = 0
width_of_op Mulu = 0
width_of_op Band = 0
width_of_op Bor = 0
width_of_op Bxor = 0
width_of_op Bcom = 0
width_of_op Lsh = 0
width_of_op Rshi = 0
width_of_op Rshu = 0

-- the branches, which carry the number of an instruction
abbrev pub is_branch : Op → Bool
is_branch Eq = true
is_branch Ne = true
is_branch Lti = true
is_branch Lei = true
is_branch Gti = true
is_branch Gei = true
is_branch Ltu = true
is_branch Leu = true
is_branch Gtu = true
is_branch Geu = true
is_branch op = false

-- the integer opcodes
abbrev pub all_ops : List Op
all_ops =
    Ignore ∷ Break ∷ Enter ∷ Leave ∷ Call ∷ Push ∷ Pop ∷ Const ∷ Local ∷ Jump ∷ Eq ∷ Ne ∷ Lti ∷ Lei ∷ Gti ∷ Gei ∷ Ltu ∷ Leu ∷ Gtu ∷ Geu
    ∷ Load1 ∷ Load2 ∷ Load4 ∷ Store1 ∷ Store2 ∷ Store4 ∷ Arg ∷ BlockCopy ∷ Sex8 ∷ Sex16 ∷ Negi ∷ Add ∷ Sub ∷ Divi ∷ Divu ∷ Modi ∷ Modu
    ∷ Muli ∷ Mulu ∷ Band ∷ Bor ∷ Bxor ∷ Bcom ∷ Lsh ∷ Rshi ∷ Rshu ∷ []

-- the integer opcode with this number
abbrev pub op_numbered : ℕ → Option Op
op_numbered n = find (λ op. number_of_op op == n) all_ops

-- the integer opcode with this name
abbrev pub op_with_name : List ℕ → Option Op
op_with_name name = find (λ op. bytes_eq name (name_of_op op)) all_ops

-- the numbers of floating-point opcodes
abbrev pub is_float_number : ℕ → Bool
is_float_number n = (nat_le 21 n && nat_le n 26) || (nat_le 53 n && nat_le n 59)
