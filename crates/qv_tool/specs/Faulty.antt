-- The lines of faults in sources.
use Rattle.std.specs.Prelude.{ℕ, Bool, true, false, List, [], ◌++◌, codes, if◌then◌else◌}
use Rattle.std.specs.Fmt.{decimal}
use Rattle.qcc_front.specs.declared.fault.SourceFault.{SourceFault}
use Rattle.qcc_front.specs.declared.fault.SourceKind.{SourceKind}
use Rattle.qcc_front.specs.declared.fault.SourceKind.TheVariants as k

-- what is wrong
abbrev pub source_words : SourceKind → List ℕ
source_words k.OpenComment = codes "open comment"
source_words k.ArgumentCount = codes "argument count"
source_words k.OpenCall = codes "open call"
source_words k.BadPaste = codes "bad paste"
source_words k.MacroLimit = codes "macro limit"
source_words k.BadDirective = codes "bad directive"
source_words k.BadCondition = codes "bad condition"
source_words (k.Error text) = codes "error "
source_words (k.NoInclude name) = codes "no include "
source_words k.IncludeDepth = codes "include depth"
source_words (k.Redefinition name) = codes "redefinition "
source_words (k.LeftOut name) = codes "left out "
source_words k.OpenIf = codes "open if"
source_words k.TokenLimit = codes "token limit"
source_words k.StrayByte = codes "stray byte"
source_words k.OpenQuote = codes "open quote"
source_words k.BadConstant = codes "bad constant"
source_words k.FloatConstant = codes "float constant"
source_words k.ConstantTooLarge = codes "constant too large"
source_words k.NameTooLong = codes "name too long"
source_words k.FloatType = codes "float type"
source_words k.Syntax = codes "syntax"
source_words (k.Rule number) = codes "rule "
source_words k.BadBind = codes "bad bind"
source_words (k.Redefined name) = codes "redefined "
source_words (k.Disagree name) = codes "disagree "
source_words (k.Undefined name) = codes "undefined "
source_words k.EntryNotFirst = codes "entry not first"
source_words k.EntryShape = codes "entry shape"
source_words k.EntryAddress = codes "entry address"
source_words (k.Frame name cost) = codes "frame "
source_words k.NoEntry = codes "no entry"
source_words (k.Tokens count) = codes "tokens "
source_words (k.Data size) = codes "data "

-- the name, the text or the number that it is wrong with
abbrev pub source_object : SourceKind → List ℕ
source_object (k.Error text) = text
source_object (k.NoInclude name) = name
source_object (k.Redefinition name) = name
source_object (k.LeftOut name) = name
source_object (k.Rule number) = decimal number
source_object (k.Redefined name) = name
source_object (k.Disagree name) = name
source_object (k.Undefined name) = name
source_object (k.Frame name cost) = name ++ codes " " ++ decimal cost
source_object (k.Tokens count) = decimal count
source_object (k.Data size) = decimal size
source_object kind = []

-- a fault of all units together
abbrev pub is_of_all : SourceKind → Bool
is_of_all k.NoEntry = true
is_of_all (k.Tokens count) = true
is_of_all (k.Data size) = true
is_of_all kind = false

-- where it stands: at a line of a file, or where the units are joined
abbrev pub source_place : SourceFault → List ℕ
source_place fault = if is_of_all fault.kind then codes "join" else fault.file ++ codes ":" ++ decimal fault.line

abbrev pub source_text : SourceFault → List ℕ
source_text fault = source_place fault ++ codes ": " ++ source_words fault.kind ++ source_object fault.kind
