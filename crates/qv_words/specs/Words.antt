-- The words of the command line, and the command that they stand for.
use Rattle.std.specs.Prelude.{ℕ, ◌-◌, Bool, true, false, ◌&&◌, nat_lt, List, [], ◌∷◌, ◌++◌, length, replicate, Option, Some, None, is_some, codes, option_map, option_and_then, unwrap_or, if◌then◌else◌}
use Rattle.std.specs.Str.{bytes_eq}
use Rattle.qv_words.specs.declared.verb.Verb.{Verb}
use Rattle.qv_words.specs.declared.verb.Verb.TheVariants.{Compile, Assemble, Disassemble, Run, Build, Generate}
use Rattle.qv_words.specs.declared.verb.OptionName.{OptionName}
use Rattle.qv_words.specs.declared.verb.OptionName.TheVariants.{IncludeDir, Definition, Binds, Folder, Image, ListFile, Steps, Word}
use Rattle.qv_words.specs.declared.verb.Switch.{Switch}
use Rattle.qv_words.specs.declared.verb.Switch.TheVariants.{NextCall}
use Rattle.qv_words.specs.Define.{definition_of, with_definition}
use Rattle.qv_words.specs.Names.{begins_with_dash, is_name, are_files, are_units, have_distinct_stems}
use Rattle.qv_words.specs.Numbers.{steps_of, word_of, seed_of, size_of}

-- compile units: the texts go to the folder
pub record CompileArgs : Type 0 where
  pub dirs : List (List ℕ)
  pub defs : List (List ℕ × List ℕ)
  pub binds : Option (List ℕ)
  pub folder : List ℕ
  pub units : List (List ℕ)

-- link the files, or those that the list names, to the image
pub record LinkArgs : Type 0 where
  pub image : List ℕ
  pub files : List (List ℕ)
  pub list : Option (List ℕ)

-- write the image's text to the file
pub record DisassembleArgs : Type 0 where
  pub image : List ℕ
  pub file : List ℕ

-- call an image's vmMain, once with each 14 words, for at most so many steps each
pub record RunArgs : Type 0 where
  pub steps : ℕ
  pub calls : List (List ℕ)
  pub image : List ℕ

-- compile units, or a program made from a seed at a size, link them, write the image and call it
pub record BuildArgs : Type 0 where
  pub dirs : List (List ℕ)
  pub defs : List (List ℕ × List ℕ)
  pub binds : Option (List ℕ)
  pub seed_size : Option (ℕ × ℕ)
  pub steps : ℕ
  pub calls : List (List ℕ)
  pub image : List ℕ
  pub units : List (List ℕ)

-- what the tool is asked to do
pub data Command : Type 0 where
  Qcc : CompileArgs → Command
  Q3asm : LinkArgs → Command
  Qdis : DisassembleArgs → Command
  Qrun : RunArgs → Command
  Qall : BuildArgs → Command

-- the options read so far; the words of the calls before the last one, and those of the last one
pub record Options : Type 0 where
  pub dirs : List (List ℕ)
  pub defs : List (List ℕ × List ℕ)
  pub binds : Option (List ℕ)
  pub folder : Option (List ℕ)
  pub image : Option (List ℕ)
  pub list : Option (List ℕ)
  pub seed_size : Option (ℕ × ℕ)
  pub steps : Option ℕ
  pub earlier_calls : List (List ℕ)
  pub last_call : List ℕ

abbrev pub no_options : Options
no_options = record { dirs = []; defs = []; binds = None; folder = None; image = None; list = None; seed_size = None; steps = None; earlier_calls = []; last_call = [] }

abbrev pub verb_of : List ℕ → Option Verb
verb_of word =
    if bytes_eq word (codes "qcc") then Some Compile else (
    if bytes_eq word (codes "q3asm") then Some Assemble else (
    if bytes_eq word (codes "qdis") then Some Disassemble else (
    if bytes_eq word (codes "qrun") then Some Run else (
    if bytes_eq word (codes "qall") then Some Build else None))))

-- options, each with a value behind it
abbrev pub option_of : List ℕ → Option OptionName
option_of word =
    if bytes_eq word (codes "-I") then Some IncludeDir else (
    if bytes_eq word (codes "-D") then Some Definition else (
    if bytes_eq word (codes "-t") then Some Binds else (
    if bytes_eq word (codes "-d") then Some Folder else (
    if bytes_eq word (codes "-o") then Some Image else (
    if bytes_eq word (codes "-f") then Some ListFile else (
    if bytes_eq word (codes "-n") then Some Steps else (
    if bytes_eq word (codes "-a") then Some Word else None)))))))

-- switches, which have no value
abbrev pub switch_of : List ℕ → Option Switch
switch_of word = if bytes_eq word (codes "-c") then Some NextCall else None

abbrev pub is_switch : List ℕ → Bool
is_switch word = is_some (switch_of word)

-- What goes with what: how often an option or a switch comes with a command, in any order, and the names behind them.
--
--             -I  -D  -t  -d  -o  -f  -n  -a  -c   names
-- qcc         *   *   ?   1                        units, whose stems differ
-- q3asm                       1   ?                files, or none beside -f
-- qdis                                             an image and a file
-- qrun                                ?   *   *    an image
-- qall        *   *   ?       1       ?   *   *    units
-- qall --gen                  1       ?   *   *    none; behind --gen stand a seed and a size
--
-- *  any number of times: -c at most 4,095 times, and -a at most 14 times before, between and behind them
-- ?  at most once
-- 1  exactly once
-- Units and files are 1 to 4,096.
abbrev pub takes : Verb → OptionName → Bool
takes Compile IncludeDir = true
takes Compile Definition = true
takes Compile Binds = true
takes Compile Folder = true
takes Assemble Image = true
takes Assemble ListFile = true
takes Run Steps = true
takes Run Word = true
takes Build IncludeDir = true
takes Build Definition = true
takes Build Binds = true
takes Build Image = true
takes Build Steps = true
takes Build Word = true
takes Generate Image = true
takes Generate Steps = true
takes Generate Word = true
takes verb option = false

abbrev pub takes_switch : Verb → Switch → Bool
takes_switch Run NextCall = true
takes_switch Build NextCall = true
takes_switch Generate NextCall = true
takes_switch verb switch = false

-- the most steps of a call where `-n` doesn't come; a command that takes no `-n` makes no call
abbrev pub default_steps : Verb → ℕ
default_steps Run = 10000000
default_steps Build = 10000000
default_steps Generate = 10000000
default_steps verb = 0

-- a value that isn't empty
abbrev pub non_empty : List ℕ → Option (List ℕ)
non_empty [] = None
non_empty (b ∷ bs) = Some (b ∷ bs)

-- what is given, where nothing was given before
abbrev pub first_given : {A : Type 0} → Option A → Option A → Option A
first_given None given = given
first_given (Some before) given = None

-- a call has at most 14 words; missing ones are 0
abbrev pub with_word : Options → ℕ → Option Options
with_word o word = if nat_lt (length o.last_call) 14 then Some (record o { last_call = o.last_call ++ word ∷ [] }) else None

abbrev pub padded : List ℕ → List ℕ
padded words = words ++ replicate (14 - length words) 0

-- an option's value
abbrev pub with_value : Options → OptionName → List ℕ → Option Options
with_value o IncludeDir value = option_map (λ dir. record o { dirs = o.dirs ++ dir ∷ [] }) (non_empty value)
with_value o Definition value = option_map (λ d. record o { defs = with_definition d o.defs }) (definition_of value)
with_value o Binds value = option_map (λ name. record o { binds = Some name }) (first_given o.binds (non_empty value))
with_value o Folder value = option_map (λ name. record o { folder = Some name }) (first_given o.folder (non_empty value))
with_value o Image value = option_map (λ name. record o { image = Some name }) (first_given o.image (non_empty value))
with_value o ListFile value = option_map (λ name. record o { list = Some name }) (first_given o.list (non_empty value))
with_value o Steps value = option_map (λ n. record o { steps = Some n }) (first_given o.steps (steps_of value))
with_value o Word value = option_and_then (with_word o) (word_of value)

-- an option that the command takes, and its value
abbrev pub with_option : Verb → Options → List ℕ → List ℕ → Option Options
with_option verb o word value = option_and_then (λ option. if takes verb option then with_value o option value else None) (option_of word)

-- `-c` ends a call and begins the next; there are at most 4,096 calls
abbrev pub switched : Options → Switch → Option Options
switched o NextCall = if nat_lt (length o.earlier_calls) 4095 then Some (record o { earlier_calls = o.earlier_calls ++ padded o.last_call ∷ []; last_call = [] }) else None

-- a switch that the command takes
abbrev pub with_switch : Verb → Options → List ℕ → Option Options
with_switch verb o word = option_and_then (λ switch. if takes_switch verb switch then switched o switch else None) (switch_of word)

abbrev pub steps_in : Verb → Options → ℕ
steps_in verb o = unwrap_or o.steps (default_steps verb)

abbrev pub calls_in : Options → List (List ℕ)
calls_in o = o.earlier_calls ++ padded o.last_call ∷ []

abbrev pub compiles : Options → List (List ℕ) → Option Command
compiles o names =
    if are_units names && have_distinct_stems names then option_map (λ folder. Qcc (record { dirs = o.dirs; defs = o.defs; binds = o.binds; folder = folder; units = names })) o.folder else None

-- either names or a list
abbrev pub assembles : Option (List ℕ) → List (List ℕ) → List ℕ → Option Command
assembles None names image = if are_files names then Some (Q3asm (record { image = image; files = names; list = None })) else None
assembles (Some list) [] image = Some (Q3asm (record { image = image; files = []; list = Some list }))
assembles (Some list) (name ∷ names) image = None

abbrev pub disassembles : List (List ℕ) → Option Command
disassembles (image ∷ file ∷ []) = if is_name image && is_name file then Some (Qdis (record { image = image; file = file })) else None
disassembles names = None

-- one name
abbrev pub only_name : List (List ℕ) → Option (List ℕ)
only_name (name ∷ []) = if is_name name then Some name else None
only_name names = None

abbrev pub runs : Options → List (List ℕ) → Option Command
runs o names = option_map (λ image. Qrun (record { steps = steps_in Run o; calls = calls_in o; image = image })) (only_name names)

abbrev pub all_of : Verb → Options → List (List ℕ) → Option Command
all_of verb o units =
    option_map (λ image. Qall (record { dirs = o.dirs; defs = o.defs; binds = o.binds; seed_size = o.seed_size; steps = steps_in verb o; calls = calls_in o; image = image; units = units })) o.image

abbrev pub builds : Options → List (List ℕ) → Option Command
builds o names = if are_units names then all_of Build o names else None

-- no names
abbrev pub generates : Options → List (List ℕ) → Option Command
generates o [] = all_of Generate o []
generates o (name ∷ names) = None

-- the command of the options and the names behind them
abbrev pub command_with : Verb → Options → List (List ℕ) → Option Command
command_with Compile o names = compiles o names
command_with Assemble o names = option_and_then (assembles o.list names) o.image
command_with Disassemble o names = disassembles names
command_with Run o names = runs o names
command_with Build o names = builds o names
command_with Generate o names = generates o names

-- options and switches in any order, then names: a switch is one word, an option has its value behind it, and the
-- first word at such a place that doesn't begin with a dash begins the names
unfoldable pub read_from : Verb → List (List ℕ) → Options → Option Command
read_from verb [] o = command_with verb o []
read_from verb (word ∷ []) o =
    if is_switch word then option_and_then (read_from verb []) (with_switch verb o word) else (
    if begins_with_dash word then None else command_with verb o (word ∷ []))
read_from verb (word ∷ value ∷ words) o =
    if is_switch word then option_and_then (read_from verb (value ∷ words)) (with_switch verb o word) else (
    if begins_with_dash word then option_and_then (read_from verb words) (with_option verb o word value) else command_with verb o (word ∷ value ∷ words))

abbrev pub begins_with_gen : List (List ℕ) → Bool
begins_with_gen [] = false
begins_with_gen (word ∷ words) = bytes_eq word (codes "--gen")

abbrev pub seeded : List ℕ → List ℕ → Option Options
seeded seed size = option_and_then (λ s. option_map (λ n. record no_options { seed_size = Some (s, n) }) (size_of size)) (seed_of seed)

-- `--gen`, a seed and a size, then options
abbrev pub read_generator : List (List ℕ) → Option Command
read_generator (gen ∷ seed ∷ size ∷ words) = option_and_then (read_from Generate words) (seeded seed size)
read_generator words = None

-- the command that the words stand for, as the table says; none where they are of another form
abbrev pub reading : List (List ℕ) → Option Command
reading [] = None
reading (word ∷ words) =
    if bytes_eq word (codes "qall") && begins_with_gen words then read_generator words else option_and_then (λ verb. read_from verb words no_options) (verb_of word)
