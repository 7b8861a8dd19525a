-- What is known between the lines of a unit, and what sections and conditions come to.
use Rattle.std.specs.Prelude.{ℕ, ◌+◌, ◌^◌, Bool, nat_lt, not, List, ◌++◌, length, find, Option, Some, None, Result, Ok, Err, if◌then◌else◌}
use Rattle.pp_tok.specs.declared.token.PpTok.{PpTok}
use Rattle.pp_tok.specs.declared.token.PpLine.{PpLine}
use Rattle.pp_macro.specs.declared.macros.Macro.{Macro}
use Rattle.pp_macro.specs.declared.fault.ExpandFault.{ExpandFault}
use Rattle.pp_macro.specs.declared.fault.ExpandFault.TheVariants as e
use Rattle.pp_macro.specs.Macros.{defined_in, undefined_in, redefines}
use Rattle.pp_macro.specs.Expand.{expand_list}
use Rattle.pp_dir.specs.declared.fault.PpFaultKind.{PpFaultKind}
use Rattle.pp_dir.specs.declared.fault.PpFaultKind.TheVariants as k
use Rattle.pp_dir.specs.declared.fault.Wrong.{Wrong}
use Rattle.pp_dir.specs.declared.state.State.{State}
use Rattle.pp_dir.specs.Reading.{condition_of}
use Rattle.pp_dir.specs.Forms.{is_defined, is_date, only_name, free_name, settled}

-- what a line gives, or what is wrong with it
abbrev pub Local : Type 0 → Type 0
Local A = Result A Wrong

abbrev pub wrong : {A : Type 0} → PpFaultKind → ℕ → Local A
wrong kind line = Err (record { kind = kind; line = line })

abbrev pub value_or : {A : Type 0} → PpFaultKind → ℕ → Option A → Local A
value_or kind line (Some x) = Ok x
value_or kind line None = wrong kind line

infixl 10 ◌>>=◌
abbrev pub ◌>>=◌ : {A B : Type 0} → Local A → (A → Local B) → Local B
(Ok x) >>= f = f x
(Err w) >>= f = Err w

-- ---- expansion

-- a fault of expansion stands on the line of the name with which the outermost replacement began; want of memory is
-- none of the definition
abbrev pub wrong_of : ExpandFault → Wrong
wrong_of (e.ArgCount at) = record { kind = k.ArgCount; line = at.line }
wrong_of (e.OpenCall at) = record { kind = k.OpenCall; line = at.line }
wrong_of (e.BadPaste at) = record { kind = k.BadPaste; line = at.line }
wrong_of (e.MacroLimit at) = record { kind = k.MacroLimit; line = at.line }
wrong_of e.NoMemory = record { kind = k.MacroLimit; line = 0 }

abbrev pub with_count : State → Result (List PpTok × ℕ) ExpandFault → Local (List PpTok × State)
with_count s (Ok x) = Ok (x.0, record s { count = x.1 })
with_count s (Err f) = Err (wrong_of f)

-- tokens expanded, with the replacements counted
abbrev pub expanded : State → List PpTok → Local (List PpTok × State)
expanded s ts = with_count s (expand_list s.table s.names s.count ts)

-- the name of the day or the hour is met before tokens are used
abbrev pub undated_by : Option PpTok → Local (Unit {0})
undated_by None = Ok tt
undated_by (Some t) = wrong (k.LeftOut t.spelling) t.place.line

abbrev pub undated : List PpTok → Local (Unit {0})
undated ts = undated_by (find is_date ts)

-- ---- sections

-- the most tokens of a unit
abbrev pub token_limit : ℕ
token_limit = 2 ^ 22

abbrev pub with_more : List PpTok → State → State
with_more ts s = record s { toks = s.toks ++ ts }

abbrev pub with_tokens : ℕ → List PpTok × State → Local State
with_tokens line x = if nat_lt token_limit (length x.1.toks + length x.0) then wrong k.TokenLimit line else Ok (with_more x.0 x.1)

abbrev pub section : State → PpLine → Local State
section s l = undated l.toks >>= λ _. expanded s l.toks >>= with_tokens l.number

-- ---- definitions

abbrev pub define : State → ℕ → Macro → Local State
define s line m = if redefines s.table m then wrong (k.Redefinition m.name) line else Ok (record s { table = defined_in s.table m })

abbrev pub undefine : State → ℕ → List PpTok → Local State
undefine s line ts = value_or k.Directive line (free_name ts) >>= λ name. Ok (record s { table = undefined_in s.table name })

-- ---- conditions

abbrev pub condition_met : ℕ → List PpTok × State → Local (Bool × State)
condition_met line x = value_or k.Condition line (condition_of x.0) >>= λ b. Ok (b, x.1)

-- `#if` and `#elif`
abbrev pub condition : State → ℕ → List PpTok → Local (Bool × State)
condition s line ts = expanded s (settled s.table ts) >>= condition_met line

-- `#ifdef`, and turned round `#ifndef`
abbrev pub defined : State → ℕ → Bool → List PpTok → Local (Bool × State)
defined s line want ts = value_or k.Directive line (only_name ts) >>= λ name. Ok (if is_defined s.table name then want else not want, s)
