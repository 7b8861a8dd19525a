-- Conditionals (ANSI C X3.159-1989, 3.8.1): which lines are read.
use Rattle.std.specs.Prelude.{ℕ, Bool, true, false, ◌&&◌, ◌||◌, not, List, [], ◌∷◌, Option, Some, None, Ok, if◌then◌else◌}
use Rattle.pp_tok.specs.declared.token.PpTok.{PpTok}
use Rattle.pp_dir.specs.declared.directive.Directive.{Directive}
use Rattle.pp_dir.specs.declared.directive.Directive.TheVariants as d
use Rattle.pp_dir.specs.declared.group.Group.{Group}
use Rattle.pp_dir.specs.declared.fault.PpFaultKind.TheVariants as k
use Rattle.pp_dir.specs.declared.state.State.{State}
use Rattle.pp_dir.specs.Sections.{Local, wrong, undated, condition, defined, ◌>>=◌}

-- the conditionals that are open, the innermost first, and a state
abbrev pub Flow : Type 0
Flow = List Group × State

abbrev pub innermost : List Group → Option Group
innermost [] = None
innermost (g ∷ gs) = Some g

-- whether the text here is read
abbrev pub reads : List Group → Bool
reads [] = true
reads (g ∷ gs) = g.reads

-- whether the text around the innermost conditional is read
abbrev pub around : List Group → Bool
around [] = true
around (g ∷ gs) = g.around

-- a conditional that begins where the text is read: its first group is read where the condition holds
abbrev pub opened : ℕ → Bool → Group
opened line holds = record { line = line; around = true; taken = holds; reads = holds; last = false }

-- one in text that isn't read has no group that is read
abbrev pub passed : ℕ → Group
passed line = record { line = line; around = false; taken = true; reads = false; last = false }

abbrev pub tail_of : List PpTok → List PpTok
tail_of [] = []
tail_of (t ∷ ts) = ts

-- the test of a conditional that begins
abbrev pub test : State → ℕ → List PpTok → Directive → Local (Bool × State)
test s line ts d.Ifdef = defined s line true ts
test s line ts d.Ifndef = defined s line false ts
test s line ts word = condition s line ts

-- `#if`, `#ifdef` and `#ifndef`, by all tokens behind the `#`
abbrev pub if_at : ℕ → List PpTok → Directive → Flow → Local Flow
if_at line ts word f =
    if reads f.0 then (undated ts >>= λ _. test f.1 line (tail_of ts) word >>= λ x. Ok (opened line x.0 ∷ f.0, x.1))
    else Ok (passed line ∷ f.0, f.1)

-- an `#elif` is evaluated where no group before it was read
abbrev pub elif_in : ℕ → List PpTok → State → Group → List Group → Local Flow
elif_in line ts s g gs =
    if g.last then wrong k.Directive line else (
    if g.taken then Ok (record g { reads = false } ∷ gs, s) else
    undated ts >>= λ _. condition s line (tail_of ts) >>= λ x. Ok (record g { taken = x.0; reads = x.0 } ∷ gs, x.1))

-- nothing stands behind the word, unless the text around isn't read
abbrev pub is_bare : Bool → List PpTok → Bool
is_bare around [] = true
is_bare around (t ∷ ts) = not around

abbrev pub else_in : ℕ → List PpTok → State → Group → List Group → Local Flow
else_in line ts s g gs =
    if g.last || not (is_bare g.around (tail_of ts)) then wrong k.Directive line
    else Ok (record g { reads = g.around && not g.taken; taken = true; last = true } ∷ gs, s)

abbrev pub endif_in : ℕ → List PpTok → State → Group → List Group → Local Flow
endif_in line ts s g gs = if is_bare g.around (tail_of ts) then Ok (gs, s) else wrong k.Directive line

-- without an open conditional there is no `#elif`, `#else` or `#endif`
abbrev pub in_innermost : ℕ → List PpTok → (ℕ → List PpTok → State → Group → List Group → Local Flow) → Flow → Local Flow
in_innermost line ts act ([], s) = wrong k.Directive line
in_innermost line ts act (g ∷ gs, s) = act line ts s g gs

abbrev pub undated_around : List PpTok → List Group → Local (Unit {0})
undated_around ts gs = if around gs then undated ts else Ok tt

abbrev pub elif_at : ℕ → List PpTok → Flow → Local Flow
elif_at line ts f = in_innermost line ts elif_in f

abbrev pub else_at : ℕ → List PpTok → Flow → Local Flow
else_at line ts f = undated_around ts f.0 >>= λ _. in_innermost line ts else_in f

abbrev pub endif_at : ℕ → List PpTok → Flow → Local Flow
endif_at line ts f = undated_around ts f.0 >>= λ _. in_innermost line ts endif_in f

abbrev pub is_conditional : Directive → Bool
is_conditional d.If = true
is_conditional d.Ifdef = true
is_conditional d.Ifndef = true
is_conditional d.Elif = true
is_conditional d.Else = true
is_conditional d.Endif = true
is_conditional word = false

-- a conditional, by all tokens behind the `#`
abbrev pub conditional : ℕ → List PpTok → Directive → Flow → Local Flow
conditional line ts d.Elif f = elif_at line ts f
conditional line ts d.Else f = else_at line ts f
conditional line ts d.Endif f = endif_at line ts f
conditional line ts word f = if_at line ts word f
