-- A name that was tried stays among those that were tried.
use Rattle.std.proofs.Common.{◌≡◌, ℕ, zero, suc, Bool, true, false, ◌||◌, cond, List, [], ◌∷◌, ◌++◌, Option, Some, None, Result, Ok, Err, refl, ap, ◌∙◌}
use Rattle.std.specs.Prelude.{◌^◌, nat_le, length}
use Rattle.std.specs.Str.{bytes_eq}
use Rattle.std.proofs.lemmas.List.Folds.{list_any-append}
use Rattle.std.proofs.lemmas.Slice.Eq.{bytes_eq-Decides}
use Rattle.pp_tok.specs.declared.token.PpTok.{PpTok}
use Rattle.pp_tok.specs.declared.token.PpLine.{PpLine}
use Rattle.pp_macro.specs.declared.macros.Macro.{Macro}
use Rattle.pp_macro.specs.declared.fault.ExpandFault.{ExpandFault}
use Rattle.pp_macro.specs.Tokens.{is_among}
use Rattle.pp_macro.specs.Expand.{expand_list}
use Rattle.pp_dir.specs.declared.directive.Directive.{Directive}
use Rattle.pp_dir.specs.declared.directive.Directive.TheVariants as d
use Rattle.pp_dir.specs.declared.fault.PpFaultKind.{PpFaultKind}
use Rattle.pp_dir.specs.declared.group.Group.{Group}
use Rattle.pp_dir.specs.declared.passage.Passage.{Passage}
use Rattle.pp_dir.specs.declared.passage.Passage.TheVariants as p
use Rattle.pp_dir.specs.declared.state.State.{State}
use Rattle.pp_dir.specs.Forms.{Wanted, passages_of, directive_of, begins_with_header, header_of, text_of, candidates}
use Rattle.pp_dir.specs.Sections.{Local, value_or, with_count, expanded, undated, undated_by, with_tokens, section, define, condition, defined, ◌>>=◌}
use Rattle.pp_dir.specs.Groups.{Flow, reads, around, test, if_at, elif_in, else_in, endif_in, in_innermost, undated_around, is_conditional, conditional, tail_of}
use Rattle.pp_dir.specs.Preprocessed.{Outcome, Held, Found, Reader, followed, in_file, trying, found_in, searched, read_found, include_by, include_named, include, act, act_on, act_read, directive_by, directive, section_in, step, steps, closed, lines_read, file_by, file_in, within_at}
use Rattle.pp_dir.specs.Endings.{tried_in, itself, state_in, state_behind}

-- ---- lists

or_left : (a b : Bool) → a ≡ true → (a || b) ≡ true
or_left true b is = refl
or_left false b is = absurd cc

or_right : (a b : Bool) → b ≡ true → (a || b) ≡ true
or_right true b is = refl
or_right false b is = is

among_more : (n : List ℕ) (xs : List (List ℕ)) (y : List ℕ) → is_among n xs ≡ true → is_among n (xs ++ y ∷ []) ≡ true
among_more n xs y is = list_any-append (λ x. bytes_eq x n) xs (y ∷ []) ∙ or_left (is_among n xs) _ is

pub among_last : (n : List ℕ) (xs : List (List ℕ)) → is_among n (xs ++ n ∷ []) ≡ true
among_last n xs = list_any-append (λ x. bytes_eq x n) xs (n ∷ []) ∙ or_right (is_among n xs) _ (or_left (bytes_eq n n) false ((bytes_eq-Decides n n).1 refl))

-- ---- lines

-- what a line gives has tried the same
pub data Keeping {A : Type 0} (state_of : A → State) (s : State) : Local A → Type 0 where
  keeps : {x : A} → (state_of x).tried ≡ s.tried → Keeping state_of s (Ok x)
  stops : {w : _} → Keeping state_of s (Err w)

bind_keeps : {A B : Type 0} {f : A → State} {g : B → State} {s : State} (l : Local A) (k : A → Local B) → Keeping f s l → ((x : A) → (f x).tried ≡ s.tried → Keeping g s (k x)) → Keeping g s (l >>= k)
bind_keeps _ k (keeps {x = x} is) more = more x is
bind_keeps _ k stops more = stops

if_keeps : {A : Type 0} {f : A → State} {s : State} (b : Bool) (x y : Local A) → Keeping f s x → Keeping f s y → Keeping f s (cond b x y)
if_keeps true x y hx hy = hx
if_keeps false x y hx hy = hy

-- with another state that has tried the same
from_same : {A : Type 0} {f : A → State} {s t : State} (l : Local A) → t.tried ≡ s.tried → Keeping f t l → Keeping f s l
from_same _ same (keeps is) = keeps (is ∙ same)
from_same _ same stops = stops

abbrev second : {A : Type 0} → A × State → State
second x = x.1

abbrev constant : {A : Type 0} → State → A → State
constant s x = s

undated_keeps : (s : State) (ts : List PpTok) (o : Option PpTok) → Keeping (constant {A = Unit {0}} s) s (undated_by o)
undated_keeps s ts None = keeps refl
undated_keeps s ts (Some t) = stops

value_keeps : {A : Type 0} (s : State) (k : PpFaultKind) (line : ℕ) (o : Option A) → Keeping (constant s) s (value_or k line o)
value_keeps s k line (Some x) = keeps refl
value_keeps s k line None = stops

count_keeps : (s : State) (r : Result (List PpTok × ℕ) ExpandFault) → Keeping (second {A = List PpTok}) s (with_count s r)
count_keeps s (Ok x) = keeps refl
count_keeps s (Err e) = stops

pub expanded_keeps : (s : State) (ts : List PpTok) → Keeping (second {A = List PpTok}) s (expanded s ts)
expanded_keeps s ts = count_keeps s (expand_list s.table s.names s.count ts)

tokens_keep : (s : State) (line : ℕ) (x : List PpTok × State) → x.1.tried ≡ s.tried → Keeping itself s (with_tokens line x)
tokens_keep s line x is = if_keeps _ _ _ stops (keeps is)

pub section_keeps : (s : State) (l : PpLine) → Keeping itself s (section s l)
section_keeps s l = bind_keeps (undated l.toks) _ (undated_keeps s l.toks _) λ _ _. bind_keeps (expanded s l.toks) _ (expanded_keeps s l.toks) λ x is. tokens_keep s l.number x is

define_keeps : (s : State) (line : ℕ) (m : Macro) → Keeping itself s (define s line m)
define_keeps s line m = if_keeps _ _ _ stops (keeps refl)

condition_keeps : (s : State) (line : ℕ) (ts : List PpTok) → Keeping (second {A = Bool}) s (condition s line ts)
condition_keeps s line ts = bind_keeps (expanded s _) _ (expanded_keeps s _) λ x is. bind_keeps (value_or _ line _) _ (value_keeps s _ line _) λ b _. keeps is

defined_keeps : (s : State) (line : ℕ) (want : Bool) (ts : List PpTok) → Keeping (second {A = Bool}) s (defined s line want ts)
defined_keeps s line want ts = bind_keeps (value_or _ line _) _ (value_keeps s _ line _) λ b _. keeps refl

test_keeps : (s : State) (line : ℕ) (ts : List PpTok) (word : Directive) → Keeping (second {A = Bool}) s (test s line ts word)
test_keeps s line ts d.Ifdef = defined_keeps s line true ts
test_keeps s line ts d.Ifndef = defined_keeps s line false ts
test_keeps s line ts word = condition_keeps s line ts

if_at_keeps : (line : ℕ) (ts : List PpTok) (word : Directive) (f : Flow) → Keeping state_in f.1 (if_at line ts word f)
if_at_keeps line ts word f =
    if_keeps (reads f.0) _ _ (bind_keeps (undated ts) _ (undated_keeps f.1 ts _) λ _ _. bind_keeps (test f.1 line (tail_of ts) word) _ (test_keeps f.1 line (tail_of ts) word) λ x is. keeps is) (keeps refl)

elif_in_keeps : (line : ℕ) (ts : List PpTok) (s : State) (g : Group) (gs : List Group) → Keeping state_in s (elif_in line ts s g gs)
elif_in_keeps line ts s g gs =
    if_keeps g.last _ _ stops (if_keeps g.taken _ _ (keeps refl) (bind_keeps (undated ts) _ (undated_keeps s ts _) λ _ _. bind_keeps (condition s line (tail_of ts)) _ (condition_keeps s line (tail_of ts)) λ x is. keeps is))

else_in_keeps : (line : ℕ) (ts : List PpTok) (s : State) (g : Group) (gs : List Group) → Keeping state_in s (else_in line ts s g gs)
else_in_keeps line ts s g gs = if_keeps _ _ _ stops (keeps refl)

endif_in_keeps : (line : ℕ) (ts : List PpTok) (s : State) (g : Group) (gs : List Group) → Keeping state_in s (endif_in line ts s g gs)
endif_in_keeps line ts s g gs = if_keeps _ _ _ (keeps refl) stops

innermost_keeps : (line : ℕ) (ts : List PpTok) (act : ℕ → List PpTok → State → Group → List Group → Local Flow) → ((s : State) (g : Group) (gs : List Group) → Keeping state_in s (act line ts s g gs)) → (f : Flow)
    → Keeping state_in f.1 (in_innermost line ts act f)
innermost_keeps line ts act h ([], s) = stops
innermost_keeps line ts act h (g ∷ gs, s) = h s g gs

around_keeps : (s : State) (ts : List PpTok) (gs : List Group) → Keeping (constant {A = Unit {0}} s) s (undated_around ts gs)
around_keeps s ts gs = if_keeps (around gs) _ _ (undated_keeps s ts _) (keeps refl)

conditional_keeps : (line : ℕ) (ts : List PpTok) (word : Directive) (f : Flow) → Keeping state_in f.1 (conditional line ts word f)
conditional_keeps line ts d.Elif f = innermost_keeps line ts elif_in (elif_in_keeps line ts) f
conditional_keeps line ts d.Else f = bind_keeps (undated_around ts f.0) _ (around_keeps f.1 ts f.0) λ _ _. innermost_keeps line ts else_in (else_in_keeps line ts) f
conditional_keeps line ts d.Endif f = bind_keeps (undated_around ts f.0) _ (around_keeps f.1 ts f.0) λ _ _. innermost_keeps line ts endif_in (endif_in_keeps line ts) f
conditional_keeps line ts word f = if_at_keeps line ts word f

act_keeps : (s : State) (line : ℕ) (ts : List PpTok) (word : Directive) → Keeping itself s (act s line ts word)
act_keeps s line ts d.Nothing = keeps refl
act_keeps s line ts d.Pragma = keeps refl
act_keeps s line ts d.Define = bind_keeps (value_or _ line _) _ (value_keeps s _ line _) λ m _. define_keeps s line m
act_keeps s line ts d.Undef = bind_keeps (value_or _ line _) _ (value_keeps s _ line _) λ m _. keeps refl
act_keeps s line ts d.Error = stops
act_keeps s line ts d.Line = stops
act_keeps s line ts word = stops

-- ---- files

abbrev pub Grows : {A : Type 0} → (A → State) → State → Outcome A → Type 0
Grows state_of s outcome = (n : List ℕ) → is_among n s.tried ≡ true → is_among n (tried_in state_of outcome) ≡ true

pub followed_grows : {A B : Type 0} (f : A → State) (g : B → State) (s : State) (x : Outcome A) (k : A → Outcome B) → Grows f s x → ((a : A) → Grows g (f a) (k a)) → Grows g s (followed x k)
followed_grows f g s (Ok a) k here later = λ n is. later a n (here n is)
followed_grows f g s (Err e) k here later = here

if_grows : {A : Type 0} (f : A → State) (s : State) (b : Bool) (x y : Outcome A) → Grows f s x → Grows f s y → Grows f s (cond b x y)
if_grows f s true x y hx hy = hx
if_grows f s false x y hx hy = hy

in_file_grows : {A : Type 0} (f : A → State) (file : List ℕ) (s : State) (l : Local A) → Keeping f s l → Grows f s (in_file file s l)
in_file_grows f file s _ (keeps same) = λ n is. ap (is_among n) same ∙ is
in_file_grows f file s _ stops = λ n is. is

module _ (held : Held) where
  found_grows : (s : State) (name : List ℕ) (o : Option (List ℕ)) (later : Outcome (Option Found × State)) → Grows state_behind s later → Grows state_behind s (found_in s name o later)
  found_grows s name None later h = h
  found_grows s name (Some bytes) later h = if_grows state_behind s (nat_le (2 ^ 31) (length bytes)) _ _ (λ n is. is) (λ n is. is)

  pub searched_grows : (names : List (List ℕ)) (s : State) → Grows state_behind s (searched held names s)
  unfolding searched
  searched_grows [] s = λ n is. is
  searched_grows (name ∷ names) s = λ n is. found_grows (trying name s) name (held name) _ (searched_grows names (trying name s)) n (among_more n s.tried name is)

module _ (held : Held) (dirs : List (List ℕ)) where
  -- what reads included files only tries more
  abbrev pub ReaderGrows : Reader → Type 0
  ReaderGrows go = (name bytes : List ℕ) (s : State) → Grows itself s (go name bytes s)

  abbrev pub WithinGrows : Option Reader → Type 0
  WithinGrows None = Unit {0}
  WithinGrows (Some go) = ReaderGrows go

  module _ (within : Option Reader) (more : WithinGrows within) (file : List ℕ) where
    pub read_grows : (go : Reader) → ReaderGrows go → (line : ℕ) (name : List ℕ) (x : Option Found × State) → Grows itself x.1 (read_found held dirs within file go line name x)
    read_grows go h line name (None, s) = λ n is. is
    read_grows go h line name (Some found, s) = h found.0 found.1 s

    pub include_by_grows : (w : Option Reader) → WithinGrows w → (line : ℕ) (x : Wanted × State) → Grows itself x.1 (include_by held dirs within file w line x)
    include_by_grows None h line (w, s) = λ n is. is
    include_by_grows (Some go) h line (w, s) =
        followed_grows state_behind itself s (searched held (candidates dirs file w) s) _ (searched_grows held (candidates dirs file w) s) (read_grows go h line w.name)

    pub include_named_grows : (line : ℕ) (s : State) (w : Option Wanted) → Grows itself s (include_named held dirs within file line s w)
    include_named_grows line s w = followed_grows (constant s) itself s (in_file file s (value_or _ line w)) _ (in_file_grows (constant s) file s _ (value_keeps s _ line w)) (λ w. include_by_grows within more line (w, s))

    include_grows : (s : State) (line : ℕ) (ts : List PpTok) → Grows itself s (include held dirs within file s line ts)
    include_grows s line ts =
        if_grows itself s (begins_with_header ts) _ _ (include_named_grows line s (header_of ts))
        (followed_grows second itself s (in_file file s (expanded s ts)) _ (in_file_grows second file s _ (expanded_keeps s ts)) (λ x. include_named_grows line x.1 (text_of x.0)))

    pub act_on_grows : (s : State) (line : ℕ) (ts : List PpTok) (word : Directive) → Grows itself s (act_on held dirs within file s line ts word)
    act_on_grows s line ts d.Include = include_grows s line ts
    act_on_grows s line ts word = in_file_grows itself file s _ (act_keeps s line ts word)

    act_read_grows : (line : ℕ) (ts : List PpTok) (word : Directive) (f : Flow) → Grows state_in f.1 (act_read held dirs within file line ts word f)
    act_read_grows line ts word f =
        if_grows state_in f.1 (reads f.0) _ _
        (followed_grows (constant f.1) state_in f.1 (in_file file f.1 (undated ts)) _ (in_file_grows (constant f.1) file f.1 _ (undated_keeps f.1 ts _))
        (λ _. followed_grows itself state_in f.1 (act_on held dirs within file f.1 line (tail_of ts) word) _ (act_on_grows f.1 line (tail_of ts) word) (λ s n is. is)))
        (λ n is. is)

    directive_by_grows : (line : ℕ) (ts : List PpTok) (word : Directive) (f : Flow) → Grows state_in f.1 (directive_by held dirs within file line ts word f)
    directive_by_grows line ts word f =
        if_grows state_in f.1 (is_conditional word) _ _ (in_file_grows state_in file f.1 _ (conditional_keeps line ts word f)) (act_read_grows line ts word f)

    directive_grows : (ts : List PpTok) (f : Flow) → Grows state_in f.1 (directive held dirs within file ts f)
    directive_grows [] f = λ n is. is
    directive_grows (hash ∷ ts) f = directive_by_grows hash.place.line ts (directive_of ts) f

    section_grows : (l : PpLine) (f : Flow) → Grows state_in f.1 (section_in held dirs within file l f)
    section_grows l f =
        if_grows state_in f.1 (reads f.0) _ _ (followed_grows itself state_in f.1 (in_file file f.1 (section f.1 l)) _ (in_file_grows itself file f.1 _ (section_keeps f.1 l)) (λ s n is. is)) (λ n is. is)

    step_grows : (x : Passage) (f : Flow) → Grows state_in f.1 (step held dirs within file x f)
    step_grows (p.Section l) f = section_grows l f
    step_grows (p.Directive l) f = directive_grows l.toks f

    pub steps_grows : (xs : List Passage) (f : Flow) → Grows state_in f.1 (steps held dirs within file xs f)
    unfolding steps
    steps_grows [] f = λ n is. is
    steps_grows (x ∷ xs) f = followed_grows state_in state_in f.1 (step held dirs within file x f) _ (step_grows x f) (steps_grows xs)

    pub closed_grows : (f : Flow) → Grows itself f.1 (closed file f)
    closed_grows ([], s) = λ n is. is
    closed_grows (g ∷ gs, s) = λ n is. is

    lines_grow : (s : State) (r : Result (List PpLine) ℕ) → Grows itself s (lines_read held dirs within file s r)
    lines_grow s (Ok lines) = followed_grows state_in itself s (steps held dirs within file (passages_of lines) ([], s)) _ (steps_grows (passages_of lines) ([], s)) closed_grows
    lines_grow s (Err line) = λ n is. is

    pub file_by_grows : (bytes : List ℕ) (s : State) → Grows itself s (file_by held dirs within file bytes s)
    file_by_grows bytes s = lines_grow _ _

  pub file_in_grows : (n : ℕ) → ReaderGrows (file_in held dirs n)
  unfolding file_in
  file_in_grows zero name bytes s = file_by_grows None tt name bytes s
  file_in_grows (suc n) name bytes s = file_by_grows (Some (file_in held dirs n)) (file_in_grows n) name bytes s

  pub within_grows : (n : ℕ) → WithinGrows (within_at held dirs n)
  unfolding within_at
  within_grows zero = tt
  within_grows (suc n) = file_in_grows n
