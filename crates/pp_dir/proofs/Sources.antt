-- Why a file stops, by its parts.
use Rattle.std.proofs.Common.{◌≡◌, ℕ, zero, suc, ◌-◌, ◌<◌, true, false, List, [], ◌∷◌, Option, None, Result, Ok, Err, refl, sym, subst, ◌∙◌, arith}
use Rattle.std.specs.Prelude.{Option}
use Rattle.qv_outside.specs.FileMap.{FileMap, content}
use Rattle.pp_tok.specs.declared.token.PpTok.{PpTok}
use Rattle.pp_tok.specs.declared.token.PpLine.{PpLine}
use Rattle.pp_dir.specs.declared.passage.Passage.{Passage}
use Rattle.pp_dir.specs.declared.fault.PpStop.{PpStop}
use Rattle.pp_dir.specs.declared.fault.LineStop.{LineStop}
use Rattle.pp_dir.specs.declared.fault.PpFaultKind.TheVariants as k
use Rattle.pp_dir.specs.declared.state.State.{State}
use Rattle.qv_base.specs.Place.{capped}
use Rattle.pp_tok.specs.Lines.{lines_of}
use Rattle.pp_dir.specs.Forms.{Wanted, candidates, begins_with_header, text_of, passages_of}
use Rattle.pp_dir.specs.declared.directive.Directive.{Directive}
use Rattle.pp_dir.specs.declared.group.Group.{Group}
use Rattle.pp_dir.specs.Answers.{IsWrong}
use Rattle.pp_dir.specs.Groups.{Flow, reads, tail_of}
use Rattle.pp_dir.specs.Sections.{Local, wrong, expanded, undated, section}
use Rattle.pp_dir.specs.Preprocessed.{Outcome, Found, followed, in_file, searched, file_in, within_at, read_found, steps, closed, number_of, numbered}
use Rattle.pp_dir.specs.Endings.{Ends, EndsWithin, IsTold, Stops, itself, state_behind, state_in}
use Rattle.pp_dir.specs.Sources as at
use Rattle.pp_dir.proofs.Trying.{Grows, WithinGrows, within_grows, read_grows, file_in_grows, include_named_grows, act_on_grows, followed_grows, steps_grows, closed_grows}
use Rattle.pp_dir.proofs.Stopping.{stops_first, stops_line}

module _ (m : FileMap) (dirs : List (List ℕ)) (depth : ℕ) (file : List ℕ) where
  pub too_deep : (line : ℕ) (w : Wanted) (s : State) → depth ≡ 0 → at.include_by m dirs depth file line (w, s) ≡ in_file file s (wrong k.IncludeDepth line)
  unfolding within_at
  too_deep line w s none = rw none refl

  included_at : (n : ℕ) → depth ≡ suc n → (line : ℕ) (w : Wanted) (s : State)
      → at.include_by m dirs depth file line (w, s) ≡ followed (searched (content m) (candidates dirs file w) s) (read_found (content m) dirs (within_at (content m) dirs depth) file (file_in (content m) dirs n) line w.name)
  unfolding within_at
  included_at n is line w s = rw is refl

  less_one : 0 < depth → depth ≡ suc (depth - 1)
  less_one more = omega (arith, more)

  pub search_fails : (line : ℕ) (w : Wanted) (s : State) (stop : PpStop) → 0 < depth → Stops state_behind (searched (content m) (candidates dirs file w) s) stop → Stops itself (at.include_by m dirs depth file line (w, s)) stop
  search_fails line w s stop more h =
      subst (λ (o : Outcome State). Stops itself o stop) (sym (included_at (depth - 1) (less_one more) line w s))
      (stops_first state_behind itself _ (read_grows (content m) dirs (within_at (content m) dirs depth) (within_grows (content m) dirs depth) file (file_in (content m) dirs (depth - 1)) (file_grows (depth - 1)) line w.name) (searched (content m) (candidates dirs file w) s) stop h) where
        file_grows : (n : ℕ) (name bytes : List ℕ) (t : State) → Grows itself t (file_in (content m) dirs n name bytes t)
        file_grows n = file_in_grows (content m) dirs n

  pub search_ends : (line : ℕ) (w : Wanted) (s : State) (x : Option Found × State) → 0 < depth → searched (content m) (candidates dirs file w) s ≡ Ok x
      → at.include_by m dirs depth file line (w, s) ≡ at.read_found m dirs depth file line w.name x
  search_ends line w s x more is = included_at (depth - 1) (less_one more) line w s ∙ rw is refl

  pub none_wanted : (line : ℕ) (s : State) (o : Option Wanted) → o ≡ None → at.include_named m dirs depth file line s o ≡ in_file file s (wrong k.Directive line)
  none_wanted line s o is = rw is refl

  grows_within : WithinGrows (content m) dirs (within_at (content m) dirs depth)
  grows_within = within_grows (content m) dirs depth

  -- a line that is wrong, before anything else
  line_first : {A B : Type 0} (fa : A → State) (fb : B → State) (s : State) (local : Local A) (next : A → Outcome B) (line : LineStop) (stop : PpStop) → ((a : A) → Grows fb (fa a) (next a))
      → IsWrong local line → IsTold line file stop → Stops fb (followed (in_file file s local) next) stop
  line_first fa fb s local next line stop grows is told = stops_first fa fb next grows (in_file file s local) stop (stops_line fa file s local line stop is told)

  pub not_expanded : (s : State) (line : ℕ) (ts : List PpTok) (l : LineStop) (stop : PpStop) → begins_with_header ts ≡ false → IsWrong (expanded s ts) l → IsTold l file stop → Stops itself (at.include m dirs depth file s line ts) stop
  not_expanded s line ts l stop none is told =
      rw none (line_first (λ (x : List PpTok × State). x.1) itself s (expanded s ts) _ l stop (λ x. include_named_grows (content m) dirs (within_at (content m) dirs depth) grows_within file line x.1 (text_of x.0)) is told)

  pub is_dated : (line : ℕ) (ts : List PpTok) (word : Directive) (gs : List Group) (s : State) (l : LineStop) (stop : PpStop) → reads gs ≡ true → IsWrong (undated ts) l → IsTold l file stop
      → Stops state_in (at.act_read m dirs depth file line ts word (gs, s)) stop
  is_dated line ts word gs s l stop read is told =
      rw read (line_first (λ (x : Unit {0}). s) state_in s (undated ts) _ l stop (λ _. followed_grows itself state_in s (at.act_on m dirs depth file s line (tail_of ts) word) _ (act_on_grows (content m) dirs (within_at (content m) dirs depth) grows_within file s line (tail_of ts) word) (λ t n h. h)) is told)

  pub act_stops : (line : ℕ) (ts : List PpTok) (word : Directive) (gs : List Group) (s : State) (result : Result (Unit {0}) PpStop) (new : State) → reads gs ≡ true → undated ts ≡ Ok tt
      → Ends (at.act_on m dirs depth file s line (tail_of ts) word) result new → EndsWithin (at.act_read m dirs depth file line ts word (gs, s)) result gs new
  act_stops line ts word gs s (Ok _) new read is ends = rw (read, is, ends) refl
  act_stops line ts word gs s (Err stop) new read is ends = rw (read, is) (stops_first itself state_in (λ t. Ok (gs, t)) (λ t n h. h) (at.act_on m dirs depth file s line (tail_of ts) word) stop ends)

  pub section_reads : (l : PpLine) (gs : List Group) (s new : State) → reads gs ≡ true → section s l ≡ Ok new → at.section_in m dirs depth file l (gs, s) ≡ Ok (gs, new)
  section_reads l gs s new read is = rw (read, is) refl

  pub section_stops : (l : PpLine) (gs : List Group) (s : State) (line : LineStop) (stop : PpStop) → reads gs ≡ true → IsWrong (section s l) line → IsTold line file stop
      → Stops state_in (at.section_in m dirs depth file l (gs, s)) stop
  section_stops l gs s line stop read is told = rw read (line_first itself state_in s (section s l) (λ t. Ok (gs, t)) line stop (λ t n h. h) is told)

  pub no_steps : (ps : List Passage) (f : Flow) → ps ≡ [] → at.steps m dirs depth file ps f ≡ Ok f
  unfolding steps
  no_steps ps f is = rw is refl

  pub step_goes : (ps rest : List Passage) (x : Passage) (f g : Flow) → ps ≡ x ∷ rest → at.step m dirs depth file x f ≡ Ok g → at.steps m dirs depth file ps f ≡ at.steps m dirs depth file rest g
  unfolding steps
  step_goes ps rest x f g is goes = rw (is, goes) refl

  pub step_stops : (ps rest : List Passage) (x : Passage) (f : Flow) (stop : PpStop) → ps ≡ x ∷ rest → Stops state_in (at.step m dirs depth file x f) stop → Stops state_in (at.steps m dirs depth file ps f) stop
  unfolding steps
  step_stops ps rest x f stop is h =
      rw is (stops_first state_in state_in _ (steps_grows (content m) dirs (within_at (content m) dirs depth) grows_within file rest) (at.step m dirs depth file x f) stop h)

  pub open_comment : (bytes : List ℕ) (s : State) (line : ℕ) → lines_of (capped (number_of s.names file)) bytes ≡ Err line → at.file_by m dirs depth file bytes s ≡ in_file file (numbered file s) (wrong k.OpenComment line)
  open_comment bytes s line is = rw is refl

  pub lines_stop : (ls : List PpLine) (s : State) (stop : PpStop) → Stops state_in (at.steps m dirs depth file (passages_of ls) ([], s)) stop → Stops itself (at.lines_read m dirs depth file s (Ok ls)) stop
  lines_stop ls s stop h = stops_first state_in itself (closed file) (closed_grows (content m) dirs (within_at (content m) dirs depth) grows_within file) (at.steps m dirs depth file (passages_of ls) ([], s)) stop h

pub file_at : (m : FileMap) (dirs : List (List ℕ)) (depth : ℕ) (name bytes : List ℕ) (s : State) → file_in (content m) dirs depth name bytes s ≡ at.file_by m dirs depth name bytes s
unfolding file_in within_at
file_at m dirs zero name bytes s = refl
file_at m dirs (suc depth) name bytes s = refl
