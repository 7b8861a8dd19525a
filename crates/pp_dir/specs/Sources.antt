-- What reading a file of a unit comes to, by the files held. No public clause names it.
use Rattle.std.specs.Prelude.{ℕ, ◌-◌, List, Option, Result}
use Rattle.qv_outside.specs.FileMap.{FileMap, content}
use Rattle.pp_tok.specs.declared.token.PpTok.{PpTok}
use Rattle.pp_tok.specs.declared.token.PpLine.{PpLine}
use Rattle.pp_dir.specs.declared.directive.Directive.{Directive}
use Rattle.pp_dir.specs.declared.passage.Passage.{Passage}
use Rattle.pp_dir.specs.declared.state.State.{State}
use Rattle.pp_dir.specs.Forms.{Wanted}
use Rattle.pp_dir.specs.Groups.{Flow}
use Rattle.pp_dir.specs.Preprocessed as spec
use Rattle.pp_dir.specs.Preprocessed.{Outcome, Found, file_in, within_at}

-- a file of this name, in which includes may nest so deep
module _ (m : FileMap) (dirs : List (List ℕ)) (depth : ℕ) (file : List ℕ) where
  abbrev pub read_found : ℕ → List ℕ → Option Found × State → Outcome State
  read_found = spec.read_found (content m) dirs (within_at (content m) dirs depth) file (file_in (content m) dirs (depth - 1))

  abbrev pub include_by : ℕ → Wanted × State → Outcome State
  include_by = spec.include_by (content m) dirs (within_at (content m) dirs depth) file (within_at (content m) dirs depth)

  abbrev pub include_named : ℕ → State → Option Wanted → Outcome State
  include_named = spec.include_named (content m) dirs (within_at (content m) dirs depth) file

  abbrev pub include : State → ℕ → List PpTok → Outcome State
  include = spec.include (content m) dirs (within_at (content m) dirs depth) file

  abbrev pub act_on : State → ℕ → List PpTok → Directive → Outcome State
  act_on = spec.act_on (content m) dirs (within_at (content m) dirs depth) file

  abbrev pub act_read : ℕ → List PpTok → Directive → Flow → Outcome Flow
  act_read = spec.act_read (content m) dirs (within_at (content m) dirs depth) file

  abbrev pub directive_by : ℕ → List PpTok → Directive → Flow → Outcome Flow
  directive_by = spec.directive_by (content m) dirs (within_at (content m) dirs depth) file

  abbrev pub directive : List PpTok → Flow → Outcome Flow
  directive = spec.directive (content m) dirs (within_at (content m) dirs depth) file

  abbrev pub section_in : PpLine → Flow → Outcome Flow
  section_in = spec.section_in (content m) dirs (within_at (content m) dirs depth) file

  abbrev pub step : Passage → Flow → Outcome Flow
  step = spec.step (content m) dirs (within_at (content m) dirs depth) file

  abbrev pub steps : List Passage → Flow → Outcome Flow
  steps = spec.steps (content m) dirs (within_at (content m) dirs depth) file

  abbrev pub lines_read : State → Result (List PpLine) ℕ → Outcome State
  lines_read = spec.lines_read (content m) dirs (within_at (content m) dirs depth) file

  abbrev pub file_by : List ℕ → State → Outcome State
  file_by = spec.file_by (content m) dirs (within_at (content m) dirs depth) file
