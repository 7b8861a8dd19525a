-- Why a part stops, the whole stops.
use Rattle.std.proofs.Common.{◌≡◌, ℕ, true, List, Some, Ok, Err, sym, ap}
use Rattle.qv_outside.specs.declared.files.FileFault.TheVariants as f
use Rattle.pp_macro.specs.Tokens.{is_among}
use Rattle.pp_dir.specs.declared.fault.LineStop.{LineStop}
use Rattle.pp_dir.specs.declared.fault.LineStop.TheVariants as l
use Rattle.pp_dir.specs.declared.fault.PpStop.{PpStop}
use Rattle.pp_dir.specs.declared.fault.PpStop.TheVariants.{Fault, File, NoMemory}
use Rattle.pp_dir.specs.declared.state.State.{State}
use Rattle.pp_dir.specs.Sections.{Local}
use Rattle.pp_dir.specs.Preprocessed.{Outcome, followed, in_file}
use Rattle.pp_dir.specs.Answers.{IsWrong}
use Rattle.pp_dir.specs.Endings.{Stops, IsTold, stop_of, tried_in}
use Rattle.pp_dir.proofs.Trying.{Grows}

module _ {A B : Type 0} (fa : A → State) (fb : B → State) (k : A → Outcome B) (grows : (a : A) → Grows fb (fa a) (k a)) where
  same_stop : (x : Outcome A) (stop : PpStop) → stop_of x ≡ Some stop → stop_of (followed x k) ≡ Some stop
  same_stop (Ok a) stop is = absurd cc
  same_stop (Err e) stop is = is

  same_tried : (x : Outcome A) (n : List ℕ) → is_among n (tried_in fa x) ≡ true → is_among n (tried_in fb (followed x k)) ≡ true
  same_tried (Ok a) n is = grows a n is
  same_tried (Err e) n is = is

  -- the first part of two
  pub stops_first : (x : Outcome A) (stop : PpStop) → Stops fa x stop → Stops fb (followed x k) stop
  stops_first x NoMemory h = tt
  stops_first x (Fault e) h = same_stop x (Fault e) h
  stops_first x (File n f.Absent) h = same_stop x (File n f.Absent) h
  stops_first x (File n f.TooLong) h = same_stop x (File n f.TooLong) h
  stops_first x (File n f.Failed) h = same_tried x n h
  stops_first x (File n f.NoMemory) h = absurd h

-- what is wrong with a line
pub stops_line : {A : Type 0} (fa : A → State) (file : List ℕ) (s : State) (local : Local A) (line : LineStop) (stop : PpStop) → IsWrong local line → IsTold line file stop → Stops fa (in_file file s local) stop
stops_line fa file s local line NoMemory wrong told = tt
stops_line fa file s local (l.Wrong w) (Fault e) wrong told = rw wrong (ap Some (sym told))
stops_line fa file s local (l.Wrong w) (File n f) wrong told = absurd cc
stops_line fa file s local l.NoMemory (Fault e) wrong told = absurd told
stops_line fa file s local l.NoMemory (File n f) wrong told = absurd told
