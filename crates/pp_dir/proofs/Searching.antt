-- What a search for files comes to, name by name.
use Rattle.std.proofs.Common.{◌≡◌, ℕ, ◌≤◌, ◌<◌, Bool, true, false, List, ◌∷◌, Option, Some, None, Result, Ok, Err, refl, sym, ap, ◌∙◌, arith}
use Rattle.std.specs.Prelude.{◌^◌, nat_le, length, IfSome, if◌then◌else◌}
use Rattle.std.proofs.lemmas.Bool.Decides.{nat_tests}
use Rattle.qv_outside.specs.Causes.{Rose}
use Rattle.qv_outside.specs.FileMap.{FileMap}
use Rattle.qv_outside.specs.declared.files.FileFault.TheVariants as f
use Rattle.pp_macro.specs.Tokens.{is_among}
use Rattle.pp_dir.specs.declared.fault.PpStop.{PpStop}
use Rattle.pp_dir.specs.declared.fault.PpStop.TheVariants.{Fault, File, NoMemory}
use Rattle.pp_dir.specs.declared.state.State.{State}
use Rattle.pp_dir.specs.Preprocessed.{Outcome, Held, Found, trying, found_in, no_file, searched}
use Rattle.pp_dir.specs.Endings.{Keeper, Keeps, HasCause, failed_after, Stops, IsRead, stop_of, tried_in, state_behind}
use Rattle.pp_dir.proofs.Trying.{among_last, searched_grows}

-- ---- the keeper

rose_before : (a b c : ℕ) → a ≤ b → Rose b c → Rose a c
rose_before a b c le rose = grind (arith, le, rose)

cause_before : {A : Type 0} (a b c : ℕ) (r : Result A PpStop) → a ≤ b → HasCause b c r → HasCause a c r
cause_before a b c (Ok x) le h = tt
cause_before a b c (Err NoMemory) le h = tt
cause_before a b c (Err (Fault e)) le h = tt
cause_before a b c (Err (File n f.Absent)) le h = tt
cause_before a b c (Err (File n f.TooLong)) le h = tt
cause_before a b c (Err (File n f.NoMemory)) le h = tt
cause_before a b c (Err (File n f.Failed)) le h = rose_before a b c le h

named_before : {A : Type 0} (held later : Option FileMap) (before between after : Option (List ℕ)) (r : Result A PpStop) → later ≡ held → IfSome held (λ _. between ≡ before)
    → IfSome later (λ _. after ≡ failed_after between r) → IfSome held (λ _. after ≡ failed_after before r)
named_before None later before between after r same first second = tt
named_before (Some m) None before between after r same first second = absurd cc
named_before (Some m) (Some n) before between after r same first second = second ∙ ap (λ b. failed_after b r) first

-- one call after another
pub keeps_then : {A B : Type 0} (a b c : Keeper) (x : A) (r : Result B PpStop) → Keeps a b (Ok x) → Keeps b c r → Keeps a c r
keeps_then a b c x r first second = record {
  same = second.same ∙ first.same;
  named = named_before a.held b.held a.failed b.failed c.failed r first.same first.named second.named;
  later = omega (arith, first.later, second.later);
  writes_stay = second.writes_stay ∙ first.writes_stay;
  cause = cause_before a.read_faults b.read_faults c.read_faults r first.later second.cause;
}

-- ---- names

module _ (held : Held) (name : List ℕ) (names : List (List ℕ)) (s : State) where
  pub search_goes : held name ≡ None → searched held (name ∷ names) s ≡ searched held names (trying name s)
  unfolding searched
  search_goes is = rw is refl

  short : (b : Bool) (x y : Outcome (Option Found × State)) → b ≡ false → (if b then x else y) ≡ y
  short true x y is = absurd cc
  short false x y is = refl

  long : (b : Bool) (x y : Outcome (Option Found × State)) → b ≡ true → (if b then x else y) ≡ x
  long true x y is = refl
  long false x y is = absurd cc

  fits : (n : ℕ) → n < 2 ^ 31 → nat_le (2 ^ 31) n ≡ false
  fits n lt = grind (arith, nat_tests)

  passes : (n : ℕ) → 2 ^ 31 ≤ n → nat_le (2 ^ 31) n ≡ true
  passes n le = grind (arith, nat_tests)

  pub search_finds : (bytes : List ℕ) → held name ≡ Some bytes → length bytes < 2 ^ 31 → searched held (name ∷ names) s ≡ Ok (Some (name, bytes), trying name s)
  unfolding searched
  search_finds bytes is lt = rw is (short (nat_le (2 ^ 31) (length bytes)) _ _ (fits (length bytes) lt))

  is_long : (bytes : List ℕ) → held name ≡ Some bytes → 2 ^ 31 ≤ length bytes → searched held (name ∷ names) s ≡ no_file (trying name s) name f.TooLong
  unfolding searched
  is_long bytes is le = rw is (long (nat_le (2 ^ 31) (length bytes)) _ _ (passes (length bytes) le))

  tried_here : is_among name (tried_in state_behind (searched held (name ∷ names) s)) ≡ true
  unfolding searched
  tried_here = found_tried (held name) where
    found_tried : (o : Option (List ℕ)) → is_among name (tried_in state_behind (found_in (trying name s) name o (searched held names (trying name s)))) ≡ true
    found_tried None = searched_grows held names (trying name s) name (among_last name s.tried)
    found_tried (Some bytes) = cond_tried (nat_le (2 ^ 31) (length bytes)) where
      cond_tried : (b : Bool) → is_among name (tried_in state_behind (if b then no_file (trying name s) name f.TooLong else Ok (Some (name, bytes), trying name s))) ≡ true
      cond_tried true = among_last name s.tried
      cond_tried false = among_last name s.tried

  pub search_stops : (stop : PpStop) → IsRead name (held name) (Err stop) → Stops state_behind (searched held (name ∷ names) s) stop
  search_stops NoMemory h = tt
  search_stops (File n f.Failed) h = rw h tried_here
  search_stops (File n f.TooLong) h = ap stop_of (is_long h.1.0 h.1.1 h.1.2) ∙ ap (λ x. Some (File x f.TooLong)) (sym h.0)
  search_stops (File n f.Absent) h = absurd h
  search_stops (File n f.NoMemory) h = absurd h
  search_stops (Fault e) h = absurd h
