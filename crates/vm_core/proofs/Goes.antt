-- Straight code: steps that go on, with nothing outside put or asked.
use Rattle.std.proofs.Common.{◌≡◌, ℕ, zero, suc, ◌+◌, ◌-◌, ◌<◌, ◌≤◌, List, [], ◌∷◌, ◌++◌, length, Some, refl, sym, ap, ◌∙◌, subst, arith, append_assoc, length-append}
use Rattle.std.specs.Prelude.{slice_get}
use Rattle.std.proofs.lemmas.Bool.Decides.{nat_tests}
use Rattle.std.proofs.Math.Seq.{get_or-append_seam}
use Rattle.std.proofs.lemmas.Option.{slice_get-get_or}
use Rattle.qv_ops.specs.declared.instr.Instr.{Instr}
use Rattle.qv_outside.specs.Event.{Reply}
use Rattle.qv_outside.specs.Hosts.{Table}
use Rattle.vm_core.specs.declared.stop.Stop.{Stop}
use Rattle.vm_core.specs.Machine.{State, Step, Goes, Stops, step, act, act_at, pushed, with_operands, Going, Stopped, runs, after}
use Rattle.vm_core.proofs.Runs.{runs-zero, runs-suc}

-- these instructions stand in the code at this place
abbrev pub HasAt : List Instr → ℕ → List Instr → Type 0
HasAt code pc [] = Unit {0}
HasAt code pc (i ∷ is) = (slice_get code pc ≡ Some i) × HasAt code (pc + 1) is

pub has_front : (code : List Instr) (pc : ℕ) (a b : List Instr) → HasAt code pc (a ++ b) → HasAt code pc a
has_front code pc [] b h = tt
has_front code pc (i ∷ a) b h = (h.0, has_front code (pc + 1) a b h.1)

pub has_back : (code : List Instr) (pc : ℕ) (a b : List Instr) → HasAt code pc (a ++ b) → HasAt code (pc + length a) b
has_back code pc [] b h = let e : pc ≡ pc + 0 = omega arith in subst (λ n. HasAt code n b) e h
has_back code pc (i ∷ a) b h =
    let e : pc + 1 + length a ≡ pc + length (i ∷ a) = omega arith in
    subst (λ n. HasAt code n b) e (has_back code (pc + 1) a b h.1)

pub has_all : (is pre : List Instr) → HasAt (pre ++ is) (length pre) is
has_all [] pre = tt
has_all (i ∷ is) pre =
    let within : length pre < length (pre ++ i ∷ is) = omega (arith, length-append pre (i ∷ is)) in
    let here = slice_get-get_or (pre ++ i ∷ is) (length pre) i within ∙ ap Some (get_or-append_seam pre i is i) in
    let n : length (pre ++ i ∷ []) ≡ length pre + 1 = omega (arith, length-append pre (i ∷ [])) in
    let rest = has_all is (pre ++ i ∷ []) in
    let moved = subst (λ l. HasAt l (length (pre ++ i ∷ [])) is) (append_assoc pre (i ∷ []) is) rest in
    (here, subst (λ m. HasAt (pre ++ i ∷ is) m is) n moved)

-- the instruction at the place of a state
pub step_is : (code : List Instr) (table : Table) (i : Instr) (s : State) → slice_get code s.next ≡ Some i → step code table s ≡ act table (length code) i.op i.operand s
step_is code table i s h = ap (λ o. act_at table (length code) o s) h

pub pushed_goes : (s : State) (below : List ℕ) (w : ℕ) → length below < 256 → pushed s below w ≡ Goes (with_operands s (w ∷ below))
pushed_goes s below w lt = grind (arith, nat_tests)

module _ (f : State → Step) where
  -- j steps, each of which goes on
  abbrev pub GoesIn : ℕ → State → State → Type 0
  GoesIn zero s t = s ≡ t
  GoesIn (suc j) s t = (u : State) × (f s ≡ Goes u) × GoesIn j u t

  pub joined : (i j n : ℕ) (s t u : State) → n ≡ i + j → GoesIn i s t → GoesIn j t u → GoesIn n s u
  joined zero j n s t u e a b =
      let g : j ≡ n = omega arith in
      subst (λ m. GoesIn m s u) g (subst (λ (w : State). GoesIn j w u) (sym a) b)
  joined (suc i) j n s t u e a b =
      let g : suc (i + j) ≡ n = omega arith in
      subst (λ m. GoesIn m s u) g (a.0, a.1, joined i j (i + j) a.0 t u refl a.2 b)

  -- the first k of them
  pub goes_front : (j k : ℕ) (s t : State) → k ≤ j → GoesIn j s t → (u : State) × GoesIn k s u
  goes_front j zero s t le a = (s, refl)
  goes_front zero (suc k) s t le a = absurd (omega arith)
  goes_front (suc j) (suc k) s t le a = let b = goes_front j k a.0 t (omega arith) a.2 in (b.0, (a.0, a.1, b.1))

  goes_first : (n : ℕ) (s t : State) (rs : List Reply) → f s ≡ Goes t → runs f (suc n) s rs ≡ runs f n t rs
  goes_first n s t rs e = runs-suc f n s rs ∙ ap (λ w. after w rs (λ u l. runs f n u l)) e

  -- with more steps than these the run goes on from their end
  pub runs_on : (j k n : ℕ) (s t : State) (rs : List Reply) → n ≡ j + k → GoesIn j s t → runs f n s rs ≡ runs f k t rs
  runs_on zero k n s t rs e a = let g : n ≡ k = omega arith in ap (λ m. runs f m s rs) g ∙ ap (λ u. runs f k u rs) a
  runs_on (suc j) k n s t rs e a =
      let g : n ≡ suc (j + k) = omega arith in
      ap (λ m. runs f m s rs) g ∙ goes_first (j + k) s a.0 rs a.1 ∙ runs_on j k (j + k) a.0 t rs refl a.2

  -- with just these it stands at their end
  pub runs_to : (j : ℕ) (s t : State) (rs : List Reply) → GoesIn j s t → runs f j s rs ≡ record { ending = Going; events = []; state = t; left = rs }
  runs_to j s t rs a = let g : j ≡ j + 0 = omega arith in runs_on j 0 j s t rs g a ∙ runs-zero f t rs

  -- with at most these it goes on, and nothing outside is seen
  pub goes_on : (j k : ℕ) (s t : State) → k ≤ j → GoesIn j s t → (u : State) × ((rs : List Reply) → runs f k s rs ≡ record { ending = Going; events = []; state = u; left = rs })
  goes_on j k s t le a = let b = goes_front j k s t le a in (b.0, λ rs. runs_to k s b.0 rs b.1)

  -- a step that stops
  pub stops_at : (k : ℕ) (s t : State) (stop : Stop) (rs : List Reply) → f s ≡ Stops stop t → runs f (suc k) s rs ≡ record { ending = Stopped stop; events = []; state = t; left = rs }
  stops_at k s t stop rs e = runs-suc f k s rs ∙ ap (λ w. after w rs (λ u l. runs f k u l)) e

  -- these steps, and one that stops
  pub stops_behind : (j n : ℕ) (s t u : State) (stop : Stop) (rs : List Reply) → j < n → GoesIn j s t → f t ≡ Stops stop u → runs f n s rs ≡ record { ending = Stopped stop; events = []; state = u; left = rs }
  stops_behind j n s t u stop rs lt a e =
      let g : n ≡ j + suc (n - suc j) = omega arith in
      runs_on j (suc (n - suc j)) n s t rs g a ∙ stops_at (n - suc j) t u stop rs e
