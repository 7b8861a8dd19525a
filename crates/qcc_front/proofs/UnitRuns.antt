-- A call of a unit of the first form returns its sum's value, and its image follows the unit.
use Rattle.std.proofs.Common.{◌≡◌, ℕ, suc, ◌+◌, ◌-◌, ◌*◌, ◌^◌, ◌%◌, ◌<◌, ◌≤◌, false, List, [], ◌∷◌, ◌++◌, length, map, refl, sym, ap, ◌∙◌, subst, arith, ⊎_elim, length-append, replicate}
use Rattle.std.specs.Prelude.{nat_lt, if◌then◌else◌, All, slice_index}
use Rattle.std.proofs.lemmas.Bool.{cases_lt}
use Rattle.std.proofs.lemmas.List.{length-replicate}
use Rattle.std.proofs.lemmas.List.Elements.{All-tail}
use Rattle.std.proofs.lemmas.Bool.Decides.{nat_tests}
use Rattle.std.proofs.Math.Nat.{mod-eq_of_lt}
use Rattle.qv_outside.specs.Event.{Event, Reply}
use Rattle.qv_outside.specs.Hosts.{Table}
use Rattle.vm_core.specs.declared.stop.Stop.TheVariants.{Returned, StackOver, StackUnder}
use Rattle.masked_mem.specs.Memory.{load4}
use Rattle.vm_core.specs.Memory.{with_frame, block_size, doubled}
use Rattle.vm_core.specs.Machine.{State, Step, Goes, Stops, step, entered, left, gone_back, returned, bottom, Going, Stopped, End, runs, started, fresh_memory}
use Rattle.vm_core.specs.Calls.{CallsEnd, AllReturned, Ended, with_calls, on_end, calls_run, image_run}
use Rattle.vm_core.proofs.Goes.{HasAt, has_front, has_back, has_all, GoesIn, step_is, goes_on, stops_behind}
use Rattle.vm_core.proofs.Frame.{frame_word, length-frame}
use Rattle.vm_core.proofs.CallLaws.{nothing_left, one_more}
use Rattle.qv_ops.specs.declared.op.Op.TheVariants.{Enter, Leave}
use Rattle.qcc_front.specs.Source.{Done}
use Rattle.qcc_front.specs.Sum.{Sum, value, sum_run}
use Rattle.qasm_write.specs.Unit.{instr}
use Rattle.qcc_front.proofs.UnitCode.{sum_code, end_code, unit_code, unit_image}
use Rattle.qcc_front.specs.Follows.{IsCall, EndsWith, Within, EndsAs, Follows}
use Rattle.qcc_front.proofs.SumRuns.{at, sum_goes}

not_below : (a b : ℕ) → b ≤ a → nat_lt a b ≡ false
not_below a b le = grind (arith, nat_tests)

entered_goes : (s : State) (v : ℕ) → bottom s + v ≤ s.program_stack → entered v s ≡ Goes (record { memory = s.memory; program_stack = s.program_stack - v; operands = s.operands; next = s.next + 1 })
entered_goes s v le = ap (λ b. if b then Stops StackOver s else Goes (record { memory = s.memory; program_stack = s.program_stack - v; operands = s.operands; next = s.next + 1 })) (not_below s.program_stack (bottom s + v) le)

left_returns : (count v t : ℕ) (s : State) → s.program_stack + v ≤ length s.memory - 64 → load4 s.memory (s.program_stack + v) ≡ 2 ^ 32 - 1 → s.operands ≡ t ∷ [] → left count v s ≡ Stops (Returned t) s
left_returns count v t s le back ops =
    ap (λ b. if b then Stops StackUnder s else gone_back count v (load4 s.memory (s.program_stack + v)) s) (not_below (length s.memory - 64) (s.program_stack + v) le)
    ∙ ap (λ r. gone_back count v r s) back
    ∙ ap (λ o. returned s o) ops

-- a block in which a call of the function has room
pub record HasRoom (memory : List ℕ) : Type 0 where
  pub low : 72 ≤ length memory
  pub high : length memory < 2 ^ 32
  pub words : length memory % 4 ≡ 0

-- steps of a call before the one that returns: one to enter, and those of the sum
abbrev pub call_steps : Sum → ℕ
call_steps e = suc (length (sum_code e))

module _ (e : Sum) (table : Table) (memory : List ℕ) (a : ℕ) (rest : List ℕ) (room : HasRoom memory) (n : length (a ∷ rest) ≡ 14) (small : a < 2 ^ 32) where
  abbrev f : State → Step
  f = step (unit_code e) table

  abbrev pub frame : List ℕ
  frame = with_frame memory (a ∷ rest)

  abbrev place : ℕ
  place = length memory - 64 - 8

  abbrev pub last : State
  last = record { memory = frame; program_stack = place; operands = value e a ∷ []; next = 1 + length (sum_code e) }

  has_body : HasAt (unit_code e) 1 (sum_code e ++ end_code)
  has_body = has_all (sum_code e ++ end_code) (instr Enter 8 ∷ [])

  call_goes : GoesIn f (call_steps e) (started memory (a ∷ rest)) last
  call_goes =
      let size = length-frame memory (a ∷ rest) (omega (arith, room.low)) n in
      let s = started memory (a ∷ rest) in
      let fits : bottom s + 8 ≤ s.program_stack = omega (arith, size, room.low) in
      let b : place + 16 ≡ length memory - 64 + 4 * 2 = omega (arith, room.low) in
      let c : place + 16 < 2 ^ 32 = omega (arith, room.low, room.high) in
      let loads = ap (load4 frame) (mod-eq_of_lt c ∙ b) ∙ frame_word memory (a ∷ rest) 2 a rest (omega (arith, room.low)) room.words n (omega arith) small refl in (
        at (unit_code e) table frame place a loads [] 1,
        step_is (unit_code e) table (instr Enter 8) s refl ∙ entered_goes s 8 fits,
        sum_goes (unit_code e) table frame place a loads e 1 (1 + length (sum_code e)) (has_front (unit_code e) 1 (sum_code e) end_code has_body) refl,
      )

  call_stops : f last ≡ Stops (Returned (value e a)) last
  call_stops =
      let size = length-frame memory (a ∷ rest) (omega (arith, room.low)) n in
      let here = (has_back (unit_code e) 1 (sum_code e) end_code has_body).0 in
      let le : place + 8 ≤ length frame - 64 = omega (arith, size, room.low) in
      let b : place + 8 ≡ length memory - 64 + 4 * 0 = omega (arith, room.low) in
      let back = ap (load4 frame) b ∙ frame_word memory (a ∷ rest) 0 (2 ^ 32 - 1) (0 ∷ a ∷ rest) (omega (arith, room.low)) room.words n (omega arith) (omega arith) refl in
      step_is (unit_code e) table (instr Leave 8) last here ∙ left_returns (length (unit_code e)) 8 (value e a) last le back refl

  -- with more steps than these it returns
  pub call_returns : (m : ℕ) (rs : List Reply) → call_steps e < m → runs f m (started memory (a ∷ rest)) rs ≡ record { ending = Stopped (Returned (value e a)); events = []; state = last; left = rs }
  call_returns m rs lt = stops_behind f (call_steps e) m (started memory (a ∷ rest)) last last (Returned (value e a)) rs lt call_goes call_stops

  -- with at most these it goes on
  pub call_goes_on : (m : ℕ) → m ≤ call_steps e → (u : State) × ((rs : List Reply) → runs f m (started memory (a ∷ rest)) rs ≡ record { ending = Going; events = []; state = u; left = rs })
  call_goes_on m le = goes_on f (call_steps e) m (started memory (a ∷ rest)) last le call_goes

  pub room_kept : HasRoom frame
  room_kept =
      let size = length-frame memory (a ∷ rest) (omega (arith, room.low)) n in
      record { low = omega (arith, size, room.low); high = omega (arith, size, room.high); words = ap (λ k. k % 4) size ∙ room.words }

-- the values that calls give
abbrev values : Sum → List (List ℕ) → List ℕ
values e calls = map (λ args. value e (slice_index args 0)) calls

-- calls that have all returned these words, with no event
abbrev HaveCome : List ℕ → CallsEnd → Type 0
HaveCome words end = EndsWith end AllReturned [] × (end.words ≡ words)

come_after : (w : ℕ) (words : List ℕ) (end : CallsEnd) → HaveCome words end → HaveCome (w ∷ words) (with_calls (w ∷ []) [] end)
come_after w words end (ends, are) = (record { outcome_is = ends.outcome_is; events_are = ends.events_are }, ap (λ ws. w ∷ ws) are)

-- with enough steps each call returns
calls_come : (e : Sum) (table : Table) (m : ℕ) → call_steps e < m → (calls : List (List ℕ)) (memory : List ℕ) (rs : List Reply) → HasRoom memory → All IsCall calls →
    HaveCome (values e calls) (calls_run (step (unit_code e) table) m calls memory rs)
calls_come e table m lt [] memory rs room all =
    subst (λ (x : CallsEnd). HaveCome [] x) (sym (nothing_left (step (unit_code e) table) m memory rs)) (record { outcome_is = refl; events_are = refl }, refl)
calls_come e table m lt ([] ∷ calls) memory rs room all = let n = (all 0 [] (omega arith)).count in absurd (omega (arith, n))
calls_come e table m lt ((a ∷ rest) ∷ calls) memory rs room all =
    let f : State → Step = step (unit_code e) table in
    let call = all 0 [] (omega arith) in
    let small : a < 2 ^ 32 = call.words 0 0 (omega arith) in
    let is = one_more f m (a ∷ rest) calls memory rs ∙ ap (λ (x : End). on_end x.ending x.events x.state x.left (λ u l. calls_run f m calls u l)) (call_returns e table memory a rest room call.count small m rs lt) in
    let later = calls_come e table m lt calls (frame e table memory a rest room call.count small) rs (room_kept e table memory a rest room call.count small) (All-tail IsCall (a ∷ rest) calls all) in
    subst (λ (x : CallsEnd). HaveCome (value e a ∷ values e calls) x) (sym is) (come_after (value e a) (values e calls) (calls_run f m calls (frame e table memory a rest room call.count small) rs) later)

-- with too few the first call goes on
calls_go_on : (e : Sum) (table : Table) (m : ℕ) → m ≤ call_steps e → (calls : List (List ℕ)) (memory : List ℕ) (rs : List Reply) → HasRoom memory → All IsCall calls → 0 < length calls →
    EndsWith (calls_run (step (unit_code e) table) m calls memory rs) (Ended Going) []
calls_go_on e table m le [] memory rs room all some = absurd (omega arith)
calls_go_on e table m le ([] ∷ calls) memory rs room all some = let n = (all 0 [] (omega arith)).count in absurd (omega (arith, n))
calls_go_on e table m le ((a ∷ rest) ∷ calls) memory rs room all some =
    let f : State → Step = step (unit_code e) table in
    let call = all 0 [] (omega arith) in
    let small : a < 2 ^ 32 = call.words 0 0 (omega arith) in
    let going = call_goes_on e table memory a rest room call.count small m le in
    let is = one_more f m (a ∷ rest) calls memory rs ∙ ap (λ (x : End). on_end x.ending x.events x.state x.left (λ u l. calls_run f m calls u l)) (going.1 rs) in
    record { outcome_is = ap (λ (x : CallsEnd). x.outcome) is; events_are = ap (λ (x : CallsEnd). x.events) is }

size_is : block_size 65540 ≡ 131072
unfolding block_size doubled
size_is = refl

first_room : (e : Sum) → HasRoom (fresh_memory (unit_image e))
first_room e =
    let zero_byte : ℕ = 0 in
    let size : length (fresh_memory (unit_image e)) ≡ 131072 = ap (λ k. suc (suc (suc (suc (length (replicate (k - 4) zero_byte)))))) size_is ∙ ap (λ k. suc (suc (suc (suc k)))) (length-replicate 131068 zero_byte) in
    record { low = omega (arith, size); high = omega (arith, size); words = ap (λ k. k % 4) size }

enough : (e : Sum) (n : ℕ) → call_steps e < length (unit_code e) * (n + 1)
enough e n =
    let size : length (unit_code e) ≡ suc (length (sum_code e) + 3) = omega (arith, length-append (sum_code e) end_code) in
    let more : length (unit_code e) ≤ length (unit_code e) * (n + 1) = grind arith in
    omega (arith, size, more)

come_within : (words : List ℕ) (end : CallsEnd) → HaveCome words end → Within (Done words []) end
come_within words end (ends, are) =
    subst (λ c. EndsAs c end.words end.events (Done words [])) (sym ends.outcome_is)
    (ap (λ ws. Done ws []) (sym are) ∙ ap (λ es. Done end.words es) (sym ends.events_are))

going_within : (words : List ℕ) (end : CallsEnd) → EndsWith end (Ended Going) [] → Within (Done words []) end
going_within words end ends =
    subst (λ c. EndsAs c end.words end.events (Done words [])) (sym ends.outcome_is) ([], ap (λ (es : List Event). es ++ []) ends.events_are)

pub follows : (e : Sum) → Follows (sum_run e) (unit_image e)
follows e = record {
  reaches = λ table calls replies n all some fit. calls_come e table (length (unit_code e) * (n + 1)) (enough e n) calls (fresh_memory (unit_image e)) replies (first_room e) all;
  within = λ table calls replies m all some fit.
      let end : CallsEnd = image_run (unit_image e) table calls replies m in
      ⊎_elim
      (λ lt. come_within (values e calls) end (calls_come e table m lt calls (fresh_memory (unit_image e)) replies (first_room e) all))
      (λ le. going_within (values e calls) end (calls_go_on e table m le calls (fresh_memory (unit_image e)) replies (first_room e) all some))
      (cases_lt (call_steps e) m);
}
