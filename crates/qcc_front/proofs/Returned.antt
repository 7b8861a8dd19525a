-- One call of an image that follows a program whose call returns at once: it returns the same word, and
-- nothing outside is seen.
use Rattle.std.proofs.Common.{◌≡◌, ℕ, ◌+◌, ◌-◌, ◌*◌, ◌<◌, ◌≤◌, List, [], ◌∷◌, ◌++◌, length, refl, sym, ap, ◌∙◌, subst, arith}
use Rattle.std.specs.Prelude.{All}
use Rattle.std.proofs.lemmas.List.{append-nil}
use Rattle.std.proofs.lemmas.List.Elements.{All-cons}
use Rattle.qv_ops.specs.declared.instr.Instr.{Instr}
use Rattle.qv_image.specs.Image.{Qvm}
use Rattle.qv_outside.specs.Event.{Event, Reply, IsReply, host_events}
use Rattle.qv_outside.specs.Hosts.{Table}
use Rattle.vm_core.specs.declared.stop.Stop.TheVariants.{Returned}
use Rattle.vm_core.specs.Machine.{State, Step, step, Ending, Going, Stopped, End, runs, started, fresh_memory}
use Rattle.vm_core.specs.Calls.{CallsEnd, AllReturned, on_end, calls_run, image_run}
use Rattle.vm_core.specs.Ran.{Outside, Outcome, Ran}
use Rattle.vm_core.proofs.Runs.{runs_stays}
use Rattle.vm_core.proofs.CallLaws.{nothing_left, one_more, returned_not_ended}
use Rattle.vm_core.proofs.Loop.{ran_at}
use Rattle.vm_core.proofs.Replies.{answers_are_replies}
use Rattle.vm_core.proofs.Quiet.{IsQuiet, Unseen, unseen}
use Rattle.qcc_front.specs.Source.{SourceRun, SourceEnd, Done}
use Rattle.qcc_front.specs.Follows.{IsCall, EndsWith, Reaches, Follows}

-- a single call that has come returned its word
one_returned : (e : Ending) (es : List Event) (s : State) (l : List Reply) (go : List ℕ → List Reply → CallsEnd) (v : ℕ) → ((m : List ℕ) (k : List Reply) → go m k ≡ record { outcome = AllReturned; words = []; events = []; memory = m; left = k }) →
    EndsWith (on_end e es s l go) AllReturned [] → (on_end e es s l go).words ≡ v ∷ [] → (e ≡ Stopped (Returned v)) × (es ≡ [])
one_returned (Stopped (Returned w)) es s l go v last ends words =
    let here : w ∷ (go s.memory l).words ≡ w ∷ [] = ap (λ (x : CallsEnd). w ∷ x.words) (last s.memory l) in
    let same : w ∷ [] ≡ v ∷ [] = sym here ∙ words in
    let events : es ++ (go s.memory l).events ≡ es ++ [] = ap (λ (x : CallsEnd). es ++ x.events) (last s.memory l) in
    (cc, sym (append-nil es) ∙ sym events ∙ ends.events_are)
one_returned e es s l go v last ends words = absurd (returned_not_ended e (sym ends.outcome_is))

-- the run of the call ends so, with replies left
pub record Comes (f : State → Step) (n : ℕ) (s : State) (rs : List Reply) (v : ℕ) : Type 0 where
  pub state : State
  pub left : List Reply
  pub run_is : IsQuiet f n s rs (Stopped (Returned v)) state left

stopped_not_going : (v : ℕ) → Stopped (Returned v) ≡ Going → ⊥
stopped_not_going v e = cc

pub call_comes : (source : SourceRun) (z : Qvm) (table : Table) (args : List ℕ) (rs : List Reply) (v n : ℕ) → Follows source z → source table (args ∷ []) rs 0 ≡ Done (v ∷ []) [] → IsCall args → All IsReply rs → length z.code ≤ n →
    Comes (step z.code table) n (started (fresh_memory z) args) rs v
call_comes source z table args rs v n follows is call fit le =
    let f : State → Step = step z.code table in
    let i : ℕ = length z.code in
    let s : State = started (fresh_memory z) args in
    let one : length z.code * (0 + 1) ≡ i = omega arith in
    let some : 0 < length (args ∷ []) = omega arith in
    let calls : All IsCall (args ∷ []) = All-cons IsCall args [] call (λ k d lt. absurd (omega (arith, lt))) in
    let reached : Reaches (source table (args ∷ []) rs 0) (image_run z table (args ∷ []) rs (length z.code * (0 + 1))) = follows.reaches table (args ∷ []) rs 0 calls some fit in
    let x : End = runs f i s rs in
    let unrolled : image_run z table (args ∷ []) rs (length z.code * (0 + 1)) ≡ on_end x.ending x.events x.state x.left (λ m k. calls_run f i [] m k) =
    ap (λ k. calls_run f k (args ∷ []) (fresh_memory z) rs) one ∙ one_more f i args [] (fresh_memory z) rs in
    let R : SourceEnd → Type 0 = λ e. Reaches e (image_run z table (args ∷ []) rs (length z.code * (0 + 1))) in
    let M : CallsEnd → Type 0 = λ e. Reaches (Done (v ∷ []) []) e in
    let here : Reaches (Done (v ∷ []) []) (on_end x.ending x.events x.state x.left (λ m k. calls_run f i [] m k)) = subst M unrolled (subst R is reached) in
    let ended : (x.ending ≡ Stopped (Returned v)) × (x.events ≡ []) = one_returned x.ending x.events x.state x.left (λ m k. calls_run f i [] m k) v (λ m k. nothing_left f i m k) here.0 here.1 in
    let whole : runs f i s rs ≡ record { ending = Stopped (Returned v); events = []; state = x.state; left = x.left } =
    ap (λ e. record { ending = e; events = x.events; state = x.state; left = x.left }) ended.0 ∙ ap (λ es. record { ending = Stopped (Returned v); events = es; state = x.state; left = x.left }) ended.1 in
    let more : n ≡ i + (n - i) = omega arith in
    record { state = x.state; left = x.left; run_is = ap (λ k. runs f k s rs) more ∙ runs_stays f i (n - i) s rs (record { ending = Stopped (Returned v); events = []; state = x.state; left = x.left }) whole (stopped_not_going v) }

-- a call of the module with this image, code and state closes by returning v, and the outside is as it was
pub returned : (source : SourceRun) (z : Qvm) (code : List Instr) (table : Table) (args : List ℕ) (v n : ℕ) (s after : State) (old new : Outside) (close : Outcome) → Follows source z → ((rs : List Reply) → source table (args ∷ []) rs 0 ≡ Done (v ∷ []) []) → IsCall args →
    length z.code ≤ n → code ≡ z.code → s ≡ started (fresh_memory z) args → Ran (step code table) n s after old new close → (t : State) × Unseen (Stopped (Returned v)) t after old new close
returned source z code table args v n s after old new close follows is call le same_code same_state ran =
    let f : State → Step = step z.code table in
    let first : State = started (fresh_memory z) args in
    let S : State → Type 0 = λ t. Ran f n t after old new close in
    let here : Ran f n first after old new close = subst S same_state (ran_at {table = table} same_code refl ran) in
    let comes : Comes f n first here.replies v = call_comes source z table args here.replies v n follows (is here.replies) call (answers_are_replies (host_events here.events) here.replies here.answered) le in
    (comes.state, unseen f n first comes.state after old new (Stopped (Returned v)) comes.left close here comes.run_is)
