-- A log that keeps one more call.
use Rattle.std.proofs.Common.{◌≡◌, ℕ, ◌+◌, ◌≤◌, List, [], ◌∷◌, ◌++◌, length, take, drop, map, refl, sym, ap, ◌∙◌, subst, zero-add, arith}
use Rattle.std.specs.List.{All, sum_by}
use Rattle.std.proofs.lemmas.List.{map_push, append_assoc, drop_at, take_at, take_all, length-append, length-drop, drop-append-le, take-append-le}
use Rattle.std.proofs.lemmas.List.Elements.{All-head, All-tail, All-push, All-weaker}
use Rattle.std.proofs.lemmas.List.Sums.{sum_by_push}
use Rattle.qv_outside.specs.Event.{Event, text_bytes}
use Rattle.qv_outside.specs.Hosts.{event_of}
use Rattle.qv_outside.specs.KeptCall.{event_in, IsInside}
use Rattle.qv_outside.specs.declared.call_log.KeptCall.{KeptCall}
use Rattle.qv_outside.specs.declared.host.TrapCall.{TrapCall}

first_kept : (texts a b : List ℕ) → take (length a) (drop (length texts) ((texts ++ a) ++ b)) ≡ a
first_kept texts a b = ap (λ (x : List ℕ). take (length a) (drop (length texts) x)) (append_assoc texts a b) ∙ ap (λ (x : List ℕ). take (length a) x) (drop_at texts (a ++ b) (length texts) refl) ∙ take_at a b (length a) refl

second_kept : (texts a b : List ℕ) → take (length b) (drop (length texts + length a) ((texts ++ a) ++ b)) ≡ b
second_kept texts a b = ap (λ (x : List ℕ). take (length b) x) (drop_at (texts ++ a) b (length texts + length a) (length-append texts a)) ∙ take_all (length b) b (omega arith)

-- a call as it is kept where so many bytes of texts stand before its own
abbrev pub kept : TrapCall → ℕ → KeptCall
kept c from = record { number = c.number; ints = c.ints; int_count = c.int_count; from = from; first_len = length c.first.now; second_len = length c.second.now; input_count = c.input_count; out_len = c.out_len }

-- its event is that of the call
event_kept : (c : TrapCall) (texts : List ℕ) → event_in ((texts ++ c.first.now) ++ c.second.now) (kept c (length texts)) ≡ event_of c
event_kept c texts =
    let E : List ℕ → List ℕ → Event = λ a b. record { number = c.number; ints = take c.int_count c.ints; inputs = take c.input_count (a ∷ b ∷ []); out_len = c.out_len } in
    ap (λ a. E a (take (length c.second.now) (drop (length texts + length c.first.now) ((texts ++ c.first.now) ++ c.second.now)))) (first_kept texts c.first.now c.second.now) ∙ ap (λ b. E c.first.now b) (second_kept texts c.first.now c.second.now)

piece_stays : (texts more : List ℕ) (from len : ℕ) → from + len ≤ length texts → take len (drop from (texts ++ more)) ≡ take len (drop from texts)
piece_stays texts more from len h = ap (λ (x : List ℕ). take len x) (drop-append-le from texts more (omega arith)) ∙ take-append-le len (drop from texts) more (omega (arith, length-drop from texts))

event_stays : (c : KeptCall) (texts more : List ℕ) → IsInside (length texts) c → event_in (texts ++ more) c ≡ event_in texts c
event_stays c texts more h =
    let E : List ℕ → List ℕ → Event = λ a b. record { number = c.number; ints = take c.int_count c.ints; inputs = take c.input_count (a ∷ b ∷ []); out_len = c.out_len } in
    ap (λ a. E a (take c.second_len (drop (c.from + c.first_len) (texts ++ more)))) (piece_stays texts more c.from c.first_len (omega arith)) ∙ ap (λ b. E (take c.first_len (drop c.from texts)) b) (piece_stays texts more (c.from + c.first_len) c.second_len h)

-- the events of the calls before it stay
events_stay : (cs : List KeptCall) (texts more : List ℕ) → All (IsInside (length texts)) cs → map (event_in (texts ++ more)) cs ≡ map (event_in texts) cs
events_stay [] texts more h = refl
events_stay (c ∷ cs) texts more h = ap (λ e. e ∷ map (event_in (texts ++ more)) cs) (event_stays c texts more (All-head (IsInside (length texts)) c cs h)) ∙ ap (λ (es : List Event). event_in texts c ∷ es) (events_stay cs texts more (All-tail (IsInside (length texts)) c cs h))

-- one more call behind them
pub log_grows : (calls calls2 : List KeptCall) (texts texts1 texts2 : List ℕ) (from : ℕ) (c : TrapCall) → from ≡ length texts → texts1 ≡ texts ++ c.first.now → texts2 ≡ texts1 ++ c.second.now → calls2 ≡ calls ++ kept c from ∷ [] → All (IsInside from) calls → map (event_in texts2) calls2 ≡ map (event_in texts) calls ++ event_of c ∷ []
log_grows calls calls2 texts texts1 texts2 from c n t1 t2 grown inside =
    let all = (texts ++ c.first.now) ++ c.second.now in
    let P : ℕ → Type 0 = λ m. All (IsInside m) calls in
    let last : event_in all (kept c from) ≡ event_of c = ap (λ m. event_in all (kept c m)) n ∙ event_kept c texts in
    let before : map (event_in all) calls ≡ map (event_in texts) calls = ap (λ (x : List ℕ). map (event_in x) calls) (append_assoc texts c.first.now c.second.now) ∙ events_stay calls texts (c.first.now ++ c.second.now) (subst P n inside) in
    ap (λ (x : List ℕ). map (event_in x) calls2) (t2 ∙ ap (λ (x : List ℕ). x ++ c.second.now) t1)
    ∙ ap (map (event_in all)) grown
    ∙ map_push (event_in all) calls (kept c from)
    ∙ ap (λ (es : List Event). es ++ event_in all (kept c from) ∷ []) before
    ∙ ap (λ e. map (event_in texts) calls ++ e ∷ []) last

pub inside_grows : (calls calls2 : List KeptCall) (from len : ℕ) (c : TrapCall) → calls2 ≡ calls ++ kept c from ∷ [] → len ≡ from + length c.first.now + length c.second.now → All (IsInside from) calls → All (IsInside len) calls2
inside_grows calls calls2 from len c grown n inside =
    let P : List KeptCall → Type 0 = λ cs. All (IsInside len) cs in
    subst P (sym grown) (All-push (IsInside len) calls (kept c from) (All-weaker (IsInside from) (IsInside len) (λ k h. omega (arith, h)) calls inside) (omega arith))

pub bytes_grow : (es : List Event) (e : Event) → text_bytes (es ++ e ∷ []) ≡ text_bytes es + text_bytes (e ∷ [])
bytes_grow es e = sum_by_push (λ (x : Event). sum_by length x.inputs) es e ∙ ap (λ n. text_bytes es + n) (sym (zero-add (sum_by length e.inputs)))
