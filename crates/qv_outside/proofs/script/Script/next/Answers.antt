use Rattle.std.proofs.Common.{◌≡◌, ℕ, ◌<◌, List, length, get_or, take, drop, min, ap, ◌∙◌, refl, arith, rules}
use Rattle.std.proofs.lemmas.List.{length-map}
use Rattle.std.specs.Global.{Vec}
use Rattle.qv_outside.specs.Event.{Reply}
use Rattle.qv_outside.specs.Script.{replies_in}
use Rattle.qv_outside.proofs.Scripts.{reply_at, bytes_given, bytes_cut, gives_more, gives_next, reply_with}
use Rattle.qv_outside.proofs.script.Script.next.Goals as goal

pub returns-clause-given : goal.returns-clause-given
returns-clause-given c =
    let s = c.args.self.now in
    let x = c.index.result.now in
    let used = c.min-used.result in
    let r : Reply = record { word = x.0; bytes = x.1.items } in
    let place : c.len-place.result ≡ length s.given.items = search rules in
    let lt : length s.given.items < length s.replies.items = omega (arith, s.given.ok.0, s.replies.ok.0) in
    let is : x ≡ get_or s.replies.items (length s.given.items) x = c.index.ensures ∙ ap (λ n. get_or s.replies.items n x) place in
    let copied : c.copy_from_slice.new.self ≡ take used x.1.items = c.copy_from_slice.ensures.after ∙ ap (λ (bytes : List ℕ). take used bytes) c.deref.ensures.value in
    let least : used ≡ min (length c.args.out.now) (length x.1.items) = search rules in
    let given = bytes_given x.1.items c.copy_from_slice.new.self (drop used c.args.out.now) used copied (omega arith) in
    gives_more (replies_in s.replies.items) s.given.items c.push_reserved.new.self.items used r _ c.push_reserved.ensures.items (omega (arith, length-map {A = ℕ × Vec ℕ} {B = Reply})) (reply_at s.replies.items (length s.given.items) x r lt is refl) (ap (reply_with x.0) given)

pub returns-clause-next : goal.returns-clause-next
returns-clause-next c =
    let s = c.args.self.now in
    let x = c.index.result.now in
    let used = c.min-used.result in
    let r : Reply = record { word = x.0; bytes = x.1.items } in
    let place : c.len-place.result ≡ length s.given.items = search rules in
    let lt : length s.given.items < length s.replies.items = omega (arith, s.given.ok.0, s.replies.ok.0) in
    let is : x ≡ get_or s.replies.items (length s.given.items) x = c.index.ensures ∙ ap (λ n. get_or s.replies.items n x) place in
    let copied : c.copy_from_slice.new.self ≡ take used x.1.items = c.copy_from_slice.ensures.after ∙ ap (λ (bytes : List ℕ). take used bytes) c.deref.ensures.value in
    let least : used ≡ min (length c.args.out.now) (length x.1.items) = search rules in
    let given = bytes_given x.1.items c.copy_from_slice.new.self (drop used c.args.out.now) used copied (omega arith) in
    gives_next (replies_in s.replies.items) s.given.items c.push_reserved.new.self.items used (length c.args.out.now) r _ c.push_reserved.ensures.items (omega (arith, length-map {A = ℕ × Vec ℕ} {B = Reply})) (reply_at s.replies.items (length s.given.items) x r lt is refl) (ap (reply_with x.0) (given ∙ bytes_cut x.1.items used (length c.args.out.now) least))
