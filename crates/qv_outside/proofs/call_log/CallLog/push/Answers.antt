use Rattle.std.proofs.Common.{◌≡◌, ◌++◌, ◌∷◌, [], map, vec_len, ap, ◌∙◌, arith, rules}
use Rattle.std.proofs.lemmas.List.{length-map}
use Rattle.qv_outside.specs.Hosts.{event_of}
use Rattle.qv_outside.specs.Event.{text_bytes}
use Rattle.qv_outside.specs.KeptCall.{event_in}
use Rattle.qv_outside.specs.CallLog.{events_in}
use Rattle.qv_outside.proofs.Logs.{log_grows, inside_grows, bytes_grow}
use Rattle.qv_outside.proofs.call_log.CallLog.push.Goals as goal

pub returns-clause-events : goal.returns-clause-events
returns-clause-events c = log_grows _ _ _ _ _ _ c.args.call.now (search rules) c.append.ensures.items c.append-2.ensures.items c.push_reserved.ensures.items (search rules)

pub invariant_of-self : goal.invariant_of-self
invariant_of-self c =
    let calls = c.args.self.now.calls in
    let texts = c.args.self.now.texts in
    let events : map (event_in c.append-2.new.texts.items) c.push_reserved.new.self.items ≡ events_in c.args.self.now ++ event_of c.args.call.now ∷ [] = log_grows _ _ _ _ _ _ c.args.call.now (search rules) c.append.ensures.items c.append-2.ensures.items c.push_reserved.ensures.items (search rules) in
    let more = bytes_grow (events_in c.args.self.now) (event_of c.args.call.now) in
    record {
      inside = inside_grows calls.items _ (vec_len texts) _ c.args.call.now (search rules) (search rules) (search rules);
      counted = ap text_bytes events ∙ more ∙ (omega arith);
      calls_fit = omega (arith, calls.ok.0, length-map calls.items (event_in texts.items));
      texts_fit = omega arith;
      calls_reserved = omega arith;
      texts_reserved = omega arith;
    }
