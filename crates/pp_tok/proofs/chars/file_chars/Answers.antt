use Rattle.std.proofs.Common.{◌≡◌, ◌+◌, ◌-◌, map, drop, take, subst, arith}
use Rattle.std.proofs.lemmas.List.{take_rest}
use Rattle.qv_base.specs.Place.{capped}
use Rattle.pp_tok.specs.Chars.{chars_from}
use Rattle.pp_tok.specs.CharVectors.{Adds, on_line}
use Rattle.pp_tok.proofs.Joins.{line_done, last_done}
use Rattle.pp_tok.proofs.chars.file_chars.Goals as goal

pub loop-feed-preserved : goal.loop-feed-preserved
loop-feed-preserved c =
    let bytes = c.args.bytes.now in
    let at = c.loop-feed.at in
    let feed = c.in-Some.feed in
    let next : c.saturating_add-number.result ≡ capped (c.loop-feed.number + 1) = c.saturating_add-number.ensures in
    record {
      within = omega (arith, c.in-Some.ensures.high);
      made =
          line_done c.loop-feed.chars c.push_line.new.self c.loop-feed.number c.saturating_add-number.result (drop at bytes) (take (feed - at) (drop at bytes)) (drop (feed + 1) bytes) (chars_from 1 bytes)
          c.in-Some.ensures.cut c.in-Some.ensures.before next c.loop-feed.invariant.made c.in_ok-push_line.ensures;
    }

pub returns : goal.returns
returns c =
    let bytes = c.args.bytes.now in
    let at = c.loop-feed.at in
    last_done c.loop-feed.chars c.push.new.self c.loop-feed.number (drop at bytes) (chars_from 1 bytes) c.in_default.ensures c.loop-feed.invariant.made
    (subst (λ r. Adds c.loop-feed.chars c.push.new.self (map (on_line c.loop-feed.number) r)) (take_rest bytes at) c.in_ok-push.ensures)
