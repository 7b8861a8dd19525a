use Rattle.std.proofs.Common.{◌≡◌, ◌+◌, ◌-◌, ◌≤◌, ◌<◌, ◌∷◌, true, false, length, drop, take, Some, None, sym, ap, ◌∙◌, subst, arith}
use Rattle.std.specs.Prelude.{slice_index, Err}
use Rattle.qv_base.specs.Place.{capped}
use Rattle.pp_tok.specs.Pieces.{piece_at}
use Rattle.pp_tok.specs.Lines.{on_ok, lines_behind, with_token, token_of}
use Rattle.pp_tok.specs.Reading.{part_at}
use Rattle.pp_tok.specs.Unclosed.{AreUnclosed}
use Rattle.pp_tok.proofs.Open.{unclosed_later}
use Rattle.pp_tok.proofs.Behind.{open_on, blank_on, end_on, token_on, last_on, next_is, index_of}
use Rattle.pp_tok.proofs.lines.read_line.Goals as goal
use Rattle.pp_tok.proofs.lines.read_line.Goals.{in-Blank, in-Token+in_ok-token-in-Token+in_ok-push-in-Token}

pub returns-in_default-clause-reads : goal.returns-in_default-clause-reads
returns-in_default-clause-reads c = λ cs are.
    let text = c.args.chars.now.text.items in
    let at = c.loop-at.at in
    let state = c.loop-at.part.state in
    let lt : at < length text = omega arith in
    let is : piece_at state (slice_index text at) (drop (at + 1) text) ≡ None =
    ap (λ t. piece_at state (slice_index t at) (drop (at + 1) t)) (sym c.deref.ensures.value) ∙ sym c.piece_at.ensures.piece ∙ c.in_default.is in
    let line = c.index.ensures ∙ index_of c.args.chars.now.lines.items at c.index.result.now (omega arith) in
    sym (c.loop-at.invariant.reads cs are) ∙ open_on c.args.file c.args.chars.now cs are c.loop-at.part at lt is ∙ ap (λ n. Err n) (sym line)

pub returns-in-LineEnd-clause-reads : goal.returns-in-LineEnd-clause-reads
returns-in-LineEnd-clause-reads c = λ cs are.
    let text = c.args.chars.now.text.items in
    let at = c.loop-at.at in
    let file = c.args.file in
    let part = c.loop-at.part in
    let piece = c.in-Some.piece in
    let lt : at < length text = omega arith in
    let is : piece_at part.state (slice_index text at) (drop (at + 1) text) ≡ Some piece =
    ap (λ t. piece_at part.state (slice_index t at) (drop (at + 1) t)) (sym c.deref.ensures.value) ∙ sym c.in-Some.ensures.piece in
    let line = c.index-in-LineEnd.ensures ∙ index_of c.args.chars.now.lines.items at c.index-in-LineEnd.result.now (omega arith) in
    let number : c.next_line.result.number ≡ capped (slice_index c.args.chars.now.lines.items at + 1) = c.next_line.ensures.number ∙ ap (λ n. capped (n + 1)) line in
    let next = next_is file cs c.next_line.result (at + piece.length) (capped (slice_index c.args.chars.now.lines.items at + 1)) c.next_line.ensures.at number c.next_line.ensures.state in
    sym (c.loop-at.invariant.reads cs are) ∙ end_on file c.args.chars.now cs are part at lt piece is c.in-Some.ensures.some c.in-LineEnd.is
    ∙ ap (on_ok (λ ls. part.line ∷ ls)) (next ∙ ap (λ s. lines_behind file 0 false (part_at s) (drop s.at cs)) (sym c.finish.ensures.next))
    ∙ ap (λ l. on_ok (λ ls. l ∷ ls) (lines_behind file 0 false (part_at c.finish.result.next) (drop c.finish.result.next.at cs))) (sym c.finish.ensures.line)

pub returns-clause-reads : goal.returns-clause-reads
returns-clause-reads c = λ cs are.
    let at = c.loop-at.at in
    let file = c.args.file in
    let part = c.loop-at.part in
    let le : length c.args.chars.now.text.items ≤ at = omega arith in
    let place : drop at cs ≡ drop c.finish-2.result.next.at cs = ap (λ n. drop n cs) (sym (ap (λ s. s.at) c.finish-2.ensures.next ∙ c.next_line-2.ensures.at)) in
    sym (c.loop-at.invariant.reads cs are) ∙ last_on file c.args.chars.now cs are at le part (part_at c.finish-2.result.next)
    ∙ ap (λ l. on_ok (λ ls. part.line ∷ ls) (lines_behind file 0 false (part_at c.finish-2.result.next) l)) place
    ∙ ap (λ l. on_ok (λ ls. l ∷ ls) (lines_behind file 0 false (part_at c.finish-2.result.next) (drop c.finish-2.result.next.at cs))) (sym c.finish-2.ensures.line)

pub loop-at-preserved : goal.loop-at-preserved
loop-at-preserved c =
    let text = c.args.chars.now.text.items in
    let at = c.loop-at.at in
    let file = c.args.file in
    let part = c.loop-at.part in
    let piece = c.in-Some.piece in
    let lt : at < length text = omega arith in
    let is : piece_at part.state (slice_index text at) (drop (at + 1) text) ≡ Some piece =
    ap (λ t. piece_at part.state (slice_index t at) (drop (at + 1) t)) (sym c.deref.ensures.value) ∙ sym c.in-Some.ensures.piece in
    record {
      low = omega arith;
      known = unclosed_later c.piece_at.new.unclosed (at + 1) (at + piece.length) text (subst (λ t. AreUnclosed c.piece_at.new.unclosed (at + 1) t) c.deref.ensures.value c.in-Some.ensures.known) (omega (arith, c.in-Some.ensures.some));
      reads = λ cs are. elim c.match-piece.branch [
        | in-Blank w ↦
            ap (λ p. lines_behind file 0 true p (drop (at + piece.length) cs)) w.part-is
            ∙ sym (blank_on file c.args.chars.now cs are part at lt piece is c.in-Some.ensures.some w.in-Blank.is) ∙ c.loop-at.invariant.reads cs are
        | in-Token+in_ok-token-in-Token+in_ok-push-in-Token w ↦
            let line = w.index-in-Token.ensures ∙ index_of c.args.chars.now.lines.items at w.index-in-Token.result.now (omega arith) in
            let spelling : take (at + piece.length - at) (drop at w.deref-in-Token.result.now) ≡ take piece.length (drop at text) =
            let count : at + piece.length - at ≡ piece.length = omega arith in ap (λ n. take n (drop at w.deref-in-Token.result.now)) count ∙ ap (λ t. take piece.length (drop at t)) w.deref-in-Token.ensures.value in
            let kind = w.in-Token.kind in
            let token = w.in_ok-token-in-Token.ensures ∙ ap (λ n. token_of file part kind n (take (at + piece.length - at) (drop at w.deref-in-Token.result.now))) line
            ∙ ap (token_of file part kind (slice_index c.args.chars.now.lines.items at)) spelling in
            ap (λ p. lines_behind file 0 true p (drop (at + piece.length) cs)) (w.part-is ∙ w.in_ok-push-in-Token.ensures ∙ ap (with_token part) token)
            ∙ sym (token_on file c.args.chars.now cs are part at lt piece is c.in-Some.ensures.some kind w.in-Token.is) ∙ c.loop-at.invariant.reads cs are
      ];
    }
