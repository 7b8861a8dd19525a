use Rattle.std.proofs.Common.{◌≡◌, ◌++◌, slice_set, ap, ◌∙◌, List}
use Rattle.pp_tok.specs.declared.token.PpTok.{PpTok}
use Rattle.pp_macro.proofs.Fills.{joined_is}
use Rattle.pp_macro.proofs.paste.joined.Goals as goal

pub returns : goal.returns
returns c =
    let all : c.append.new.self ≡ c.pop.new.self ++ slice_set c.args.right 0 c.in_ok-made.made = c.in_ok-append.ensures ∙ ap (λ (ts : List PpTok). c.pop.new.self ++ ts) c.set.ensures in
    rw all (joined_is c.args.at c.args.paste.now c.args.left c.pop.new.self c.args.right c.pop.result c.in-Some.first.now c.in_ok-made.made c.pop.ensures c.in-Some.ensures.value c.in_ok-made.ensures)
