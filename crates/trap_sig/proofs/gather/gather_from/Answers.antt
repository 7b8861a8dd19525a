use Rattle.std.proofs.Common.{◌≡◌, arith, rules}
use Rattle.std.specs.List.{zip}
use Rattle.trap_sig.specs.Gather.{output_of, length_asked}
use Rattle.trap_sig.specs.Inputs.{texts_of}
use Rattle.trap_sig.proofs.Shape.{all_stay, room_within}
use Rattle.trap_sig.proofs.HasShape.{has_shape, Holds}
use Rattle.trap_sig.proofs.gather.gather_from.Goals as goal

pub returns-in-Ok-clause-shape : goal.returns-in-Ok-clause-shape
returns-in-Ok-clause-shape c =
    let call = c.call_of-call.result in
    let h : Holds call c.args.block.now c.args.kinds.now c.args.words.now (texts_of c.in-Ok.inputs) = record {
      taken = search rules;
      zeros = search rules;
      long = search rules;
      gathered = search rules;
      lent = search rules;
      count = search rules;
      asked = search rules;
    } in
    has_shape _ _ _ _ _ c.requires.fits c.requires.same c.in-Ok.ensures.within h

pub returns-in-Ok-clause-room : goal.returns-in-Ok-clause-room
returns-in-Ok-clause-room c =
    let out : c.call_of-call.result.out_len ≡ length_asked c.args.words.now (output_of (zip c.args.kinds.now c.args.words.now)) = search rules in
    let args = zip c.args.kinds.now c.args.words.now in
    omega (arith, c.room-out_at.ensures.at, out, room_within c.args.block.now c.args.words.now args (all_stay c.args.block.now c.args.kinds.now c.args.words.now c.in-Ok.ensures.within))
