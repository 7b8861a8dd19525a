use Rattle.std.proofs.Common.{rules, ◌≡◌, None, length, arith}
use Rattle.std.specs.FinMap as map
use Rattle.std.proofs.lemmas.List.{length_push}
use Rattle.asm_place.specs.Symbols.{key_of}
use Rattle.asm_link.proofs.Noting.{lookup_new, lookup_old, not_there, numbered_after, settled_push}
use Rattle.asm_link.proofs.naming.define.Goals as goal

pub invariant_of-names-2 : goal.invariant_of-names-2
invariant_of-names-2 c =
    let same : c.len-number.result ≡ length c.args.names.now.notes.items = search rules in
    record {
      numbered = rw c.in_ok-push.ensures.items (numbered_after c.args.names.now.symbols c.define.new.self c.args.names.now.notes.items c.args.noted c.args.names.now.numbered c.args.line.now.file c.args.name.now c.define.result (rw same at c.define.ensures.ok) c.define.ensures.err);
      settled = rw c.in_ok-push.ensures.items (settled_push c.args.names.now.first_waiting c.args.names.now.notes.items c.args.noted c.args.names.now.within c.args.names.now.settled);
      within = rw c.in_ok-push.ensures.items (omega (arith, c.args.names.now.within, length_push c.args.names.now.notes.items c.args.noted));
    }

pub returns-in-Ok : goal.returns-in-Ok
returns-in-Ok c = λ address file other.
    let same : c.len-number.result ≡ length c.args.names.now.notes.items = search rules in
    let absent : map.get c.args.names.now.symbols (key_of c.args.line.now.file c.args.name.now) ≡ None = not_there (map.get c.args.names.now.symbols (key_of c.args.line.now.file c.args.name.now)) c.define.result c.in-Ok.field-0 c.in-Ok.is c.define.ensures.redefined.1 in
    rw (c.in_ok-push.ensures.items, c.in-Ok.ensures.ok, same) (lookup_new c.args.names.now.symbols c.args.names.now.notes.items c.args.noted c.args.names.now.numbered c.args.line.now.file c.args.name.now absent address file other)

pub returns-in-Err-Redefined : goal.returns-in-Err-Redefined
returns-in-Err-Redefined c = λ address file other.
    rw (c.in_ok-push.ensures.items, c.in-Err-Redefined.ensures.err) (lookup_old c.args.names.now.symbols c.args.names.now.notes.items c.args.noted c.args.names.now.numbered c.args.line.now.file c.args.name.now (c.define.ensures.redefined.0 (cc)) address file other)
