-- The program's tables by what they say. No public clause names it.
use Rattle.std.specs.Prelude.{ℕ, List}
use denote.Ref.{Bor}
use Rattle.pp_tok.specs.declared.token.PpTok.{PpTok}
use Rattle.pp_dir.specs.declared.definition.Params.{Params}
use Rattle.pp_dir.specs.declared.settle.Asked.{Asked}
use Rattle.pp_dir.specs.declared.header.Wanted.{Wanted as Lent}
use Rattle.pp_dir.specs.Forms.{Wanted}

abbrev pub named_op : {A : Type 0} → Bor (List ℕ) × A → List ℕ × A
named_op op = (op.0.now, op.1)

abbrev pub name_of : Bor (List ℕ) → List ℕ
name_of name = name.now

abbrev pub params_shown : Params → List (List ℕ) × List PpTok
params_shown p = (p.names, p.body.now)

abbrev pub asked_shown : Asked → List ℕ × ℕ
asked_shown a = (a.name.now, a.taken)

abbrev pub wanted_shown : Lent → Wanted
wanted_shown w = record { name = w.name.now; near = w.near }
