-- A function value that reads what is less deep than a number. No public clause names it.
use Rattle.std.specs.Prelude.{ℕ, List, Option}
use denote.Ref.{MutBor}
use Rattle.pp_tok.specs.declared.token.PpTok.{PpTok}
use Rattle.pp_dir.specs.declared.part.Part.{Part}
use Rattle.pp_dir.specs.declared.worth.Worth.{Worth}
use Rattle.pp_dir.specs.Reading.{part}
use Rattle.pp_dir.specs.Worth.{Reads}

pub record Nests (depth : ℕ) (pre : MutBor (List PpTok) → ℕ → Part → Type 0)
    (post : MutBor (List PpTok) → ℕ → Part → Option Worth → MutBor (List PpTok) → Type 0) : Type 0 where
  pub callable : (old : MutBor (List PpTok)) (p : Part) → pre old depth p
  pub reads : (old new : MutBor (List PpTok)) (p : Part) (result : Option Worth) → post old depth p result new → Reads (part depth p old.now) result new.now
