-- What a region ends as where its bytes were lent.
use Rattle.std.specs.Prelude.{ℕ, List}
use Rattle.std.specs.Borrow.{Array, Fml, Lends, MutBor, u8}
use Rattle.masked_mem.specs.declared.region.Region.{Region}
use Rattle.masked_mem.specs.contracts.region.Region.{the_row}

-- the region with other bytes
abbrev pub with_bytes : Region → List ℕ → Region
with_bytes region bytes = record region { bytes = bytes }

-- it ends with the last bytes behind r
abbrev pub LendsBytes : MutBor Region → MutBor (List ℕ) → Fml
LendsBytes region r = Lends the_row (Array u8 0) region r (with_bytes region.now)
