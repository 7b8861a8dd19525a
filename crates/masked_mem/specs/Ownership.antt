-- Who owns the bytes of a region, and the right to give them back. p is where they lie.
use Rattle.std.specs.Prelude.{ℕ, ◌/◌, List, length}
use Rattle.std.specs.Borrow.{Array, Fml, full_share, fsep, lent_at, u8}
use Rattle.std.specs.Ptr.{Ptr, lies_at, room_for}
use base.Fml.{Lft, fwand}
use mir.Syntax.{Ty, w8, w32, ty_int, ty_array}

-- the types of memory for n bytes, and for as many as words, which is aligned to one
abbrev pub bytes_of : ℕ → Ty
bytes_of n = ty_array (ty_int w8) n

abbrev pub words_of : ℕ → Ty
words_of n = ty_array (ty_int w32) (n / 4)

-- these bytes lie at p, and to read them
abbrev pub region_owns : Ptr → List ℕ → Fml
region_owns p bytes = lies_at (Array u8 (length bytes)) full_share p bytes

abbrev pub region_shares : Ptr → List ℕ → Lft → Fml
region_shares p bytes = lent_at (Array u8 (length bytes)) p bytes

-- room for n bytes at p makes that for the words that were asked for, which may go back
abbrev pub lease_owns : (Ty → Ptr → Fml) → Ptr → ℕ → Fml
lease_owns token p n = fsep (fwand (room_for (bytes_of n) p) (room_for (words_of n) p)) (token (words_of n) p)
