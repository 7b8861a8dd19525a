-- A `&` to a region is made where one to its bytes is. Assumes `Logic`.
use Rattle.std.proofs.Common.{length}
use base.Fraction.{full_share}
use denote.Array.{Array, Array-row_laws}
use denote.Builtin.{u8}
use denote.Copied.{uint_Copied}
use denote.Param.Shared.{copy_shared}
use denote.Plain.{uint_row_laws}
use denote.Shares.{Shares-Array}
use denote.Struct.Field.{RawPtr-field}
use denote.Struct.Laws.{RawPtr-copy}
use denote.Struct.Lending.{lent_at_shr_laws, Lends-lies, of_Lends}
use mir.Syntax.{w8}
use Rattle.masked_mem.specs.contracts.region.Region as C
use Rattle.masked_mem.proofs.region.Region.TheLaw.Statement.{statement}

pub shares : statement
shares = of_Lends C.struct C.the_codes C.the_heap C.the_lent (λ d p. lent_at_shr_laws (Array u8 (length d.bytes)) (Array-row_laws u8 (uint_row_laws w8) (length d.bytes)) d.at d.bytes) (copy_shared RawPtr-field RawPtr-copy, tt)
    (λ M 𝓤 𝓛 d p. let l = (C.the_row).lives in let n = length d.bytes in
    Lends-lies 𝓛 (Array u8 n) l d.at d.bytes (Shares-Array 𝓛 u8 tt n l ((uint_Copied 𝓛 w8).shares full_share l) d.bytes))
