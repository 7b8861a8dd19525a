-- Types and tags as the definitions speak of them (ANSI C X3.159-1989, 3.1.2.5 and 3.5.2).
use Rattle.std.specs.Prelude.{ℕ, Bool, List, Option}
use Rattle.c_type.specs.declared.kind.IntKind.{IntKind}
use Rattle.c_type.specs.declared.tags.TagKind.{TagKind}

mutual
  -- a record and an enumeration are the number of their tag
  pub data CType : Type 0 where
    void : CType
    int : IntKind → CType
    pointer : CType → CType
    -- the count of elements is None where it isn't known
    array : CType → Option ℕ → CType
    function : Shape → CType
    struct : ℕ → CType
    enum : ℕ → CType

  -- the type of the result, those of the parameters, and whether more arguments may follow
  pub data Shape : Type 0 where
    shape : CType → CTypes → Bool → Shape

  pub data CTypes : Type 0 where
    no_types : CTypes
    and_type : CType → CTypes → CTypes

pub record Member : Type 0 where
  pub name : List ℕ
  pub type_of : CType

-- What a tag stands for. The name is None where none was written. A record has no members while it is incomplete, and
-- an enumeration never has any.
pub record Tag : Type 0 where
  pub kind : TagKind
  pub name : Option (List ℕ)
  pub members : Option (List Member)

-- the tags of a unit, each with its place as its number
abbrev pub Tags : Type 0
Tags = List Tag
