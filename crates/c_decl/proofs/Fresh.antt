-- Names that aren't declared.
use Rattle.std.proofs.Common.{◌≡◌, ℕ, suc, ◌<◌, ◌≤◌, Bool, true, false, cond, List, [], ◌∷◌, ◌++◌, length, length-append, refl, ap, arith}
use Rattle.std.specs.Prelude.{◌||◌, not, fold}
use Rattle.std.specs.Str.{bytes_eq}
use Rattle.std.proofs.lemmas.Slice.Eq.{bytes_eq-Decides}
use Rattle.c_names.specs.declared.names.Declared.{Declared}
use Rattle.c_names.specs.Names.{is_typedef_name}
use Rattle.c_decl.specs.State.{State, is_type}

differs : (n m : List ℕ) → length m < length n → bytes_eq n m ≡ false
differs n m less = by (bytes_eq n m) refl where
  by : (b : Bool) → bytes_eq n m ≡ b → b ≡ false
  by true same = absurd (let e = ap length ((bytes_eq-Decides n m).0 same) in omega arith)
  by false other = refl

-- longer than each that is declared
long : List Declared → List ℕ
long [] = []
long (d ∷ ds) = 0 ∷ (d.name ++ long ds)

unknown : (n : List ℕ) (ds : List Declared) → length (long ds) ≤ length n → (known : Bool)
    → fold (λ known d. cond (bytes_eq n d.name) d.is_typedef known) known ds ≡ known
unfolding long
unknown n [] some known = refl
unknown n (d ∷ ds) some known =
    let l = length-append d.name (long ds) in
    let enough : suc (length (d.name ++ long ds)) ≤ length n = some in
    let e = differs n d.name (omega arith) in rw e (unknown n ds (omega arith) known)

pub fresh : State → List ℕ
fresh S = long S.names

pub fresh_is : (S : State) → is_type S (fresh S) ≡ false
unfolding is_type is_typedef_name fresh
fresh_is S = unknown (long S.names) S.names (omega arith) false

-- behind a type each name will do, and else one that names no type
pub fresh_named : (is_typed : Bool) (S : State) → is_typed || not (is_type S (fresh S)) ≡ true
fresh_named true S = refl
fresh_named false S = rw (fresh_is S) refl
