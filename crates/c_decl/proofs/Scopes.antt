-- What scopes declare.
use Rattle.std.proofs.Common.{◌≡◌, []}
use Rattle.std.proofs.Math.Seq.{drop-length}
use Rattle.c_decl.specs.State.{State, declared_since}

-- nothing is declared between a state and itself
pub none_since : (S : State) → declared_since S S ≡ []
unfolding declared_since
none_since S = drop-length S.names
