-- What a call of a host that never fails and tells nothing tells.
use Rattle.std.proofs.Common.{Ok, Err, refl}
use Rattle.std.specs.Prelude.{None, Result, IsOk, OnErr}
use Rattle.qv_outside.specs.Event.{Event}
use Rattle.qv_outside.specs.Hosts.{AskedFor, Replied}
use Rattle.qv_outside.specs.declared.host.TrapReply.{TrapReply}
use Rattle.qv_outside.specs.declared.host.HostFailed.{HostFailed}
use Rattle.std.proofs.Common.{List, ℕ}

pub asked_none : (e : Event) (r : Result TrapReply HostFailed) → IsOk r → AskedFor None None e r
asked_none e (Ok reply) h = refl
asked_none e (Err f) h = cc

pub replied_none : (out : List ℕ) (r : Result TrapReply HostFailed) → IsOk r → Replied None None out r
replied_none out (Ok reply) h = refl
replied_none out (Err f) h = refl

pub not_failed : (P : Type 0) (r : Result TrapReply HostFailed) → IsOk r → OnErr r P
not_failed P (Ok reply) h = tt
not_failed P (Err f) h = cc
