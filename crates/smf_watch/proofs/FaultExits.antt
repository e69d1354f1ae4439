-- A fault that a `?` passes on keeps what holds after it.
use Rattle.std.proofs.Common.{◌≡◌, Result, Ok, Err, IfErr, OnErr, sym, subst}
use Rattle.std.specs.Result.{IsErrAnd}
use Rattle.smf_node.specs.declared.fault.NodeFault.{NodeFault}

pub passed_on : {X : Type 0} (r : Result X NodeFault) (e : NodeFault) (P : NodeFault → Type 0) → IsErrAnd r (λ y. y ≡ e)
    → P e → IfErr r P
passed_on (Ok x) e P q p = tt
passed_on (Err y) e P q p = subst P (sym q) p

pub on_fault : {X E : Type 0} (r : Result X E) (P : Type 0) → P → OnErr r P
on_fault (Ok x) P p = tt
on_fault (Err y) P p = p
