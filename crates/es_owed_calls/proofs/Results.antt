-- What a call gives, where it gives something.
use Rattle.std.proofs.Common.{◌≡◌, ◌∙◌, Result, Ok, Err}
use Rattle.std.specs.Prelude.{IfOk}

pub IfOk-same : {T E X : Type 0} (r : Result T E) (value : T → X) (x y : X) → x ≡ y → IfOk r (λ v. value v ≡ x) → IfOk r (λ v. value v ≡ y)
IfOk-same (Ok v) value x y same h = h ∙ same
IfOk-same (Err e) value x y same h = tt
