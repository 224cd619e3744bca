use Rattle.std.proofs.Common.{refl}
use Rattle.step_check.proofs.standing.standing_beside.Goals as goal

pub returns-in-Ok : goal.returns-in-Ok
returns-in-Ok c = λ ms is. record { value = ms; has = refl; is = record { members = is; tables = c.in-Ok.ensures } }
