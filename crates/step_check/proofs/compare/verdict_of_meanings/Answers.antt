use Rattle.std.proofs.Common.{refl, sym, ap, Some}
use Rattle.step_check.proofs.compare.verdict_of_meanings.Goals as goal

pub returns-in-None : goal.returns-in-None
returns-in-None c = λ a b x y. record { meaning = a; left = refl; right = ap Some (sym (c.in-None.ensures a b x y)) }
