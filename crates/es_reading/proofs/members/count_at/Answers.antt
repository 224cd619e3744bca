use Rattle.std.proofs.Common.{rules, refl}
use Rattle.es_reading.proofs.Counts.{counted}
use Rattle.es_reading.proofs.members.count_at.Goals as goal

pub returns-in-Some : goal.returns-in-Some
returns-in-Some c = counted c.as_slice.result.now _ _ (search rules) refl
