use Rattle.std.proofs.Common.{rules}
use Rattle.es_reading.proofs.Counts.{full}
use Rattle.es_reading.proofs.members.is_list_of_some.Goals as goal

pub returns-in-Some : goal.returns-in-Some
returns-in-Some c place = full c.as_slice.result.now c.is_empty.result _ (search rules) c.is_empty.ensures
