use Rattle.std.proofs.Common.{◌+◌, ◌*◌, length}
use Rattle.es_marks.proofs.method_functions.HeldFunctions.+held.Given as goal

abbrev pub decreases-held_by : goal.decreases-held_by
decreases-held_by l = 2 * length l.later.now + 1

abbrev pub decreases-held_from : goal.decreases-held_from
decreases-held_from l = 2 * length l.rest.now + 2
