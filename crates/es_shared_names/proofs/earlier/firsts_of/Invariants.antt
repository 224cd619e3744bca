use Rattle.es_shared_names.proofs.Nearest.{AreFirsts}
use Rattle.es_shared_names.proofs.earlier.firsts_of.Given as goal

abbrev pub invariant-loop-name : goal.invariant-loop-name
invariant-loop-name l = AreFirsts l.firsts l.names l.name-index
