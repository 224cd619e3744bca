use Rattle.std.proofs.Common.{◌≡◌, false, drop}
use Rattle.es_lowered.specs.Lowered.{same_subject}
use Rattle.es_owed_names.specs.Single.{another}
use Rattle.es_owed_names.proofs.single.stands_twice.Given as goal

abbrev pub invariant-loop-other : goal.invariant-loop-other
invariant-loop-other l = another (same_subject l.kind) l.found (drop l.other-index l.others) ≡ another (same_subject l.kind) false l.others
