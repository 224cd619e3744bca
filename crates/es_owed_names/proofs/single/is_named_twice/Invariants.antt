use Rattle.std.proofs.Common.{◌≡◌, false, drop}
use Rattle.es_generated.specs.Spellings.{entries_of}
use Rattle.es_owed_names.specs.Single.{another, same_name}
use Rattle.es_owed_names.proofs.single.is_named_twice.Given as goal

abbrev pub invariant-loop-other : goal.invariant-loop-other
invariant-loop-other l = another (same_name l.entry) l.found (entries_of (drop l.other-index l.others)) ≡ another (same_name l.entry) false (entries_of l.others)
