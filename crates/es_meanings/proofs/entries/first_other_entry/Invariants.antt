use Rattle.std.proofs.Common.{ℕ, List}
use Rattle.es_meanings.proofs.Reaching.{Reached}
use Rattle.es_meanings.specs.Means.{AreEntries}
use Rattle.es_steps.specs.Entries as spec
use Rattle.es_meanings.proofs.entries.first_other_entry.Given as goal

abbrev pub invariant-loop-i : goal.invariant-loop-i
invariant-loop-i l = (es gs : List (ℕ × spec.Entry)) → AreEntries l.left es → AreEntries l.right gs → Reached l.i l.left l.right es gs
