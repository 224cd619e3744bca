use Rattle.std.proofs.Common.{ℕ, List}
use Rattle.es_meanings.proofs.Seeking.{Sought}
use Rattle.es_meanings.specs.Means.{AreEntries}
use Rattle.es_steps.specs.Entries as spec
use Rattle.es_meanings.proofs.part.entry_at.Given as goal

abbrev pub invariant-loop-entry : goal.invariant-loop-entry
invariant-loop-entry l = (es : List (ℕ × spec.Entry)) → AreEntries l.entries es → Sought l.number l.entry-index l.entries es
