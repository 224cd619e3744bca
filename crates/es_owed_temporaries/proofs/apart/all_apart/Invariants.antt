use Rattle.std.proofs.Common.{◌≡◌, drop}
use Rattle.es_binding_faults.specs.Seen.{seen}
use Rattle.es_lowered.specs.Temporaries.{all_apart}
use Rattle.es_owed_temporaries.proofs.apart.all_apart.Given as goal

abbrev pub invariant-loop-entry : goal.invariant-loop-entry
invariant-loop-entry l = all_apart (seen l.lowered.nodes.items) l.ledger (drop l.entry-index l.entries) ≡ all_apart (seen l.lowered.nodes.items) l.ledger l.entries
