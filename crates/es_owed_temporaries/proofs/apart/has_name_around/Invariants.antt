use Rattle.std.proofs.Common.{◌≡◌, drop}
use Rattle.std.specs.Str.{chars}
use Rattle.es_binding_faults.specs.Seen.{seen}
use Rattle.es_lowered.specs.Temporaries.{has_name_around}
use Rattle.es_owed_temporaries.proofs.apart.has_name_around.Given as goal

abbrev pub invariant-loop-entry : goal.invariant-loop-entry
invariant-loop-entry l = has_name_around (seen l.lowered.nodes.items) l.class (chars l.name) (drop l.entry-index l.ledger) ≡ has_name_around (seen l.lowered.nodes.items) l.class (chars l.name) l.ledger
