use Rattle.std.proofs.Common.{◌≡◌, drop}
use Rattle.es_binding_faults.specs.Seen.{seen}
use Rattle.es_lowered.specs.Lowered.{any_before}
use Rattle.es_owed_initialized.specs.Initial.{pairs_of}
use Rattle.es_owed_initialized.proofs.keys.any_before.Given as goal

abbrev pub invariant-loop-one : goal.invariant-loop-one
invariant-loop-one l = any_before (pairs_of (drop l.one-index l.found)) l.class (seen l.names.lowered.now.nodes.items) ≡ any_before (pairs_of l.found) l.class (seen l.names.lowered.now.nodes.items)
