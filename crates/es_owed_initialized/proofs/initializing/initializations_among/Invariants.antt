use Rattle.std.proofs.Common.{◌≡◌, ◌++◌, drop}
use Rattle.std.specs.Str.{chars}
use Rattle.es_binding_faults.specs.Seen.{seen}
use Rattle.es_owed_initialized.specs.Initial.{pairs_of}
use Rattle.es_lowered.specs.Lowered.{initializations}
use Rattle.es_owed_initialized.proofs.initializing.initializations_among.Given as goal

abbrev pub invariant-loop-node : goal.invariant-loop-node
invariant-loop-node l =
    let of = initializations l.names.first l.names.ledger.now l.names.lowered.now.program.now (chars l.name) l.kind in
    pairs_of l.found.items ++ of (seen (drop l.node-index l.nodes)) ≡ of (seen l.nodes)
