use Rattle.std.proofs.Common.{◌≡◌, ◌++◌, drop}
use Rattle.es_binding_faults.specs.Seen.{seen}
use Rattle.es_lowered.specs.Definitions as spec
use Rattle.es_owed_initialized.specs.Keys.{keys_of}
use Rattle.es_owed_keys.proofs.temporaries.add_nodes.Given as goal
use Rattle.es_seen_names.specs.PrivateMembers.{private_members_of}

abbrev pub invariant-loop-node : goal.invariant-loop-node
invariant-loop-node l =
    let o = l.lowered.terms in
    keys_of l.found.items ++ spec.all_temporaries o.first o.options.now o.ledger.now (private_members_of l.lowered.members.now) l.lowered.listed.now.program.now (seen (drop l.node-index l.nodes)) ≡ keys_of l.fn.found.items ++ spec.all_temporaries o.first o.options.now o.ledger.now (private_members_of l.lowered.members.now) l.lowered.listed.now.program.now (seen l.nodes)
