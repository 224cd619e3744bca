use Rattle.std.proofs.Common.{◌≡◌, drop}
use Rattle.es_binding_faults.specs.Seen.{seen}
use Rattle.es_lowered.specs.Definitions.{classes_fit}
use Rattle.es_seen_names.specs.PrivateMembers.{private_members_of}
use Rattle.es_owed_definitions.proofs.fields.classes_fit.Given as goal

abbrev pub invariant-loop-node : goal.invariant-loop-node
invariant-loop-node l =
    let fit = classes_fit l.lowered.terms.first l.lowered.terms.options.now l.lowered.terms.ledger.now (private_members_of l.lowered.members.now) l.source.program.now l.lowered.listed.now.program.now in
    fit (seen (drop l.node-index l.nodes)) ≡ fit (seen l.nodes)
