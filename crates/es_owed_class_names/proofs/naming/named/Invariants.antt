use Rattle.std.proofs.Common.{◌≡◌, ◌++◌, drop}
use Rattle.es_binding_faults.specs.Seen.{seen}
use Rattle.es_by_number.specs.Numbered.{pairs}
use Rattle.es_grouped.specs.Groups.{group}
use Rattle.es_owed_class_names.specs.NamedClasses.{named}
use Rattle.es_references.specs.References.{references_of}
use Rattle.es_owed_class_names.proofs.naming.named.Given as goal

abbrev pub invariant-loop-node : goal.invariant-loop-node
invariant-loop-node l =
    let of = named l.ledger (references_of l.references.list.items) (λ b. group b l.classes) in
    pairs l.items.items ++ of (seen (drop l.node-index l.nodes)) ≡ of (seen l.nodes)
