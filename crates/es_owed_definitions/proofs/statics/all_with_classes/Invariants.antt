use Rattle.std.proofs.Common.{◌≡◌, ◌++◌, drop}
use Rattle.es_by_number.specs.Numbered.{pairs}
use Rattle.es_references.specs.References.{references_of}
use Rattle.es_seen_names.specs.PrivateMembers.{private_members_of}
use Rattle.es_owed_definitions.specs.Statics.{static_pairs}
use Rattle.es_owed_definitions.proofs.statics.all_with_classes.Given as goal

abbrev pub invariant-loop-definition : goal.invariant-loop-definition
invariant-loop-definition l =
    let of_each = static_pairs l.owners.ledger.now (private_members_of l.owners.members.now) (references_of l.owners.references.now.list.items) l.owners.declared.now in
    pairs l.items.items ++ of_each (drop l.definition-index l.definitions) ≡ of_each l.definitions
