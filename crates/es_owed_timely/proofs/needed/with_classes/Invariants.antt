use Rattle.std.proofs.Common.{◌≡◌, ◌++◌, drop}
use Rattle.es_by_number.specs.Numbered.{numbered}
use Rattle.es_owed_timely.specs.Needed.{name_of, with_classes}
use Rattle.es_seen_names.specs.PrivateMembers.{private_members_of}
use Rattle.es_owed_timely.proofs.needed.with_classes.Given as goal

abbrev pub invariant-loop-entry : goal.invariant-loop-entry
invariant-loop-entry l =
    let members = private_members_of l.members.members.now in
    numbered name_of l.items.items ++ with_classes members (drop l.entry-index l.ledger) ≡ with_classes members l.ledger
