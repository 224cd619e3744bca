use Rattle.std.proofs.Common.{◌≡◌, ◌++◌, drop}
use Rattle.es_by_number.specs.Numbered.{pairs}
use Rattle.es_owed_initialized.specs.Members.{numbered_branded}
use Rattle.es_owed_initialized.proofs.members.branded_with_classes.Given as goal

abbrev pub invariant-loop-member : goal.invariant-loop-member
invariant-loop-member l = pairs l.items.items ++ numbered_branded (drop l.member-index l.members) ≡ numbered_branded l.members
