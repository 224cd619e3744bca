use Rattle.std.proofs.Common.{◌≡◌, ◌++◌, drop}
use Rattle.es_by_number.specs.Numbered.{pairs}
use Rattle.es_numbered_members.specs.NumberedMembers.{numbered_members}
use Rattle.es_numbered_members.proofs.with_numbers.Given as goal

abbrev pub invariant-loop-member : goal.invariant-loop-member
invariant-loop-member l = pairs l.items.items ++ numbered_members (drop l.member-index l.members) ≡ numbered_members l.members
