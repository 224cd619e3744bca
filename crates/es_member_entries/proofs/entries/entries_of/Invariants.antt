use Rattle.std.proofs.Common.{◌≡◌, drop}
use Rattle.es_by_number.specs.Numbered.{pairs}
use Rattle.es_seen_names.specs.PrivateMembers.{private_members_of}
use Rattle.es_steps.specs.Meaning.{member_entries}
use Rattle.es_member_entries.specs.Entries.{entries_in}
use Rattle.es_member_entries.proofs.Members.{behind}
use Rattle.es_member_entries.proofs.entries.entries_of.Given as goal

abbrev pub invariant-loop-member : goal.invariant-loop-member
invariant-loop-member l = behind (entries_in l.entries.items) (member_entries (pairs l.functions) (private_members_of (drop l.member-index l.members))) ≡ member_entries (pairs l.functions) (private_members_of l.members)
