use Rattle.std.proofs.Common.{◌≡◌, ◌++◌, drop}
use Rattle.es_codes.specs.View.{details_of}
use Rattle.es_steps.specs.Members.{details}
use Rattle.es_code_members.specs.MembersView.{members_of}
use Rattle.es_code_members.proofs.details.add_details.Given as goal

abbrev pub invariant-loop-member : goal.invariant-loop-member
invariant-loop-member l = details_of l.details ++ details (members_of (drop l.member-index l.members)) ≡ details_of l.fn.details ++ details (members_of l.members)
