use Rattle.std.proofs.Common.{◌∙◌}
use Rattle.es_by_number.proofs.Sameness.{same_numbered_viewed}
use Rattle.es_steps.specs.SameMeanings.{same_member}
use Rattle.es_member_entries.specs.Entries.{entry_in}
use Rattle.es_member_entries.proofs.entry.same_members.Goals as goal

pub returns : goal.returns
returns c = c.same_numbered.ensures ∙ same_numbered_viewed same_member entry_in c.args.left.now c.args.right.now
