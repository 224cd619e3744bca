use Rattle.std.proofs.Common.{ap, ◌∙◌}
use Rattle.es_seen_names.specs.PrivateMembers.{private_members_of}
use Rattle.es_steps.specs.ClassHeads.{named_classes}
use Rattle.es_steps.specs.PrivateNames.{private_members}
use Rattle.es_base.specs.Preorder.{nodes}
use Rattle.step_check.proofs.Judging.{under}
use Rattle.step_check.proofs.compare.compare.Goals as goal

pub returns : goal.returns
returns c =
    let p = c.args.source.now.program.now in
    under c.compare_under.result c.args.options.now c.args.ledger.now p c.args.lowered.now.program.now
    c.args.first_new (nodes p) (private_members_of c.as_slice.result.now) (private_members p) c.as_slice-2.result.now (named_classes p)
    c.requires (ap private_members_of c.as_slice.ensures.value ∙ c.in_ok-members.ensures) (c.as_slice-2.ensures.value ∙ c.in_ok-named.ensures)
    c.compare_under.ensures
