use Rattle.std.proofs.Common.{sym, ◌∙◌}
use Rattle.es_code_generated_calls.proofs.ArrowForms.{a_member}
use Rattle.es_code_generated_calls.proofs.arrow.picks.Goals as goal

pub returns-in-Member : goal.returns-in-Member
returns-in-Member c = c.picks_key.ensures ∙ sym (a_member c.args.first.now c.args.second.now c.args.body.now c.in-Member.node c.in-Member.object c.in-Member.key c.in-Member.is)
