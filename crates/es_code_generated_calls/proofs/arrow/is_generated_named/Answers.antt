use Rattle.std.proofs.Common.{sym, ◌∙◌}
use Rattle.es_code_generated_calls.proofs.ArrowForms.{a_name}
use Rattle.es_code_generated_calls.proofs.arrow.is_generated_named.Goals as goal

pub returns-in-Name : goal.returns-in-Name
returns-in-Name c = c.is_generated_spelled.ensures ∙ sym (a_name c.args.name.now c.args.code.now c.in-Name.node c.in-Name.spelling c.in-Name.kind c.in-Name.is)
