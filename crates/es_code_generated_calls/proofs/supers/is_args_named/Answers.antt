use Rattle.std.proofs.Common.{sym, ◌∙◌}
use Rattle.std.specs.Str.{chars}
use Rattle.es_code_generated_calls.proofs.SuperForms.{a_name}
use Rattle.es_code_generated_calls.proofs.supers.is_args_named.Goals as goal

pub returns-in-Name : goal.returns-in-Name
returns-in-Name c = c.is_args_spelled.ensures ∙ sym (a_name (chars c.args.name.now) c.args.code.now c.in-Name.node c.in-Name.spelling c.in-Name.kind c.in-Name.is)
