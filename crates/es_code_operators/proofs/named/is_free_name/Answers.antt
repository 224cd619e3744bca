use Rattle.std.proofs.Common.{sym, ◌∙◌}
use Rattle.es_code_operators.proofs.OperandForms.{free_name}
use Rattle.es_code_operators.proofs.named.is_free_name.Goals as goal

pub returns-in-Name : goal.returns-in-Name
returns-in-Name c = c.is_free_kind.ensures ∙ sym (free_name c.args.code.now c.in-Name.node c.in-Name.spelling c.in-Name.kind c.in-Name.is)
