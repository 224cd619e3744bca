use Rattle.std.proofs.Common.{◌∙◌}
use Rattle.es_code_conditionals.proofs.Comparisons.{these_three}
use Rattle.es_code_conditionals.proofs.null_test.is_comparison.Goals as goal

pub returns-in-len3 : goal.returns-in-len3
returns-in-len3 c = c.compares_operands.ensures ∙ these_three c.args.operator.now c.args.details.now c.spelled-item.result c.left-item.result c.right-item.result c.in-len3.len_at_least c.in-len3.len_below c.spelled-item.is c.left-item.is c.right-item.is
