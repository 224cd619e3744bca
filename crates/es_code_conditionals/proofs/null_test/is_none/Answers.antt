use Rattle.es_code_conditionals.proofs.Comparisons.{none_held}
use Rattle.es_code_conditionals.proofs.null_test.is_none.Goals as goal

pub returns : goal.returns
returns c = none_held c.is_empty.result c.args.codes.now c.is_empty.ensures
