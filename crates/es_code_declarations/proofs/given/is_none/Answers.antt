use Rattle.es_code_declarations.proofs.GivenForms.{none_held}
use Rattle.es_code_declarations.proofs.given.is_none.Goals as goal

pub returns : goal.returns
returns c = none_held c.is_empty.result c.args.codes.now c.is_empty.ensures
