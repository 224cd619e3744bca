use Rattle.std.proofs.Common.{◌∙◌}
use Rattle.es_codes.specs.View.{details_of}
use Rattle.es_code_new_literals.proofs.DetailForms.{value_behind, no_value_behind}
use Rattle.es_code_new_literals.proofs.writable.is_value_end.Goals as goal

pub returns-in-Some : goal.returns-in-Some
returns-in-Some c = c.is_end.ensures ∙ value_behind (details_of c.args.details.now) (details_of c.in-Some.rest.now) c.in-Some.ensures

pub returns-in-None : goal.returns-in-None
returns-in-None c = no_value_behind (details_of c.args.details.now) c.in-None.ensures
