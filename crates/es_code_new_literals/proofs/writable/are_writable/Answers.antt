use Rattle.std.proofs.Common.{◌∙◌}
use Rattle.es_codes.specs.View.{details_of}
use Rattle.es_code_new_literals.proofs.DetailForms.{writable_behind, no_writable_behind}
use Rattle.es_code_new_literals.proofs.writable.are_writable.Goals as goal

pub returns-in-Some : goal.returns-in-Some
returns-in-Some c = c.is_value_end.ensures ∙ writable_behind (details_of c.args.details.now) (details_of c.in-Some.rest.now) c.in-Some.ensures

pub returns-in-None : goal.returns-in-None
returns-in-None c = no_writable_behind (details_of c.args.details.now) c.in-None.ensures
