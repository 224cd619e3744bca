use Rattle.std.proofs.Common.{◌∙◌}
use Rattle.es_codes.specs.CodeView.{code_of}
use Rattle.es_codes.specs.View.{reference_of}
use Rattle.es_code_assignments.proofs.PrivateForms.{three_arguments}
use Rattle.es_code_assignments.proofs.private.branded_form.Goals as goal

pub returns-in-len3 : goal.returns-in-len3
returns-in-len3 c = c.branded_by.ensures ∙ three_arguments (reference_of c.args.means) (code_of c.args.own.now) c.args.arguments.now c.class-item.result c.in-len3.len_at_least c.in-len3.len_below c.class-item.is
