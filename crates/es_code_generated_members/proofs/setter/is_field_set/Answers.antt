use Rattle.std.proofs.Common.{◌∙◌, sym}
use Rattle.es_code_generated_members.proofs.SetterForms.{a_helper}
use Rattle.es_code_generated_members.proofs.setter.is_field_set.Goals as goal

pub returns-in-Helper : goal.returns-in-Helper
returns-in-Helper c = c.sets_field.ensures ∙ sym (a_helper c.args.code.now c.in-Helper.helper c.in-Helper.is)
