use Rattle.std.specs.Prelude.{bytes_eq, nat_eq}
use Rattle.es_sameness.proofs.Sameness.{one_declaration, one_export, one_form, one_link, one_list, one_member, one_method, one_number, one_numbered, one_parameter, one_string, one_value}
use Rattle.es_sameness.proofs.law.what_is_found_the_same_is_one.Goals as goal
use Rattle.es_steps.specs.SameMeanings as same

pub returns : goal.returns
returns c = record {
  values = one_value;
  forms = one_form;
  parameters = one_list same.same_parameter one_parameter;
  methods = one_list same.same_method one_method;
  members = one_list (same.same_numbered same.same_member) (one_numbered same.same_member one_member);
  numbers = one_list (same.same_numbered nat_eq) (one_numbered nat_eq one_number);
  declarations = one_list (same.same_numbered same.same_declaration) (one_numbered same.same_declaration one_declaration);
  strings = one_list (same.same_numbered bytes_eq) (one_numbered bytes_eq one_string);
  links = one_list same.same_link one_link;
  exports = one_list same.same_export one_export;
}
