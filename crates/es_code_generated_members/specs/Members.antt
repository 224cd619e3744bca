-- A member by the codes of its object and its key, which stand in a list.
use Rattle.std.specs.Prelude.{ℕ, Bool}
use Rattle.es_steps.specs.Code.{Code, Codes, and, done, no_rule}
use Rattle.es_steps.specs.Context.{Context}
use Rattle.es_steps.specs.Expressions.{key_code, member_on}
use Rattle.es_steps.specs.GeneratedForms.{helper_member}

abbrev pub member_of_two : Context → ℕ → Bool → Bool → Codes → Code
member_of_two c m is_computed is_optional (and o (and k done)) = helper_member c is_computed o k (member_on c m is_optional o (key_code is_computed k))
member_of_two c m is_computed is_optional es = no_rule
