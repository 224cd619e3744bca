-- Binary operators with a generated left operand, part by part.
use Rattle.std.specs.Prelude.{ℕ, Bool, true, false, cond, ◌&&◌, bytes_eq, codes, Option, Some, None}
use Rattle.es_base.specs.declared.ledger.GeneratedKind.{GeneratedKind}
use Rattle.es_steps.specs.Code.{Code, Codes, value, name, private_in, helper_call, no_rule, done, and}
use Rattle.es_steps.specs.Context.{Context, NameKind, Generated, new_here}
use Rattle.es_steps.specs.GeneratedForms.{class_named, is_string}
use Rattle.es_steps.specs.Helpers.{Helper, CheckInRHS}
use Rattle.es_steps.specs.Values.{String, ResultOf, IsClass}
use Rattle.es_code_conditionals.specs.Ends.{first_of}
use Rattle.es_code_assignments.specs.declared.binary.BinaryForm.{BinaryForm}
use Rattle.es_code_assignments.specs.declared.binary.LeftForm.{LeftForm}

abbrev pub is_check : Helper → Bool
is_check CheckInRHS = true
is_check h = false

abbrev pub is_one : Codes → Bool
is_one (and a done) = true
is_one es = false

abbrev pub checked_form : Bool → LeftForm
checked_form true = LeftForm.Checked
checked_form false = LeftForm.Other

abbrev pub named_form : NameKind → LeftForm
named_form (Generated GeneratedKind.Temp) = LeftForm.Temporary
named_form kind = LeftForm.Other

-- `B.checkInRHS(o)`, or a temporary
abbrev pub left_form : Code → LeftForm
left_form (helper_call k h es) = checked_form (is_check h && is_one es)
left_form (name k s kind) = named_form kind
left_form e = LeftForm.Other

abbrev pub class_test_form : Option ℕ → BinaryForm
class_test_form None = BinaryForm.NoRule
class_test_form (Some n) = BinaryForm.ClassTest n

abbrev pub binary_form : Context → ℕ → String → LeftForm → Code → BinaryForm
binary_form c m operator LeftForm.Checked r = cond (bytes_eq operator (codes "===")) (class_test_form (class_named r)) BinaryForm.NoRule
binary_form c m operator LeftForm.Temporary r = cond (new_here c m && (bytes_eq operator (codes "!==") && is_string (codes "name") r)) BinaryForm.KeyTest BinaryForm.Whole
binary_form c m operator LeftForm.Other r = BinaryForm.Whole

-- `o` of `B.checkInRHS(o)`
abbrev pub checked_object : Code → Code
checked_object (helper_call k h es) = first_of es
checked_object e = no_rule

abbrev pub by_form : BinaryForm → ℕ → Code → Code → Code
by_form (BinaryForm.ClassTest n) m l whole = private_in m (IsClass n) (checked_object l)
by_form BinaryForm.NoRule m l whole = no_rule
by_form BinaryForm.KeyTest m l whole = value (ResultOf m)
by_form BinaryForm.Whole m l whole = whole
