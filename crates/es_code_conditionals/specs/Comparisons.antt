-- Comparisons, part by part.
use Rattle.std.specs.Prelude.{ℕ, Bool, true, false, cond, ◌&&◌, bytes_eq, codes, Option, Some, None}
use Rattle.es_base.specs.declared.kind.Kind.{Kind}
use Rattle.es_steps.specs.Code.{Code, Codes, operation, done, and}
use Rattle.es_steps.specs.Context.{Context, new_here}
use Rattle.es_steps.specs.Events.{Detail, Operation, Operand, Spelled, OfKind}
use Rattle.es_steps.specs.GeneratedForms.{is_comparison, is_null_test, is_void_test}
use Rattle.es_steps.specs.Values.{String}

abbrev pub is_operand : Detail → Bool
is_operand Operand = true
is_operand d = false

abbrev pub spells_operator : String → Detail → Bool
spells_operator operator (Spelled s) = bytes_eq operator s
spells_operator operator d = false

abbrev pub compares : String → Operation → Bool
compares operator (OfKind Kind.BinaryExpression ds) = is_comparison operator ds
compares operator op = false

abbrev pub second_of_two : Codes → Option Code
second_of_two (and a (and b done)) = Some b
second_of_two es = None

abbrev pub is_none : Codes → Bool
is_none done = true
is_none es = false

-- the right operand of a comparison by this operator
abbrev pub compared_by : String → Operation → Codes → Codes → Option Code
compared_by operator op es held = cond (compares operator op && is_none held) (second_of_two es) None

abbrev pub compared : String → Code → Option Code
compared operator (operation m op es held) = compared_by operator op es held
compared operator e = None

-- `a === null || b === void 0`, and `a == null`
abbrev pub double_test : Context → ℕ → String → Code → Code → Bool
double_test c m operator l r = new_here c m && (bytes_eq operator (codes "||") && (is_null_test (codes "===") l && is_void_test r))

abbrev pub single_test : Context → ℕ → Code → Bool
single_test c m e = (new_here c m && c.options.assumptions.no_document_all) && is_null_test (codes "==") e
