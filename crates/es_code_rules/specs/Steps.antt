-- What the functions of evaluation give, shut; `opens` is what stands elsewhere.
use Rattle.std.specs.Prelude.{ℕ, List, [], Option, None}
use Rattle.es_steps.specs.Code.{Code, Codes, Callee}
use Rattle.es_steps.specs.Events.{Part}
use Rattle.es_steps.specs.Values.{Value}
use Rattle.es_evaluation.specs.Direct as direct
use Rattle.es_evaluation.specs.Direct.{Step, and_then, gives, held, settled, test_with}
use Rattle.es_evaluator.specs.Steps.{Opens, convert_at}

unfoldable pub form_at : Opens → Code → Step Value
form_at opens c = direct.form opens c

unfoldable pub value_at : Opens → Code → Step Value
value_at opens c = settled (direct.form opens c)

unfoldable pub all_at : Opens → Codes → Step (List Value)
all_at opens es = direct.all opens [] es

unfoldable pub converted_at : Opens → ℕ → Codes → Step (List Value)
converted_at opens m es = direct.converted opens m 0 [] es

unfoldable pub parts_at : Opens → ℕ → Codes → Step Value
parts_at opens m es = direct.parts opens m 0 es

unfoldable pub callee_at : Opens → Callee → Step (Value × Option Value)
callee_at opens f = direct.callee opens f

unfoldable pub again_at : Opens → Value → Codes → Step Value
again_at opens v again = direct.once_more opens v again

-- the i-th part of an operation
unfoldable pub part_at : Opens → ℕ → ℕ → Code → Step Value
part_at opens m i e = held m (Part i) None (value_at opens e)

-- ---- from the i-th code on, behind what those before it gave

unfoldable pub all_from : Opens → List Value → Codes → Step (List Value)
all_from opens vs es = direct.all opens vs es

unfoldable pub converted_from : Opens → ℕ → ℕ → List Value → Codes → Step (List Value)
converted_from opens m i vs es = direct.converted opens m i vs es

unfoldable pub parts_from : Opens → ℕ → ℕ → Codes → Step Value
parts_from opens m i es = direct.parts opens m i es

-- ---- parts of forms

-- the i-th expression of a template, made a string
abbrev pub string_step : Opens → ℕ → ℕ → Code → Step Value
string_step opens m i e = and_then (value_at opens e) (λ v. and_then (convert_at m i v) (λ w. gives v))

-- in a chain, a test of an object, and what stands for it again
abbrev pub test_step : Opens → Code → Codes → Step Value
test_step opens o again = test_with (value_at opens o) (λ v. again_at opens v again)

-- what has no event and this value
abbrev pub same_step : Opens → Value → Code → Step Value
same_step opens v c = direct.stays v (value_at opens c)
