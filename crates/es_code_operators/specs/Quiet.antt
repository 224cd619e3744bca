-- Which logical operators have no event.
use Rattle.std.specs.Prelude.{ℕ, Bool, true, false, ◌&&◌, bytes_eq, codes, Option, Some, None}
use Rattle.es_steps.specs.Code.{Code, value, from_call}
use Rattle.es_steps.specs.Context.{Context, new_here}
use Rattle.es_steps.specs.Values.{String, Value, ResultOf}

abbrev pub result_of : Value → Option ℕ
result_of (ResultOf k) = Some k
result_of v = None

-- the node whose result a code is
abbrev pub result_number : Code → Option ℕ
result_number (value v) = result_of v
result_number e = None

abbrev pub is_value : Code → Bool
is_value (value v) = true
is_value e = false

abbrev pub is_new_result : Context → Option ℕ → Bool
is_new_result c None = false
is_new_result c (Some j) = new_here c j

-- a generated call that gives a value, or another new test
abbrev pub is_done_quietly : Context → Code → Bool
is_done_quietly c (from_call e) = is_value e
is_done_quietly c (value v) = is_new_result c (result_of v)
is_done_quietly c e = false

abbrev pub is_quiet : Context → ℕ → String → Option ℕ → Bool → Bool
is_quiet c m operator None done = false
is_quiet c m operator (Some k) done = done && (new_here c m && (new_here c k && bytes_eq operator (codes "&&")))
