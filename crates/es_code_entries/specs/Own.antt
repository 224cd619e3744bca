-- The own entries of functions and classes.
use Rattle.std.specs.Prelude.{ℕ, List, [], ◌∷◌, ◌++◌, Option}
use Rattle.es_steps.specs.Code.{Code, Codes, FunctionForm}
use Rattle.es_steps.specs.Entries as spec
use Rattle.es_steps.specs.Entries.{Entries, listed, without}
use Rattle.es_steps.specs.Evaluation.{Environment}
use Rattle.es_steps.specs.Opening.{assigned_in, assigned_in_all}
use Rattle.es_code_environments.specs.Classes.{class_at, start_of}
use Rattle.es_code_environments.specs.Standing.{opens_in}
use Rattle.es_code_environments.specs.declared.terms.Terms.{Terms}

-- where a function is read
abbrev pub function_start : Environment → Codes → Code → Environment
function_start s ps body = without (assigned_in_all ps ++ assigned_in body) s

abbrev pub function_own : Terms → Environment → ℕ → FunctionForm → Option ℕ → Codes → Code → Entries
function_own t s n form own_name ps body = spec.own_function (opens_in t) 0 t.late.now n form own_name ps (listed (spec.ev_body (opens_in t) 0 t.late.now ps body (function_start s ps body)))

abbrev pub class_own : Terms → Environment → ℕ → Option ℕ → Codes → Codes → Entries
class_own t s n declared h es = (n, class_at t s (start_of t n s h es) n declared h es) ∷ []
