-- The entries in codes, as definitions have them, of a walk; s is the environment in front of each.
use Rattle.std.specs.Prelude.{ℕ, [], ◌++◌, Option}
use Rattle.es_codes.specs.CodeView.{callee_of, code_of, codes_of, target_of}
use Rattle.es_steps.specs.Code.{Code, Codes, Target, Callee, function, new_function, pattern, rest}
use Rattle.es_steps.specs.Entries as spec
use Rattle.es_steps.specs.Entries.{Entries, after_run, without}
use Rattle.es_steps.specs.Evaluation.{Environment}
use Rattle.es_steps.specs.Opening.{assigned_in}
use Rattle.es_code_environments.specs.Classes.{behind_fields, behind_keys, start_of}
use Rattle.es_code_entries.specs.Own.{class_own}
use Rattle.es_code_environments.specs.Parts.{run_of}
use Rattle.es_code_environments.specs.Standing.{opens_in}
use Rattle.es_code_environments.specs.declared.part.CodeRole.{CodeRole}
use Rattle.es_code_environments.specs.declared.part.CodesRole.{CodesRole}
use Rattle.es_code_environments.specs.declared.part.Part.{Part}
use Rattle.es_code_environments.specs.declared.terms.Terms.{Terms}

abbrev pub entries : Terms → Environment → Code → Entries
entries t s c = spec.entries (opens_in t) 0 t.late.now s c

abbrev pub target_entries : Terms → Environment → Target → Entries
target_entries t s to = spec.target_entries (opens_in t) 0 t.late.now s to

abbrev pub pattern_entries : Terms → Environment → Target → Entries
pattern_entries t s to = spec.pattern_entries (opens_in t) 0 t.late.now s to

abbrev pub taken_entries : Terms → Environment → Codes → Entries
taken_entries t s cs = spec.taken_entries (opens_in t) 0 t.late.now s cs

abbrev pub take_entries : Terms → Environment → Code → Entries
take_entries t s c = spec.take_entries (opens_in t) 0 t.late.now s c

abbrev pub callee_entries : Terms → Environment → Callee → Entries
callee_entries t s f = spec.callee_entries (opens_in t) 0 t.late.now s f

abbrev pub all_entries : Terms → Environment → Codes → Entries
all_entries t s cs = spec.all_entries (opens_in t) 0 t.late.now s cs

abbrev pub held_entries : Terms → Environment → Codes → Entries
held_entries t s cs = spec.held_entries (opens_in t) 0 t.late.now s cs

abbrev pub parameter_entries : Terms → Environment → Codes → Entries
parameter_entries t s cs = spec.parameter_entries (opens_in t) 0 t.late.now s cs

abbrev pub key_entries : Terms → Environment → Codes → Entries
key_entries t s cs = spec.key_entries (opens_in t) 0 t.late.now s cs

abbrev pub key_entry : Terms → Environment → Code → Entries
key_entry t s c = spec.key_entry (opens_in t) 0 t.late.now s c

abbrev pub static_entries : Terms → ℕ → Environment → Codes → Entries
static_entries t n s cs = spec.static_entries (opens_in t) 0 t.late.now n s cs

abbrev pub static_entry : Terms → Environment → Code → Entries
static_entry t s c = spec.static_entry (opens_in t) 0 t.late.now s c

abbrev pub field_entries : Terms → ℕ → Environment → Codes → Entries
field_entries t n s cs = spec.field_entries (opens_in t) 0 t.late.now n s cs

abbrev pub field_entry : Terms → Environment → Code → Entries
field_entry t s c = spec.field_entry (opens_in t) 0 t.late.now s c

abbrev pub function_entries : Terms → Environment → Environment → Codes → Entries
function_entries t s i cs = spec.function_entries (opens_in t) 0 t.late.now s i cs

abbrev pub element_function : Terms → Environment → Environment → Code → Entries
element_function t s i c = spec.element_function (opens_in t) 0 t.late.now s i c

-- ---- where evaluations lead

abbrev pub behind_code : Terms → Environment → Code → Environment
behind_code t s c = spec.behind_code (opens_in t) 0 t.late.now s c

abbrev pub behind_all : Terms → Environment → Codes → Environment
behind_all t s cs = spec.behind_all (opens_in t) 0 t.late.now s cs

abbrev pub behind_target : Terms → Environment → Target → Environment
behind_target t s to = spec.behind_target (opens_in t) 0 t.late.now s to

abbrev pub behind_parameters : Terms → Environment → Codes → Environment
behind_parameters t s ps = spec.behind_parameters (opens_in t) 0 t.late.now s ps

-- ---- parts of what these have

-- a target and a pattern that are given a value together
abbrev pub given_entries : Terms → Environment → Target → Entries
given_entries t s to = target_entries t s to ++ pattern_entries t s to

-- one parameter
abbrev pub parameter_entry : Terms → Environment → Code → Entries
parameter_entry t s (pattern m to) = given_entries t s to
parameter_entry t s (rest to) = given_entries t s to
parameter_entry t s c = []

-- a function that a generated name is given
abbrev pub given_function : Terms → Environment → Code → Entries
given_function t s (new_function k form ps body) = entries t (without (assigned_in body) s) body
given_function t s c = entries t s c

-- the parameters and the body of a function
abbrev pub called_entries : Terms → Environment → Codes → Code → Entries
called_entries t s ps body = parameter_entries t s ps ++ entries t (behind_parameters t s ps) body

-- the function of a constructor
abbrev pub constructor_entries : Terms → Environment → Code → Entries
constructor_entries t i (function f form own_name ps body) = called_entries t i ps body
constructor_entries t i (new_function f form ps body) = called_entries t i ps body
constructor_entries t i c = []

-- what runs with a class
abbrev pub running_entries : Terms → Environment → ℕ → Codes → Codes → Entries
running_entries t s n h es = all_entries t s h ++ key_entries t (behind_all t s h) es ++ static_entries t n (behind_keys t (behind_all t s h) es) es

-- what runs with a construction that starts in i, or is called later
abbrev pub constructed_entries : Terms → Environment → Environment → ℕ → Codes → Codes → Entries
constructed_entries t s i n h es = field_entries t n i es ++ function_entries t s (behind_fields t i n h es) es

abbrev pub class_entries : Terms → Environment → ℕ → Option ℕ → Codes → Codes → Entries
class_entries t s n declared h es = class_own t s n declared h es ++ running_entries t s n h es ++ constructed_entries t s (start_of t n s h es) n h es

-- ---- parts by what they are evaluated as

abbrev pub code_entries : Terms → Environment → CodeRole → Code → Entries
code_entries t s CodeRole.Value c = entries t s c
code_entries t s CodeRole.Member c = take_entries t s c
code_entries t s CodeRole.Key c = key_entry t s c
code_entries t s (CodeRole.Static n) c = static_entry t s c
code_entries t s (CodeRole.Field n) c = field_entry t s c

-- codes in order, each in this role
abbrev pub each_entries : Terms → Environment → CodeRole → Codes → Entries
each_entries t s CodeRole.Value cs = all_entries t s cs
each_entries t s CodeRole.Member cs = taken_entries t s cs
each_entries t s CodeRole.Key cs = key_entries t s cs
each_entries t s (CodeRole.Static n) cs = static_entries t n s cs
each_entries t s (CodeRole.Field n) cs = field_entries t n s cs

abbrev pub codes_entries : Terms → Environment → CodesRole → Codes → Entries
codes_entries t s CodesRole.All cs = all_entries t s cs
codes_entries t s CodesRole.Keys cs = key_entries t s cs
codes_entries t s (CodesRole.Fields n) cs = field_entries t n s cs
codes_entries t s CodesRole.Parameters cs = parameter_entries t s cs

abbrev pub part_entries : Terms → Environment → Part → Entries
part_entries t s (Part.Code role c) = code_entries t s role (code_of c.now)
part_entries t s (Part.Codes role cs) = codes_entries t s role (codes_of cs.now)
part_entries t s (Part.Target to) = target_entries t s (target_of to.now)
part_entries t s (Part.Callee f) = callee_entries t s (callee_of f.now)
part_entries t s (Part.Arguments ss cs) = all_entries t s (codes_of cs.now)

abbrev pub behind : Terms → Environment → Part → Environment
behind t s p = after_run s (run_of (opens_in t) t.late.now p s)
