-- New arrows that are called where they stand, part by part.
use Rattle.std.specs.Prelude.{List, ◌++◌, Bool, true, false, ◌&&◌, bytes_eq, Option, Some, None}
use Rattle.es_base.specs.declared.ledger.GeneratedKind.{GeneratedKind}
use Rattle.es_steps.specs.Code.{Code, Codes, no_rule, binding, name, member, done, and}
use Rattle.es_steps.specs.Context.{Context, NameKind, Generated}
use Rattle.es_steps.specs.GeneratedForms.{picked, single_property}
use Rattle.es_steps.specs.Values.{String}

abbrev pub is_parameter : NameKind → Bool
is_parameter (Generated GeneratedKind.Param) = true
is_parameter kind = false

-- the generated name of a parameter
abbrev pub parameter_name : Code → Option String
parameter_name (binding b s (Generated GeneratedKind.Param)) = Some s
parameter_name c = None

-- names behind others
abbrev pub names_behind : List String → Option (List String) → Option (List String)
names_behind ss None = None
names_behind ss (Some ts) = Some (ss ++ ts)

abbrev pub is_generated_kind : NameKind → Bool
is_generated_kind (Generated g) = true
is_generated_kind kind = false

-- a generated name of this spelling
abbrev pub is_generated_named : String → Code → Bool
is_generated_named t (name m s (Generated g)) = bytes_eq s t
is_generated_named t e = false

-- `q[p]`
abbrev pub picks : String → String → Code → Bool
picks p q (member m o k) = is_generated_named q o && is_generated_named p k
picks p q e = false

abbrev pub pick_of : Option String → Option String → Code → Bool
pick_of (Some p) (Some q) body = picks p q body
pick_of p q body = false

abbrev pub pick_in : Codes → Code → Bool
pick_in (and c (and d done)) body = pick_of (parameter_name c) (parameter_name d) body
pick_in cs body = false

abbrev pub has_two : Codes → Bool
has_two (and c (and d done)) = true
has_two cs = false

-- what is picked of the second of two arguments by the first
abbrev pub picked_from : Context → Codes → Code
picked_from c (and k (and o done)) = picked k (single_property c o)
picked_from c es = no_rule
