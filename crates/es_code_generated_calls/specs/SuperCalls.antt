-- Calls of `super`, and of members of it, part by part.
use Rattle.std.specs.Prelude.{ℕ, Bool, true, false, ◌&&◌, cond, codes, bytes_eq}
use Rattle.es_base.specs.declared.ledger.GeneratedKind.{GeneratedKind}
use Rattle.es_steps.specs.Code.{Code, Codes, no_rule, name, operation, done, and}
use Rattle.es_steps.specs.Context.{Context, NameKind, Generated}
use Rattle.es_steps.specs.GeneratedForms.{array_elements, home_of, is_number_literal, is_spread, known_object, super_method_call}
use Rattle.es_steps.specs.Values.{String}

abbrev pub is_args : NameKind → Bool
is_args (Generated GeneratedKind.Args) = true
is_args kind = false

-- a generated name of the arguments of a constructor, of this spelling
abbrev pub is_args_named : String → Code → Bool
is_args_named t (name m s (Generated GeneratedKind.Args)) = bytes_eq t s
is_args_named t e = false

abbrev pub is_one_named : String → Codes → Bool
is_one_named t (and e done) = is_args_named t e
is_one_named t es = false

abbrev pub has_none : Codes → Bool
has_none done = true
has_none es = false

-- an operation whose only operand is that name
abbrev pub is_spread_of : String → Code → Bool
is_spread_of t (operation m op es held) = has_none held && is_one_named t es
is_spread_of t e = false

-- whether it is `..._args`, alone
abbrev pub passes_in : String → Codes → Bool
passes_in t (and e done) = is_spread e && is_spread_of t e
passes_in t es = false

-- what `babelHelpers.superPropGet(..)` with these arguments is called as, with the elements of a list
abbrev pub super_call_of : Context → ℕ → ℕ → Codes → Code → Code
super_call_of c m k (and h (and key (and r (and two done)))) form = cond (is_number_literal (codes "2") two) (super_method_call m k (home_of h) key (known_object r) (array_elements c form)) no_rule
super_call_of c m k es form = no_rule

-- of one list
abbrev pub super_called : Context → ℕ → ℕ → Codes → Codes → Code
super_called c m k of_member (and form done) = super_call_of c m k of_member form
super_called c m k of_member es = no_rule
