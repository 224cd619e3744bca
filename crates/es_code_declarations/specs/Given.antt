-- What generated names are given, part by part.
use Rattle.std.specs.Prelude.{ℕ, Bool, true, false, cond, ◌&&◌, bytes_eq, codes}
use Rattle.es_steps.specs.Code.{Code, Codes, name, function, new_function, private_initialize, no_rule, done, and}
use Rattle.es_steps.specs.Context.{Context, NameKind, Changing, new_here}
use Rattle.es_steps.specs.GeneratedForms.{is_constant, is_string}
use Rattle.es_steps.specs.Helpers.{Helper, ClassPrivateFieldLooseKey}
use Rattle.es_steps.specs.Values.{String, Referent, Free, ClassOf}

abbrev pub is_none : Codes → Bool
is_none done = true
is_none es = false

-- the function of a private method, or one that was opened
abbrev pub is_function : Code → Bool
is_function (function f form own_name ps body) = true
is_function (new_function f form ps body) = true
is_function e = false

abbrev pub is_free_referent : Referent → Bool
is_free_referent (Free s) = true
is_free_referent r = false

abbrev pub is_free_kind : NameKind → Bool
is_free_kind (Changing r) = is_free_referent r
is_free_kind kind = false

-- a free name that is spelled so
abbrev pub is_free_named : String → Code → Bool
is_free_named s (name k t kind) = is_free_kind kind && bytes_eq s t
is_free_named s e = false

-- `new s()`, new
abbrev pub makes_collection : Context → String → ℕ → Code → Codes → Bool
makes_collection c s m f es = (is_none es && is_free_named s f) && new_here c m

abbrev pub is_loose_key : Helper → Bool
is_loose_key ClassPrivateFieldLooseKey = true
is_loose_key h = false

abbrev pub is_one_constant : Codes → Bool
is_one_constant (and e done) = is_constant e
is_one_constant es = false

-- the object of a static field d of class n with a property of this key
abbrev pub field_with : ℕ → ℕ → ℕ → Bool → Code → Code
field_with m d n underscored v = cond underscored (private_initialize m d (ClassOf n) v) no_rule
