-- Calls of a new member `call`, part by part.
use Rattle.std.specs.Prelude.{ℕ, ◌&&◌, cond, nat_eq, Option, Some, None}
use Rattle.es_base.specs.declared.ledger.GeneratedKind.{GeneratedKind}
use Rattle.es_steps.specs.Code.{Code, Codes, Opened, CalledBodyOf, no_rule, name, private_member, from_call, super_call, done, and}
use Rattle.es_steps.specs.Context.{Context, NameKind, Generated}
use Rattle.es_steps.specs.GeneratedForms.{getter_or_received, is_brand, is_class_named, is_super_itself, private_function, super_function_call}
use Rattle.es_steps.specs.Helpers.{Helper, AssertClassBrand}
use Rattle.es_steps.specs.PrivateNames.{PrivateMember, reference_of}
use Rattle.es_steps.specs.Values.{String}

-- a getter of an object that is asserted to have its brand
abbrev pub asserted_getter : ℕ → PrivateMember → Codes → Code
asserted_getter m x (and q (and o done)) = cond (is_brand x q) (from_call (private_member m (reference_of x) o)) no_rule
asserted_getter m x es = no_rule

abbrev pub branded_getter : ℕ → PrivateMember → Helper → Codes → Code
branded_getter m x AssertClassBrand es = asserted_getter m x es
branded_getter m x h es = no_rule

-- a static getter of a class
abbrev pub static_getter : ℕ → PrivateMember → Code → Code
static_getter m x o = cond (x.is_static && is_class_named x.class o) (from_call (private_member m (reference_of x) o)) no_rule

-- what is called with `super(a)` of class n2
abbrev pub super_received : ℕ → ℕ → String → ℕ → Option Opened → Codes → Code
super_received m n s n2 behind es = cond (nat_eq n n2 && is_super_itself behind) (super_call m n (Some (CalledBodyOf s)) es) no_rule

-- the class whose `super(..)` a generated name stands for
abbrev pub super_function_class : NameKind → Option ℕ
super_function_class (Generated (GeneratedKind.SuperFn n)) = Some n.0
super_function_class kind = None

-- a new `call` of the name s of node k
abbrev pub called_name : Context → ℕ → ℕ → String → NameKind → Codes → Code
called_name c m k s (Generated (GeneratedKind.SuperFn n)) es = super_function_call m n.0 s es
called_name c m k s kind es = getter_or_received m (private_function c (name k s kind)) (name k s kind) es
