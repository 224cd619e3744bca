-- Setters, part by part.
use Rattle.std.specs.Prelude.{ℕ, Bool, true, false, ◌&&◌, cond}
use Rattle.es_steps.specs.Code.{Code, Codes, helper, setter, no_rule, done, and}
use Rattle.es_steps.specs.GeneratedForms.{is_setter_kind, is_brand, is_class_named}
use Rattle.es_steps.specs.Helpers.{Helper, AssertClassBrand, ClassPrivateFieldSet2}
use Rattle.es_steps.specs.PrivateNames.{PrivateMember}

-- on a name of the class of a static one
abbrev pub setter_of_class : ℕ → PrivateMember → Code → Code
setter_of_class m x o = cond (is_setter_kind x.kind && (x.is_static && is_class_named x.class o)) (setter m x.number o) no_rule

-- on a branded object
abbrev pub branded_setter : ℕ → PrivateMember → Codes → Code
branded_setter m x (and q (and o done)) = cond (is_setter_kind x.kind && is_brand x q) (setter m x.number o) no_rule
branded_setter m x es = no_rule

-- on what a helper gives
abbrev pub setter_behind : ℕ → PrivateMember → Helper → Codes → Code
setter_behind m x AssertClassBrand es = branded_setter m x es
setter_behind m x h es = no_rule

abbrev pub sets_field : Helper → Bool
sets_field ClassPrivateFieldSet2 = true
sets_field h = false

abbrev pub is_field_set : Code → Bool
is_field_set (helper h) = sets_field h
is_field_set e = false
