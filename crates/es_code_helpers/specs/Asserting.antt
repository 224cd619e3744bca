-- A brand that is asserted, by the three arguments of its helper.
use Rattle.std.specs.Prelude.{ℕ, ◌&&◌, cond, Option, None}
use Rattle.es_steps.specs.Code.{Code, Codes, done, and, from_call, private_member, no_rule}
use Rattle.es_steps.specs.Context.{Context}
use Rattle.es_steps.specs.GeneratedForms.{private_function, is_method_kind, is_brand}
use Rattle.es_steps.specs.PrivateNames.{PrivateMember, reference_of}

-- the member whose function is asked for
abbrev pub asserted_member : Context → Codes → Option PrivateMember
asserted_member c (and q (and o (and f done))) = private_function c f
asserted_member c es = None

-- what this member reads, if it is a method
abbrev pub asserted_method : ℕ → PrivateMember → Codes → Code
asserted_method m x (and q (and o (and f done))) = cond (is_method_kind x.kind && is_brand x q) (from_call (private_member m (reference_of x) o)) no_rule
asserted_method m x es = no_rule
