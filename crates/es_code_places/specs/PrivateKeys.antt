-- What stands where a private name does.
use Rattle.std.specs.Prelude.{ℕ, Bool, true, false, cond, Option, Some, None}
use Rattle.es_steps.specs.Code.{Code, super, private_in, no_rule}
use Rattle.es_steps.specs.Context.{Context}
use Rattle.es_steps.specs.Expressions.{checked_object, is_made_private, private_on, test_in}
use Rattle.es_steps.specs.PrivateNames.{PrivateReference}
use Rattle.es_steps.specs.Values.{String}

abbrev pub is_super : Code → Bool
is_super super = true
is_super e = false

-- a member with this private name
abbrev pub private_named : Context → ℕ → Bool → String → Option PrivateReference → Code → Code
private_named c m optional s r super = no_rule
private_named c m optional s r o = private_on c m s r o (checked_object optional o)

-- `#x in o`, by what `#x` means
abbrev pub asked_by : Context → ℕ → String → Option PrivateReference → Code → Code
asked_by c m s None o = no_rule
asked_by c m s (Some r) o = cond (is_made_private c s r) no_rule (private_in m (test_in c r) o)
