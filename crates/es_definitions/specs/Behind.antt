-- What follows `super(..._args)` at the start of codes.
use Rattle.std.specs.Prelude.{ℕ, Bool, false, nat_eq}
use Rattle.es_steps.specs.Code.{Code, Codes, super_call_with_all, initializers, and, done}

-- `super(..._args)` of class n
abbrev pub is_super_of : ℕ → Code → Bool
is_super_of n (super_call_with_all k) = nat_eq n k
is_super_of n c = false

abbrev pub begins_with_super : ℕ → Codes → Bool
begins_with_super n done = false
begins_with_super n (and c cs) = is_super_of n c

-- with the initializers of class n in place of the first
abbrev pub with_initializers : ℕ → Codes → Codes
with_initializers n done = done
with_initializers n (and c cs) = and (initializers n) cs
