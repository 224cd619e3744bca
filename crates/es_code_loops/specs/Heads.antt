-- Heads of loops over values, part by part.
use Rattle.std.specs.Prelude.{Option, Some, None}
use Rattle.es_steps.specs.Code.{Code, Codes, Target, assign, binding, steps, to_name, no_target, done, and}
use Rattle.es_steps.specs.Expressions.{target_of}

-- the target of a declarator with an initializer
abbrev pub initialized_target : Code → Option Target
initialized_target (assign to e) = Some to
initialized_target c = None

abbrev pub target_of_binding : Code → Target
target_of_binding (binding b s kind) = to_name b s kind
target_of_binding c = no_target

-- what a name is that a `let` initializes with undefined
abbrev pub first_target : Codes → Target
first_target (and c cs) = target_of_binding c
first_target done = no_target

-- the target of one without an initializer
abbrev pub uninitialized_target : Code → Target
uninitialized_target (steps cs) = first_target cs
uninitialized_target c = target_of c
