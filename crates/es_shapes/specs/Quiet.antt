-- Events of nodes, as code finds them.
use Rattle.std.specs.Prelude.{ℕ, List, Bool, true, false, not, ◌&&◌, nat_eq, Option, Some, None}
use Rattle.es_base.specs.declared.kind.Kind.{Kind}
use Rattle.es_steps.specs.Expressions.{is_arguments}
use Rattle.es_steps.specs.Quiet.{Around}
use Rattle.es_steps.specs.References.{has_number}
use Rattle.es_steps.specs.Values.{String}

-- the kinds that have no events by themselves, whatever their parts are
abbrev pub is_quiet_kind : Kind → Bool
is_quiet_kind Kind.ThisExpression = true
is_quiet_kind Kind.SequenceExpression = true
is_quiet_kind Kind.FunctionExpression = true
is_quiet_kind Kind.ArrowFunctionExpression = true
is_quiet_kind Kind.ClassBody = true
is_quiet_kind Kind.MethodDefinition = true
is_quiet_kind Kind.StaticBlock = true
is_quiet_kind Kind.ExpressionStatement = true
is_quiet_kind Kind.BlockStatement = true
is_quiet_kind Kind.EmptyStatement = true
is_quiet_kind kind = false

-- a name with this binding, or a free one
abbrev pub reads_bound : List ℕ → Bool → Around → String → Option ℕ → Bool
reads_bound varying writes_arguments a s (Some b) = has_number b varying && not (has_number b a.class_names)
reads_bound varying writes_arguments a s None = not (is_arguments s && (a.has_arguments && not writes_arguments))

-- the second part of a class
abbrev pub is_heritage : ℕ → Bool
is_heritage i = nat_eq i 1
