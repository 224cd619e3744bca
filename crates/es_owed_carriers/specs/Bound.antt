-- Which nodes stay in the node around them, by their own kind first.
use Rattle.std.specs.Prelude.{Bool, true, false}
use Rattle.es_base.specs.declared.kind.Kind.{Kind}
use Rattle.es_steps.specs.Repeated.{is_loop}

abbrev pub is_target_rest : Kind → Bool
is_target_rest Kind.AssignmentTargetRest = true
is_target_rest kind = false

-- where the node around is no rest of a pattern that declares
abbrev pub is_bound_elsewhere : Kind → Kind → Bool
is_bound_elsewhere around Kind.Property = true
is_bound_elsewhere around Kind.BindingProperty = true
is_bound_elsewhere around Kind.AssignmentTargetProperty = true
is_bound_elsewhere around Kind.SwitchCase = true
is_bound_elsewhere around Kind.CatchClause = true
is_bound_elsewhere around Kind.RestElement = true
is_bound_elsewhere around Kind.AssignmentTargetRest = true
is_bound_elsewhere around Kind.TemplateElement = true
is_bound_elsewhere around Kind.ExportSpecifier = true
is_bound_elsewhere around Kind.VariableDeclaration = is_loop around
is_bound_elsewhere around Kind.ObjectAssignmentTarget = is_target_rest around
is_bound_elsewhere around Kind.ArrayAssignmentTarget = is_target_rest around
is_bound_elsewhere around kind = false
