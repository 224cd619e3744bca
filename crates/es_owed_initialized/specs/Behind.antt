-- Statements behind others.
use Rattle.std.specs.Prelude.{ℕ, List, [], Bool, true, false, Option, Some, None}
use Rattle.es_base.specs.Tree.{Tree, Parts, more, child}
use Rattle.es_base.specs.declared.kind.Kind.{Kind}
use Rattle.es_lowered.specs.Lowered.{assignment_number, class_number_in, paired, pairs_behind}

-- the statement with the one before it
abbrev pub pairs_with : Option Tree → Tree → List (ℕ × ℕ)
pairs_with None t = []
pairs_with (Some p) t = paired (assignment_number (child t)) (class_number_in (child p))

-- these statements behind the one before them
abbrev pub pairs_from : Option Tree → Parts → List (ℕ × ℕ)
pairs_from None ps = pairs_behind ps
pairs_from (Some p) ps = pairs_behind (more (child p) ps)

abbrev pub is_assignment : Kind → Bool
is_assignment Kind.AssignmentExpression = true
is_assignment kind = false
