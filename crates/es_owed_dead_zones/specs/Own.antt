-- The touches that a node has by itself, by its kind.
use Rattle.std.specs.Prelude.{ℕ, List, [], cond, Option, Some, None}
use Rattle.es_base.specs.Tree.{Parts}
use Rattle.es_base.specs.declared.kind.Kind.{Kind}
use Rattle.es_lowered.specs.DeadZones as spec
use Rattle.es_lowered.specs.DeadZones.{Touch, TouchForm, ends_in_throw, is_still, touch}
use Rattle.es_steps.specs.Parts.{at, items}
use Rattle.es_owed_dead_zones.specs.Walk.{assignment_form, called_form, update_form}
use Rattle.es_owed_dead_zones.specs.declared.terms.Terms.{Terms}

-- of what is no reference and no spread
abbrev pub own_form : Terms → Kind → ℕ → Parts → Option TouchForm
own_form t Kind.ThisExpression m ps = Some spec.reads_this
own_form t Kind.CallExpression m ps = Some (called_form t m ps)
own_form t Kind.AssignmentExpression m ps = Some (assignment_form t m ps)
own_form t Kind.UpdateExpression m ps = Some (update_form t m ps)
own_form t Kind.SequenceExpression m ps = cond (ends_in_throw (items (at 0 ps))) (Some spec.another) None
own_form t kind m ps = cond (is_still kind) None (Some spec.another)

-- a touch of this form, if any
abbrev pub touches_by : List (ℕ × ℕ) → ℕ → Option TouchForm → List Touch
touches_by held m None = []
touches_by held m (Some form) = touch held m form
