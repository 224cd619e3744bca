-- Where a `new.target` may stand, place by place.
use Rattle.std.specs.Prelude.{ℕ, ◌+◌, Bool, false, ◌||◌}
use Rattle.es_base.specs.Tree.{Parts, end, more}
use Rattle.es_base.specs.declared.kind.Kind.{Kind}
use Rattle.es_steps.specs.Printable.{has_target, stray_target_at}

-- in the i-th part of a node of this kind
abbrev pub target_within : Bool → Kind → ℕ → Bool
target_within inside kind i = inside || has_target kind i

-- whether one stands where there is none, in the parts from the i-th on
abbrev pub stray_target_from : (ℕ → Bool) → ℕ → Parts → Bool
stray_target_from inside i end = false
stray_target_from inside i (more p ps) = stray_target_at (inside i) p || stray_target_from inside (i + 1) ps
