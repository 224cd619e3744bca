-- Places of `super` in code, as definitions see them.
use Rattle.std.specs.Prelude.{ℕ, ◌+◌, Bool, false, ◌||◌}
use Rattle.es_base.specs.Tree.{Tree, Parts, Node, end, more}
use Rattle.es_lowered.specs.Supers as spec
use Rattle.es_lowered.specs.Supers.{in_no_method, stray_super_at, super_inside}
use Rattle.es_steps.specs.Parts.{at, is_true, string_of}
use Rattle.es_steps.specs.Printable.{is_accessor}
use Rattle.es_owed_places.specs.declared.super_place.SuperPlace.{SuperPlace}

abbrev pub place_of : SuperPlace → spec.SuperPlace
place_of x = record { calls = x.calls; members = x.members; function_calls = x.function_calls; function_members = x.function_members; has_heritage = x.has_heritage }

-- in a function that is no arrow
abbrev pub in_function : spec.SuperPlace → spec.SuperPlace
in_function x = record (in_no_method x) { calls = x.function_calls; members = x.function_members }

abbrev pub is_method_property : Parts → Bool
is_method_property ps = is_true (at 3 ps) || is_accessor (string_of (at 2 ps))

-- of the i-th part of a node
abbrev pub place_within : spec.SuperPlace → Tree → ℕ → spec.SuperPlace
place_within x (Node kind m span semantic_id ps) i = super_inside x kind ps i

-- whether one stands where it may not, in the parts from the i-th on
abbrev pub stray_super_from : (ℕ → spec.SuperPlace) → ℕ → Parts → Bool
stray_super_from x i end = false
stray_super_from x i (more p ps) = stray_super_at (x i) p || stray_super_from x (i + 1) ps
