-- Placed references in code, as definitions see them.
use Rattle.std.specs.Prelude.{ℕ, ◌+◌, List, [], ◌∷◌, ◌++◌, map, Bool, cond}
use Rattle.std.specs.Str.{chars}
use Rattle.es_base.specs.Tree.{Tree, Parts, Node, end, more}
use Rattle.es_lowered.specs.FunctionsAround as spec
use Rattle.es_lowered.specs.FunctionsAround.{functions_in, placed_at}
use Rattle.es_steps.specs.KeptNodes.{is_constructor_part}
use Rattle.es_steps.specs.Values.{String}
use Rattle.es_owed_places.specs.declared.placed.FunctionPart.{FunctionPart}
use Rattle.es_owed_places.specs.declared.placed.FunctionsAround as around
use Rattle.es_owed_places.specs.declared.placed.FunctionsAround.{FunctionsAround}
use Rattle.es_owed_places.specs.declared.placed.PlacedReference.{PlacedReference}

abbrev pub part_pair : FunctionPart → ℕ × ℕ
part_pair x = (x.function, x.part)

abbrev pub part_pairs : List FunctionPart → List (ℕ × ℕ)
part_pairs xs = map part_pair xs

abbrev pub around_in : FunctionsAround → List (ℕ × ℕ)
around_in around.None = []
around_in (around.Inside' x at outer) = part_pair x ∷ around_in outer

abbrev pub reference_of : PlacedReference → spec.PlacedReference
reference_of r = record { number = r.number; spelling = chars r.name.now; around = part_pairs r.around.items }

abbrev pub references_of : List PlacedReference → List spec.PlacedReference
references_of rs = map reference_of rs

abbrev pub placed_if : Bool → ℕ → String → List (ℕ × ℕ) → List spec.PlacedReference
placed_if asked m s around = cond asked (record { number = m; spelling = s; around = around } ∷ []) []

-- whether the i-th part of a node is the function of a constructor, and the functions around it
abbrev pub constructors_within : Tree → ℕ → Bool
constructors_within (Node kind m span semantic_id ps) i = is_constructor_part kind ps i

abbrev pub functions_within : ℕ → Bool → List (ℕ × ℕ) → Tree → ℕ → List (ℕ × ℕ)
functions_within first is_constructor around (Node kind m span semantic_id ps) i = functions_in first is_constructor around kind m i

-- those of the parts from the i-th on
abbrev pub placed_from : ℕ → (ℕ → String → Bool) → (ℕ → Bool) → (ℕ → List (ℕ × ℕ)) → ℕ → Parts → List spec.PlacedReference
placed_from first asked constructors around i end = []
placed_from first asked constructors around i (more p ps) = placed_at first asked (constructors i) (around i) p ++ placed_from first asked constructors around (i + 1) ps
