-- How code tells nodes of the source apart.
use Rattle.std.specs.Prelude.{ℕ, List, [], map, Bool, false, Option, Some, None}
use Rattle.es_base.specs.Preorder.{number_of, preorder}
use Rattle.es_base.specs.Tree.{Tree}
use Rattle.es_shapes.specs.Classes.{is_lowered}
use Rattle.es_steps.specs.KeptNodes as spec
use Rattle.es_steps.specs.Shapes.{ClassAt}
use Rattle.es_steps.specs.declared.options.Options.{Options}
use Rattle.es_owed.specs.declared.kept_nodes.NodeSort.{NodeSort}

abbrev pub sort_in : NodeSort → spec.NodeSort
sort_in NodeSort.Class = spec.a_class
sort_in NodeSort.Function = spec.a_function
sort_in NodeSort.Call = spec.a_call
sort_in NodeSort.Construction = spec.a_construction
sort_in NodeSort.Another = spec.another

-- the numbers of the nodes in the body of a class
abbrev pub body_numbers : Option Tree → List ℕ
body_numbers None = []
body_numbers (Some t) = map number_of (preorder t)

-- whether a node that is this class, if any, is lowered
abbrev pub lowered_by : Options → Option ClassAt → Bool
lowered_by o None = false
lowered_by o (Some k) = is_lowered o k
