-- The nodes of a list, and how many more a lowered program has.
use Rattle.std.proofs.Common.{◌≡◌, refl, ap, ◌+◌, ◌*◌, ◌≤◌, List, [], ◌∷◌, map, arith}
use Rattle.es_base.specs.Preorder.{nodes, nodes_of, nodes_of_part}
use Rattle.es_base.specs.Tree.{Tree, Part, Parts, Node, end, more, child, list, trees}
use Rattle.class_properties.specs.Lowering.{children, value_or_void, definition, lowered_elements, lowered_body, lowered_class, with_constructors}

pub children_of : (ts : List Tree) → children (trees ts) ≡ ts
children_of [] = refl
children_of (t ∷ ts) = ap (λ us. t ∷ us) (children_of ts)

-- ---- at most nine nodes for one

value-nodes : (p : Part) → nodes (value_or_void p) ≤ 2 + nodes_of_part p
value-nodes (child t) = omega arith
value-nodes p = omega arith

definition-nodes : (t : Tree) → nodes (definition t) ≤ 9 * nodes t
definition-nodes (Node kind id span semantic_id (more (child key) (more value ps))) = omega (arith, value-nodes value)
definition-nodes t = omega arith

definitions-nodes : (ps : Parts) → nodes_of (trees (map definition (children ps))) ≤ 9 * nodes_of ps
definitions-nodes end = omega arith
definitions-nodes (more (child t) ps) = omega (arith, definition-nodes t, definitions-nodes ps)
definitions-nodes (more p ps) = omega (arith, definitions-nodes ps)

elements-nodes : (ts : List Tree) → nodes_of (trees (lowered_elements ts)) ≤ 4 + nodes_of (trees (map definition ts))
elements-nodes [] = omega arith
elements-nodes (t ∷ ts) = omega arith

body-nodes : (t : Tree) → nodes (lowered_body t) ≤ 4 + 9 * nodes t
body-nodes (Node kind id span semantic_id (more (list elements) ps)) = omega (arith, elements-nodes (children elements), definitions-nodes elements)
body-nodes t = omega arith

class-nodes : (t : Tree) → nodes (lowered_class t) ≤ 9 * nodes t
class-nodes (Node kind id span semantic_id (more name (more super_class (more (child body) ps)))) = omega (arith, body-nodes body)
class-nodes t = omega arith

classes-nodes : (ps : Parts) → nodes_of (trees (map lowered_class (children ps))) ≤ 9 * nodes_of ps
classes-nodes end = omega arith
classes-nodes (more (child t) ps) = omega (arith, class-nodes t, classes-nodes ps)
classes-nodes (more p ps) = omega (arith, classes-nodes ps)

pub program-nodes : (t : Tree) → nodes (with_constructors t) ≤ 9 * nodes t
program-nodes (Node kind id span semantic_id (more source_type (more (list classes) ps))) = omega (arith, classes-nodes classes)
program-nodes t = omega arith
