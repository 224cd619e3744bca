-- What becomes of a tree where the hooks are functions of the node. The walk goes into a node where `goes` says so, and
-- finds it as it was; `left` says what becomes of it as it is left, and `passed` what becomes of any other node.
use Rattle.std.specs.Prelude.{Bool}
use Rattle.es_base.specs.Tree.{Tree, Part, Parts, Node, end, more, child, absent, list, string, no_string, boolean, literal}
use Rattle.es_visit.specs.Changed.{chosen}

module _ (goes : Tree → Bool) (passed left : Tree → Tree) where
  abbrev mutual
    pub changed : Tree → Tree
    changed (Node k i sp si ps) = chosen (goes (Node k i sp si ps)) (left (Node k i sp si (changed_parts ps))) (passed (Node k i sp si ps))

    pub changed_parts : Parts → Parts
    changed_parts end = end
    changed_parts (more p ps) = more (changed_part p) (changed_parts ps)

    pub changed_part : Part → Part
    changed_part (child t) = child (changed t)
    changed_part absent = absent
    changed_part (list all) = list (changed_items all)
    changed_part (string s) = string s
    changed_part no_string = no_string
    changed_part (boolean b) = boolean b
    changed_part (literal v) = literal v

    pub changed_items : Parts → Parts
    changed_items end = end
    changed_items (more p ps) = more (changed_item p) (changed_items ps)

    pub changed_item : Part → Part
    changed_item (child t) = child (changed t)
    changed_item absent = absent
    changed_item (list all) = list all
    changed_item (string s) = string s
    changed_item no_string = no_string
    changed_item (boolean b) = boolean b
    changed_item (literal v) = literal v
