-- The places of nodes and parts, and the nodes that a walk has still to enter.
use Rattle.std.specs.Prelude.{ℕ, ◌+◌, List, [], ◌∷◌, Option}
use Rattle.es_base.specs.declared.kind.Kind.{Kind}
use Rattle.es_ctx.specs.Ancestors.{going_into}
use Rattle.es_ctx.specs.declared.ancestor.Ancestor.{Ancestor}
use Rattle.es_ctx.specs.declared.ancestor.Parent.{Parent}
use Rattle.es_base.specs.Tree.{Tree, Part, Parts, Node, end, more, child, absent, list, string, no_string, boolean, literal}

abbrev pub joined : Parts → Parts → Parts
joined end rest = rest
joined (more p ps) rest = more p (joined ps rest)

abbrev pub count : Parts → ℕ
count end = 0
count (more p ps) = count ps + 1

mutual
  -- the place of a node
  pub data Hole : Type 0 where
    top : Hole
    of_child : (place : PartHole) → Hole
    of_item : (before after : Parts) (place : PartHole) → Hole

  -- the place of a part; `parent` is what was told of the node around as it was entered, which says whether the part is an open
  -- list
  pub data PartHole : Type 0 where
    at_part : (parent : Parent) (kind : Kind) (id : ℕ) (span : Option (ℕ × ℕ)) (semantic_id : Option ℕ) (before after : Parts) (outer : Hole) → PartHole

-- the places around a hole, the outermost first, as the context tells of them
abbrev mutual
  pub places : Hole → List Ancestor
  places top = []
  places (of_child place) = part_places place
  places (of_item before after place) = part_places place

  pub part_places : PartHole → List Ancestor
  part_places (at_part parent k i sp si before after outer) = going_into (places outer) parent (count before)

-- the nodes that a walk has still to enter, in preorder
abbrev mutual
  pub pending : Tree → List Tree → List Tree
  pending (Node k i sp si ps) rest = Node k i sp si ps ∷ pending_of ps rest

  pub pending_of : Parts → List Tree → List Tree
  pending_of end rest = rest
  pending_of (more p ps) rest = pending_part p (pending_of ps rest)

  pub pending_part : Part → List Tree → List Tree
  pending_part (child t) rest = pending t rest
  pending_part absent rest = rest
  pending_part (list all) rest = pending_items all rest
  pending_part (string s) rest = rest
  pending_part no_string rest = rest
  pending_part (boolean b) rest = rest
  pending_part (literal v) rest = rest

  pub pending_items : Parts → List Tree → List Tree
  pending_items end rest = rest
  pending_items (more p ps) rest = pending_item p (pending_items ps rest)

  pub pending_item : Part → List Tree → List Tree
  pending_item (child t) rest = pending t rest
  pending_item absent rest = rest
  pending_item (list all) rest = rest
  pending_item (string s) rest = rest
  pending_item no_string rest = rest
  pending_item (boolean b) rest = rest
  pending_item (literal v) rest = rest

abbrev pub pending_below : Tree → List Tree → List Tree
pending_below (Node k i sp si ps) rest = pending_of ps rest
