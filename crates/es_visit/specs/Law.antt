-- Where a visitor goes into every node, it meets each node once, in preorder.
use Rattle.std.specs.Prelude.{◌≡◌, ℕ, ◌+◌, List, [], ◌∷◌, ◌++◌, Bool, map}
use Rattle.es_base.specs.Preorder.{preorder}
use Rattle.es_base.specs.Table.{members_of}
use Rattle.es_base.specs.Tree.{Tree, Part, Parts, Node, end, more, child, absent, list, string, no_string, boolean, literal}
use Rattle.es_base.specs.declared.kind.Kind.{Kind}
use Rattle.es_node.specs.View.{kind_of}
use Rattle.es_visit.specs.Reading.{Hook, Entry, entry, hooks_of, reading, everywhere}
use Rattle.es_visit.specs.Roles.{role_at, is_computed}
use Rattle.es_visit.specs.declared.roles.Role.{Role}

-- the nodes of a tree in preorder, each with the role in which it stands
abbrev mutual
  pub standing : Role → Tree → List (Role × Tree)
  standing role (Node k i sp si ps) = (role, Node k i sp si ps) ∷ standing_below k (is_computed k ps) 0 ps

  pub standing_below : Kind → Bool → ℕ → Parts → List (Role × Tree)
  standing_below k computed at end = []
  standing_below k computed at (more p ps) = standing_part (role_at computed (members_of k) at) p ++ standing_below k computed (at + 1) ps

  pub standing_part : Role → Part → List (Role × Tree)
  standing_part role (child t) = standing role t
  standing_part role absent = []
  standing_part role (list all) = standing_items role all
  standing_part role (string s) = []
  standing_part role no_string = []
  standing_part role (boolean b) = []
  standing_part role (literal v) = []

  pub standing_items : Role → Parts → List (Role × Tree)
  standing_items role end = []
  standing_items role (more p ps) = standing_part role p ++ standing_items role ps

-- the hooks of a node, and then others
abbrev pub met : List Hook → Tree → List Entry → List Entry
met [] t es = es
met (h ∷ hs) t es = entry h t ∷ met hs t es

-- the hooks of these nodes in turn, and then others
abbrev pub met_in_turn : List (Role × Tree) → List Entry → List Entry
met_in_turn [] es = es
met_in_turn (x ∷ xs) es = met (hooks_of x.0 (kind_of x.1)) x.1 (met_in_turn xs es)

abbrev pub EntriesLaw : Type 0
EntriesLaw = (role : Role) (t : Tree) (rest : List Entry) → reading everywhere role t rest ≡ met_in_turn (standing role t) rest

abbrev pub NodesLaw : Type 0
NodesLaw = (role : Role) (t : Tree) → map (λ x. x.1) (standing role t) ≡ preorder t
