-- Preorder: a node, then the nodes below it, part by part (our own; the order of the parts is the table's).
use Rattle.std.specs.Prelude.{ℕ, ◌+◌, nat_le, List, [], ◌∷◌, ◌++◌, Bool, true, false}
use Rattle.es_base.specs.Tree.{Tree, Part, Parts, Node, end, more, child, absent, list, string, no_string, boolean, literal}

-- the number of nodes
abbrev mutual
  pub nodes : Tree → ℕ
  nodes (Node kind id span semantic_id parts) = 1 + nodes_of parts

  pub nodes_of_part : Part → ℕ
  nodes_of_part (child t) = nodes t
  nodes_of_part absent = 0
  nodes_of_part (list all) = nodes_of all
  nodes_of_part (string chars) = 0
  nodes_of_part no_string = 0
  nodes_of_part (boolean value) = 0
  nodes_of_part (literal value) = 0

  pub nodes_of : Parts → ℕ
  nodes_of end = 0
  nodes_of (more first rest) = nodes_of_part first + nodes_of rest

-- the nodes in preorder, each with what stands below it
abbrev mutual
  pub preorder : Tree → List Tree
  preorder (Node kind id span semantic_id parts) = Node kind id span semantic_id parts ∷ preorder_of parts

  pub preorder_of_part : Part → List Tree
  preorder_of_part (child t) = preorder t
  preorder_of_part absent = []
  preorder_of_part (list all) = preorder_of all
  preorder_of_part (string chars) = []
  preorder_of_part no_string = []
  preorder_of_part (boolean value) = []
  preorder_of_part (literal value) = []

  pub preorder_of : Parts → List Tree
  preorder_of end = []
  preorder_of (more first rest) = preorder_of_part first ++ preorder_of rest

abbrev pub number_of : Tree → ℕ
number_of (Node kind id span semantic_id parts) = id

-- the tree with the numbers n, n + 1, .. in preorder
abbrev mutual
  pub numbered_from : ℕ → Tree → Tree
  numbered_from n (Node kind id span semantic_id parts) = Node kind n span semantic_id (numbered_parts (n + 1) parts)

  pub numbered_part : ℕ → Part → Part
  numbered_part n (child t) = child (numbered_from n t)
  numbered_part n absent = absent
  numbered_part n (list all) = list (numbered_parts n all)
  numbered_part n (string chars) = string chars
  numbered_part n no_string = no_string
  numbered_part n (boolean value) = boolean value
  numbered_part n (literal value) = literal value

  pub numbered_parts : ℕ → Parts → Parts
  numbered_parts n end = end
  numbered_parts n (more first rest) = more (numbered_part n first) (numbered_parts (n + nodes_of_part first) rest)

-- how many nodes have a number that is at least `first`
abbrev pub one_if : Bool → ℕ
one_if true = 1
one_if false = 0

abbrev mutual
  pub news : ℕ → Tree → ℕ
  news first (Node kind id span semantic_id parts) = one_if (nat_le first id) + news_of first parts

  pub news_of_part : ℕ → Part → ℕ
  news_of_part first (child t) = news first t
  news_of_part first absent = 0
  news_of_part first (list all) = news_of first all
  news_of_part first (string chars) = 0
  news_of_part first no_string = 0
  news_of_part first (boolean value) = 0
  news_of_part first (literal value) = 0

  pub news_of : ℕ → Parts → ℕ
  news_of first end = 0
  news_of first (more p rest) = news_of_part first p + news_of first rest

-- the tree whose numbers that are at least `first` are n, n + 1, .. in preorder; the others stay
abbrev pub either : Bool → ℕ → ℕ → ℕ
either true new old = new
either false new old = old

abbrev mutual
  pub renumbered : ℕ → ℕ → Tree → Tree
  renumbered first n (Node kind id span semantic_id parts) = Node kind (either (nat_le first id) n id) span semantic_id (renumbered_parts first (n + one_if (nat_le first id)) parts)

  pub renumbered_part : ℕ → ℕ → Part → Part
  renumbered_part first n (child t) = child (renumbered first n t)
  renumbered_part first n absent = absent
  renumbered_part first n (list all) = list (renumbered_parts first n all)
  renumbered_part first n (string chars) = string chars
  renumbered_part first n no_string = no_string
  renumbered_part first n (boolean value) = boolean value
  renumbered_part first n (literal value) = literal value

  pub renumbered_parts : ℕ → ℕ → Parts → Parts
  renumbered_parts first n end = end
  renumbered_parts first n (more p rest) = more (renumbered_part first n p) (renumbered_parts first (n + news_of_part first p) rest)
