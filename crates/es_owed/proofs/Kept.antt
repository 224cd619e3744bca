-- What stands, node by node.
use Rattle.std.proofs.Common.{◌≡◌, refl, ℕ, List, ◌∷◌, map, ◌&&◌, ◌||◌}
use Rattle.std.specs.Prelude.{nat_eq, not}
use Rattle.es_base.specs.Preorder.{number_of, preorder_of_part}
use Rattle.es_base.specs.Tree.{Tree, Node}
use Rattle.es_node.specs.View.{kind_of, number_in, parts_in}
use Rattle.es_steps.specs.KeptNodes.{NodeSort, sort_of, is_kept_sort, same_sort, stands_as, all_stand, are_new_or_among, numbers_in_class, none_enters}
use Rattle.es_steps.specs.Parts.{at}
use Rattle.es_steps.specs.PrivateNames.{is_class}

pub all_stand_more : (t : Tree) (ts qs : List Tree) → all_stand (t ∷ ts) qs ≡ ((not (is_kept_sort (sort_of (kind_of t))) || stands_as (number_in t) (sort_of (kind_of t)) qs) && all_stand ts qs)
all_stand_more (Node kind m span semantic_id ps) ts qs = refl

pub stands_as_more : (n : ℕ) (sort : NodeSort) (t : Tree) (ts : List Tree) → stands_as n sort (t ∷ ts) ≡ ((nat_eq n (number_in t) && same_sort sort (sort_of (kind_of t))) || stands_as n sort ts)
stands_as_more n sort (Node kind m span semantic_id ps) ts = refl

pub none_enters_more : (first : ℕ) (ps : List Tree) (t : Tree) (ts : List Tree) → none_enters first ps (t ∷ ts) ≡ ((not (is_class (kind_of t)) || are_new_or_among first (numbers_in_class (number_in t) ps) (map number_of (preorder_of_part (at 2 (parts_in t))))) && none_enters first ps ts)
none_enters_more first ps (Node kind m span semantic_id qs) ts = refl
