-- What stands in a class, node by node.
use Rattle.std.specs.Prelude.{ℕ, List, [], ◌++◌, Bool, cond, ◌&&◌, nat_eq}
use Rattle.es_base.specs.Preorder.{preorder_of}
use Rattle.es_base.specs.Tree.{Tree, Node, end, more}
use Rattle.es_lowered.specs.ClassNames.{body_numbers, numbers_of, numbers_of_key}
use Rattle.es_lowered.specs.HelperCalls.{body_runs}
use Rattle.es_steps.specs.Parts.{at}
use Rattle.es_steps.specs.PrivateNames.{is_class, is_element}

-- in the elements of a node, if that is class n
abbrev pub numbers_in : ℕ → Tree → List ℕ
numbers_in n (Node kind m span semantic_id ps) = cond (is_class kind && nat_eq n m) (body_numbers (at 2 ps)) []

abbrev pub element_number : Tree → List ℕ
element_number (Node kind m span semantic_id end) = []
element_number (Node kind m span semantic_id (more k ps)) = numbers_of_key (is_element kind) k ++ numbers_of (preorder_of ps)

-- whether a node is class n, and has elements that run with it
abbrev pub runs_by : ℕ → Tree → Bool
runs_by n (Node kind m span semantic_id ps) = (is_class kind && nat_eq n m) && body_runs (at 2 ps)
