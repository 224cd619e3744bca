-- Without generated names none is given a value in the head of a for-in.
use Rattle.std.specs.Prelude.{◌≡◌, ℕ, List, [], ◌∷◌, true}
use Rattle.std.proofs.Common.{refl}
use Rattle.std.proofs.Math.Bool.{and-false}
use Rattle.es_base.specs.Preorder.{preorder_of_part}
use Rattle.es_base.specs.Tree.{Tree, Node}
use Rattle.es_left.proofs.Booleans.{both}
use Rattle.es_lowered.specs.ClassNames.{numbers_of}
use Rattle.es_lowered.specs.HeadValues.{head_value, given_inside, head_values_stay}
use Rattle.es_steps.specs.References.{Reference}

none-given : (inside : List ℕ) (all rs : List Reference) → given_inside [] inside all rs ≡ true
none-given inside all [] = refl
none-given inside all (r ∷ rs) = rw (and-false r.writes, none-given inside all rs) refl

pub head_values-stay : (all : List Reference) (ts : List Tree) → head_values_stay [] all ts ≡ true
head_values-stay all [] = refl
head_values-stay all (Node kind m span semantic_id ps ∷ ts) = both (none-given (numbers_of (preorder_of_part (head_value kind ps))) all all) (head_values-stay all ts)
