-- Classes and what stands in them, node by node.
use Rattle.std.proofs.Common.{◌≡◌, refl, sym, ap, ◌∙◌, ℕ, List, [], ◌∷◌, ◌++◌, Bool, true, false, cond, ◌&&◌, append-nil}
use Rattle.std.proofs.Math.Bool.{and-false}
use Rattle.std.specs.Prelude.{nat_eq}
use Rattle.es_base.specs.Preorder.{preorder, preorder_of, preorder_of_part}
use Rattle.es_base.specs.Tree.{Tree, Node}
use Rattle.es_base.specs.declared.kind.Kind.{Kind}
use Rattle.es_node.specs.View.{kind_of, number_in, parts_in}
use Rattle.es_owed.specs.Listed.{numbered}
use Rattle.es_steps.specs.LoweredClasses.{is_private_key}
use Rattle.es_steps.specs.Parts.{at}
use Rattle.es_steps.specs.PrivateNames.{is_class}
use Rattle.es_lowered.specs.ClassNames.{class_numbers, numbers_of}
use Rattle.es_lowered.specs.Lowered.{private_numbers}
use Rattle.es_lowered.specs.Temporaries.{nodes_of_class}

pub more_classes : (t : Tree) (ts : List Tree) → class_numbers (t ∷ ts) ≡ cond (is_class (kind_of t)) (number_in t ∷ []) [] ++ class_numbers ts
more_classes (Node kind m span semantic_id ps) ts = refl

pub more_nodes : (n : ℕ) (t : Tree) (ts : List Tree) → nodes_of_class n (t ∷ ts) ≡ cond (is_class (kind_of t) && nat_eq n (number_in t)) (preorder_of (parts_in t)) [] ++ nodes_of_class n ts
more_nodes n (Node kind m span semantic_id ps) ts = refl

-- those of a number need not be sought among the others
pub nodes_numbered : (n : ℕ) (ts : List Tree) → nodes_of_class n (numbered n ts) ≡ nodes_of_class n ts
nodes_numbered n [] = refl
nodes_numbered n (Node kind m span semantic_id ps ∷ ts) = here (nat_eq n m) refl (nodes_numbered n ts)
  where
    here : (b : Bool) → nat_eq n m ≡ b → nodes_of_class n (numbered n ts) ≡ nodes_of_class n ts
        → nodes_of_class n (cond b (Node kind m span semantic_id ps ∷ []) [] ++ numbered n ts) ≡ cond (is_class kind && b) (preorder_of ps) [] ++ nodes_of_class n ts
    here true is h = ap (λ b. cond (is_class kind && b) (preorder_of ps) [] ++ nodes_of_class n (numbered n ts)) is ∙ ap (λ us. cond (is_class kind && true) (preorder_of ps) [] ++ us) h
    here false is h = h ∙ ap (λ b. cond b (preorder_of ps) [] ++ nodes_of_class n ts) (sym (and-false (is_class kind)))

pub below_node : (t : Tree) → preorder t ≡ t ∷ preorder_of (parts_in t)
below_node (Node kind m span semantic_id ps) = refl

-- ---- in functions of private methods

pub more_private : (t : Tree) (ts : List Tree) → private_numbers (t ∷ ts) ≡ private_numbers (t ∷ []) ++ private_numbers ts
more_private (Node Kind.MethodDefinition m span semantic_id ps) ts = ap (λ ns. ns ++ private_numbers ts) (sym (append-nil (cond (is_private_key (at 0 ps)) (numbers_of (preorder_of_part (at 1 ps))) [])))
more_private (Node kind m span semantic_id ps) ts = refl

pub private_method : (t : Tree) → kind_of t ≡ Kind.MethodDefinition → private_numbers (t ∷ []) ≡ cond (is_private_key (at 0 (parts_in t))) (numbers_of (preorder_of_part (at 1 (parts_in t)))) []
private_method (Node Kind.MethodDefinition m span semantic_id ps) is = append-nil (cond (is_private_key (at 0 ps)) (numbers_of (preorder_of_part (at 1 ps))) [])
private_method (Node kind m span semantic_id ps) is = absurd (cc)

pub no_method : (t : Tree) → (kind_of t ≡ Kind.MethodDefinition → ⊥) → private_numbers (t ∷ []) ≡ []
no_method (Node Kind.MethodDefinition m span semantic_id ps) other = absurd (other refl)
no_method (Node kind m span semantic_id ps) other = refl
