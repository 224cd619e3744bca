-- Nodes are looked up by their numbers.
use Rattle.std.proofs.Common.{◌≡◌, refl, sym, ap, ◌∙◌, ℕ, List, [], ◌∷◌, ◌++◌, map, Bool, true, false, cond, ◌&&◌, ◌||◌, nat_eq, Bor}
use Rattle.std.proofs.Math.Bool.{and-false}
use Rattle.es_base.specs.Preorder.{number_of, preorder_of_part}
use Rattle.es_base.specs.Tree.{Tree, Node}
use Rattle.es_binding_faults.specs.Seen.{seen}
use Rattle.es_grouped.specs.Groups.{having}
use Rattle.es_lowered.specs.Definitions.{body_numbers, element_numbers}
use Rattle.es_node.specs.View.{number_in}
use Rattle.es_steps.specs.KeptNodes.{NodeSort, item_numbers, list_of, numbers_in_class, same_sort, sort_of, stands_as, stands_equal, statement_list}
use Rattle.es_steps.specs.LoweredClasses.{elements_of}
use Rattle.es_steps.specs.Parts.{at}
use Rattle.es_steps.specs.PrivateNames.{is_class}
use Rattle.es_steps.specs.SameTrees.{same_kind, same_parts}
use Rattle.es_owed.specs.Listed.{numbered}

pub by_numbers : (m : ℕ) (ns : List (Bor Tree)) → seen (having m (map (λ (n : Bor Tree). (number_of n.now, n)) ns)) ≡ numbered m (seen ns)
by_numbers m [] = refl
by_numbers m (n ∷ ns) = here (nat_eq m (number_of n.now)) (by_numbers m ns)
  where
    here : (b : Bool) → seen (having m (map (λ (n : Bor Tree). (number_of n.now, n)) ns)) ≡ numbered m (seen ns)
        → seen (cond b (n ∷ []) [] ++ having m (map (λ (n : Bor Tree). (number_of n.now, n)) ns)) ≡ cond b (n.now ∷ []) [] ++ numbered m (seen ns)
    here true h = ap (λ ts. n.now ∷ ts) h
    here false h = h

-- ---- a search for a node of a number need not go over the others

pub stands_as_numbered : (n : ℕ) (sort : NodeSort) (ts : List Tree) → stands_as n sort (numbered n ts) ≡ stands_as n sort ts
stands_as_numbered n sort [] = refl
stands_as_numbered n sort (Node kind k span semantic_id ps ∷ ts) = here (nat_eq n k) refl (stands_as_numbered n sort ts)
  where
    here : (b : Bool) → nat_eq n k ≡ b → stands_as n sort (numbered n ts) ≡ stands_as n sort ts
        → stands_as n sort (cond b (Node kind k span semantic_id ps ∷ []) [] ++ numbered n ts) ≡ ((b && same_sort sort (sort_of kind)) || stands_as n sort ts)
    here true e h = ap (λ c. (c && same_sort sort (sort_of kind)) || stands_as n sort (numbered n ts)) e ∙ ap (λ c. same_sort sort (sort_of kind) || c) h
    here false e h = h

pub list_of_numbered : (n : ℕ) (ts : List Tree) → list_of n (numbered n ts) ≡ list_of n ts
list_of_numbered n [] = refl
list_of_numbered n (Node kind k span semantic_id ps ∷ ts) = here (nat_eq n k) refl (list_of_numbered n ts)
  where
    here : (b : Bool) → nat_eq n k ≡ b → list_of n (numbered n ts) ≡ list_of n ts
        → list_of n (cond b (Node kind k span semantic_id ps ∷ []) [] ++ numbered n ts) ≡ cond b (item_numbers (statement_list kind ps)) (list_of n ts)
    here true e h = ap (λ c. cond c (item_numbers (statement_list kind ps)) (list_of n (numbered n ts))) e
    here false e h = h

pub in_class_numbered : (n : ℕ) (ts : List Tree) → numbers_in_class n (numbered n ts) ≡ numbers_in_class n ts
in_class_numbered n [] = refl
in_class_numbered n (Node kind k span semantic_id ps ∷ ts) = here (nat_eq n k) refl (in_class_numbered n ts)
  where
    below : List ℕ
    below = map number_of (preorder_of_part (at 2 ps))

    here : (b : Bool) → nat_eq n k ≡ b → numbers_in_class n (numbered n ts) ≡ numbers_in_class n ts
        → numbers_in_class n (cond b (Node kind k span semantic_id ps ∷ []) [] ++ numbered n ts) ≡ cond (is_class kind && b) below (numbers_in_class n ts)
    here true e h = ap (λ c. cond (is_class kind && c) below (numbers_in_class n (numbered n ts))) e ∙ ap (λ ns. cond (is_class kind && true) below ns) h
    here false e h = h ∙ ap (λ c. cond c below (numbers_in_class n ts)) (sym (and-false (is_class kind)))

pub body_numbered : (n : ℕ) (ts : List Tree) → body_numbers n (numbered n ts) ≡ body_numbers n ts
body_numbered n [] = refl
body_numbered n (Node kind k span semantic_id ps ∷ ts) = here (nat_eq n k) refl (body_numbered n ts)
  where
    elements : List ℕ
    elements = element_numbers (elements_of ps)

    here : (b : Bool) → nat_eq n k ≡ b → body_numbers n (numbered n ts) ≡ body_numbers n ts
        → body_numbers n (cond b (Node kind k span semantic_id ps ∷ []) [] ++ numbered n ts) ≡ cond (is_class kind && b) elements (body_numbers n ts)
    here true e h = ap (λ c. cond (is_class kind && c) elements (body_numbers n (numbered n ts))) e ∙ ap (λ ns. cond (is_class kind && true) elements ns) h
    here false e h = h ∙ ap (λ c. cond c elements (body_numbers n ts)) (sym (and-false (is_class kind)))

-- a tree is equal to none of another number
pub equal_numbered : (t : Tree) (us : List Tree) → stands_equal t (numbered (number_in t) us) ≡ stands_equal t us
equal_numbered t [] = refl
equal_numbered (Node kind m span semantic_id ps) (Node kind2 k span2 semantic_id2 qs ∷ us) = here (nat_eq m k) refl (equal_numbered (Node kind m span semantic_id ps) us)
  where
    t : Tree
    t = Node kind m span semantic_id ps

    here : (b : Bool) → nat_eq m k ≡ b → stands_equal t (numbered m us) ≡ stands_equal t us
        → stands_equal t (cond b (Node kind2 k span2 semantic_id2 qs ∷ []) [] ++ numbered m us) ≡ ((same_kind kind kind2 && (b && same_parts ps qs)) || stands_equal t us)
    here true e h = ap (λ c. (same_kind kind kind2 && (c && same_parts ps qs)) || stands_equal t (numbered m us)) e ∙ ap (λ c. (same_kind kind kind2 && same_parts ps qs) || c) h
    here false e h = h ∙ ap (λ c. c || stands_equal t us) (sym (and-false (same_kind kind kind2)))
