-- What a definition by the form of a node says of any node.
use Rattle.std.proofs.Common.{◌≡◌, refl, ap, ◌∙◌, ℕ, List, [], ◌∷◌, ◌++◌, Bool, true, false, cond, ◌&&◌, ◌||◌, nat_eq}
use Rattle.es_base.specs.Numbered.{is_new}
use Rattle.es_base.specs.Tree.{Tree, Node}
use Rattle.es_lowered.specs.Carriers.{becomes, carries, has_its_name, has_question, is_carried, keeps_form, keeps_target, may_question, odd_form, stands_for_node}
use Rattle.es_lowered.specs.KeptWords.{keeps_words}
use Rattle.es_node.specs.View.{kind_of, number_in, parts_in}
use Rattle.es_steps.specs.Parts.{at, string_of}
use Rattle.es_steps.specs.References.{is_reference}
use Rattle.es_steps.specs.SameTrees.{same_kind}
use Rattle.es_owed.specs.Listed.{numbered}
use Rattle.es_owed_carriers.specs.Carried.{carries_node, is_carried_among, is_made_so}

pub carried_node : (first : ℕ) (ps : List Tree) (t : Tree) → is_carried first ps t ≡ cond (is_new first (number_in t)) (is_made_so (kind_of t) (parts_in t)) (stands_for_node (kind_of t) (number_in t) (parts_in t) ps)
carried_node first ps (Node kind n span semantic_id qs) = refl

stands-among : (t : Tree) (ps : List Tree) → is_carried_among t ps ≡ stands_for_node (kind_of t) (number_in t) (parts_in t) ps
stands-among t [] = refl
stands-among t (Node kind m span semantic_id qs ∷ ps) = ap (λ b. (nat_eq (number_in t) m && carries kind qs (kind_of t) (parts_in t)) || b) (stands-among t ps)

among_numbered : (t : Tree) (ps : List Tree) → is_carried_among t (numbered (number_in t) ps) ≡ is_carried_among t ps
among_numbered t [] = refl
among_numbered t (Node kind m span semantic_id qs ∷ ps) = here (nat_eq (number_in t) m) refl (among_numbered t ps)
  where
    becomes_it : Bool
    becomes_it = carries kind qs (kind_of t) (parts_in t)

    here : (b : Bool) → nat_eq (number_in t) m ≡ b → is_carried_among t (numbered (number_in t) ps) ≡ is_carried_among t ps
        → is_carried_among t (cond b (Node kind m span semantic_id qs ∷ []) [] ++ numbered (number_in t) ps) ≡ ((b && becomes_it) || is_carried_among t ps)
    here true e h = ap (λ c. (c && becomes_it) || is_carried_among t (numbered (number_in t) ps)) e ∙ ap (λ c. becomes_it || c) h
    here false e h = h

pub stands_numbered : (t : Tree) (ps : List Tree) → is_carried_among t (numbered (number_in t) ps) ≡ stands_for_node (kind_of t) (number_in t) (parts_in t) ps
stands_numbered t ps = among_numbered t ps ∙ stands-among t ps

pub carries_by_node : (q p : Tree) → carries_node q p ≡ cond (is_reference (kind_of q)) (has_its_name (kind_of p) (string_of (at 0 (parts_in p))) (string_of (at 0 (parts_in q)))) (((same_kind (kind_of p) (kind_of q) && keeps_words (kind_of p) (parts_in p) (parts_in q)) || becomes (kind_of p) (kind_of q)) && (keeps_target (kind_of p) (parts_in p) (kind_of q) (parts_in q) && (keeps_form (odd_form (kind_of p) (parts_in p)) (odd_form (kind_of q) (parts_in q)) && (has_question (kind_of p) (parts_in p) || may_question (kind_of q) (parts_in q)))))
carries_by_node q p = refl
