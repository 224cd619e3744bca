-- Declarations of generated names, node by node.
use Rattle.std.proofs.Common.{◌≡◌, refl, ap, ◌∙◌, ℕ, List, [], ◌∷◌, ◌++◌, Bool, true, false, cond, ◌&&◌, bytes_eq}
use Rattle.std.specs.Prelude.{nat_eq}
use Rattle.es_base.specs.Tree.{Tree, Node, end, more, child, absent, list, string, no_string, boolean, literal}
use Rattle.es_base.specs.declared.kind.Kind.{Kind}
use Rattle.es_node.specs.View.{kind_of, number_in, parts_in}
use Rattle.es_lowered.specs.Lowered.{declaring_number, is_one_new, keys_in, keys_of_body, keys_of_class, private_key}
use Rattle.es_steps.specs.Parts.{at, string_of}
use Rattle.es_steps.specs.References.{Reference, resolve}
use Rattle.es_steps.specs.Scopes.{is_binding_identifier}
use Rattle.es_steps.specs.Values.{String}
use Rattle.es_owed.specs.Listed.{numbered}
use Rattle.es_owed_names.specs.Keys.{is_one_meant, key_at}

pub declaring_node : (s : String) (t : Tree) → declaring_number s t ≡ cond (is_binding_identifier (kind_of t) && bytes_eq s (string_of (at 0 (parts_in t)))) (number_in t ∷ []) []
declaring_node s (Node kind m span semantic_id ps) = refl

pub class_node : (first n : ℕ) (s : String) (t : Tree) → keys_of_class first n s t ≡ cond (nat_eq n (number_in t)) (keys_of_body first s (at 2 (parts_in t))) []
class_node first n s (Node kind m span semantic_id ps) = refl

pub no_body : (first : ℕ) (s : String) (t : Tree) → (kind_of t ≡ Kind.ClassBody → ⊥) → keys_of_body first s (child t) ≡ []
no_body first s (Node Kind.ClassBody m span semantic_id ps) other = absurd (other refl)
no_body first s (Node kind m span semantic_id ps) other = refl

pub key_element : (first : ℕ) (s : String) (t : Tree) → private_key first s (child t) ≡ key_at s (at 0 (parts_in t))
key_element first s (Node kind m span semantic_id end) = refl
key_element first s (Node kind m span semantic_id (more (child (Node Kind.PrivateIdentifier d dspan d_semantic_id ds)) ps)) = refl
key_element first s (Node kind m span semantic_id (more (child (Node key d dspan d_semantic_id ds)) ps)) = refl
key_element first s (Node kind m span semantic_id (more absent ps)) = refl
key_element first s (Node kind m span semantic_id (more (list es) ps)) = refl
key_element first s (Node kind m span semantic_id (more (string t) ps)) = refl
key_element first s (Node kind m span semantic_id (more no_string ps)) = refl
key_element first s (Node kind m span semantic_id (more (boolean b) ps)) = refl
key_element first s (Node kind m span semantic_id (more (literal v) ps)) = refl

pub no_key : (s : String) (t : Tree) → (kind_of t ≡ Kind.PrivateIdentifier → ⊥) → key_at s (child t) ≡ []
no_key s (Node Kind.PrivateIdentifier d span semantic_id ps) other = absurd (other refl)
no_key s (Node kind d span semantic_id ps) other = refl

pub key_node : (s : String) (t : Tree) → kind_of t ≡ Kind.PrivateIdentifier → key_at s (child t) ≡ cond (bytes_eq s (string_of (at 0 (parts_in t)))) (number_in t ∷ []) []
key_node s (Node kind d span semantic_id ps) is = ap (λ k. key_at s (child (Node k d span semantic_id ps))) is

pub keys_numbered : (first n : ℕ) (s : String) (ts : List Tree) → keys_in first n s (numbered n ts) ≡ keys_in first n s ts
keys_numbered first n s [] = refl
keys_numbered first n s (Node kind k span semantic_id ps ∷ ts) = here (nat_eq n k) refl (keys_numbered first n s ts)
  where
    here : (b : Bool) → nat_eq n k ≡ b → keys_in first n s (numbered n ts) ≡ keys_in first n s ts
        → keys_in first n s (cond b (Node kind k span semantic_id ps ∷ []) [] ++ numbered n ts) ≡ cond b (keys_of_body first s (at 2 ps)) [] ++ keys_in first n s ts
    here true e h = ap (λ c. cond c (keys_of_body first s (at 2 ps)) [] ++ keys_in first n s (numbered n ts)) e ∙ ap (λ (ks : List ℕ). keys_of_body first s (at 2 ps) ++ ks) h
    here false e h = h

one : (first : ℕ) (s : String) (q : Tree) (bs : List ℕ) → is_one_meant first s (resolve q) bs ≡ is_one_new first s q bs
one first s q [] = refl
one first s q (b ∷ []) = refl
one first s q (b ∷ (c ∷ bs)) = refl

pub one_meant : (first : ℕ) (s : String) (q : Tree) (rs : List Reference) (bs : List ℕ) → rs ≡ resolve q → is_one_meant first s rs bs ≡ is_one_new first s q bs
one_meant first s q rs bs is = ap (λ (xs : List Reference). is_one_meant first s xs bs) is ∙ one first s q bs
