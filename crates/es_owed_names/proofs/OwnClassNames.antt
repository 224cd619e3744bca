-- Own names of classes, node by node.
use Rattle.std.proofs.Common.{◌≡◌, refl, sym, ap, ◌∙◌, ℕ, List, [], ◌∷◌, ◌++◌, Bool, true, false, cond, ◌&&◌, ◌||◌, bytes_eq, arith, Option, Some, None}
use Rattle.std.proofs.lemmas.Bool.Decides.{nat_tests}
use Rattle.std.specs.Prelude.{nat_eq, not}
use Rattle.std.specs.Str.{chars}
use Rattle.es_base.specs.Conforms.{is_among}
use Rattle.es_base.specs.Preorder.{number_of}
use Rattle.es_base.specs.Tree.{Tree, Parts, Node, more, child, absent}
use Rattle.es_base.specs.declared.ids.NodeId.{NodeId}
use Rattle.es_base.specs.declared.kind.Kind.{Kind}
use Rattle.es_node.specs.View.{kind_of}
use Rattle.es_lowered.specs.OwnNames.{are_none, class_name_at, declares_class, is_bound_among, own_name_number, references_to}
use Rattle.es_references.specs.References.{reference_of, references_of, referent_of}
use Rattle.es_references.specs.declared.references.Reference.{Reference}
use Rattle.es_steps.specs.Parts.{at, string_of}
use Rattle.es_steps.specs.References as spec
use Rattle.es_steps.specs.References.{has_number}
use Rattle.es_steps.specs.Values.{String}
use Rattle.es_owed.specs.Listed.{numbered}
use Rattle.es_owed_names.specs.OwnNames.{bound_numbers, bound_to, named_class, own_number}

pub no_class : (p : Tree) (rs : List spec.Reference) (t : Tree) → (kind_of t ≡ Kind.ClassExpression → ⊥) → own_name_number p rs t ≡ []
no_class p rs (Node Kind.ClassExpression m span semantic_id ps) other = absurd (other refl)
no_class p rs (Node kind m span semantic_id ps) other = refl

pub no_name : (p : Tree) (rs : List spec.Reference) (n : ℕ) (span : Option (ℕ × ℕ)) (semantic_id : Option ℕ) (ps : Parts) → own_name_number p rs (Node Kind.ClassExpression n span semantic_id (more absent ps)) ≡ []
no_name p rs n span semantic_id ps = refl

pub own_node : (p : Tree) (rs : List spec.Reference) (n : ℕ) (span : Option (ℕ × ℕ)) (semantic_id : Option ℕ) (t : Tree) (ps : Parts) → own_name_number p rs (Node Kind.ClassExpression n span semantic_id (more (child t) ps)) ≡ own_number p rs n t
own_node p rs n span semantic_id (Node kind b bspan b_semantic_id bs) ps = refl

pub no_declaration : (n : ℕ) (s : String) (t : Tree) → (kind_of t ≡ Kind.ClassDeclaration → ⊥) → is_among s (class_name_at n t) ≡ false
no_declaration n s (Node Kind.ClassDeclaration m span semantic_id ps) other = absurd (other refl)
no_declaration n s (Node kind m span semantic_id ps) other = refl

pub unnamed : (n : ℕ) (s : String) (m : ℕ) (span : Option (ℕ × ℕ)) (semantic_id : Option ℕ) (ps : Parts) → is_among s (class_name_at n (Node Kind.ClassDeclaration m span semantic_id (more absent ps))) ≡ false
unnamed n s m span semantic_id ps = refl

or_none : (a : Bool) → (a || false) ≡ a
or_none true = refl
or_none false = refl

pub named_node : (n : ℕ) (s : String) (m : ℕ) (span : Option (ℕ × ℕ)) (semantic_id : Option ℕ) (t : Tree) (ps : Parts) → is_among s (class_name_at n (Node Kind.ClassDeclaration m span semantic_id (more (child t) ps))) ≡ named_class (nat_eq n m) s t
named_node n s m span semantic_id (Node kind b bspan b_semantic_id bs) ps = here (nat_eq n m)
  where
    here : (is_class : Bool) → is_among s (cond is_class (string_of (at 0 bs) ∷ []) []) ≡ (is_class && bytes_eq (string_of (at 0 bs)) s)
    here true = or_none (bytes_eq (string_of (at 0 bs)) s)
    here false = refl

-- ---- a class is declared by the node of its number

elsewhere : (n : ℕ) (t : Tree) → nat_eq n (number_of t) ≡ false → class_name_at n t ≡ []
elsewhere n (Node Kind.ClassDeclaration m span semantic_id (more (child (Node kind b bspan b_semantic_id bs)) ps)) other = ap (λ c. cond c (string_of (at 0 bs) ∷ []) []) other
elsewhere n t other = refl

pub declares_numbered : (n : ℕ) (s : String) (ts : List Tree) → declares_class n s (numbered n ts) ≡ declares_class n s ts
declares_numbered n s [] = refl
declares_numbered n s (t ∷ ts) = here (nat_eq n (number_of t)) refl (declares_numbered n s ts)
  where
    here : (b : Bool) → nat_eq n (number_of t) ≡ b → declares_class n s (numbered n ts) ≡ declares_class n s ts
        → declares_class n s (cond b (t ∷ []) [] ++ numbered n ts) ≡ (is_among s (class_name_at n t) || declares_class n s ts)
    here true e h = ap (λ c. is_among s (class_name_at n t) || c) h
    here false e h = h ∙ ap (λ (ss : List String). is_among s ss || declares_class n s ts) (sym (elsewhere n t e))

-- ---- what references mean

none_more : (bs : List ℕ) (r : spec.Reference) (rs : List spec.Reference) → are_none (references_to bs (r ∷ rs)) ≡ (not (is_bound_among bs r.to) && are_none (references_to bs rs))
none_more bs r rs = here (is_bound_among bs r.to)
  where
    here : (b : Bool) → are_none (cond b (r.number ∷ []) [] ++ references_to bs rs) ≡ (not b && are_none (references_to bs rs))
    here true = refl
    here false = refl

not_either : (a b : Bool) → (not a && not b) ≡ not (a || b)
not_either true b = refl
not_either false b = refl

both_ways : (m n : ℕ) → nat_eq m n ≡ nat_eq n m
both_ways m n = grind (arith, nat_tests)

or_more : (b k : ℕ) (ks : List ℕ) → (not (nat_eq k b || false) && not (has_number b ks)) ≡ not (nat_eq b k || has_number b ks)
or_more b k ks = ap (λ c. not c && not (has_number b ks)) (or_none (nat_eq k b) ∙ both_ways k b) ∙ not_either (nat_eq b k) (has_number b ks)

none_means : (b : ℕ) (s : String) (o : Option NodeId) (ks : List ℕ) → (not (is_bound_among (b ∷ []) (referent_of s o)) && not (has_number b ks)) ≡ not (has_number b (bound_to o ++ ks))
none_means b s None ks = refl
none_means b s (Some k) ks = or_more b k.0 ks

pub none_bound : (b : ℕ) (rs : List Reference) → are_none (references_to (b ∷ []) (references_of rs)) ≡ not (has_number b (bound_numbers rs))
none_bound b [] = refl
none_bound b (r ∷ rs) =
    none_more (b ∷ []) (reference_of r) (references_of rs)
    ∙ ap (λ c. not (is_bound_among (b ∷ []) (reference_of r).to) && c) (none_bound b rs)
    ∙ none_means b (chars r.name.now) r.binding (bound_numbers rs)
