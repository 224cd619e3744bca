-- What stands in a class, node by node.
use Rattle.std.proofs.Common.{◌≡◌, refl, sym, ap, ◌∙◌, ℕ, List, [], ◌∷◌, ◌++◌, map, Bool, true, false, cond, ◌&&◌, ◌||◌, append-nil, Option}
use Rattle.std.proofs.Math.Bool.{and-false}
use Rattle.std.specs.Prelude.{nat_eq}
use Rattle.es_base.specs.Preorder.{number_of, preorder, preorder_of, preorder_of_part}
use Rattle.es_base.specs.Tree.{Tree, Parts, Node, end, more, child}
use Rattle.es_base.specs.declared.kind.Kind.{Kind}
use Rattle.es_lowered.specs.ClassNames.{body_numbers, class_runs, element_numbers, numbers_inside, numbers_of, numbers_of_class}
use Rattle.es_lowered.specs.HelperCalls.{body_runs}
use Rattle.es_lowered.specs.Temporaries.{nodes_of_class}
use Rattle.es_node.specs.View.{kind_of, number_in, parts_in}
use Rattle.es_steps.specs.Parts.{at}
use Rattle.es_steps.specs.PrivateNames.{is_class}
use Rattle.es_owed.specs.Listed as listed
use Rattle.es_owed_class_names.specs.Inside.{element_number, numbers_in, runs_by}

numbers_append : (ts us : List Tree) → numbers_of (ts ++ us) ≡ numbers_of ts ++ numbers_of us
numbers_append [] us = refl
numbers_append (t ∷ ts) us = ap (λ (ns : List ℕ). number_of t ∷ ns) (numbers_append ts us)

pub numbered : (n : ℕ) (ts : List Tree) → map number_of (nodes_of_class n ts) ≡ numbers_of_class n ts
numbered n [] = refl
numbered n (Node kind m span semantic_id ps ∷ ts) =
    numbers_append (cond (is_class kind && nat_eq n m) (preorder_of ps) []) (nodes_of_class n ts)
    ∙ ap (λ ns. ns ++ numbers_of (nodes_of_class n ts)) (here (is_class kind && nat_eq n m))
    ∙ ap (λ ns. cond (is_class kind && nat_eq n m) (numbers_of (preorder_of ps)) [] ++ ns) (numbered n ts)
  where
    here : (b : Bool) → numbers_of (cond b (preorder_of ps) []) ≡ cond b (numbers_of (preorder_of ps)) []
    here true = refl
    here false = refl

pub of_numbered : (n : ℕ) (ts : List Tree) → numbers_of_class n (listed.numbered n ts) ≡ numbers_of_class n ts
of_numbered n [] = refl
of_numbered n (Node kind m span semantic_id ps ∷ ts) = here (nat_eq n m) refl (of_numbered n ts)
  where
    all : List ℕ
    all = numbers_of (preorder_of ps)

    here : (b : Bool) → nat_eq n m ≡ b → numbers_of_class n (listed.numbered n ts) ≡ numbers_of_class n ts
        → numbers_of_class n (cond b (Node kind m span semantic_id ps ∷ []) [] ++ listed.numbered n ts) ≡ cond (is_class kind && nat_eq n m) all [] ++ numbers_of_class n ts
    here true e h = ap (λ ns. cond (is_class kind && nat_eq n m) all [] ++ ns) h
    here false e h = h ∙ ap (λ b. cond b all [] ++ numbers_of_class n ts) (sym (ap (λ b. is_class kind && b) e ∙ and-false (is_class kind)))

-- ---- in elements

pub inside_more : (n : ℕ) (t : Tree) (ts : List Tree) → numbers_inside n (t ∷ ts) ≡ numbers_in n t ++ numbers_inside n ts
inside_more n (Node kind m span semantic_id ps) ts = refl

pub inside_numbered : (n : ℕ) (ts : List Tree) → numbers_inside n (listed.numbered n ts) ≡ numbers_inside n ts
inside_numbered n [] = refl
inside_numbered n (Node kind m span semantic_id ps ∷ ts) = here (nat_eq n m) refl (inside_numbered n ts)
  where
    own : List ℕ
    own = body_numbers (at 2 ps)

    here : (b : Bool) → nat_eq n m ≡ b → numbers_inside n (listed.numbered n ts) ≡ numbers_inside n ts
        → numbers_inside n (cond b (Node kind m span semantic_id ps ∷ []) [] ++ listed.numbered n ts) ≡ cond (is_class kind && nat_eq n m) own [] ++ numbers_inside n ts
    here true e h = ap (λ ns. cond (is_class kind && nat_eq n m) own [] ++ ns) h
    here false e h = h ∙ ap (λ b. cond b own [] ++ numbers_inside n ts) (sym (ap (λ b. is_class kind && b) e ∙ and-false (is_class kind)))

by_class : (n : ℕ) (t : Tree) → numbers_in n t ≡ cond (is_class (kind_of t) && nat_eq n (number_in t)) (body_numbers (at 2 (parts_in t))) []
by_class n (Node kind m span semantic_id ps) = refl

pub in_class : (n : ℕ) (t u : Tree) → (is_class (kind_of t) && nat_eq n (number_in t)) ≡ true → at 2 (parts_in t) ≡ child u → numbers_in n t ≡ body_numbers (child u)
in_class n t u is body = by_class n t ∙ ap (λ b. cond b (body_numbers (at 2 (parts_in t))) []) is ∙ ap body_numbers body

pub in_other : (n : ℕ) (t : Tree) → (is_class (kind_of t) && nat_eq n (number_in t)) ≡ false → numbers_in n t ≡ []
in_other n t other = by_class n t ∙ ap (λ b. cond b (body_numbers (at 2 (parts_in t))) []) other

pub no_body : (t : Tree) → (kind_of t ≡ Kind.ClassBody → ⊥) → body_numbers (child t) ≡ []
no_body (Node Kind.ClassBody m span semantic_id ps) other = absurd (other refl)
no_body (Node kind m span semantic_id ps) other = refl

pub element_more : (t : Tree) (es : Parts) → element_numbers (more (child t) es) ≡ element_number t ++ element_numbers es
element_more (Node kind m span semantic_id end) es = refl
element_more (Node kind m span semantic_id (more k ps)) es = refl

pub method_element : (m : ℕ) (span : Option (ℕ × ℕ)) (semantic_id : Option ℕ) (k v : Tree) (ps : Parts) → preorder_of ps ≡ [] → element_number (Node Kind.MethodDefinition m span semantic_id (more (child k) (more (child v) ps))) ≡ numbers_of (preorder v)
method_element m span semantic_id k v ps none = ap (λ ts. numbers_of (preorder v ++ ts)) none ∙ ap numbers_of (append-nil (preorder v))

pub field_element : (m : ℕ) (span : Option (ℕ × ℕ)) (semantic_id : Option ℕ) (k v : Tree) (ps : Parts) → preorder_of ps ≡ [] → element_number (Node Kind.PropertyDefinition m span semantic_id (more (child k) (more (child v) ps))) ≡ numbers_of (preorder v)
field_element m span semantic_id k v ps none = ap (λ ts. numbers_of (preorder v ++ ts)) none ∙ ap numbers_of (append-nil (preorder v))

pub other_element : (t : Tree) → (kind_of t ≡ Kind.MethodDefinition → ⊥) → (kind_of t ≡ Kind.PropertyDefinition → ⊥) → element_number t ≡ numbers_of (preorder_of (parts_in t))
other_element (Node Kind.MethodDefinition m span semantic_id ps) a b = absurd (a refl)
other_element (Node Kind.PropertyDefinition m span semantic_id ps) a b = absurd (b refl)
other_element (Node kind m span semantic_id end) a b = refl
other_element (Node kind m span semantic_id (more k ps)) a b = sym (numbers_append (preorder_of_part k) (preorder_of ps))

pub numbers_with : (t : Tree) → map number_of (preorder t) ≡ number_of t ∷ numbers_of (preorder_of (parts_in t))
numbers_with (Node kind m span semantic_id ps) = refl

-- ---- elements that run

pub runs_more : (n : ℕ) (t : Tree) (ts : List Tree) → class_runs n (t ∷ ts) ≡ (runs_by n t || class_runs n ts)
runs_more n (Node kind m span semantic_id ps) ts = refl

runs_node : (n : ℕ) (t : Tree) → runs_by n t ≡ ((is_class (kind_of t) && nat_eq n (number_in t)) && body_runs (at 2 (parts_in t)))
runs_node n (Node kind m span semantic_id ps) = refl

pub runs_class : (n : ℕ) (t u : Tree) → (is_class (kind_of t) && nat_eq n (number_in t)) ≡ true → at 2 (parts_in t) ≡ child u → runs_by n t ≡ body_runs (child u)
runs_class n t u is body = runs_node n t ∙ ap (λ b. b && body_runs (at 2 (parts_in t))) is ∙ ap body_runs body

pub runs_other : (n : ℕ) (t : Tree) → (is_class (kind_of t) && nat_eq n (number_in t)) ≡ false → runs_by n t ≡ false
runs_other n t other = runs_node n t ∙ ap (λ b. b && body_runs (at 2 (parts_in t))) other

pub runs_numbered : (n : ℕ) (ts : List Tree) → class_runs n (listed.numbered n ts) ≡ class_runs n ts
runs_numbered n [] = refl
runs_numbered n (Node kind m span semantic_id ps ∷ ts) = here (nat_eq n m) refl (runs_numbered n ts)
  where
    here : (b : Bool) → nat_eq n m ≡ b → class_runs n (listed.numbered n ts) ≡ class_runs n ts
        → class_runs n (cond b (Node kind m span semantic_id ps ∷ []) [] ++ listed.numbered n ts) ≡ (((is_class kind && nat_eq n m) && body_runs (at 2 ps)) || class_runs n ts)
    here true e h = ap (λ b. ((is_class kind && nat_eq n m) && body_runs (at 2 ps)) || b) h
    here false e h = h ∙ ap (λ b. (b && body_runs (at 2 ps)) || class_runs n ts) (sym (ap (λ b. is_class kind && b) e ∙ and-false (is_class kind)))
