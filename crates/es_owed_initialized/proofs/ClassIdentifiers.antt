-- The identifiers of each class, gathered in one walk.
use Rattle.std.proofs.Common.{◌≡◌, refl, ap, ◌∙◌, ℕ, List, [], ◌∷◌, ◌++◌, Bool, true, false, cond, not, ◌&&◌, ◌||◌, nat_eq, Option, Some, None}
use Rattle.es_base.specs.Numbered.{is_new}
use Rattle.es_base.specs.Tree.{Tree, Part, Parts, Node, child}
use Rattle.es_base.specs.declared.kind.Kind.{Kind}
use Rattle.es_grouped.specs.Groups.{having}
use Rattle.es_grouped.proofs.Having.{having_append}
use Rattle.es_lowered.specs.Definitions.{class_identifiers, declares_class, identifier_in, is_class_number, old_ones}
use Rattle.es_node.specs.View.{kind_of, number_in, parts_in}
use Rattle.es_owed_initialized.specs.Identifiers.{declared_class, identified, is_old, with_class}
use Rattle.es_steps.specs.Parts.{at}
use Rattle.es_steps.specs.Scopes.{class_in, is_binding_identifier}

pub identified_more : (first : ℕ) (t : Tree) (ts : List Tree) → identified first (t ∷ ts) ≡ with_class (declared_class first (kind_of t) (number_in t) (parts_in t)) (identifier_in (at 0 (parts_in t))) ++ identified first ts
identified_more first (Node kind m span semantic_id ps) ts = refl

pub declared_here : (first m : ℕ) (kind : Kind) (ps : Parts) → kind ≡ Kind.ClassDeclaration → declared_class first kind m ps ≡ Some m
declared_here first m kind ps is = ap (λ k. declared_class first k m ps) is

pub expressed_here : (first m : ℕ) (kind : Kind) (ps : Parts) → kind ≡ Kind.ClassExpression → declared_class first kind m ps ≡ Some m
expressed_here first m kind ps is = ap (λ k. declared_class first k m ps) is

pub given_here : (first m : ℕ) (kind : Kind) (ps : Parts) → kind ≡ Kind.VariableDeclarator → declared_class first kind m ps ≡ cond (is_new first m && is_old first (identifier_in (at 0 ps))) (class_in (at 1 ps)) None
given_here first m kind ps is = ap (λ k. declared_class first k m ps) is

pub declared_nowhere : (first m : ℕ) (kind : Kind) (ps : Parts) → (kind ≡ Kind.ClassDeclaration → ⊥) → (kind ≡ Kind.ClassExpression → ⊥) → (kind ≡ Kind.VariableDeclarator → ⊥) → declared_class first kind m ps ≡ None
declared_nowhere first m Kind.ClassDeclaration ps a b c = absurd (a refl)
declared_nowhere first m Kind.ClassExpression ps a b c = absurd (b refl)
declared_nowhere first m Kind.VariableDeclarator ps a b c = absurd (c refl)
declared_nowhere first m kind ps a b c = refl

pub old_node : (first : ℕ) (t : Tree) → is_old first (identifier_in (child t)) ≡ (not (is_binding_identifier (kind_of t)) || not (is_new first (number_in t)))
old_node first (Node Kind.BindingIdentifier b span semantic_id ps) = refl
old_node first (Node kind b span semantic_id ps) = refl

-- ---- those of one class

-- of a class that is this or another
of_class : (n k : ℕ) (bs : List ℕ) → having n (with_class (Some k) bs) ≡ cond (nat_eq n k) bs []
of_class n k [] = none (nat_eq n k)
  where
    none : (b : Bool) → [] ≡ cond {A = List ℕ} b [] []
    none true = refl
    none false = refl
of_class n k (b ∷ bs) = ap (λ cs. cond (nat_eq n k) (b ∷ []) [] ++ cs) (of_class n k bs) ∙ both (nat_eq n k)
  where
    both : (t : Bool) → cond t (b ∷ []) [] ++ cond t bs [] ≡ cond t (b ∷ bs) []
    both true = refl
    both false = refl

-- of the class that a declarator has, if any
of_given : (n : ℕ) (is : Bool) (c : Option ℕ) (bs : List ℕ) → having n (with_class (cond is c None) bs) ≡ cond (is && is_class_number n c) bs []
of_given n true None bs = refl
of_given n true (Some k) bs = of_class n k bs
of_given n false c bs = refl

old_or_none : (first : ℕ) (a b : Bool) (p : Part) → cond ((a && is_old first (identifier_in p)) && b) (identifier_in p) [] ≡ cond (a && b) (old_ones first (identifier_in p)) []
old_or_none first a b (child (Node Kind.BindingIdentifier m span semantic_id ps)) = here a b (is_new first m)
  where
    here : (a b new : Bool) → cond ((a && not new) && b) (m ∷ []) [] ≡ cond (a && b) (cond new [] (m ∷ []) ++ []) []
    here true true true = refl
    here true true false = refl
    here true false true = refl
    here true false false = refl
    here false b new = refl
old_or_none first a b p = none a b
  where
    none : (a b : Bool) → cond {A = List ℕ} ((a && true) && b) [] [] ≡ cond (a && b) [] []
    none true true = refl
    none true false = refl
    none false b = refl

one_node : (first n m : ℕ) (kind : Kind) (ps : Parts) → having n (with_class (declared_class first kind m ps) (identifier_in (at 0 ps))) ≡ declares_class first n kind m ps
one_node first n m Kind.ClassDeclaration ps = of_class n m (identifier_in (at 0 ps))
one_node first n m Kind.ClassExpression ps = of_class n m (identifier_in (at 0 ps))
one_node first n m Kind.VariableDeclarator ps =
    of_given n (is_new first m && is_old first (identifier_in (at 0 ps))) (class_in (at 1 ps)) (identifier_in (at 0 ps))
    ∙ old_or_none first (is_new first m) (is_class_number n (class_in (at 1 ps))) (at 0 ps)
one_node first n m kind ps = refl

pub of_each_class : (first n : ℕ) (ts : List Tree) → having n (identified first ts) ≡ class_identifiers first n ts
of_each_class first n [] = refl
of_each_class first n (Node kind m span semantic_id ps ∷ ts) =
    having_append n (with_class (declared_class first kind m ps) (identifier_in (at 0 ps))) (identified first ts)
    ∙ ap (λ bs. bs ++ having n (identified first ts)) (one_node first n m kind ps)
    ∙ ap (λ bs. declares_class first n kind m ps ++ bs) (of_each_class first n ts)
