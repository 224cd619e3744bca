-- In a program that is left as it is each `let` stands in the source.
use Rattle.std.specs.Prelude.{◌≡◌, ℕ, List, [], ◌∷◌, Bool, true, not, ◌||◌, ◌&&◌, nat_eq}
use Rattle.std.proofs.Common.{refl}
use Rattle.es_base.specs.Preorder.{number_of, preorder, preorder_of, preorder_of_part}
use Rattle.es_base.specs.Tree.{Tree, Part, Parts, Node, end, more, child, list}
use Rattle.es_base.specs.declared.kind.Kind.{Kind}
use Rattle.es_lowered.specs.ClassLets.{names_expression, nodes_of_declared, initializer_fits, declarator_fits, class_lets_fit, class_lets_fit_in, class_lets_fit_at}
use Rattle.es_lowered.specs.ClassNames.{numbers_of}
use Rattle.es_steps.specs.References.{has_number}
use Rattle.es_steps.specs.Scopes.{class_in}
use Rattle.es_left.proofs.Booleans.{both}
use Rattle.es_steps.proofs.Reflexive.{number-same}
use Rattle.es_unchanged.proofs.Standing.{or_right, In, here, later, Among, in-left, in-right}

number-in : (t : Tree) (ts : List Tree) → In t ts → has_number (number_of t) (numbers_of ts) ≡ true
number-in t [] i = elim i [ ]
number-in t (u ∷ ts) here = rw (number-same (number_of t)) refl
number-in t (u ∷ ts) (later i) = or_right (nat_eq (number_of t) (number_of u)) (has_number (number_of t) (numbers_of ts)) (number-in t ts i)

module _ (first : ℕ) (us : List Tree) where
  standing : {b : Bool} → b ≡ true → (x : Bool) → (b || x) ≡ true
  standing e x = rw e refl

  declarator-fits : (kind : Kind) (m : ℕ) (qs : Parts) → has_number m (numbers_of us) ≡ true → declarator_fits first us kind m qs ≡ true
  declarator-fits Kind.VariableDeclarator m (more (child t) (more e end)) i =
      standing i (not (names_expression (number_of t) us) && initializer_fits first us (nodes_of_declared (number_of t) (class_in e) us) (numbers_of (preorder_of_part e)))
  declarator-fits kind m qs i = refl

  mutual
    pub class_lets-fit : (t : Tree) → Among (preorder t) us → class_lets_fit first us t ≡ true
    class_lets-fit (Node kind m span semantic_id qs) h =
        both (declarator-fits kind m qs (number-in (Node kind m span semantic_id qs) us (h (Node kind m span semantic_id qs) here))) (class_lets-fit_in qs (λ u i. h u (later i)))

    class_lets-fit_in : (qs : Parts) → Among (preorder_of qs) us → class_lets_fit_in first us qs ≡ true
    class_lets-fit_in end h = refl
    class_lets-fit_in (more p qs) h =
        both (class_lets-fit_at p (λ u i. h u (in-left u (preorder_of_part p) (preorder_of qs) i))) (class_lets-fit_in qs (λ u i. h u (in-right u (preorder_of_part p) (preorder_of qs) i)))

    class_lets-fit_at : (p : Part) → Among (preorder_of_part p) us → class_lets_fit_at first us p ≡ true
    class_lets-fit_at (child t) h = class_lets-fit t h
    class_lets-fit_at (list qs) h = class_lets-fit_in qs h
    class_lets-fit_at p h = refl
