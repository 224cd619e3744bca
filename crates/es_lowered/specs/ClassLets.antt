-- The `let` that a class declaration becomes has a value behind the class (14.3.1): so its initializer holds nothing of the source but
-- the class, and the own name of a class expression becomes none. (Our own.)
use Rattle.std.specs.Prelude.{ℕ, List, [], ◌∷◌, ◌++◌, Bool, true, false, cond, not, ◌&&◌, ◌||◌, nat_eq, Option, Some, None}
use Rattle.es_base.specs.Preorder.{number_of, preorder_of, preorder_of_part}
use Rattle.es_base.specs.Tree.{Tree, Part, Parts, Node, end, more, child, list}
use Rattle.es_base.specs.declared.kind.Kind.{Kind}
use Rattle.es_lowered.specs.ClassNames.{numbers_of, is_none}
use Rattle.es_steps.specs.KeptNodes.{are_new_or_among}
use Rattle.es_steps.specs.Parts.{at, is_present}
use Rattle.es_steps.specs.References.{has_number}
use Rattle.es_steps.specs.Scopes.{class_in}

-- whether a part is the identifier b
abbrev pub is_identifier : ℕ → Part → Bool
is_identifier b (child t) = nat_eq b (number_of t)
is_identifier b p = false

-- whether b is the own name of a class expression
abbrev pub names_expression : ℕ → List Tree → Bool
names_expression b [] = false
names_expression b (Node Kind.ClassExpression n span semantic_id ps ∷ ts) = is_identifier b (at 0 ps) || names_expression b ts
names_expression b (t ∷ ts) = names_expression b ts

abbrev pub is_class_of : ℕ → Option ℕ → Bool
is_class_of n None = false
is_class_of n (Some k) = nat_eq n k

-- the nodes of the class declaration that b names, or of the one without a name that the initializer holds
abbrev pub nodes_of_declared : ℕ → Option ℕ → List Tree → List ℕ
nodes_of_declared b given [] = []
nodes_of_declared b given (Node Kind.ClassDeclaration n span semantic_id ps ∷ ts) =
    cond (is_identifier b (at 0 ps) || (not (is_present (at 0 ps)) && is_class_of n given)) (n ∷ numbers_of (preorder_of ps)) [] ++ nodes_of_declared b given ts
nodes_of_declared b given (t ∷ ts) = nodes_of_declared b given ts

-- ps are the nodes of the source
module _ (first : ℕ) (ps : List Tree) where
  abbrev pub initializer_fits : List ℕ → List ℕ → Bool
  initializer_fits declared ns = is_none declared || are_new_or_among first declared ns

  abbrev pub let_fits : ℕ → ℕ → Part → Bool
  let_fits m b e = has_number m (numbers_of ps) || (not (names_expression b ps) && initializer_fits (nodes_of_declared b (class_in e) ps) (numbers_of (preorder_of_part e)))

  abbrev pub declarator_fits : Kind → ℕ → Parts → Bool
  declarator_fits Kind.VariableDeclarator m (more (child t) (more e end)) = let_fits m (number_of t) e
  declarator_fits kind m qs = true

  abbrev mutual
    pub class_lets_fit : Tree → Bool
    class_lets_fit (Node kind m span semantic_id qs) = declarator_fits kind m qs && class_lets_fit_in qs

    pub class_lets_fit_in : Parts → Bool
    class_lets_fit_in end = true
    class_lets_fit_in (more p qs) = class_lets_fit_at p && class_lets_fit_in qs

    pub class_lets_fit_at : Part → Bool
    class_lets_fit_at (child t) = class_lets_fit t
    class_lets_fit_at (list qs) = class_lets_fit_in qs
    class_lets_fit_at p = true
