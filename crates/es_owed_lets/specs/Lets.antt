-- The variables that classes become, node by node.
use Rattle.std.specs.Prelude.{ℕ, List, [], ◌∷◌, ◌++◌, Bool, true, false, cond, not, ◌&&◌, ◌||◌, Option, Some, None}
use Rattle.es_base.specs.Preorder.{number_of, preorder}
use Rattle.es_base.specs.Tree.{Tree, Part, Node, child}
use Rattle.es_base.specs.declared.kind.Kind.{Kind}
use Rattle.es_lowered.specs.ClassLets.{declarator_fits, is_class_of, is_identifier}
use Rattle.es_lowered.specs.ClassNames.{numbers_of}
use Rattle.es_steps.specs.Parts.{at, is_present}
use Rattle.es_steps.specs.References.{has_number}

-- ps are the nodes of the source
abbrev pub fits : ℕ → List Tree → Tree → Bool
fits first ps (Node kind m span semantic_id qs) = declarator_fits first ps kind m qs

abbrev pub all_fit : ℕ → List Tree → List Tree → Bool
all_fit first ps [] = true
all_fit first ps (t ∷ ts) = fits first ps t && all_fit first ps ts

-- ---- the own names of class expressions

abbrev pub identifier_in : Part → List ℕ
identifier_in (child t) = number_of t ∷ []
identifier_in p = []

abbrev pub own_name : Tree → List ℕ
own_name (Node Kind.ClassExpression m span semantic_id ps) = identifier_in (at 0 ps)
own_name t = []

abbrev pub own_names : List Tree → List ℕ
own_names [] = []
own_names (t ∷ ts) = own_name t ++ own_names ts

-- ---- class declarations, and what they are found by: their identifiers, and the numbers of those without one

abbrev pub declaration_at : Tree → List Tree
declaration_at (Node Kind.ClassDeclaration n span semantic_id ps) = Node Kind.ClassDeclaration n span semantic_id ps ∷ []
declaration_at t = []

abbrev pub declarations : List Tree → List Tree
declarations [] = []
declarations (t ∷ ts) = declaration_at t ++ declarations ts

abbrev pub key_of : Tree → List ℕ
key_of (Node Kind.ClassDeclaration n span semantic_id ps) = cond (is_present (at 0 ps)) (identifier_in (at 0 ps)) (n ∷ [])
key_of t = []

abbrev pub keys : List Tree → List ℕ
keys [] = []
keys (t ∷ ts) = key_of t ++ keys ts

abbrev pub is_class_among : Option ℕ → List ℕ → Bool
is_class_among None ns = false
is_class_among (Some n) ns = has_number n ns

abbrev pub has_key : ℕ → Option ℕ → List ℕ → Bool
has_key b given ns = has_number b ns || is_class_among given ns

-- whether b names the class declaration, or it has no name and is the class that is given
abbrev pub is_declared : ℕ → Option ℕ → Tree → Bool
is_declared b given (Node Kind.ClassDeclaration n span semantic_id ps) = is_identifier b (at 0 ps) || (not (is_present (at 0 ps)) && is_class_of n given)
is_declared b given t = false

abbrev pub declared_at : ℕ → Option ℕ → Tree → List ℕ
declared_at b given t = cond (is_declared b given t) (numbers_of (preorder t)) []
