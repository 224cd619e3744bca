-- The identifiers that declare classes, each with the class.
use Rattle.std.specs.Prelude.{ℕ, List, [], ◌∷◌, ◌++◌, Bool, true, cond, not, ◌&&◌, Option, Some, None}
use Rattle.es_base.specs.Numbered.{is_new}
use Rattle.es_base.specs.Tree.{Tree, Parts, Node}
use Rattle.es_base.specs.declared.kind.Kind.{Kind}
use Rattle.es_lowered.specs.Definitions.{identifier_in}
use Rattle.es_steps.specs.Parts.{at}
use Rattle.es_steps.specs.Scopes.{class_in}

-- there is none, or it is of the source
abbrev pub is_old : ℕ → List ℕ → Bool
is_old first [] = true
is_old first (b ∷ bs) = not (is_new first b)

-- the class that a node declares, if its first part is an identifier
abbrev pub declared_class : ℕ → Kind → ℕ → Parts → Option ℕ
declared_class first Kind.ClassDeclaration m ps = Some m
declared_class first Kind.ClassExpression m ps = Some m
declared_class first Kind.VariableDeclarator m ps = cond (is_new first m && is_old first (identifier_in (at 0 ps))) (class_in (at 1 ps)) None
declared_class first kind m ps = None

abbrev pub with_class : Option ℕ → List ℕ → List (ℕ × ℕ)
with_class None bs = []
with_class (Some n) [] = []
with_class (Some n) (b ∷ bs) = (n, b) ∷ with_class (Some n) bs

abbrev pub identified : ℕ → List Tree → List (ℕ × ℕ)
identified first [] = []
identified first (Node kind m span semantic_id ps ∷ ts) = with_class (declared_class first kind m ps) (identifier_in (at 0 ps)) ++ identified first ts

-- the numbers of values, by these
abbrev pub turned : List (ℕ × ℕ) → List (ℕ × ℕ)
turned [] = []
turned (p ∷ ps) = (p.1, p.0) ∷ turned ps
