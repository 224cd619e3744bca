-- Classes that are known by names of their own, node by node.
use Rattle.std.proofs.Common.{◌≡◌, refl, ℕ, List, [], ◌∷◌, ◌++◌, Bool, true, false, cond, Option}
use Rattle.es_base.specs.Tree.{Tree, Parts, Node, end, more, child, string}
use Rattle.es_base.specs.declared.kind.Kind.{Kind}
use Rattle.es_node.specs.View.{kind_of, number_in, parts_in}
use Rattle.es_steps.specs.ClassHeads.{head_nodes, is_named_pair, named_among, named_by, names_itself, reads_spelling}
use Rattle.es_steps.specs.Parts.{at}
use Rattle.es_named_classes.specs.Naming.{named_class}

-- the first node, and those behind it
pub first_named : (t : Tree) (ts : List Tree) → named_among (t ∷ ts) ≡ named_class t ++ named_among ts
first_named (Node Kind.ClassDeclaration n span semantic_id ps) ts = refl
first_named (Node Kind.ClassExpression n span semantic_id ps) ts = refl
first_named (Node kind n span semantic_id ps) ts = refl

pub no_class : (t : Tree) → (kind_of t ≡ Kind.ClassDeclaration → ⊥) → (kind_of t ≡ Kind.ClassExpression → ⊥) → named_class t ≡ []
no_class (Node Kind.ClassDeclaration n span semantic_id ps) declaration expression = absurd (declaration refl)
no_class (Node Kind.ClassExpression n span semantic_id ps) declaration expression = absurd (expression refl)
no_class (Node kind n span semantic_id ps) declaration expression = refl

no-pair : (xs : List (ℕ × ℕ)) → is_named_pair xs ≡ false → xs ≡ []
no-pair [] is = refl
no-pair (x ∷ xs) is = absurd (cc)

pub not_itself : (t : Tree) → kind_of t ≡ Kind.ClassExpression → names_itself (number_in t) (parts_in t) ≡ false → named_class t ≡ []
not_itself (Node Kind.ClassExpression n span semantic_id ps) expression is = no-pair (named_by n (at 0 ps) (head_nodes ps)) is
not_itself (Node Kind.ClassDeclaration n span semantic_id ps) expression is = absurd (cc)
not_itself (Node kind n span semantic_id ps) expression is = refl

pair-if : (n b : ℕ) (reads : Bool) → is_named_pair (cond reads ((n, b) ∷ []) []) ≡ true → cond {A = List (ℕ × ℕ)} reads ((n, b) ∷ []) [] ≡ ((n, b) ∷ [])
pair-if n b true is = refl
pair-if n b false is = absurd (cc)

pair-of : (n : ℕ) (id : Tree) (heads : List Tree) → is_named_pair (named_by n (child id) heads) ≡ true → named_by n (child id) heads ≡ ((n, number_in id) ∷ [])
pair-of n (Node Kind.BindingIdentifier b span semantic_id (more (string s) end)) heads is = pair-if n b (reads_spelling s heads) is
pair-of n (Node kind b span semantic_id ps) heads is = absurd (cc)

pub itself : (n : ℕ) (span : Option (ℕ × ℕ)) (semantic_id : Option ℕ) (id : Tree) (ps : Parts) → names_itself n (more (child id) ps) ≡ true → named_class (Node Kind.ClassExpression n span semantic_id (more (child id) ps)) ≡ ((n, number_in id) ∷ [])
itself n span semantic_id id ps is = pair-of n id (head_nodes (more (child id) ps)) is
