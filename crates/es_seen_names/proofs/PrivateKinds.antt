-- What the kind of a node says of private members.
use Rattle.std.proofs.Common.{◌≡◌, refl, ℕ, []}
use Rattle.es_base.specs.Tree.{Tree, Node, child}
use Rattle.es_base.specs.declared.kind.Kind.{Kind}
use Rattle.es_node.specs.View.{kind_of, parts_in}
use Rattle.es_steps.specs.PrivateNames.{body_members, members_at}

pub no_members : (t : Tree) (n : ℕ) → (kind_of t ≡ Kind.ClassDeclaration → ⊥) → (kind_of t ≡ Kind.ClassExpression → ⊥) → members_at (kind_of t) n (parts_in t) ≡ []
no_members (Node Kind.ClassDeclaration m span semantic_id ps) n declaration expression = absurd (declaration refl)
no_members (Node Kind.ClassExpression m span semantic_id ps) n declaration expression = absurd (expression refl)
no_members (Node kind m span semantic_id ps) n declaration expression = refl

pub no_body : (t : Tree) (n : ℕ) → (kind_of t ≡ Kind.ClassBody → ⊥) → body_members n (child t) ≡ []
no_body (Node Kind.ClassBody m span semantic_id ps) n other = absurd (other refl)
no_body (Node kind m span semantic_id ps) n other = refl
