-- What the kind of a node says of `super(..)` and of a rest.
use Rattle.std.proofs.Common.{◌≡◌, refl, ℕ, Option, None}
use Rattle.es_base.specs.Tree.{Tree, Part, Parts, Node, end, more, child}
use Rattle.es_base.specs.declared.kind.Kind.{Kind}
use Rattle.es_node.specs.View.{kind_of, parts_in}
use Rattle.es_steps.specs.Context.{name_in, rest_among, super_statement}
use Rattle.es_steps.specs.Parts.{at}
use Rattle.es_seen_names.specs.SuperCalls.{super_call}

pub no_statement : (t : Tree) → (kind_of t ≡ Kind.ExpressionStatement → ⊥) → super_statement (child t) ≡ None
no_statement (Node Kind.ExpressionStatement m span semantic_id ps) other = absurd (other refl)
no_statement (Node kind m span semantic_id ps) other = refl

pub statement_is : (m : ℕ) (span : Option (ℕ × ℕ)) (semantic_id : Option ℕ) (e : Tree) (directive : Part) → super_statement (child (Node Kind.ExpressionStatement m span semantic_id (more (child e) (more directive end)))) ≡ super_call (child e)
statement_is m span semantic_id (Node Kind.CallExpression k kspan k_semantic_id (more (child (Node Kind.Super s sspan s_semantic_id ss)) (more arguments rest))) directive = refl
statement_is m span semantic_id e directive = refl

pub no_call : (t : Tree) → (kind_of t ≡ Kind.CallExpression → ⊥) → super_call (child t) ≡ None
no_call (Node Kind.CallExpression m span semantic_id ps) other = absurd (other refl)
no_call (Node kind m span semantic_id ps) other = refl

pub no_super : (k : ℕ) (span : Option (ℕ × ℕ)) (semantic_id : Option ℕ) (f : Tree) (rest : Parts) → (kind_of f ≡ Kind.Super → ⊥) → super_call (child (Node Kind.CallExpression k span semantic_id (more (child f) rest))) ≡ None
no_super k span semantic_id (Node Kind.Super s sspan s_semantic_id ss) rest other = absurd (other refl)
no_super k span semantic_id f rest other = refl

-- ---- a rest

pub no_rest : (t : Tree) (rest : Parts) → (kind_of t ≡ Kind.RestElement → ⊥) → rest_among (more (child t) rest) ≡ rest_among rest
no_rest (Node Kind.RestElement m span semantic_id ps) rest other = absurd (other refl)
no_rest (Node kind m span semantic_id ps) rest other = refl

pub rest_here : (t : Tree) (rest : Parts) → kind_of t ≡ Kind.RestElement → rest_among (more (child t) rest) ≡ name_in (at 0 (parts_in t))
rest_here (Node Kind.RestElement m span semantic_id ps) rest is = refl
rest_here (Node kind m span semantic_id ps) rest is = absurd (cc)
