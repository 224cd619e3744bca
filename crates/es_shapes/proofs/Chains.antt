-- Chains among the nodes of a program.
use Rattle.std.proofs.Common.{◌≡◌, refl, ap, ℕ, List, [], ◌∷◌, Bool, true, false, ◌&&◌, ◌||◌, Option}
use Rattle.std.specs.List.{list_any}
use Rattle.es_base.specs.Tree.{Tree, Part, Parts, Node, more, child, boolean}
use Rattle.es_base.specs.declared.kind.Kind.{Kind}
use Rattle.es_node.specs.View.{kind_of}
use Rattle.es_steps.specs.Parts.{at}
use Rattle.es_steps.specs.Shapes.{private_behind, private_behind_part, private_chains}
use Rattle.es_shapes.specs.Chains.{is_private_chain}

pub no_chain : (t : Tree) → (kind_of t ≡ Kind.ChainExpression → ⊥) → is_private_chain t ≡ false
no_chain (Node Kind.ChainExpression m span semantic_id ps) other = absurd (other refl)
no_chain (Node kind m span semantic_id ps) other = refl

pub no_spine : (met : Bool) (t : Tree) → (kind_of t ≡ Kind.MemberExpression → ⊥) → (kind_of t ≡ Kind.PrivateField → ⊥) → (kind_of t ≡ Kind.CallExpression → ⊥) → private_behind met t ≡ false
no_spine met (Node Kind.MemberExpression m span semantic_id ps) member field call = absurd (member refl)
no_spine met (Node Kind.PrivateField m span semantic_id ps) member field call = absurd (field refl)
no_spine met (Node Kind.CallExpression m span semantic_id ps) member field call = absurd (call refl)
no_spine met (Node kind m span semantic_id ps) member field call = refl

or_none : (b : Bool) → (b || false) ≡ b
or_none true = refl
or_none false = refl

or_true : (b : Bool) → (b || true) ≡ true
or_true true = refl
or_true false = refl

pub behind_member : (met : Bool) (m : ℕ) (span : Option (ℕ × ℕ)) (semantic_id : Option ℕ) (object : Tree) (property computed : Part) (optional : Bool) (rest : Parts) → private_behind met (Node Kind.MemberExpression m span semantic_id (more (child object) (more property (more computed (more (boolean optional) rest))))) ≡ ((optional && met) || private_behind met object)
behind_member met m span semantic_id object property computed optional rest = ap (λ b. (optional && b) || private_behind b object) (or_none met)

pub behind_private : (met : Bool) (m : ℕ) (span : Option (ℕ × ℕ)) (semantic_id : Option ℕ) (object : Tree) (property computed : Part) (optional : Bool) (rest : Parts) → private_behind met (Node Kind.PrivateField m span semantic_id (more (child object) (more property (more computed (more (boolean optional) rest))))) ≡ ((optional && true) || private_behind true object)
behind_private met m span semantic_id object property computed optional rest = ap (λ b. (optional && b) || private_behind b object) (or_true met)

pub behind_call : (met : Bool) (m : ℕ) (span : Option (ℕ × ℕ)) (semantic_id : Option ℕ) (callee : Tree) (arguments : Part) (optional : Bool) (rest : Parts) → private_behind met (Node Kind.CallExpression m span semantic_id (more (child callee) (more arguments (more (boolean optional) rest)))) ≡ ((optional && met) || private_behind met callee)
behind_call met m span semantic_id callee arguments optional rest = ap (λ b. (optional && b) || private_behind b callee) (or_none met)

pub any_chain : (ts : List Tree) → private_chains ts ≡ list_any is_private_chain ts
any_chain [] = refl
any_chain (Node Kind.ChainExpression m span semantic_id ps ∷ ts) = ap (λ b. private_behind_part false (at 0 ps) || b) (any_chain ts)
any_chain (Node kind m span semantic_id ps ∷ ts) = any_chain ts
