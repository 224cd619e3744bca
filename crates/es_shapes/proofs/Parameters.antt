-- Constructors and their parameters: what the kind of a node says.
use Rattle.std.proofs.Common.{◌≡◌, refl, ℕ, true, false, Option}
use Rattle.es_base.specs.Tree.{Tree, Parts, Node, end, more, child}
use Rattle.es_base.specs.declared.kind.Kind.{Kind}
use Rattle.es_node.specs.View.{kind_of}
use Rattle.es_steps.specs.LoweredClasses.{constructor_function}
use Rattle.es_steps.specs.Scopes.{is_binding_identifier}
use Rattle.es_steps.specs.Parts.{is_simple_parameter}

pub no_method : (t : Tree) → (kind_of t ≡ Kind.MethodDefinition → ⊥) → (rest : Parts) → constructor_function (more (child t) rest) ≡ constructor_function rest
no_method (Node Kind.MethodDefinition m span semantic_id ps) other rest = absurd (other refl)
no_method (Node kind m span semantic_id ps) other rest = refl

pub simple_name : (t : Tree) → kind_of t ≡ Kind.BindingIdentifier → is_simple_parameter (child t) ≡ true
simple_name (Node Kind.BindingIdentifier m span semantic_id ps) is = refl
simple_name (Node kind m span semantic_id ps) is = absurd (cc)

pub rest_name : (m : ℕ) (span : Option (ℕ × ℕ)) (semantic_id : Option ℕ) (t : Tree) → is_simple_parameter (child (Node Kind.RestElement m span semantic_id (more (child t) end))) ≡ is_binding_identifier (kind_of t)
rest_name m span semantic_id (Node Kind.BindingIdentifier b bspan b_semantic_id ps) = refl
rest_name m span semantic_id (Node kind b bspan b_semantic_id ps) = refl

pub no_simple : (t : Tree) → (kind_of t ≡ Kind.BindingIdentifier → ⊥) → (kind_of t ≡ Kind.RestElement → ⊥) → is_simple_parameter (child t) ≡ false
no_simple (Node Kind.BindingIdentifier m span semantic_id ps) name rest = absurd (name refl)
no_simple (Node Kind.RestElement m span semantic_id ps) name rest = absurd (rest refl)
no_simple (Node kind m span semantic_id ps) name rest = refl
