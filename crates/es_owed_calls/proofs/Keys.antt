-- Computed keys, node by node.
use Rattle.std.proofs.Common.{◌≡◌, refl, ℕ, [], ◌∷◌, false, Option, None}
use Rattle.es_base.specs.Tree.{Tree, Parts, Node, end, more, child, literal}
use Rattle.es_base.specs.declared.kind.Kind.{Kind}
use Rattle.es_base.specs.declared.literal.LiteralValue.{LiteralValue}
use Rattle.es_base.specs.declared.literal.LiteralValue.TheVariants as literal_value
use Rattle.es_lowered.specs.HelperCalls.{computed_key, is_number_key, last_part, last_value_number, value_number, value_number_of}
use Rattle.es_node.specs.View.{kind_of, number_in}

pub no_key : (t : Tree) → (kind_of t ≡ Kind.PropertyDefinition → ⊥) → (kind_of t ≡ Kind.MethodDefinition → ⊥) → (kind_of t ≡ Kind.Property → ⊥) → computed_key t ≡ []
no_key (Node Kind.PropertyDefinition m span semantic_id ps) a b c = absurd (a refl)
no_key (Node Kind.MethodDefinition m span semantic_id ps) a b c = absurd (b refl)
no_key (Node Kind.Property m span semantic_id ps) a b c = absurd (c refl)
no_key (Node kind m span semantic_id ps) a b c = refl

pub number_key : (m : ℕ) (span : Option (ℕ × ℕ)) (semantic_id : Option ℕ) (v : LiteralValue) → is_number_key (child (Node Kind.Literal m span semantic_id (more (literal v) end))) ≡ is_number_key (child (Node Kind.Literal 0 None None (more (literal v) end)))
number_key m span semantic_id (literal_value.Number raw) = refl
number_key m span semantic_id (literal_value.BigInt s) = refl
number_key m span semantic_id v = refl

pub no_number_key : (t : Tree) → (kind_of t ≡ Kind.Literal → ⊥) → is_number_key (child t) ≡ false
no_number_key (Node Kind.Literal m span semantic_id ps) other = absurd (other refl)
no_number_key (Node kind m span semantic_id ps) other = refl

pub other_value : (t : Tree) → (kind_of t ≡ Kind.SequenceExpression → ⊥) → value_number t ≡ number_in t ∷ []
other_value (Node Kind.SequenceExpression m span semantic_id ps) other = absurd (other refl)
other_value (Node kind m span semantic_id ps) other = refl

pub last_value : (ps : Parts) → last_value_number ps ≡ value_number_of (last_part ps)
last_value end = refl
last_value (more p end) = refl
last_value (more p (more q rest)) = last_value (more q rest)
