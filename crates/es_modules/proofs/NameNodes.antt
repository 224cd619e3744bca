-- Names of imports and exports, node by node.
use Rattle.std.proofs.Common.{◌≡◌, refl, ℕ, Option, Some}
use Rattle.es_base.specs.Tree.{Tree, Node, end, more, child, literal}
use Rattle.es_base.specs.declared.kind.Kind.{Kind}
use Rattle.es_base.specs.declared.literal.LiteralValue.TheVariants as literal_value
use Rattle.es_node.specs.View.{kind_of, parts_in}
use Rattle.es_steps.specs.Modules.{module_name, nullable_name}
use Rattle.es_steps.specs.Parts.{at, string_of}
use Rattle.es_steps.specs.Values.{String}

pub string_name : (m : ℕ) (span : Option (ℕ × ℕ)) (semantic_id : Option ℕ) (s : String) (raw : Option String) → module_name (child (Node Kind.Literal m span semantic_id (more (literal (literal_value.String s raw)) end))) ≡ s
string_name m span semantic_id s raw = refl

pub child_name : (t : Tree) → nullable_name (child t) ≡ Some (module_name (child t))
child_name t = refl

pub other_name : (t : Tree) → (kind_of t ≡ Kind.Literal → ⊥) → module_name (child t) ≡ string_of (at 0 (parts_in t))
other_name (Node Kind.Literal m span semantic_id ps) other = absurd (other refl)
other_name (Node kind m span semantic_id ps) other = refl
