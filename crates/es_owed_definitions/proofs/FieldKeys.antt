-- Keys of fields, node by node.
use Rattle.std.proofs.Common.{◌≡◌, refl, ap, ℕ, List, true, false, cond, bytes_eq, Option, Some, None}
use Rattle.std.specs.Prelude.{option_map}
use Rattle.es_base.specs.Tree.{Tree, Part, Node, end, more, child, literal}
use Rattle.es_base.specs.declared.ids.NodeId.{NodeId}
use Rattle.es_base.specs.declared.kind.Kind.{Kind}
use Rattle.es_base.specs.declared.ledger.GeneratedKind.{GeneratedKind}
use Rattle.es_base.specs.declared.literal.LiteralValue.{LiteralValue}
use Rattle.es_base.specs.declared.literal.LiteralValue.TheVariants as literal_value
use Rattle.es_lowered.specs.Definitions.{Names, is_computed_key, is_key_of, is_member_key, is_member_name, is_name_part, is_property_name, referent_at, same_referent}
use Rattle.es_node.specs.View.{kind_of, number_in, parts_in}
use Rattle.es_owed_definitions.specs.Keys.{is_name_key, same_number}
use Rattle.es_references.specs.References as code
use Rattle.es_shapes.specs.Names.{bound_number}
use Rattle.es_steps.specs.LoweredClasses.{Element, referent_of}
use Rattle.es_steps.specs.Parts.{at, string_of}
use Rattle.es_steps.specs.References.{Reference}
use Rattle.es_steps.specs.SameTrees.{same_part}
use Rattle.es_steps.specs.Values.{String, Referent, Bound, Free}

pub member_key : (t : Tree) (g : Option GeneratedKind) → is_member_key (child t) g ≡ is_member_name (number_in t) g
member_key (Node kind d span semantic_id ps) g = refl

-- ---- keys that stand as property names

pub named_key : (x : Names) (n : ℕ) (e : Element) (key k : Part) → is_key_of x n e key true k ≡ is_name_key key k
named_key x n e (child (Node Kind.IdentifierName m span semantic_id ps)) k = refl
named_key x n e key k = refl

pub name_key : (t : Tree) (k : Part) → kind_of t ≡ Kind.IdentifierName → is_name_key (child t) k ≡ is_property_name (string_of (at 0 (parts_in t))) true k
name_key (Node kind m span semantic_id ps) k is = ap (λ (i : Kind). is_name_key (child (Node i m span semantic_id ps)) k) is

pub no_name_key : (t : Tree) (k : Part) → (kind_of t ≡ Kind.IdentifierName → ⊥) → is_name_key (child t) k ≡ false
no_name_key (Node Kind.IdentifierName m span semantic_id ps) k other = absurd (other refl)
no_name_key (Node kind m span semantic_id ps) k other = refl

pub same_name : (s : String) (t : Tree) → kind_of t ≡ Kind.IdentifierName → is_property_name s true (child t) ≡ bytes_eq s (string_of (at 0 (parts_in t)))
same_name s (Node kind m span semantic_id ps) is = ap (λ (i : Kind). is_property_name s true (child (Node i m span semantic_id ps))) is

pub no_same_name : (s : String) (t : Tree) → (kind_of t ≡ Kind.IdentifierName → ⊥) → is_property_name s true (child t) ≡ false
no_same_name s (Node Kind.IdentifierName m span semantic_id ps) other = absurd (other refl)
no_same_name s (Node kind m span semantic_id ps) other = refl

-- ---- other keys

pub named_value : (x : Names) (n : ℕ) (e : Element) (t : Tree) (k : Part) → kind_of t ≡ Kind.IdentifierName → is_key_of x n e (child t) false k ≡ is_property_name (string_of (at 0 (parts_in t))) false k
named_value x n e (Node kind m span semantic_id ps) k is = ap (λ (i : Kind). is_key_of x n e (child (Node i m span semantic_id ps)) false k) is

pub unnamed_value : (x : Names) (n : ℕ) (e : Element) (t : Tree) (k : Part) → (kind_of t ≡ Kind.IdentifierName → ⊥) → is_key_of x n e (child t) false k ≡ cond e.computed (is_computed_key x n (child t) k) (same_part (child t) k)
unnamed_value x n e (Node Kind.IdentifierName m span semantic_id ps) k other = absurd (other refl)
unnamed_value x n e (Node kind m span semantic_id ps) k other = refl

pub string_key : (s : String) (m : ℕ) (span : Option (ℕ × ℕ)) (semantic_id : Option ℕ) (v : LiteralValue) → is_property_name s false (child (Node Kind.Literal m span semantic_id (more (literal v) end))) ≡ is_property_name s false (child (Node Kind.Literal 0 None None (more (literal v) end)))
string_key s m span semantic_id (literal_value.String t raw) = refl
string_key s m span semantic_id v = refl

pub no_string_key : (s : String) (t : Tree) → (kind_of t ≡ Kind.Literal → ⊥) → is_property_name s false (child t) ≡ false
no_string_key s (Node Kind.Literal m span semantic_id ps) other = absurd (other refl)
no_string_key s (Node kind m span semantic_id ps) other = refl

pub name_part : (t : Tree) → kind_of t ≡ Kind.IdentifierReference → is_name_part (child t) ≡ true
name_part (Node kind m span semantic_id ps) is = ap (λ (i : Kind). is_name_part (child (Node i m span semantic_id ps))) is

pub no_name_part : (t : Tree) → (kind_of t ≡ Kind.IdentifierReference → ⊥) → is_name_part (child t) ≡ false
no_name_part (Node Kind.IdentifierReference m span semantic_id ps) other = absurd (other refl)
no_name_part (Node kind m span semantic_id ps) other = refl

pub same_bound : (r s : Option Referent) → same_referent r s ≡ same_number (bound_number r) (bound_number s)
same_bound None s = refl
same_bound (Some (Free t)) s = refl
same_bound (Some (Bound b)) None = refl
same_bound (Some (Bound b)) (Some (Free t)) = refl
same_bound (Some (Bound b)) (Some (Bound c)) = refl

pub referent_node : (t : Tree) (rs : List Reference) → referent_at (child t) rs ≡ referent_of (number_in t) rs
referent_node (Node kind m span semantic_id ps) rs = refl

pub bound_in : (s : String) (b : Option NodeId) → option_map (λ n. n.0) b ≡ bound_number (Some (code.referent_of s b))
bound_in s None = refl
bound_in s (Some b) = refl
