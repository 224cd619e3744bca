-- The forms of definitions, node by node.
use Rattle.std.proofs.Common.{◌≡◌, refl, ap, ℕ, List, [], ◌∷◌, false, length, cond, Option, Some}
use Rattle.std.specs.Prelude.{not}
use Rattle.es_base.specs.Tree.{Tree, Part, Parts, Node, end, more, child, absent, list, string, trees}
use Rattle.es_base.specs.declared.kind.Kind.{Kind}
use Rattle.es_base.specs.declared.ledger.GeneratedKind.{GeneratedKind}
use Rattle.es_base.specs.declared.ledger.LedgerEntry.{LedgerEntry}
use Rattle.es_lowered.specs.Definitions.{PublicKey, definition, definition_at, field_part, helper_definition, loose_by, object_definition, property_value, set_definition, static_by, writable_part}
use Rattle.es_node.specs.View.{kind_of}
use Rattle.es_owed_definitions.specs.Views.{is_named, single_field, two_fields}
use Rattle.es_steps.specs.Options.{sets_fields}
use Rattle.es_steps.specs.Parts.{at, is_true}
use Rattle.es_steps.specs.Values.{String}
use Rattle.es_steps.specs.declared.options.Options.{Options}

-- ---- objects

pub no_property : (s : String) (t : Tree) → (kind_of t ≡ Kind.Property → ⊥) → property_value s (child t) ≡ absent
no_property s (Node Kind.Property m span semantic_id ps) other = absurd (other refl)
no_property s (Node kind m span semantic_id ps) other = refl

pub property_node : (s : String) (m : ℕ) (span : Option (ℕ × ℕ)) (semantic_id : Option ℕ) (k v : Tree) (rest : Parts) → property_value s (child (Node Kind.Property m span semantic_id (more (child k) (more (child v) rest)))) ≡ cond (is_named s k) (child v) absent
property_node s m span semantic_id (Node Kind.IdentifierName k kspan k_semantic_id (more (string t) end)) v rest = refl
property_node s m span semantic_id k v rest = refl

pub no_name : (s : String) (t : Tree) → (kind_of t ≡ Kind.IdentifierName → ⊥) → is_named s t ≡ false
no_name s (Node Kind.IdentifierName m span semantic_id ps) other = absurd (other refl)
no_name s (Node kind m span semantic_id ps) other = refl

pub no_writable : (t : Tree) → (kind_of t ≡ Kind.ObjectExpression → ⊥) → writable_part (child t) ≡ absent
no_writable (Node Kind.ObjectExpression m span semantic_id ps) other = absurd (other refl)
no_writable (Node kind m span semantic_id ps) other = refl

pub writable_node : (m : ℕ) (span : Option (ℕ × ℕ)) (semantic_id : Option ℕ) (ps : Parts) → writable_part (child (Node Kind.ObjectExpression m span semantic_id (more (list ps) end))) ≡ two_fields ps
writable_node m span semantic_id end = refl
writable_node m span semantic_id (more w end) = refl
writable_node m span semantic_id (more w (more v end)) = refl
writable_node m span semantic_id (more w (more v (more u rest))) = refl

pub not_two : (ts : List Tree) → (length ts ≡ 2 → ⊥) → two_fields (trees ts) ≡ absent
not_two [] other = refl
not_two (t ∷ []) other = refl
not_two (t ∷ (u ∷ [])) other = absurd (other refl)
not_two (t ∷ (u ∷ (v ∷ ts))) other = refl

pub not_single : (ts : List Tree) → (length ts ≡ 1 → ⊥) → single_field (trees ts) ≡ absent
not_single [] other = refl
not_single (t ∷ []) other = absurd (other refl)
not_single (t ∷ (u ∷ ts)) other = refl

pub no_field : (t : Tree) → (kind_of t ≡ Kind.ObjectExpression → ⊥) → field_part (child t) ≡ absent
no_field (Node Kind.ObjectExpression m span semantic_id ps) other = absurd (other refl)
no_field (Node kind m span semantic_id ps) other = refl

pub field_node : (m : ℕ) (span : Option (ℕ × ℕ)) (semantic_id : Option ℕ) (ps : Parts) → field_part (child (Node Kind.ObjectExpression m span semantic_id (more (list ps) end))) ≡ single_field ps
field_node m span semantic_id end = refl
field_node m span semantic_id (more v end) = refl
field_node m span semantic_id (more v (more u rest)) = refl

-- ---- what no definition is

pub no_loose : (g : Option GeneratedKind) (o k : Part) → loose_by g o k absent ≡ []
no_loose (Some (GeneratedKind.LooseKey d)) o k = refl
no_loose g o k = refl

pub no_arguments : (h : String) (ts : List Tree) → (length ts ≡ 3 → ⊥) → (length ts ≡ 2 → ⊥) → helper_definition h (trees ts) ≡ []
no_arguments h [] a b = refl
no_arguments h (t ∷ []) a b = refl
no_arguments h (t ∷ (u ∷ [])) a b = absurd (b refl)
no_arguments h (t ∷ (u ∷ (v ∷ []))) a b = absurd (a refl)
no_arguments h (t ∷ (u ∷ (v ∷ (w ∷ ts)))) a b = refl

pub not_three : (ledger : List LedgerEntry) (ts : List Tree) → (length ts ≡ 3 → ⊥) → object_definition ledger (trees ts) ≡ []
not_three ledger [] other = refl
not_three ledger (t ∷ []) other = refl
not_three ledger (t ∷ (u ∷ [])) other = refl
not_three ledger (t ∷ (u ∷ (v ∷ []))) other = absurd (other refl)
not_three ledger (t ∷ (u ∷ (v ∷ (w ∷ ts)))) other = refl

pub no_static : (g : Option GeneratedKind) (to : Part) → static_by g to absent ≡ []
no_static (Some (GeneratedKind.StaticField d)) to = refl
no_static g to = refl

pub no_target : (o : Options) (t : Tree) (v : Part) → (kind_of t ≡ Kind.MemberExpression → ⊥) → set_definition o (child t) v ≡ []
no_target o (Node Kind.MemberExpression m span semantic_id ps) v other = absurd (other refl)
no_target o (Node kind m span semantic_id ps) v other = refl

pub not_set : (o : Options) (t : Tree) (v : Part) → sets_fields o ≡ false → set_definition o (child t) v ≡ []
not_set o (Node Kind.MemberExpression m span semantic_id ps) v none = ap (λ b. cond b (definition (at 0 ps) (PublicKey (at 1 ps) (not (is_true (at 2 ps)))) v) []) none
not_set o (Node kind m span semantic_id ps) v none = refl

pub no_definition : (first : ℕ) (o : Options) (ledger : List LedgerEntry) (kind : Kind) (m : ℕ) (ps : Parts) → (kind ≡ Kind.CallExpression → ⊥) → (kind ≡ Kind.AssignmentExpression → ⊥) → (kind ≡ Kind.VariableDeclarator → ⊥) → definition_at first o ledger kind m ps ≡ []
no_definition first o ledger Kind.CallExpression m ps a b c = absurd (a refl)
no_definition first o ledger Kind.AssignmentExpression m ps a b c = absurd (b refl)
no_definition first o ledger Kind.VariableDeclarator m ps a b c = absurd (c refl)
no_definition first o ledger kind m ps a b c = refl
