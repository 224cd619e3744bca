-- Definitions in code, as definitions see them, and their forms part by part.
use Rattle.std.specs.Prelude.{ℕ, List, [], ◌++◌, map, Bool, true, false, cond, ◌&&◌, bytes_eq, codes, nat_eq, Option, option_map}
use Rattle.std.specs.Str.{chars}
use Rattle.std.proofs.Common.{Bor}
use Rattle.es_base.specs.Tree.{Tree, Part, Parts, Node, end, more, child, absent, nullable, string}
use Rattle.es_base.specs.declared.kind.Kind.{Kind}
use Rattle.es_base.specs.declared.ledger.LedgerEntry.{LedgerEntry}
use Rattle.es_lowered.specs.Definitions as spec
use Rattle.es_lowered.specs.Definitions.{function_definitions, given_part, is_given_super, property_value, set_definition, static_definition}
use Rattle.es_owed_definitions.specs.declared.definition.DefinedKey.{DefinedKey}
use Rattle.es_owed_definitions.specs.declared.definition.FieldDefinition.{FieldDefinition}
use Rattle.es_steps.specs.LoweredClasses.{constructor_in}
use Rattle.es_steps.specs.Parts.{at, is_present}
use Rattle.es_steps.specs.PrivateNames.{is_class}
use Rattle.es_steps.specs.Values.{String}
use Rattle.es_steps.specs.declared.options.Options.{Options}

-- a node that may be absent
abbrev pub node_part : Option (Bor Tree) → Part
node_part x = nullable (option_map (λ t. t.now) x)

abbrev pub key_view : DefinedKey → spec.DefinedKey
key_view (DefinedKey.Brand name) = spec.BrandKey (chars name.now)
key_view (DefinedKey.Private name) = spec.PrivateKey (chars name.now)
key_view (DefinedKey.Value key) = spec.PublicKey (child key.now) false
key_view (DefinedKey.Name key) = spec.PublicKey (child key.now) true

abbrev pub definition_view : FieldDefinition → spec.FieldDefinition
definition_view d = record { object = node_part d.object; key = key_view d.key; value = node_part d.value }

abbrev pub definition_views : List FieldDefinition → List spec.FieldDefinition
definition_views ds = map definition_view ds

-- ---- forms

-- a key that is this name
abbrev pub is_named : String → Tree → Bool
is_named s (Node Kind.IdentifierName k span semantic_id (more (string t) end)) = bytes_eq s t
is_named s t = false

-- of the properties of an object
abbrev pub two_fields : Parts → Part
two_fields (more w (more v end)) = cond (is_present (property_value (codes "writable") w)) (property_value (codes "value") v) absent
two_fields ps = absent

abbrev pub single_field : Parts → Part
single_field (more v end) = property_value (codes "_") v
single_field ps = absent

abbrev pub assigned_definitions : Bool → Options → List LedgerEntry → Part → Part → List spec.FieldDefinition
assigned_definitions is_definition o ledger to v = cond is_definition (set_definition o to v ++ static_definition ledger to v) []

-- ---- the definitions of one node's functions

abbrev pub of_super : ℕ → Options → List LedgerEntry → ℕ → Tree → List spec.FieldDefinition
of_super first o ledger n (Node kind m span semantic_id ps) = cond (is_given_super first o ledger n kind ps) (function_definitions first o ledger n (given_part kind ps)) []

abbrev pub constructed : ℕ → Options → List LedgerEntry → ℕ → Tree → List spec.FieldDefinition
constructed first o ledger n (Node kind k span semantic_id ps) = cond (is_class kind && nat_eq n k) (function_definitions first o ledger n (constructor_in (at 2 ps))) []
