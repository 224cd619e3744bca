-- The classes that definitions are on.
use Rattle.std.specs.Prelude.{ℕ, List, [], ◌∷◌, ◌++◌, cond, Option, Some, None}
use Rattle.es_base.specs.Tree.{Part, Node, child}
use Rattle.es_base.specs.declared.kind.Kind.{Kind}
use Rattle.es_base.specs.declared.ledger.GeneratedKind.{GeneratedKind}
use Rattle.es_base.specs.declared.ledger.LedgerEntry.{LedgerEntry}
use Rattle.es_grouped.specs.Groups.{group}
use Rattle.es_grouped.specs.declared.Grouped.{Grouped}
use Rattle.es_lowered.specs.Definitions as spec
use Rattle.es_lowered.specs.Definitions.{PrivateKey}
use Rattle.es_owed_definitions.specs.Views.{definition_view}
use Rattle.es_owed_definitions.specs.declared.definition.FieldDefinition.{FieldDefinition}
use Rattle.es_steps.specs.Context.{generated_as}
use Rattle.es_steps.specs.LoweredClasses.{referent_of}
use Rattle.es_steps.specs.Parts.{at, string_of, is_present}
use Rattle.es_steps.specs.PrivateNames.{PrivateMember, member_at}
use Rattle.es_steps.specs.References.{Reference, has_number}
use Rattle.es_steps.specs.Values.{Referent, Bound}

-- that of a class temporary
abbrev pub temporary_class : Option GeneratedKind → List ℕ
temporary_class (Some (GeneratedKind.ClassTemp n)) = n.0 ∷ []
temporary_class g = []

-- that of a static private field
abbrev pub member_class : Option PrivateMember → List ℕ
member_class None = []
member_class (Some x) = x.class ∷ []

abbrev pub static_class : Option GeneratedKind → List PrivateMember → List ℕ
static_class (Some (GeneratedKind.StaticField d)) members = member_class (member_at d.0 members)
static_class g members = []

abbrev pub key_class : List LedgerEntry → List PrivateMember → spec.DefinedKey → List ℕ
key_class ledger members (PrivateKey s) = static_class (generated_as s ledger) members
key_class ledger members k = []

-- a definition with each of these classes, once where one stands twice
abbrev pub with_classes : List ℕ → FieldDefinition → List (ℕ × FieldDefinition)
with_classes [] d = []
with_classes (n ∷ ns) d = cond (has_number n ns) [] ((n, d) ∷ []) ++ with_classes ns d

-- those that an identifier declares
abbrev pub bound_classes : Grouped ℕ → Option Referent → List ℕ
bound_classes declared (Some (Bound b)) = group b declared
bound_classes declared r = []

module _ (ledger : List LedgerEntry) (members : List PrivateMember) (references : List Reference) (declared : Grouped ℕ) where
  abbrev pub named_classes : Part → List ℕ
  named_classes (child (Node Kind.IdentifierReference m span semantic_id ps)) = temporary_class (generated_as (string_of (at 0 ps)) ledger) ++ bound_classes declared (referent_of m references)
  named_classes p = []

  abbrev pub classes_on : spec.FieldDefinition → List ℕ
  classes_on d = cond (is_present d.object) (named_classes d.object) (key_class ledger members d.key)

  abbrev pub static_pairs : List FieldDefinition → List (ℕ × FieldDefinition)
  static_pairs [] = []
  static_pairs (d ∷ ds) = with_classes (classes_on (definition_view d)) d ++ static_pairs ds
