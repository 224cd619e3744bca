-- Keys of fields, as code tests them.
use Rattle.std.specs.Prelude.{ℕ, Bool, true, false, nat_eq, Option, Some, None}
use Rattle.es_base.specs.Tree.{Part, Node, child}
use Rattle.es_base.specs.declared.kind.Kind.{Kind}
use Rattle.es_lowered.specs.Definitions.{Names, is_property_name}
use Rattle.es_owed_definitions.specs.declared.keys.KeyNames.{KeyNames}
use Rattle.es_references.specs.References.{references_of}
use Rattle.es_steps.specs.Parts.{at, string_of}
use Rattle.es_steps.specs.References.{resolve, written}

abbrev pub names_view : KeyNames → Names
names_view x = record {
  ledger = x.ledger.now;
  source = resolve x.source.now.program.now;
  written = written x.source.now.program.now;
  lowered = references_of x.lowered.now.list.items;
  identifiers = x.identifiers.now;
}

-- there are two numbers, and they are one
abbrev pub same_number : Option ℕ → Option ℕ → Bool
same_number None c = false
same_number (Some b) None = false
same_number (Some b) (Some c) = nat_eq b c

-- a key that stands as a property name is that name
abbrev pub is_name_key : Part → Part → Bool
is_name_key (child (Node Kind.IdentifierName m span semantic_id ps)) k = is_property_name (string_of (at 0 ps)) true k
is_name_key key k = false
