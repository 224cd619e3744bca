-- What else an object holds: floats, and members of TypeScript, JSX and import attributes.
use Rattle.std.specs.Prelude.{ℕ, List, [], ◌∷◌, Bool, true, false, not, ◌&&◌, ◌||◌, Option, Some, None, bytes_eq, codes}
use Rattle.serde_json.specs.Data.{Data, array, object, Items, no_items, item, Members, no_members, member}
use Rattle.serde_json.specs.Find.{get}
use Rattle.serde_json.specs.Written.{has_float}
use Rattle.es_base.specs.Conforms.{is_among, begins_with}
use Rattle.es_base.specs.Table.{Field, members_of}
use Rattle.es_base.specs.declared.kind.Kind.{Kind}
use Rattle.es_base.specs.declared.table.Sort.{Sort}
use Rattle.es_reading.specs.Look.{chars_at, is_there}

-- a member of this sort holds nodes
abbrev pub holds_nodes : Sort → Bool
holds_nodes (Sort.Child place) = true
holds_nodes (Sort.Key place) = true
holds_nodes (Sort.Nullable place) = true
holds_nodes (Sort.List place) = true
holds_nodes (Sort.NonEmptyList place) = true
holds_nodes (Sort.ListWithHoles place) = true
holds_nodes _ = false

abbrev pub is_node_member : List Field → List ℕ → Bool
is_node_member [] key = false
is_node_member (f ∷ fs) key = (bytes_eq f.name key && holds_nodes f.sort) || is_node_member fs key

-- a float at any depth, in a member that holds no nodes
abbrev pub floats_in : List Field → Members → Bool
floats_in fs no_members = false
floats_in fs (member key d ms) = (not (is_node_member fs key) && has_float d) || floats_in fs ms

abbrev pub floats_of : List Field → Data → Bool
floats_of fs (object ms) = floats_in fs ms
floats_of fs d = false

-- the members of the table, by their names in JSON
abbrev pub is_field : List Field → List ℕ → Bool
is_field [] key = false
is_field (f ∷ fs) key = bytes_eq f.name key || is_field fs key

abbrev pub is_listed : Kind → List ℕ → Bool
is_listed Kind.Literal key = is_among key (codes "value" ∷ codes "raw" ∷ codes "regex" ∷ codes "bigint" ∷ [])
is_listed Kind.TemplateElement key = is_among key (codes "value" ∷ codes "tail" ∷ [])
is_listed kind key = is_field (members_of kind) key

abbrev pub is_foreign_type : Option (List ℕ) → Bool
is_foreign_type None = false
is_foreign_type (Some s) = begins_with (codes "TS") s || (begins_with (codes "JSX") s || is_among s (codes "Decorator" ∷ codes "ImportAttribute" ∷ []))

abbrev pub is_foreign_object : Data → Bool
is_foreign_object d = is_foreign_type (chars_at (codes "type") d)

abbrev pub any_foreign : Items → Bool
any_foreign no_items = false
any_foreign (item d ds) = is_foreign_object d || any_foreign ds

-- an object of TypeScript, JSX or an import attribute, or a list that holds one
abbrev pub is_foreign_value : Data → Bool
is_foreign_value (array ds) = any_foreign ds
is_foreign_value d = is_foreign_object d

abbrev pub foreign_among : Kind → Members → Bool
foreign_among kind no_members = false
foreign_among kind (member key d ms) = (not (is_listed kind key) && is_foreign_value d) || foreign_among kind ms

abbrev pub foreign_of : Kind → Data → Bool
foreign_of kind (object ms) = foreign_among kind ms
foreign_of kind d = false

-- an import with options
abbrev pub has_options : Kind → Data → Bool
has_options Kind.ImportExpression d = is_there (get (codes "options") d)
has_options kind d = false

-- a node of the table that has a member of TypeScript, JSX or import attributes
abbrev pub is_foreign_node : Kind → Data → Bool
is_foreign_node Kind.Foreign d = false
is_foreign_node kind d = foreign_of kind d || has_options kind d
