-- Names of classes, and what references mean, by numbers.
use Rattle.std.specs.Prelude.{ℕ, List, Bool, not, ◌&&◌, ◌||◌, Option, Some, None}
use Rattle.es_base.specs.Tree.{Tree, Node}
use Rattle.es_steps.specs.LoweredClasses.{referent_of}
use Rattle.es_steps.specs.NameScopes.{is_suspended_scope}
use Rattle.es_steps.specs.Options.{lowers_fields, lowers_blocks}
use Rattle.es_steps.specs.References.{Reference}
use Rattle.es_steps.specs.Quiet.{id_number}
use Rattle.es_steps.specs.Shapes.{ClassAt, names_stand_at, named_in_keys, is_reference_node, refers_as, writes_any}
use Rattle.es_steps.specs.Values.{Referent, Bound, Free}
use Rattle.es_steps.specs.declared.options.Options.{Options}
use Rattle.es_shapes.specs.Classes.{class_of, passes_by}

-- the binding that a reference means
abbrev pub bound_number : Option Referent → Option ℕ
bound_number None = None
bound_number (Some (Bound b)) = Some b
bound_number (Some (Free s)) = None

-- a class is named in its heritage or its keys
abbrev pub names_itself : List Reference → ClassAt → Bool
names_itself references k = names_stand_at (id_number k.id) references k.heritage || named_in_keys (id_number k.id) references k.elements

-- a node is a reference to one of these names
abbrev pub refers_here : List ℕ → List Reference → Tree → Bool
refers_here names references (Node kind m span semantic_id ps) = is_reference_node kind && refers_as names (referent_of m references)

-- the name of a class is written
abbrev pub is_written_class : List Reference → ClassAt → Bool
is_written_class references k = writes_any (id_number k.id) references

-- a node is a class whose name is written
abbrev pub is_written_at : List Reference → Tree → Bool
is_written_at references t = passes_by (is_written_class references) (class_of t)

-- a node is a class declaration that becomes a `let` where static blocks alone are lowered, and whose name is written
abbrev pub is_written_let : Options → List Reference → Tree → Bool
is_written_let o references (Node kind m span semantic_id ps) = not (lowers_fields o) && (lowers_blocks o && (is_suspended_scope kind ps && is_written_at references (Node kind m span semantic_id ps)))
