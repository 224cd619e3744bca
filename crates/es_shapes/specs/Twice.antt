-- Names that are read twice, node by node.
use Rattle.std.specs.Prelude.{ℕ, List, [], ◌∷◌, Bool, true, false}
use Rattle.es_base.specs.Tree.{Tree, Part, Node}
use Rattle.es_base.specs.declared.kind.Kind.{Kind}
use Rattle.es_steps.specs.Options.{keeps_privates_as_properties}
use Rattle.es_steps.specs.References.{Reference}
use Rattle.es_steps.specs.Shapes.{any_written, part_if, private_object, read_twice, super_key}
use Rattle.es_steps.specs.declared.options.Options.{Options}

-- a node by itself reads a written name twice
abbrev pub reads_twice_here : Options → List ℕ → List Reference → Bool → Tree → Bool
reads_twice_here o written references moved (Node kind m span semantic_id ps) = any_written written references (read_twice (keeps_privates_as_properties o) moved kind ps)

-- what is read twice of a target that is written by an operator or updated
abbrev pub target_parts : Bool → Bool → Part → List Part
target_parts counts moved target = part_if counts (private_object target) ∷ part_if moved (super_key target) ∷ []

abbrev pub is_super_kind : Kind → Bool
is_super_kind Kind.Super = true
is_super_kind kind = false
