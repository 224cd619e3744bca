-- Private names that are read, node by node.
use Rattle.std.specs.Prelude.{Bool, false, bytes_eq}
use Rattle.es_base.specs.Tree.{Tree, Node}
use Rattle.es_base.specs.declared.kind.Kind.{Kind}
use Rattle.es_steps.specs.Parts.{at}
use Rattle.es_steps.specs.Printable.{name_of_part}
use Rattle.es_steps.specs.Values.{String}

abbrev pub private_read : String → Tree → Bool
private_read s (Node Kind.PrivateField m span semantic_id ps) = bytes_eq s (name_of_part (at 1 ps))
private_read s t = false
