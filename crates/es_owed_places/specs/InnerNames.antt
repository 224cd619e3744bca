-- Names of functions in blocks, node by node.
use Rattle.std.specs.Prelude.{Bool, false}
use Rattle.es_base.specs.Conforms.{is_among}
use Rattle.es_base.specs.Tree.{Tree, Node}
use Rattle.es_steps.specs.References.{inner_functions}
use Rattle.es_steps.specs.Values.{String}

-- whether a function in this node has this name
abbrev pub gives_name : String → Tree → Bool
gives_name s (Node kind m span semantic_id ps) = is_among s (inner_functions false kind ps)
