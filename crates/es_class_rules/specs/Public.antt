-- Names that no private element holds.
use Rattle.std.specs.Prelude.{List, [], ◌∷◌, Bool, true, false}
use Rattle.es_steps.specs.Evaluation.{is_private_key}
use Rattle.es_evaluator.specs.declared.state.Named.{Named}

abbrev pub unless_private : Bool → Named → List Named → List Named
unless_private true n ns = ns
unless_private false n ns = n ∷ ns

abbrev pub public : List Named → List Named
public [] = []
public (n ∷ ns) = unless_private (is_private_key n.name) n (public ns)
