-- What is repeated in the scope of a node.
use Rattle.std.proofs.Common.{◌≡◌, ap, ◌∙◌, ℕ, List}
use Rattle.std.specs.Prelude.{filter}
use Rattle.es_base.specs.Tree.{Tree, Node}
use Rattle.es_node.specs.View.{kind_of, parts_in}
use Rattle.es_steps.specs.Scopes.{Declaration, scope_form}
use Rattle.es_validity.specs.Facts.{counted, not_among, repeats}
use Rattle.es_binding_faults.proofs.RepeatNames.{not_among-plain, repeats-plain}
use Rattle.es_binding_faults.proofs.ScopeNames.{counted-plain}
use Rattle.es_binding_faults.specs.Named.{plain}
use Rattle.es_binding_faults.specs.Repeats.{repeats_in}

pub repeats_counted : (lexical branches : List ℕ) (t : Tree) (ds : List Declaration) → ds ≡ filter (not_among branches) (plain (counted (scope_form (kind_of t)) 0 (parts_in t))) → repeats lexical ds ≡ repeats_in lexical branches t
repeats_counted lexical branches (Node kind m span semantic_id ps) ds is =
    ap (repeats lexical) (is ∙ ap (filter (not_among branches)) (counted-plain (scope_form kind) m ps) ∙ not_among-plain branches (counted (scope_form kind) m ps))
    ∙ repeats-plain lexical (filter (not_among branches) (counted (scope_form kind) m ps))
