use Rattle.std.proofs.Common.{◌∙◌, ap, sym, ◌++◌}
use Rattle.es_binding_faults.proofs.Appending.{OnOk-map, appended_twice}
use Rattle.es_lowered.specs.Bound.{bound_block, bound_node}
use Rattle.es_node.specs.View.{kind_of, number_in, parts_in}
use Rattle.es_owed_carriers.proofs.BoundNodes.{own_of_node}
use Rattle.es_owed_carriers.specs.Pairs.{pairs_of}
use Rattle.es_owed_carriers.specs.Places.{place_of}
use Rattle.es_owed_carriers.proofs.bound.add_own.Goals as goal

pub returns : goal.returns
returns c =
    let first = c.args.first in
    let x = place_of c.args.place in
    let n = c.args.node.now in
    OnOk-map c.add_block.result _ _ (λ e.
    appended_twice (pairs_of c.args.found.now.items) (pairs_of c.add_node.new.found.items) (pairs_of c.add_block.new.found.items) (bound_node first x (kind_of n) (number_in n) (parts_in n)) (bound_block first x (kind_of n) (number_in n)) c.in_ok-add_node.ensures e
    ∙ ap (λ bs. pairs_of c.args.found.now.items ++ bs) (sym (own_of_node first x n))) c.add_block.ensures
