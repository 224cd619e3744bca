use Rattle.std.proofs.Common.{◌≡◌, drop}
use Rattle.std.specs.List.{list_any}
use Rattle.es_base.specs.Preorder.{preorder}
use Rattle.es_base.specs.Tree.{Tree}
use Rattle.es_binding_faults.specs.Seen.{seen}
use Rattle.es_lowered.specs.ClassNames as spec
use Rattle.es_steps.specs.References.{has_number}
use Rattle.es_owed_class_names.proofs.holders.any_holds.Given as goal

abbrev pub invariant-loop-node : goal.invariant-loop-node
invariant-loop-node l =
    let of = list_any (λ (t : Tree). has_number l.class (spec.numbers_of (preorder t))) in
    of (seen (drop l.node-index l.nodes)) ≡ of (seen l.nodes)
