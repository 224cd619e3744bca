use Rattle.std.proofs.Common.{ap, ◌∙◌}
use Rattle.es_binding_faults.specs.Seen.{seen}
use Rattle.es_lowered.specs.ClassNames.{holds_class}
use Rattle.es_owed_class_names.proofs.holders.Holders.of.Goals as goal

pub invariant_of-result : goal.invariant_of-result
invariant_of-result c = record {
  are_its = λ k n function class. c.in_ok-by_class.ensures k n function class ∙ ap (λ ts. holds_class k n (seen ts)) c.as_slice-nodes.ensures.value;
}
