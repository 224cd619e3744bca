use Rattle.std.proofs.Common.{◌∙◌, ap, List, map}
use Rattle.es_base.specs.declared.ids.NodeId.{NodeId}
use Rattle.es_steps.specs.References.{has_number}
use Rattle.es_owed_references.proofs.own_names.DeclaredClasses.of.Goals as goal

pub invariant_of-result : goal.invariant_of-result
invariant_of-result c = record {
  identifiers_are = λ n. c.in_ok-identifiers.ensures n ∙ ap (λ (xs : List NodeId). has_number n (map (λ (x : NodeId). x.0) xs)) c.as_slice.ensures.value ∙ ap (has_number n) c.in_ok-numbers.ensures;
}
