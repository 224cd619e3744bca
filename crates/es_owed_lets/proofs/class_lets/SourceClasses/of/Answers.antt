use Rattle.std.proofs.Common.{◌∙◌, ap, List, map, Bor}
use Rattle.es_base.specs.Tree.{Tree}
use Rattle.es_base.specs.declared.ids.NodeId.{NodeId}
use Rattle.es_binding_faults.specs.Seen.{seen}
use Rattle.es_steps.specs.References.{has_number}
use Rattle.es_owed_lets.specs.Lets.{keys}
use Rattle.es_owed_lets.proofs.class_lets.SourceClasses.of.Goals as goal

pub invariant_of-result : goal.invariant_of-result
invariant_of-result c = record {
  numbers_are = c.in_ok-numbers.ensures;
  own_names_are = λ n. c.in_ok-own_names.ensures n ∙ ap (λ (xs : List NodeId). has_number n (map (λ (x : NodeId). x.0) xs)) c.as_slice.ensures.value ∙ ap (has_number n) c.in_ok-names.ensures;
  declarations_are = c.in_ok-declarations.ensures;
  keys_are = λ n. c.in_ok-keys.ensures n ∙ ap (λ (xs : List NodeId). has_number n (map (λ (x : NodeId). x.0) xs)) c.as_slice-3.ensures.value ∙ ap (has_number n) (c.in_ok-numbers_of_declarations.ensures ∙ ap (λ (xs : List (Bor Tree)). keys (seen xs)) c.as_slice-2.ensures.value ∙ ap keys c.in_ok-declarations.ensures);
}
