use Rattle.std.proofs.Common.{◌∙◌, ap, List, map}
use Rattle.es_base.specs.declared.ids.NodeId.{NodeId}
use Rattle.es_steps.specs.References.{has_number}
use Rattle.es_owed_places.proofs.writes.writing_in.Goals as goal

pub returns : goal.returns
returns c = λ n.
    c.in_ok-set.ensures n
    ∙ ap (λ (xs : List NodeId). has_number n (map (λ (x : NodeId). x.0) xs)) c.as_slice.ensures.value
    ∙ ap (has_number n) c.in_ok-numbers.ensures
