use Rattle.std.proofs.Common.{ap, sym, ◌∙◌}
use Rattle.es_base.specs.Carried.{span_of}
use Rattle.es_visit.proofs.Assembly.{taken_is}
use Rattle.visit_tests.specs.Unnumbered.{without_number}
use Rattle.visit_tests.proofs.unnumbered.unnumber.Goals as goal

pub returns : goal.returns
returns c =
    let inner = c.into_contents-contents.result in
    let is = taken_is c.args.node.now c.take-taken.result c.kind-kind.result inner.node_id.0 (span_of inner.span) inner.semantic_id inner.parts c.take-taken.ensures.taken c.kind-kind.ensures c.into_contents-contents.ensures.view in
    c.new.ensures ∙ sym (ap without_number is)
