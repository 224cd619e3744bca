use Rattle.std.proofs.Common.{◌≡◌, ap, ◌∙◌, length, arith}
use Rattle.es_base.specs.Preorder.{nodes}
use Rattle.step_check.proofs.Counted.{all_counted}
use Rattle.step_check.proofs.check.pair_of.Goals as goal

pub count-requires : goal.count-requires
count-requires c =
    let source = c.in_ok-source.source in
    let n : length c.as_slice.result.now ≡ nodes c.args.source.now = ap length c.as_slice.ensures.value ∙ all_counted source.nodes.items source.program.now source.in_preorder ∙ ap nodes c.in_ok-source.ensures in
    omega (arith, n, c.requires)

pub returns-clause-first : goal.returns-clause-first
returns-clause-first c =
    let source = c.in_ok-source.source in
    c.count.ensures ∙ ap length c.as_slice.ensures.value ∙ all_counted source.nodes.items source.program.now source.in_preorder ∙ ap nodes c.in_ok-source.ensures
