use Rattle.std.proofs.Common.{◌++◌, ◌∙◌, ap, get_or}
use Rattle.es_binding_faults.proofs.RepeatNames.{any_declared}
use Rattle.es_binding_faults.specs.Named.{named}
use Rattle.es_by_number.specs.Numbered.{pairs}
use Rattle.es_shared_names.proofs.Nearest.{behind_end, behind_none, behind_step}
use Rattle.es_shared_names.specs.Earlier.{with_number}
use Rattle.es_shared_names.proofs.earlier.add_shared_behind.Goals as goal

pub loop-name-preserved : goal.loop-name-preserved
loop-name-preserved c =
    let x = get_or c.args.names.now c.loop-name.name-index any_declared in
    behind_step (pairs c.loop-name.found.items) (pairs c.add_earlier.new.found.items) _ c.loop-name.numbers c.set.new.self c.args.names.now c.loop-name.name-index any_declared c.loop-name-test.true c.in_ok-set.ensures
    (c.in_ok-add_earlier.ensures ∙ ap (λ o. pairs c.loop-name.found.items ++ with_number x.node.0 o) c.get.ensures) c.loop-name.invariant

pub returns : goal.returns
returns c = behind_end (pairs c.loop-name.found.items) _ c.loop-name.numbers c.args.names.now c.loop-name.name-index c.loop-name-test.false c.loop-name.invariant ∙ ap (λ xs. pairs c.args.found.now.items ++ xs) (behind_none (named c.args.names.now))
