use Rattle.es_binding_faults.proofs.RepeatNames.{any_declared}
use Rattle.es_shared_names.proofs.Nearest.{firsts_end, firsts_step}
use Rattle.es_shared_names.proofs.earlier.firsts_of.Goals as goal

pub loop-name-preserved : goal.loop-name-preserved
loop-name-preserved c = firsts_step c.loop-name.firsts c.add_first.new.firsts c.args.names.now c.loop-name.name-index any_declared c.loop-name-test.true c.in_ok-add_first.ensures c.loop-name.invariant

pub returns : goal.returns
returns c = firsts_end c.loop-name.firsts c.args.names.now c.loop-name.name-index c.loop-name-test.false c.loop-name.invariant
