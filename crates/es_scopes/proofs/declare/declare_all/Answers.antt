use Rattle.es_scopes.proofs.TableSteps.{declares-more}
use Rattle.es_scopes.proofs.declare.declare_all.Goals as goal

pub loop-entry-preserved : goal.loop-entry-preserved
loop-entry-preserved c = declares-more c.args.entries.now c.loop-entry.entry-index c.loop-entry.declarations c.declare.new.self c.entry-item.result c.loop-entry-test.true c.entry-item.is c.in_ok-declare.ensures c.loop-entry.invariant
