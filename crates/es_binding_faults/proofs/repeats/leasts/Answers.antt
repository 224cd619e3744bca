use Rattle.es_binding_faults.proofs.RepeatNames.{any_declared, next_least, all_leasts}
use Rattle.es_binding_faults.specs.Leasts.{number_of}
use Rattle.es_binding_faults.proofs.repeats.leasts.Goals as goal

pub loop-declared-preserved : goal.loop-declared-preserved
loop-declared-preserved c = λ s. next_least s (number_of s c.loop-declared.leasts) (number_of s c.add.new.self) _ c.args.names.now c.loop-declared.declared-index any_declared c.loop-declared-test.true (c.in_ok-add.ensures s) (c.loop-declared.invariant s)

pub returns : goal.returns
returns c = λ s. all_leasts s (number_of s c.loop-declared.leasts) _ c.args.names.now c.loop-declared.declared-index c.loop-declared-test.false (c.loop-declared.invariant s)
