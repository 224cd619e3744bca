use Rattle.std.proofs.Common.{sym, ap, ◌∙◌, Some, arith}
use Rattle.es_evaluator.proofs.Given.{found_here, found_before, found_nowhere, unlike}
use Rattle.es_evaluator.proofs.names.find.Goals as goal

pub loop-i-preserved : goal.loop-i-preserved
loop-i-preserved c = (omega arith, c.loop-i.invariant.1 ∙ found_before c.args.name.now c.args.names.now c.loop-i.i c.index-names-i.result c.loop-i-test.true c.loop-i.invariant.0 c.index-names-i.is (unlike c.same_name.result _ c.same_name.ensures.1 c.if-same_name.false))

pub returns-then-same_name : goal.returns-then-same_name
returns-then-same_name c = ap Some c.in_ok-try_clone.ensures ∙ sym (c.loop-i.invariant.1 ∙ found_here c.args.name.now c.args.names.now c.loop-i.i c.index-names-i.result c.loop-i-test.true c.loop-i.invariant.0 c.index-names-i.is (c.same_name.ensures.0 c.if-same_name.true))

pub returns : goal.returns
returns c = sym (c.loop-i.invariant.1 ∙ found_nowhere c.args.name.now c.args.names.now c.loop-i.i c.loop-i-test.false)
