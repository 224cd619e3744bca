use Rattle.es_codes.specs.CodeView.{callee_of}
use Rattle.es_evaluator.specs.Running.{state_of}
use Rattle.es_code_bodies.proofs.Whole.{callee_alone_among}
use Rattle.es_code_bodies.proofs.among.Among.evaluate_callee.Goals as goal

pub returns : goal.returns
returns c = callee_alone_among c.args.self.now.definitions c.args.self.now.opening (callee_of c.args.callee.now) (state_of c.args.state.now) c.evaluate_callee.result c.evaluate_callee.new.state c.args.self.now.is_deep c.args.self.now.is_open c.evaluate_callee.ensures
