use Rattle.es_codes.specs.CodeView.{target_of}
use Rattle.es_evaluator.specs.Running.{state_of}
use Rattle.es_code_bodies.proofs.Whole.{target_alone_among}
use Rattle.es_code_bodies.proofs.among.Among.evaluate_target.Goals as goal

pub returns : goal.returns
returns c = target_alone_among c.args.self.now.definitions c.args.self.now.opening (target_of c.args.to.now) (state_of c.args.state.now) c.evaluate_target.result c.evaluate_target.new.state c.args.self.now.is_deep c.args.self.now.is_open c.evaluate_target.ensures
