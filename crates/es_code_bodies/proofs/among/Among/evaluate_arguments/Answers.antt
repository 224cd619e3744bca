use Rattle.es_codes.specs.CodeView.{codes_of}
use Rattle.es_evaluator.specs.Running.{state_of}
use Rattle.es_code_bodies.proofs.Whole.{arguments_among}
use Rattle.es_code_bodies.proofs.among.Among.evaluate_arguments.Goals as goal

pub returns : goal.returns
returns c = arguments_among c.args.self.now.definitions c.args.self.now.opening c.args.parameters.now (codes_of c.args.arguments.now) (state_of c.args.state.now) c.evaluate_arguments.result c.evaluate_arguments.new.state c.args.self.now.is_deep c.args.self.now.is_open c.evaluate_arguments.ensures
