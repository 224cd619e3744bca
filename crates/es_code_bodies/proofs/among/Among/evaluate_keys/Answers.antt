use Rattle.es_codes.specs.CodeView.{codes_of}
use Rattle.es_evaluator.specs.Running.{state_of}
use Rattle.es_code_bodies.proofs.Whole.{keys_alone_among}
use Rattle.es_code_bodies.proofs.among.Among.evaluate_keys.Goals as goal

pub returns : goal.returns
returns c = keys_alone_among c.args.self.now.definitions c.args.self.now.opening (codes_of c.args.elements.now) (state_of c.args.state.now) c.evaluate_keys.result c.evaluate_keys.new.state c.args.self.now.is_deep c.args.self.now.is_open c.evaluate_keys.ensures
