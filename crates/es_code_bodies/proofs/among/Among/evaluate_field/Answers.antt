use Rattle.es_codes.specs.CodeView.{code_of}
use Rattle.es_evaluator.specs.Running.{state_of}
use Rattle.es_code_bodies.proofs.Whole.{field_among}
use Rattle.es_code_bodies.proofs.among.Among.evaluate_field.Goals as goal

pub returns : goal.returns
returns c = field_among c.args.self.now.definitions c.args.self.now.opening c.args.class (code_of c.args.element.now) (state_of c.args.state.now) c.evaluate_field.result c.evaluate_field.new.state c.args.self.now.is_deep c.args.self.now.is_open c.evaluate_field.ensures
