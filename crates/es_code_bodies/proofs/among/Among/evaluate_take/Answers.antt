use Rattle.es_codes.specs.CodeView.{code_of}
use Rattle.es_evaluator.specs.Running.{state_of}
use Rattle.es_code_bodies.proofs.Whole.{take_among}
use Rattle.es_code_bodies.proofs.among.Among.evaluate_take.Goals as goal

pub returns : goal.returns
returns c = take_among c.args.self.now.definitions c.args.self.now.opening c.args.value.now (code_of c.args.member.now) (state_of c.args.state.now) c.evaluate_take.result c.evaluate_take.new.state c.args.self.now.is_deep c.args.self.now.is_open c.evaluate_take.ensures
