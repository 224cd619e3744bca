use Rattle.std.proofs.Common.{◌∙◌}
use Rattle.es_base.specs.Conforms.{is_among}
use Rattle.es_owed_places.proofs.GivenNames.{all_texts, next_text}
use Rattle.es_owed_places.proofs.inner_names.add_all.Goals as goal

pub loop-function-preserved : goal.loop-function-preserved
loop-function-preserved c = λ s. next_text s (is_among s c.loop-function.names) (is_among s c.insert.new.self) c.args.functions.now c.loop-function.function-index _ c.loop-function-test.true (c.in_ok-insert.ensures.ok s) ∙ c.loop-function.invariant s

pub returns : goal.returns
returns c = λ s. all_texts s (is_among s c.loop-function.names) _ c.args.functions.now c.loop-function.function-index c.loop-function-test.false (c.loop-function.invariant s)
