use Rattle.lower_run.proofs.Written.{text-of}
use Rattle.lower_run.proofs.answer.text_of.Goals as goal

pub returns-clause-text : goal.returns-clause-text
returns-clause-text c = text-of c.in_ok-text.text.items _ c.args.told.lowered.program _ _ _ _ _ c.as_slice-warnings.ensures.value c.as_slice-shapes.ensures.value c.in_ok-text.ensures.text c.in_ok-push.ensures.items
