use Rattle.es_steps.proofs.FirstMeaning.{first_form_law}
use Rattle.es_steps.proofs.law.first_form_has_meaning.Goals as goal

pub returns : goal.returns
returns c = first_form_law
