use Rattle.es_left.proofs.Unlowered.{no_lowered_class}
use Rattle.es_left.proofs.law.unchanged_programs_have_no_lowered_class.Goals as goal

pub returns : goal.returns
returns c = no_lowered_class
