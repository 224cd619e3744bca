use Rattle.es_unchanged.proofs.Unchanged.{unchanged-owes}
use Rattle.es_left.proofs.Unlowered.{no_lowered_class}
use Rattle.es_unchanged.proofs.law.unchanged_programs_owe_nothing.Goals as goal

pub returns : goal.returns
returns c = λ o p e left. unchanged-owes o p e (no_lowered_class o p left) left
