use Rattle.lower_with.proofs.Wrong.{right_law}
use Rattle.lower_with.proofs.law.right_lowerings_are_not_refused.Goals as goal

pub returns : goal.returns
returns c = right_law
