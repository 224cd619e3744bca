use Rattle.class_details.proofs.Nearest.{nearest_law}
use Rattle.class_details.proofs.law.the_nearest_class_is_found.Goals as goal

pub returns : goal.returns
returns c = nearest_law
