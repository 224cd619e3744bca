use Rattle.std.specs.Prelude.{refl}
use Rattle.es_rows.proofs.lists.private_names_mean_the_nearest_class.Goals as goal

pub returns-clause-members : goal.returns-clause-members
returns-clause-members c = refl

pub returns-clause-uses : goal.returns-clause-uses
returns-clause-uses c = refl
