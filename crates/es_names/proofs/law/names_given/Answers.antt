use Rattle.std.proofs.Common.{refl}
use Rattle.std.specs.Fmt.{digits}
use Rattle.es_names.proofs.law.names_given.Goals as goal

pub returns : goal.returns
unfolding digits
returns c = record { first = refl; second = refl; digits = refl; base = refl }
