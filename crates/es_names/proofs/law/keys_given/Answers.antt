use Rattle.std.proofs.Common.{refl}
use Rattle.std.specs.Fmt.{digits}
use Rattle.es_names.proofs.law.keys_given.Goals as goal

pub returns : goal.returns
unfolding digits
returns c = record { none = refl; others = refl; underscore = refl; between = refl; unordered = refl; with_underscore = refl; unordered_with_underscore = refl }
