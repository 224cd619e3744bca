use Rattle.std.proofs.Common.{rules}
use Rattle.std.specs.Str.{chars}
use Rattle.es_validity.proofs.unsupported.is_helper_name.Goals as goal

pub returns : goal.returns
unfolding chars
returns c = search rules
