use Rattle.std.proofs.Common.{rules}
use Rattle.std.specs.Str.{chars}
use Rattle.class_properties.proofs.not_yet.class.is_new_string.Goals as goal

pub returns : goal.returns
unfolding chars
returns c = search rules
