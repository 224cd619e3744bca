use Rattle.std.proofs.Common.{rules}
use Rattle.std.specs.Str.{chars}
use Rattle.es_reading.proofs.unlisted.is_foreign_type.Goals as goal

pub returns-then-begins_with-2 : goal.returns-then-begins_with-2
unfolding chars
returns-then-begins_with-2 c = search rules

pub returns-else-begins_with-2 : goal.returns-else-begins_with-2
unfolding chars
returns-else-begins_with-2 c = search rules
