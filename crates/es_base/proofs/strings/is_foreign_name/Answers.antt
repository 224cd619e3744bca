use Rattle.std.proofs.Common.{rules}
use Rattle.std.specs.Str.{chars}
use Rattle.es_base.proofs.strings.is_foreign_name.Goals as goal

pub returns-then-begins_with-2 : goal.returns-then-begins_with-2
unfolding chars
returns-then-begins_with-2 c = search rules

pub returns-else-begins_with-2 : goal.returns-else-begins_with-2
unfolding chars
returns-else-begins_with-2 c = search rules
