use Rattle.std.specs.Str.{chars}
use Rattle.es_lexical.proofs.names.is_reserved_everywhere.Goals as goal

pub returns : goal.returns
unfolding chars
returns c = c.is_among.ensures.by_chars
