use Rattle.std.specs.Str.{chars}
use Rattle.es_reading.proofs.unlisted.is_foreign_word.Goals as goal

pub returns : goal.returns
unfolding chars
returns c = c.is_among.ensures.by_chars
