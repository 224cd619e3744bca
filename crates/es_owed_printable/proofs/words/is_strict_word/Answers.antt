use Rattle.std.specs.Str.{chars}
use Rattle.es_owed_printable.proofs.words.is_strict_word.Goals as goal

pub returns : goal.returns
unfolding chars
returns c = c.is_among.ensures.by_chars
