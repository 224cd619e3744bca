use Rattle.std.specs.Str.{chars}
use Rattle.es_owed_carriers.proofs.bound_kinds.is_word_elsewhere.Goals as goal

pub returns : goal.returns
unfolding chars
returns c = c.is_among.ensures.by_chars
