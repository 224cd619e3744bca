use Rattle.es_writing.proofs.Places.{strings_short}
use Rattle.es_writing.proofs.Tokens.{none_written}
use Rattle.es_writing.proofs.text.write_strings.Goals as goal

pub returns-in_default-clause-ok : goal.returns-in_default-clause-ok
returns-in_default-clause-ok c = none_written _ _ _ (strings_short _ c.in_default.len_below)
