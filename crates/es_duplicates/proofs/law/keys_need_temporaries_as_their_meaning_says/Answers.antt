use Rattle.es_duplicates.proofs.Keys.{key_law}
use Rattle.es_duplicates.proofs.law.keys_need_temporaries_as_their_meaning_says.Goals as goal

pub returns : goal.returns
returns c = key_law
