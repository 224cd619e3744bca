use Rattle.es_replacement.proofs.Replaced.{reading_law, around_law}
use Rattle.es_replacement.proofs.law.what_is_around_is_read_alike.Goals as goal

pub returns : goal.returns
returns c = record { reading = reading_law; around = around_law }
