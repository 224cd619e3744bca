-- The pair that was read.
use Rattle.es_reading.specs.Told.{ids}
use Rattle.check_run.specs.Pair.{Pair}
use Rattle.check_run.specs.declared.pair.ReadPair.{ReadPair}

abbrev pub pair_of : ReadPair → Pair
pair_of x = record { source = x.source; foreign = ids x.foreign; lowered = x.lowered; names = x.names.entries }
