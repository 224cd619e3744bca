-- Which of the two things that a private name may do.
use Rattle.std.specs.Prelude.{Bool}
use Rattle.es_steps.specs.PrivateNames.{PrivateKind, is_read, is_written}
use Rattle.es_seen_names.specs.declared.privates.Side.{Side}

abbrev pub is_of_side : Side → PrivateKind → Bool
is_of_side Side.Reads kind = is_read kind
is_of_side Side.Writes kind = is_written kind
