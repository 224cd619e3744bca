-- What is known at a node in code, as definitions see it.
use Rattle.es_validity.specs.Around as known
use Rattle.es_validity.specs.Labels.{jumps_of}
use Rattle.es_validity.specs.declared.around.Around.{Around}

abbrev pub around_of : Around → known.Around
around_of a = record { owner = a.owner; class = a.class; position = a.position; awaits = a.awaits; yields = a.yields; jumps = jumps_of a.jumps }
