-- Where names are declared, given values or read, with the numbers of their spellings.
use Rattle.std.specs.Prelude.{ℕ, List, map}
use Rattle.es_binding_faults.specs.Leasts.{Numbers}
use Rattle.es_lowered.specs.Temporaries.{Touch}
use Rattle.es_generated.specs.Spellings.{spelling_number}

abbrev pub numbered_touches : Numbers → List Touch → List (ℕ × Touch)
numbered_touches ns ts = map (λ t. (spelling_number ns t.name, t)) ts
