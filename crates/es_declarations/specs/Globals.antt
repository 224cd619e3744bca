-- Names with numbers, as definitions see them.
use Rattle.std.specs.Prelude.{ℕ, List}
use Rattle.std.specs.Str.{chars}
use Rattle.std.proofs.Common.{Bor}
use Rattle.es_by_number.specs.Numbered.{numbered}
use Rattle.es_by_number.specs.declared.numbered.Numbered.{Numbered}
use Rattle.es_steps.specs.Values.{String}

abbrev pub names_in : List (Numbered (Bor (List ℕ))) → List (ℕ × String)
names_in names = numbered (λ name. chars name.now) names
