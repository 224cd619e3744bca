-- The facts on names in code, as definitions see them.
use Rattle.std.specs.Prelude.{map}
use Rattle.es_validity.specs.Facts as known
use Rattle.es_validity.specs.declared.check.Facts.{Facts}

abbrev pub facts_in : Facts → known.Facts
facts_in facts = record {
  repeated_names = map (λ n. n.0) facts.repeated_names.now;
  eval_calls = map (λ n. n.0) facts.eval_calls.now;
}
