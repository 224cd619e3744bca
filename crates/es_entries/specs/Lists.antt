-- Lists of events with their values.
use Rattle.std.specs.Prelude.{◌≡◌}
use Rattle.es_codes.specs.View.{tokens_of}
use Rattle.es_evaluation.specs.Flat.{tokens}
use Rattle.es_steps.specs.Entries as spec
use Rattle.es_entries.specs.declared.listed.Listed.{Listed}

-- which list one in code is
pub record IsListed (l : Listed) (k : spec.Listed) : Type 0 where
  pub events : tokens_of l.tokens ≡ tokens k.events
  pub value : l.value ≡ k.value
