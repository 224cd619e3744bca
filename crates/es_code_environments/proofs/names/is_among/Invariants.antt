use Rattle.std.proofs.Common.{◌≡◌, drop}
use Rattle.es_steps.specs.Entries.{is_string_among}
use Rattle.es_code_environments.proofs.names.is_among.Given as goal

abbrev pub invariant-loop-other : goal.invariant-loop-other
invariant-loop-other l = is_string_among l.name l.names ≡ is_string_among l.name (drop l.other-index l.names)
