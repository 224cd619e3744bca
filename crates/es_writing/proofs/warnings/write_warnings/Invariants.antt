use Rattle.std.proofs.Common.{◌≡◌, map, take}
use Rattle.es_writing.specs.Lowered.{warning_value}
use Rattle.serde_json.specs.View.{view}
use Rattle.es_writing.proofs.warnings.write_warnings.Given as goal

abbrev pub invariant-loop-warning : goal.invariant-loop-warning
invariant-loop-warning l = map view l.items.items ≡ map warning_value (take l.warning-index l.warning-items)
