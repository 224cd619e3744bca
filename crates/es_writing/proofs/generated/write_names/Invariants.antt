use Rattle.std.proofs.Common.{◌≡◌, map, take}
use Rattle.es_writing.specs.Lowered.{entry_value}
use Rattle.serde_json.specs.View.{view}
use Rattle.es_writing.proofs.generated.write_names.Given as goal

abbrev pub invariant-loop-entry : goal.invariant-loop-entry
invariant-loop-entry l = map view l.items.items ≡ map entry_value (map (λ e. e.now) (take l.entry-index l.entry-items))
