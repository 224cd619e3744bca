use Rattle.es_reading.proofs.Named.{enough}
use Rattle.borrowed_json.specs.View.{view}
use Rattle.es_reading.proofs.kinds.kind_in.Goals as goal

pub loop-kind-init : goal.loop-kind-init
loop-kind-init c = enough c.args.name.now c.args.spot (view c.args.value.now) c.kinds_of_length-kind-items.result.now c.kinds_of_length-kind-items.ensures
