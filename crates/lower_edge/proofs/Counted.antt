-- A value that was read from few bytes can be counted.
use Rattle.std.proofs.Common.{◌≡◌, ℕ, ◌+◌, ◌<◌, ◌≤◌, ◌^◌, List, length, Some, arith}
use Rattle.serde_json.specs.Data.{Data}
use Rattle.serde_json.specs.Read.{read as read_text}
use Rattle.es_json.proofs.Counted.{values-read_text}
use Rattle.es_reading.specs.Told.{values}
use Rattle.lower_edge.specs.Ending.{most_bytes}

pub few-values : (b : List ℕ) (d : Data) → length b ≤ most_bytes → read_text b ≡ Some d → values d + 1 < 2 ^ 32
few-values b d few e = omega (arith, few, values-read_text b d e)
