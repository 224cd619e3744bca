-- A value that was made a key some times.
use Rattle.std.specs.Prelude.{ℕ, zero, suc, Bool, true, false}
use Rattle.es_steps.specs.Values.{Value, KeyOf}

abbrev pub keyed : ℕ → Value → Value
keyed zero v = v
keyed (suc k) v = KeyOf (keyed k v)

abbrev pub is_key : Value → Bool
is_key (KeyOf v) = true
is_key v = false
