-- Calls of `super` that are told by their form.
use Rattle.std.specs.Prelude.{List, [], ◌∷◌, Bool, false, ◌&&◌, ◌||◌}
use Rattle.es_lowered.specs.DeadZones.{Touch, is_call_of_super}
use Rattle.es_steps.specs.KeptNodes.{all_pairs_stand}

-- one of these that runs wherever t does
abbrev pub any_super_call : Touch → List Touch → Bool
any_super_call t [] = false
any_super_call t (u ∷ us) = (is_call_of_super u.form && all_pairs_stand u.held t.held) || any_super_call t us
