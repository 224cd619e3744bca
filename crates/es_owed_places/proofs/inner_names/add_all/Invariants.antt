use Rattle.std.proofs.Common.{◌≡◌, ◌||◌, drop}
use Rattle.es_base.specs.Conforms.{is_among}
use Rattle.es_outside.specs.InnerFunctions.{texts}
use Rattle.es_steps.specs.Values.{String}
use Rattle.es_owed_places.proofs.inner_names.add_all.Given as goal

abbrev pub invariant-loop-function : goal.invariant-loop-function
invariant-loop-function l = (s : String) → (is_among s l.names || is_among s (texts (drop l.function-index l.functions))) ≡ (is_among s l.fn.names || is_among s (texts l.functions))
