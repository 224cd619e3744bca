use Rattle.std.proofs.Common.{◌∙◌, ap, is_some}
use Rattle.es_binding_faults.proofs.HasNumbers.{has_number-keys}
use Rattle.es_binding_faults.proofs.numbers.Numbers.with_places.Goals as goal

pub returns : goal.returns
returns c = λ n. has_number-keys n c.in_ok-numbers.numbers ∙ ap is_some (c.in_ok-numbers.ensures n)
