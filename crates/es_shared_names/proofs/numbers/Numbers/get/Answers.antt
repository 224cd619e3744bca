use Rattle.std.proofs.Common.{◌∙◌, ap}
use Rattle.std.specs.Str.{chars}
use Rattle.es_binding_faults.specs.Leasts.{number_of}
use Rattle.es_binding_faults.proofs.LeastNumbers.{looked_up}
use Rattle.es_shared_names.proofs.numbers.Numbers.get.Goals as goal

pub returns : goal.returns
returns c = c.copied.ensures ∙ c.get.ensures.value ∙ looked_up c.args.name.now c.self.inside.numbers.entries c.utf8.name c.self.invariant ∙ ap (number_of (chars c.args.name.now)) c.self.view_is
