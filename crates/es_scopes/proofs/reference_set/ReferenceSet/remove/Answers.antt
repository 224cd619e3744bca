use Rattle.std.proofs.Common.{◌∙◌, ap}
use Rattle.std.specs.FinSet as set
use Rattle.es_scopes.proofs.ReferenceLemmas.{numbers_of-remove}
use Rattle.es_scopes.proofs.reference_set.ReferenceSet.remove.Goals as goal

pub returns : goal.returns
returns c =
    numbers_of-remove c.self.inside.references.keys c.swap_remove.new.self.keys c.args.reference (λ q. c.swap_remove.ensures.updates.0 q)
    ∙ ap (λ s. set.remove s c.args.reference.0) c.self.view_is
