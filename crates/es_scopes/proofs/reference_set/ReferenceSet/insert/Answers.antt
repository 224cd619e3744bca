use Rattle.std.proofs.Common.{◌∙◌, ap}
use Rattle.std.specs.FinSet as set
use Rattle.es_scopes.proofs.ReferenceLemmas.{numbers_of-insert}
use Rattle.es_scopes.proofs.reference_set.ReferenceSet.insert.Goals as goal

pub returns-clause-ok : goal.returns-clause-ok
returns-clause-ok c =
    numbers_of-insert c.self.inside.references.keys c.insert.new.self.keys c.args.reference (λ q. c.in_ok-insert.ensures.updates.0 q)
    ∙ ap (λ s. set.insert s c.args.reference.0) c.self.view_is
