use Rattle.std.proofs.Common.{refl}
use Rattle.es_scopes.specs.Table.{reference_flagged}
use Rattle.es_scopes.specs.contracts.scoping.Scoping.{the_view}
use Rattle.es_scopes.proofs.TableLemmas.{IsTable-reference_flags}
use Rattle.es_scopes.proofs.WrittenLemmas.{reference-holds, reference-written}
use Rattle.es_scopes.proofs.scoping.Scoping.set_reference_flags.Goals as goal

pub invariant_of-self : goal.invariant_of-self
invariant_of-self c =
    reference-holds (the_view c.self.inside) c.args.self.now c.self.view_is c.args.reference_id c.requires c.index_mut.result.now _ (reference_flagged c.args.flags) c.index_mut.ensures.value refl
    (IsTable-reference_flags (the_view c.self.inside) c.self.invariant c.args.reference_id.0 c.args.flags)

pub returns : goal.returns
returns c =
    reference-written (the_view c.self.inside) c.args.self.now c.self.view_is c.args.reference_id c.requires c.index_mut.result.now _ (reference_flagged c.args.flags) c.index_mut.ensures.value refl
