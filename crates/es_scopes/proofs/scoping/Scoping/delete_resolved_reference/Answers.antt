use Rattle.std.proofs.Common.{ap}
use Rattle.es_scopes.specs.Table.{unlisting}
use Rattle.es_scopes.specs.contracts.scoping.Scoping.{the_view}
use Rattle.es_scopes.proofs.TableLemmas.{IsTable-unlisting}
use Rattle.es_scopes.proofs.WrittenLemmas.{symbol-holds, symbol-written}
use Rattle.es_scopes.proofs.scoping.Scoping.delete_resolved_reference.Goals as goal

pub invariant_of-self : goal.invariant_of-self
invariant_of-self c =
    symbol-holds (the_view c.self.inside) c.args.self.now c.self.view_is c.args.symbol_id c.requires.symbol c.index_mut.result.now _ (unlisting c.args.reference_id.0) c.index_mut.ensures.value
    (ap (λ s. record c.index_mut.result.now { references = s }) c.remove.ensures)
    (IsTable-unlisting (the_view c.self.inside) c.self.invariant c.args.symbol_id.0 c.args.reference_id.0)

pub returns : goal.returns
returns c =
    symbol-written (the_view c.self.inside) c.args.self.now c.self.view_is c.args.symbol_id c.requires.symbol c.index_mut.result.now _ (unlisting c.args.reference_id.0) c.index_mut.ensures.value
    (ap (λ s. record c.index_mut.result.now { references = s }) c.remove.ensures)
