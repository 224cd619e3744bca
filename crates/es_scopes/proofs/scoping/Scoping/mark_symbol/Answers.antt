use Rattle.std.proofs.Common.{refl}
use Rattle.es_scopes.specs.Table.{marked}
use Rattle.es_scopes.specs.contracts.scoping.Scoping.{the_view}
use Rattle.es_scopes.proofs.TableLemmas.{IsTable-marked}
use Rattle.es_scopes.proofs.WrittenLemmas.{symbol-holds, symbol-written}
use Rattle.es_scopes.proofs.scoping.Scoping.mark_symbol.Goals as goal

pub invariant_of-self : goal.invariant_of-self
invariant_of-self c =
    symbol-holds (the_view c.self.inside) c.args.self.now c.self.view_is c.args.symbol_id c.requires c.index_mut.result.now _ marked c.index_mut.ensures.value refl
    (IsTable-marked (the_view c.self.inside) c.self.invariant c.args.symbol_id.0)

pub returns : goal.returns
returns c =
    symbol-written (the_view c.self.inside) c.args.self.now c.self.view_is c.args.symbol_id c.requires c.index_mut.result.now _ marked c.index_mut.ensures.value refl
