use Rattle.std.proofs.Common.{refl}
use Rattle.es_scopes.specs.Table.{targeted}
use Rattle.es_scopes.specs.contracts.scoping.Scoping.{the_view}
use Rattle.es_scopes.proofs.TableLemmas.{IsTable-target}
use Rattle.es_scopes.proofs.WrittenLemmas.{reference-holds, reference-written, symbol-within}
use Rattle.es_scopes.proofs.scoping.Scoping.set_symbol_id.Goals as goal

pub invariant_of-self : goal.invariant_of-self
invariant_of-self c =
    reference-holds (the_view c.self.inside) c.args.self.now c.self.view_is c.args.reference_id c.requires.reference c.index_mut.result.now _ (targeted c.args.symbol_id) c.index_mut.ensures.value refl
    (IsTable-target (the_view c.self.inside) c.self.invariant c.args.reference_id.0 c.args.symbol_id (symbol-within (the_view c.self.inside) c.args.self.now c.self.view_is c.args.symbol_id c.requires.symbol))

pub returns : goal.returns
returns c =
    reference-written (the_view c.self.inside) c.args.self.now c.self.view_is c.args.reference_id c.requires.reference c.index_mut.result.now _ (targeted c.args.symbol_id) c.index_mut.ensures.value refl
