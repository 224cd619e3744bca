use Rattle.std.proofs.Common.{refl}
use Rattle.es_scopes.specs.Table.{symbol_flagged}
use Rattle.es_scopes.specs.contracts.scoping.Scoping.{the_view}
use Rattle.es_scopes.proofs.TableLemmas.{IsTable-symbol_flags}
use Rattle.es_scopes.proofs.WrittenLemmas.{symbol-holds, symbol-written}
use Rattle.es_scopes.proofs.scoping.Scoping.set_symbol_flags.Goals as goal

pub invariant_of-self : goal.invariant_of-self
invariant_of-self c =
    symbol-holds (the_view c.self.inside) c.args.self.now c.self.view_is c.args.symbol_id c.requires c.index_mut.result.now _ (symbol_flagged c.args.flags) c.index_mut.ensures.value refl
    (IsTable-symbol_flags (the_view c.self.inside) c.self.invariant c.args.symbol_id.0 c.args.flags)

pub returns : goal.returns
returns c =
    symbol-written (the_view c.self.inside) c.args.self.now c.self.view_is c.args.symbol_id c.requires c.index_mut.result.now _ (symbol_flagged c.args.flags) c.index_mut.ensures.value refl
