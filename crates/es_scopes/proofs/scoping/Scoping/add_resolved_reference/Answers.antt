use Rattle.std.proofs.Common.{ap}
use Rattle.es_scopes.specs.Table.{listing}
use Rattle.es_scopes.specs.contracts.scoping.Scoping.{the_view}
use Rattle.es_scopes.proofs.Outcomes.{OnOk-map, either_way}
use Rattle.es_scopes.proofs.TableLemmas.{IsTable-listing, IsTable-symbol_same}
use Rattle.es_scopes.proofs.WrittenLemmas.{symbol-holds, symbol-written, reference-within}
use Rattle.es_scopes.proofs.scoping.Scoping.add_resolved_reference.Goals as goal

pub invariant_of-self : goal.invariant_of-self
invariant_of-self c =
    let t = the_view c.self.inside in
    let row = c.index_mut.result.now in
    let holds = symbol-holds t c.args.self.now c.self.view_is c.args.symbol_id c.requires.symbol row (record row { references = c.insert.new.self }) in
    either_way c.insert.result _ _ _ c.insert.ensures.ok c.insert.ensures.err
    (λ added. holds (listing c.args.reference_id.0) c.index_mut.ensures.value (ap (λ s. record row { references = s }) added)
    (IsTable-listing t c.self.invariant c.args.symbol_id.0 c.args.reference_id.0 (reference-within t c.args.self.now c.self.view_is c.args.reference_id c.requires.reference)))
    (λ same. holds (λ x. x) c.index_mut.ensures.value (ap (λ s. record row { references = s }) same) (IsTable-symbol_same t c.self.invariant c.args.symbol_id.0))

pub returns-clause-ok : goal.returns-clause-ok
returns-clause-ok c =
    let row = c.index_mut.result.now in
    OnOk-map c.insert.result _ _
    (λ added. symbol-written (the_view c.self.inside) c.args.self.now c.self.view_is c.args.symbol_id c.requires.symbol row _ (listing c.args.reference_id.0) c.index_mut.ensures.value (ap (λ s. record row { references = s }) added))
    c.insert.ensures.ok
