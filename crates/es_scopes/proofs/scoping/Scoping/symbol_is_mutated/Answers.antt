use Rattle.std.proofs.Common.{◌∙◌, inl, inr, ap, sym, subst, true≢false, length, ◌<◌}
use Rattle.es_scopes.specs.References.{HoldsWrite}
use Rattle.es_scopes.specs.Table.{listed}
use Rattle.es_scopes.specs.contracts.scoping.Scoping.{the_view}
use Rattle.es_scopes.proofs.WrittenLemmas.{symbol-found, symbol-row, IsMutated-from, IsMutated-to}
use Rattle.es_scopes.proofs.scoping.Scoping.symbol_is_mutated.Goals as goal

pub has_write-requires : goal.has_write-requires
has_write-requires c = λ r held.
    let t = the_view c.self.inside in
    let row = symbol-row t c.args.self.now c.self.view_is c.args.symbol_id c.requires c.index-symbol.result.now c.index-symbol.ensures in
    subst (λ l. r < length l) (sym c.deref.ensures.value) (c.self.invariant.listed c.args.symbol_id.0 r (ap (λ o. listed o r) row ∙ held))

pub returns-then-symbol : goal.returns-then-symbol
returns-then-symbol c =
    let at = symbol-found (the_view c.self.inside) c.args.self.now c.self.view_is c.args.symbol_id c.requires c.index-symbol.result.now c.index-symbol.ensures in
    (λ marked. IsMutated-from c.args.self.now c.args.symbol_id c.index-symbol.result.now at (inl marked), λ _. c.if-symbol.true)

pub returns-else-symbol : goal.returns-else-symbol
returns-else-symbol c =
    let now = c.args.self.now in
    let row = c.index-symbol.result.now in
    let at = symbol-found (the_view c.self.inside) now c.self.view_is c.args.symbol_id c.requires row c.index-symbol.ensures in
    let references = c.deref.ensures.value ∙ ap (λ t. t.references) c.self.view_is in (
      (λ writes. IsMutated-from now c.args.symbol_id row at (inr (subst (HoldsWrite row.references) references (c.has_write.ensures.0 writes)))),
      (λ mutated. elim (IsMutated-to now c.args.symbol_id row at mutated) [
        | inl marked ↦ absurd (true≢false (sym marked ∙ c.if-symbol.false))
        | inr holds ↦ c.has_write.ensures.1 (subst (HoldsWrite row.references) (sym references) holds)
      ]),
    )
