use Rattle.std.proofs.Common.{◌≡◌, ◌∙◌, ap, sym, subst, length, rules, List}
use Rattle.std.specs.Prelude.{slice_get, is_some}
use Rattle.es_scopes.specs.Table.{Table, IsTable}
use Rattle.es_scopes.specs.declared.table.Reference.{Reference}
use Rattle.es_scopes.specs.contracts.scoping.Scoping.{the_view}
use Rattle.es_scopes.proofs.RowLemmas.{slice_get-push_last}
use Rattle.es_scopes.proofs.TableLemmas.{IsTable-new_reference}
use Rattle.es_scopes.proofs.WrittenLemmas.{symbol-within}
use Rattle.es_scopes.proofs.scoping.Scoping.create_reference.Goals as goal

pub invariant_of-self-in-Some : goal.invariant_of-self-in-Some
invariant_of-self-in-Some c =
    let t : Table = the_view c.self.inside in
    subst (λ (l : List Reference). IsTable (record t { references = l })) (sym c.in_ok-push.ensures.items)
    (IsTable-new_reference t c.self.invariant c.args.symbol_id c.args.flags (λ z e. symbol-within t c.args.self.now c.self.view_is z (c.requires.there z e)))

pub add_resolved_reference-requires-clause-reference :
    goal.add_resolved_reference-requires-clause-reference
add_resolved_reference-requires-clause-reference c =
    let last : c.len.result ≡ length c.self.inside.references.items = search rules in
    ap is_some ((λ i. slice_get (c.in_ok-push.ensures.items i) (last i)) ∙ slice_get-push_last c.self.inside.references.items _)

pub invariant_of-self-in_default : goal.invariant_of-self-in_default
invariant_of-self-in_default c =
    let t : Table = the_view c.self.inside in
    subst (λ (l : List Reference). IsTable (record t { references = l })) (sym c.in_ok-push.ensures.items)
    (IsTable-new_reference t c.self.invariant c.args.symbol_id c.args.flags (λ z e. symbol-within t c.args.self.now c.self.view_is z (c.requires.there z e)))
