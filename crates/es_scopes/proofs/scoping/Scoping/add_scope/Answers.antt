use Rattle.std.proofs.Common.{◌∙◌, ◌++◌, ◌∷◌, [], ap, sym, subst, List, Option, Some}
use Rattle.es_scopes.specs.Table.{Table, IsTable, HasScope}
use Rattle.es_scopes.specs.contracts.scoping.Scoping.{the_view}
use Rattle.es_scopes.specs.declared.table.Scope.{Scope}
use Rattle.es_scopes.proofs.TableLemmas.{IsTable-new_scope}
use Rattle.es_scopes.proofs.scoping.Scoping.add_scope.Goals as goal

pub invariant_of-self-2 : goal.invariant_of-self-2
invariant_of-self-2 c =
    let t : Table = the_view c.self.inside in
    let pushed = c.in_ok-push.ensures.items ∙ ap (λ n. t.scopes ++ Some (record { parent = c.args.parent; flags = c.args.flags; names = n }) ∷ []) c.new-names.ensures in
    subst (λ (l : List (Option Scope)). IsTable (record t { scopes = l })) (sym pushed)
    (IsTable-new_scope t c.args.parent c.args.flags c.self.invariant (λ q e. subst (λ t. HasScope t q) (sym c.self.view_is) (c.requires.around q e)))
