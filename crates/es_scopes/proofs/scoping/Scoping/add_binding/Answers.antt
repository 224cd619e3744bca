use Rattle.std.proofs.Common.{◌≡◌, ◌∙◌, ◌++◌, ◌∷◌, [], sym, subst, length, rules, arith, false, vec_len}
use Rattle.std.specs.Prelude.{option_map}
use Rattle.std.specs.Str.{chars}
use Rattle.es_scopes.specs.Table.{Table, IsTable, HasScope, changed_at, scope_at, holding, new_symbol}
use Rattle.es_scopes.specs.contracts.scoping.Scoping.{the_view}
use Rattle.es_scopes.proofs.NameLemmas.{IsTable-binding, IsTable-new_symbol}
use Rattle.es_scopes.proofs.RowLemmas.{written_back}
use Rattle.es_scopes.proofs.TableLemmas.{some_row}
use Rattle.es_scopes.proofs.scoping.Scoping.add_binding.Goals as goal

pub invariant_of-self-in_err-hold_name : goal.invariant_of-self-in_err-hold_name
invariant_of-self-in_err-hold_name c =
    let t : Table = the_view c.self.inside in
    let name = chars c.args.name.now in
    let pushed : c.push.new.self.items ≡ t.symbols ++ new_symbol name c.args.scope_id c.args.flags ∷ [] =
    c.in_ok-push.ensures.items ∙ (λ i. t.symbols ++ record { name = c.in_ok-new.ensures i; scope = c.args.scope_id; flags = c.args.flags; references = c.new-2.ensures i; is_marked = false } ∷ []) in
    let size : length c.hold_name.new.scopes ≡ vec_len c.self.inside.scopes = omega (arith, c.hold_name.auto.scopes, c.deref_mut.ensures.len) in
    let scopes = written_back (vec_len c.self.inside.scopes) c.hold_name.new.scopes c.self.inside.scopes.items size ∙ c.in_err-hold_name.ensures.err ∙ c.deref_mut.ensures.value in
    let row = some_row (scope_at t c.args.scope_id) (subst (λ t. HasScope t c.args.scope_id) (sym c.self.view_is) c.requires.there) in
    subst IsTable (λ i. record { scopes = sym scopes i; symbols = sym pushed i; references = t.references })
    (IsTable-new_symbol t c.self.invariant c.args.scope_id name c.args.flags row.0 row.1)

pub invariant_of-self-2 : goal.invariant_of-self-2
invariant_of-self-2 c =
    let t : Table = the_view c.self.inside in
    let name = chars c.args.name.now in
    let pushed : c.push.new.self.items ≡ t.symbols ++ new_symbol name c.args.scope_id c.args.flags ∷ [] =
    c.in_ok-push.ensures.items ∙ (λ i. t.symbols ++ record { name = c.in_ok-new.ensures i; scope = c.args.scope_id; flags = c.args.flags; references = c.new-2.ensures i; is_marked = false } ∷ []) in
    let size : length c.hold_name.new.scopes ≡ vec_len c.self.inside.scopes = omega (arith, c.hold_name.auto.scopes, c.deref_mut.ensures.len) in
    let last : c.len.result ≡ length c.self.inside.symbols.items = search rules in
    let named : c.hold_name.new.scopes ≡ changed_at (option_map (holding name (record { 0 = length t.symbols }))) c.args.scope_id.0 t.scopes =
    c.in_ok-hold_name.ensures.ok ∙ (λ i. changed_at (option_map (holding name (record { 0 = last i }))) c.args.scope_id.0 (c.deref_mut.ensures.value i)) in
    let scopes = written_back (vec_len c.self.inside.scopes) c.hold_name.new.scopes c.self.inside.scopes.items size ∙ named in
    let row = some_row (scope_at t c.args.scope_id) (subst (λ t. HasScope t c.args.scope_id) (sym c.self.view_is) c.requires.there) in
    subst IsTable (λ i. record { scopes = sym scopes i; symbols = sym pushed i; references = t.references })
    (IsTable-binding t c.self.invariant c.args.scope_id name c.args.flags row.0 row.1)
