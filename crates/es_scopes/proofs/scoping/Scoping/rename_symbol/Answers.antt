use Rattle.std.proofs.Common.{◌≡◌, ◌∙◌, ◌++◌, ◌<◌, refl, ap, sym, subst, length, set, take, drop, rules, arith, vec_len, None}
use Rattle.std.specs.Prelude.{option_map}
use Rattle.std.specs.Str.{chars}
use Rattle.es_scopes.specs.Bindings.{lookup}
use Rattle.es_scopes.specs.Table.{Table, IsTable, Holds, changed_at, scope_at, name_of, names_of_row, row_at, renaming, called, get_binding, with_name}
use Rattle.es_scopes.specs.contracts.scoping.Scoping.{the_view}
use Rattle.es_scopes.proofs.NameLemmas.{IsTable-name, holder-there, symbol-held, own-name}
use Rattle.es_scopes.proofs.RowLemmas.{written_back, set-changed_at, within_from_some}
use Rattle.es_scopes.proofs.TableLemmas.{some_row}
use Rattle.es_scopes.proofs.WrittenLemmas.{symbol-row}
use Rattle.es_scopes.proofs.scoping.Scoping.rename_symbol.Goals as goal

pub index_mut-symbol-requires : goal.index_mut-symbol-requires
index_mut-symbol-requires c =
    let t : Table = the_view c.self.inside in
    let held : Holds t c.args.scope_id c.args.symbol_id = subst (λ t. Holds t c.args.scope_id c.args.symbol_id) (sym c.self.view_is) c.requires.held in
    let within : c.args.symbol_id.0 < length c.self.inside.symbols.items = within_from_some c.self.inside.symbols.items c.args.symbol_id.0 (symbol-held t c.self.invariant c.args.scope_id c.args.symbol_id held) in
    search rules

pub rename_in-requires-clause-held : goal.rename_in-requires-clause-held
rename_in-requires-clause-held c =
    let t : Table = the_view c.self.inside in
    let held : Holds t c.args.scope_id c.args.symbol_id = subst (λ t. Holds t c.args.scope_id c.args.symbol_id) (sym c.self.view_is) c.requires.held in
    let at = symbol-row t t refl c.args.symbol_id (symbol-held t c.self.invariant c.args.scope_id c.args.symbol_id held) c.index_mut-symbol.result.now c.index_mut-symbol.ensures.value in
    let own = own-name t c.args.symbol_id c.index_mut-symbol.result.now (chars c.as_str.result.now) at c.as_str.ensures in
    (λ i. lookup (own i) (names_of_row (row_at (c.deref_mut.ensures.value i) c.args.scope_id.0))) ∙ held

-- the rows after the call
scopes_are : (c : goal.After-drop-symbol) →
    take (vec_len c.self.inside.scopes) (c.rename_in.new.scopes ++ drop (length c.rename_in.new.scopes) c.self.inside.scopes.items)
    ≡ (with_name (the_view c.self.inside) c.args.symbol_id c.args.scope_id (chars c.args.name.now)).scopes
scopes_are c =
    let t : Table = the_view c.self.inside in
    let held : Holds t c.args.scope_id c.args.symbol_id = subst (λ t. Holds t c.args.scope_id c.args.symbol_id) (sym c.self.view_is) c.requires.held in
    let at = symbol-row t t refl c.args.symbol_id (symbol-held t c.self.invariant c.args.scope_id c.args.symbol_id held) c.index_mut-symbol.result.now c.index_mut-symbol.ensures.value in
    let own = own-name t c.args.symbol_id c.index_mut-symbol.result.now (chars c.as_str.result.now) at c.as_str.ensures in
    let size : length c.rename_in.new.scopes ≡ vec_len c.self.inside.scopes = omega (arith, c.rename_in.auto.scopes, c.deref_mut.ensures.len) in
    written_back (vec_len c.self.inside.scopes) c.rename_in.new.scopes c.self.inside.scopes.items size
    ∙ c.in_ok-rename_in.ensures.ok
    ∙ (λ i. changed_at (option_map (renaming (own i) (chars c.args.name.now))) c.args.scope_id.0 (c.deref_mut.ensures.value i))

symbols_are : (c : goal.After-drop-symbol) →
    set c.self.inside.symbols.items c.args.symbol_id.0 (record c.index_mut-symbol.result.now { name = c.in_ok-new_name.new_name })
    ≡ (with_name (the_view c.self.inside) c.args.symbol_id c.args.scope_id (chars c.args.name.now)).symbols
symbols_are c =
    let t : Table = the_view c.self.inside in
    let held : Holds t c.args.scope_id c.args.symbol_id = subst (λ t. Holds t c.args.scope_id c.args.symbol_id) (sym c.self.view_is) c.requires.held in
    let row = c.index_mut-symbol.result.now in
    set-changed_at (called (chars c.args.name.now)) c.args.symbol_id.0 t.symbols row _
    (within_from_some t.symbols c.args.symbol_id.0 (symbol-held t c.self.invariant c.args.scope_id c.args.symbol_id held)) c.index_mut-symbol.ensures.value
    (ap (λ n. record row { name = n }) c.in_ok-new_name.ensures)

pub invariant_of-self-2 : goal.invariant_of-self-2
invariant_of-self-2 c =
    let t : Table = the_view c.self.inside in
    let s = c.args.scope_id in
    let y = c.args.symbol_id in
    let held : Holds t s y = subst (λ t. Holds t s y) (sym c.self.view_is) c.requires.held in
    let free : get_binding t s (chars c.args.name.now) ≡ None = ap (λ t. get_binding t s (chars c.args.name.now)) c.self.view_is ∙ c.requires.free in
    let row = some_row (scope_at t s) (holder-there t c.self.invariant s y held) in
    subst IsTable (λ i. record { scopes = sym (scopes_are c) i; symbols = sym (symbols_are c) i; references = t.references })
    (IsTable-name t c.self.invariant y s (chars c.args.name.now) row.0 row.1
    (ap (λ o. lookup (name_of t y) (names_of_row o)) (sym row.1) ∙ held)
    (ap (λ o. lookup (chars c.args.name.now) (names_of_row o)) (sym row.1) ∙ free))

pub returns : goal.returns
returns c =
    let t : Table = the_view c.self.inside in
    record {
      ok =
          (λ i. record { scopes = scopes_are c i; symbols = symbols_are c i; references = t.references })
          ∙ ap (λ t. with_name t c.args.symbol_id c.args.scope_id (chars c.args.name.now)) c.self.view_is;
    }
