-- What the writes of the calls make of a table.
use Rattle.std.proofs.Common.{◌≡◌, sym, ap, subst, ◌∙◌, ◌<◌, length, set, get_or, Option, Some, None, true, true≢false, ◌⊎◌}
use Rattle.std.specs.Prelude.{option_map, is_some, MatchOption}
use Rattle.std.specs.Option.{option_and_then}
use Rattle.std.proofs.lemmas.Option.{slice_get-get_or}
use Rattle.es_base.specs.declared.ids.ScopeId.{ScopeId}
use Rattle.es_base.specs.declared.ids.SymbolId.{SymbolId}
use Rattle.es_base.specs.declared.ids.ReferenceId.{ReferenceId}
use Rattle.es_scopes.specs.Table.{Table, changed_at, scope_at, symbol_at, HasScope, HasSymbol, HasReference, IsTable, IsMutated, with_scope, with_symbol, with_reference}
use Rattle.es_scopes.specs.References.{HoldsWrite}
use Rattle.es_scopes.specs.declared.table.Scope.{Scope}
use Rattle.es_scopes.specs.declared.table.Symbol.{Symbol}
use Rattle.es_scopes.specs.declared.table.Reference.{Reference}
use Rattle.es_scopes.proofs.RowLemmas.{set-changed_at, within_from_some, within_from_row}

-- t is the table as its fields have it, and now as the caller sees it
module _ (t now : Table) (view : t ≡ now) where
  pub reference-within : (r : ReferenceId) → HasReference now r → r.0 < length t.references
  reference-within r there = within_from_some t.references r.0 (subst (λ t. HasReference t r) (sym view) there)

  pub symbol-within : (y : SymbolId) → HasSymbol now y → y.0 < length t.symbols
  symbol-within y there = within_from_some t.symbols y.0 (subst (λ t. HasSymbol t y) (sym view) there)

  pub scope-within : (s : ScopeId) → HasScope now s → s.0 < length t.scopes
  scope-within s there = within_from_row t.scopes s.0 (subst (λ t. HasScope t s) (sym view) there)

  pub symbol-row : (y : SymbolId) → HasSymbol now y → (x : Symbol) → x ≡ get_or t.symbols y.0 x → symbol_at t y ≡ Some x
  symbol-row y there x at = slice_get-get_or t.symbols y.0 x (symbol-within y there) ∙ ap (λ w. Some w) (sym at)

  pub symbol-found : (y : SymbolId) → HasSymbol now y → (x : Symbol) → x ≡ get_or t.symbols y.0 x → symbol_at now y ≡ Some x
  symbol-found y there x at = ap (λ t. symbol_at t y) (sym view) ∙ slice_get-get_or t.symbols y.0 x (symbol-within y there) ∙ ap (λ w. Some w) (sym at)

  module _ (y : SymbolId) (there : HasSymbol now y) (x v : Symbol) (f : Symbol → Symbol) (at : x ≡ get_or t.symbols y.0 x) (is : v ≡ f x) where
    symbols-written : set t.symbols y.0 v ≡ changed_at f y.0 t.symbols
    symbols-written = set-changed_at f y.0 t.symbols x v (symbol-within y there) at is

    pub symbol-written : record t { symbols = set t.symbols y.0 v } ≡ with_symbol now y f
    symbol-written = ap (λ l. record t { symbols = l }) symbols-written ∙ ap (λ t. with_symbol t y f) view

    pub symbol-holds : IsTable (record t { symbols = changed_at f y.0 t.symbols }) → IsTable (record t { symbols = set t.symbols y.0 v })
    symbol-holds h = subst (λ l. IsTable (record t { symbols = l })) (sym symbols-written) h

  module _ (r : ReferenceId) (there : HasReference now r) (x v : Reference) (f : Reference → Reference) (at : x ≡ get_or t.references r.0 x) (is : v ≡ f x) where
    references-written : set t.references r.0 v ≡ changed_at f r.0 t.references
    references-written = set-changed_at f r.0 t.references x v (reference-within r there) at is

    pub reference-written : record t { references = set t.references r.0 v } ≡ with_reference now r f
    reference-written = ap (λ l. record t { references = l }) references-written ∙ ap (λ t. with_reference t r f) view

    pub reference-holds : IsTable (record t { references = changed_at f r.0 t.references }) → IsTable (record t { references = set t.references r.0 v })
    reference-holds h = subst (λ l. IsTable (record t { references = l })) (sym references-written) h

  module _ (s : ScopeId) (there : HasScope now s) (o : Option Scope) (at : o ≡ get_or t.scopes s.0 o) where
    pub scope-found : scope_at t s ≡ o
    scope-found = ap (option_and_then (λ r. r)) (slice_get-get_or t.scopes s.0 o (scope-within s there)) ∙ sym at

    pub scope-not_none : o ≡ None → ⊥
    scope-not_none e = true≢false (sym (subst (λ t. HasScope t s) (sym view) there) ∙ ap is_some (scope-found ∙ e))

    module _ (x v : Scope) (f : Scope → Scope) (found : o ≡ Some x) (is : v ≡ f x) where
      scopes-written : set t.scopes s.0 (Some v) ≡ changed_at (option_map f) s.0 t.scopes
      scopes-written = set-changed_at (option_map f) s.0 t.scopes o (Some v) (scope-within s there) at (ap (λ w. Some w) is ∙ sym (ap (option_map f) found))

      pub scope-written : record t { scopes = set t.scopes s.0 (Some v) } ≡ with_scope now s f
      scope-written = ap (λ l. record t { scopes = l }) scopes-written ∙ ap (λ t. with_scope t s f) view

      pub scope-holds : IsTable (record t { scopes = changed_at (option_map f) s.0 t.scopes }) → IsTable (record t { scopes = set t.scopes s.0 (Some v) })
      scope-holds h = subst (λ l. IsTable (record t { scopes = l })) (sym scopes-written) h

-- whether a symbol is mutated, by its row
pub IsMutated-from : (t : Table) (y : SymbolId) (x : Symbol) → symbol_at t y ≡ Some x → (x.is_marked ≡ true) ⊎ HoldsWrite x.references t.references → IsMutated t y
IsMutated-from t y x at h = subst (λ o. MatchOption o ⊥ (λ x. (x.is_marked ≡ true) ⊎ HoldsWrite x.references t.references)) (sym at) h

pub IsMutated-to : (t : Table) (y : SymbolId) (x : Symbol) → symbol_at t y ≡ Some x → IsMutated t y → (x.is_marked ≡ true) ⊎ HoldsWrite x.references t.references
IsMutated-to t y x at h = subst (λ o. MatchOption o ⊥ (λ x. (x.is_marked ≡ true) ⊎ HoldsWrite x.references t.references)) at h
