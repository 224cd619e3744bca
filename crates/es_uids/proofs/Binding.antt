-- Scopes whose names are taken, after one more name was bound.
use Rattle.std.proofs.Common.{◌≡◌, refl, sym, ap, subst, ◌∙◌, ℕ, List, [], ◌∷◌, ◌++◌, Bool, true, false, ◌||◌, cond, Option, Some, None, ◌⊎◌, inl, inr, length, option_map}
use Rattle.std.specs.Prelude.{bytes_eq, is_some, slice_get}
use Rattle.es_base.specs.Conforms.{is_among}
use Rattle.es_base.specs.declared.ids.ScopeId.{ScopeId}
use Rattle.es_base.specs.declared.ids.SymbolId.{SymbolId}
use Rattle.es_names.specs.Taken.{Strings}
use Rattle.es_names.proofs.Keyed.{bytes_eq-flip}
use Rattle.es_scopes.specs.Bindings as bindings
use Rattle.es_scopes.specs.Table.{Table, names_at, names_of_row, holding, new_symbol, or_else, row_at, symbol_at, with_binding}
use Rattle.es_scopes.specs.declared.flags.SymbolFlags.{SymbolFlags}
use Rattle.es_scopes.specs.declared.table.Scope.{Scope}
use Rattle.es_scopes.proofs.BindingLemmas.{lookup-push}
use Rattle.es_scopes.proofs.RowLemmas.{same_or_other, slice_get-push_last}
use Rattle.es_scopes.proofs.TableLemmas.{row_at-changed_same, row_at-changed_other}
use Rattle.es_uids.specs.Uids.{AreTaken}
use Rattle.es_uids.specs.declared.traverse_scoping.TraverseScoping.{TraverseScoping}

or_false : (a b : Bool) → (a || b) ≡ false → (a ≡ false) × (b ≡ false)
or_false true b h = cc
or_false false b h = (refl, h)

-- a string that is not among more is not among some, and is not the last
not_among : (s name : List ℕ) (taken : Strings) → is_among s (taken ++ name ∷ []) ≡ false → (is_among s taken ≡ false) × (bytes_eq name s ≡ false)
not_among s name [] h = (refl, (or_false (bytes_eq name s) false h).0)
not_among s name (w ∷ taken) h =
    let both = or_false (bytes_eq w s) (is_among s (taken ++ name ∷ [])) h in
    let below = not_among s name taken both.1 in
    (ap (λ c. c || is_among s taken) both.0 ∙ below.0, below.1)

-- the names of the row of the scope, with one more
held : (s name : List ℕ) (y : SymbolId) (o : Option Scope) → bytes_eq s name ≡ false → bindings.lookup s (names_of_row o) ≡ None → bindings.lookup s (names_of_row (option_map (holding name y) o)) ≡ None
held s name y None other none = refl
held s name y (Some x) other none = lookup-push s name y x.names ∙ ap (λ o. or_else o (cond (bytes_eq s name) (Some y) None)) none ∙ ap (λ b. cond b (Some y) None) other

pub taken_after : (t : Table) (taken : Strings) (scope other : ScopeId) (name : List ℕ) (flags : SymbolFlags)
    → ((s : List ℕ) → is_among s taken ≡ false → bindings.lookup s (names_at t other) ≡ None)
    → (s : List ℕ) → is_among s (taken ++ name ∷ []) ≡ false → bindings.lookup s (names_at (with_binding t scope name flags) other) ≡ None
taken_after t taken scope other name flags before s h = elim (same_or_other other.0 scope.0) [
  | inl same ↦
      let here : row_at (with_binding t scope name flags).scopes other.0 ≡ option_map (holding name y) (row_at t.scopes other.0) =
      subst (λ (i : ℕ). row_at (with_binding t scope name flags).scopes i ≡ option_map (holding name y) (row_at t.scopes i)) (sym same) (row_at-changed_same (holding name y) scope.0 t.scopes) in
      ap (λ o. bindings.lookup s (names_of_row o)) here ∙ held s name y (row_at t.scopes other.0) (bytes_eq-flip s name ∙ both.1) (before s both.0)
  | inr different ↦ ap (λ o. bindings.lookup s (names_of_row o)) (row_at-changed_other (option_map (holding name y)) scope.0 other.0 t.scopes different) ∙ before s both.0
]
  where
    y : SymbolId
    y = record { 0 = length t.symbols }

    both : (is_among s taken ≡ false) × (bytes_eq name s ≡ false)
    both = not_among s name taken h

pub taken_still : (old new : TraverseScoping) (scope : ScopeId) (name : List ℕ) (flags : SymbolFlags) → new.names ≡ old.names ++ name ∷ [] → new.scoping ≡ with_binding old.scoping scope name flags
    → (other : ScopeId) → AreTaken old other → AreTaken new other
taken_still old new scope name flags names table other before s h =
    ap (λ t. bindings.lookup s (names_at t other)) table
    ∙ taken_after old.scoping old.names scope other name flags before s (sym (ap (is_among s) names) ∙ h)

-- the new symbol is one of the table
pub bound_in : (old new : Table) (scope : ScopeId) (name : List ℕ) (flags : SymbolFlags) (y : SymbolId) → y.0 ≡ length old.symbols → new ≡ with_binding old scope name flags → is_some (symbol_at new y) ≡ true
bound_in old new scope name flags y at is =
    ap (λ t. is_some (symbol_at t y)) is
    ∙ ap (λ (i : ℕ). is_some (slice_get (old.symbols ++ new_symbol name scope flags ∷ []) i)) at
    ∙ ap is_some (slice_get-push_last old.symbols (new_symbol name scope flags))
