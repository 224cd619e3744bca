-- An identifier that declares a name again, and a name that is seen.
use Rattle.std.proofs.Common.{◌≡◌, ap, ◌∙◌, ℕ, List, ◌∷◌, Bool, Some, None}
use Rattle.std.specs.Prelude.{is_some, slice_get}
use Rattle.es_base.specs.declared.ids.ScopeId.{ScopeId}
use Rattle.es_base.specs.declared.ids.SymbolId.{SymbolId}
use Rattle.es_scopes.specs.Table.{Table, HasSymbol, get_binding, or_else, symbol_flagged, with_symbol_flags}
use Rattle.es_scopes.specs.Tables.{visible, first_seen, is_in_parameters}
use Rattle.es_scopes.specs.declared.declare.Declarations.{Declarations}
use Rattle.es_scopes.specs.declared.flags.SymbolFlags.{SymbolFlags}
use Rattle.es_scopes.proofs.RowLemmas.{is_some-option_map, slice_get-changed_at_same}

pub has_flags : (now t : Table) (y : SymbolId) (f : SymbolFlags) → now ≡ with_symbol_flags t y f → HasSymbol t y → HasSymbol now y
has_flags now t y f is h = ap (λ (t : Table). is_some (slice_get t.symbols y.0)) is ∙ ap is_some (slice_get-changed_at_same (symbol_flagged f) y.0 t.symbols) ∙ is_some-option_map (symbol_flagged f) (slice_get t.symbols y.0) ∙ h

pub seen-here : (d : Declarations) (name : List ℕ) (b : Bool) (s : ScopeId) (ss : List ScopeId) (y : SymbolId) → get_binding d.scoping s name ≡ Some y → visible d b (Some y) ≡ Some y → first_seen d name b (s ∷ ss) ≡ Some y
seen-here d name b s ss y held shown = ap (λ o. or_else o (first_seen d name (is_in_parameters d s) ss)) (ap (visible d b) held ∙ shown)

pub unseen-here : (d : Declarations) (name : List ℕ) (b : Bool) (s : ScopeId) (ss : List ScopeId) (y : SymbolId) → get_binding d.scoping s name ≡ Some y → visible d b (Some y) ≡ None → first_seen d name b (s ∷ ss) ≡ first_seen d name (is_in_parameters d s) ss
unseen-here d name b s ss y held shown = ap (λ o. or_else o (first_seen d name (is_in_parameters d s) ss)) (ap (visible d b) held ∙ shown)

pub none-here : (d : Declarations) (name : List ℕ) (b : Bool) (s : ScopeId) (ss : List ScopeId) → get_binding d.scoping s name ≡ None → first_seen d name b (s ∷ ss) ≡ first_seen d name (is_in_parameters d s) ss
none-here d name b s ss held = ap (λ o. or_else (visible d b o) (first_seen d name (is_in_parameters d s) ss)) held
