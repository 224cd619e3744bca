-- A table of entries is one: parents form trees, names and symbols agree, references mean symbols of the table.
use Rattle.std.proofs.Common.{◌≡◌, refl, sym, subst, ◌∙◌, ℕ, zero, suc, ◌<◌, List, [], ◌∷◌, length, Bool, true, false, true≢false, cond, ◌||◌, Option, Some, None, arith}
use Rattle.std.specs.Prelude.{slice_get, is_some}
use Rattle.std.proofs.lemmas.List.{length-append}
use Rattle.es_base.specs.Tree.{Tree}
use Rattle.es_base.specs.declared.ids.ScopeId.{ScopeId}
use Rattle.es_base.specs.declared.ids.SymbolId.{SymbolId}
use Rattle.es_scopes.specs.Built.{built_table}
use Rattle.es_scopes.specs.Entries.{entries_of}
use Rattle.es_scopes.specs.Table.{Table, IsTable, HasSymbol, HasScope, get_binding, or_else, scope_at, scope_ancestors, with_binding, with_symbol_flags, with_created_reference, with_new_reference}
use Rattle.es_scopes.specs.Tables.{marked_if, flags_of, flags_with, repeats, bound_where, declare, declared, none_declared, first_seen, meant, visible, is_in_parameters, is_other, referred, number, numbered, declarer_at, Fits, AreOrdered, IsWhole}
use Rattle.es_scopes.specs.declared.declare.Declarations.{Declarations}
use Rattle.es_scopes.specs.declared.entry.Entry.{Entry}
use Rattle.es_scopes.specs.declared.entry.Entry.TheVariants as entry
use Rattle.es_scopes.specs.declared.flags.ReferenceFlags.{ReferenceFlags}
use Rattle.es_scopes.specs.declared.flags.SymbolFlags.{SymbolFlags}
use Rattle.es_scopes.specs.declared.refer.Numbering.{Numbering}
use Rattle.es_scopes.specs.declared.surroundings.Declarer.{Declarer}
use Rattle.es_scopes.specs.declared.table.Symbol.{Symbol}
use Rattle.es_scopes.proofs.NameLemmas.{IsTable-binding, symbol-there}
use Rattle.es_scopes.proofs.OrderLemmas.{entries-ordered}
use Rattle.es_scopes.proofs.TableLemmas.{IsTable-new_scope, IsTable-symbol_flags, IsTable-marked, IsTable-listing, IsTable-new_reference, some_row}
use Rattle.es_scopes.proofs.TableSteps.{IsWhole-declare, scopes-declare}

marked-table : (b : Bool) (y : SymbolId) (t : Table) → IsTable t → IsTable (marked_if b y t)
marked-table true y t h = IsTable-marked t h y.0
marked-table false y t h = h

where-table : (o : Option SymbolId) (d : Declarations) (s : ScopeId) (who : Declarer) (name : List ℕ) (flags : SymbolFlags) (head : Bool) → HasScope d.scoping s → IsTable d.scoping → IsTable (bound_where o d s who name flags head).scoping
where-table None d s who name flags head there h =
    let row = some_row (scope_at d.scoping s) there in
    marked-table head (record { 0 = length d.scoping.symbols }) (with_binding d.scoping s name flags) (IsTable-binding d.scoping h s name flags row.0 row.1)
where-table (Some y) d s who name flags head there h = marked-table (head || repeats (declarer_at d.declarers y) who) y (with_symbol_flags d.scoping y (flags_with (declarer_at d.declarers y) who (flags_of d.scoping y) flags)) (IsTable-symbol_flags d.scoping h y.0 (flags_with (declarer_at d.declarers y) who (flags_of d.scoping y) flags))

pub table-declare : (d : Declarations) (e : Entry) → IsWhole d.scoping → Fits (length d.scoping.scopes) e → IsTable d.scoping → IsTable (declare d e).scoping
table-declare d (entry.Scope node parent in_parameters flags) whole fits h = IsTable-new_scope d.scoping parent flags h (λ q e. whole q (fits q e))
table-declare d (entry.Body node) whole fits h = h
table-declare d (entry.Binding node None who name flags head) whole fits h = h
table-declare d (entry.Binding node (Some s) who name flags head) whole fits h = where-table (get_binding d.scoping s name) d s who name flags head (whole s (fits s refl)) h
table-declare d (entry.Reference node scope in_parameters name flags) whole fits h = h

table-declared : (d : Declarations) (es : List Entry) → IsWhole d.scoping → AreOrdered (length d.scoping.scopes) es → IsTable d.scoping → IsTable (declared d es).scoping
table-declared d [] whole ordered h = h
table-declared d (e ∷ es) whole ordered h = table-declared (declare d e) es (IsWhole-declare d e whole) (subst (λ (n : ℕ). AreOrdered n es) (sym (scopes-declare d e)) ordered.1) (table-declare d e whole ordered.0 h)

pub none-table : IsTable none_declared.scoping
none-table = record { trees = λ s there. absurd (true≢false (sym there)); named = λ s name y e. absurd (cc e); targets = λ r y e. absurd (cc e); listed = λ y r e. absurd (true≢false (sym e)) }

-- the scopes and names of a program
pub declared-table : (t : Tree) → IsTable (declared none_declared (entries_of t)).scoping
declared-table t = table-declared none_declared (entries_of t) (λ s l. absurd (omega arith)) (entries-ordered t) none-table

-- ---- references

pub visible-some : (d : Declarations) (b : Bool) (o : Option SymbolId) (y : SymbolId) → visible d b o ≡ Some y → o ≡ Some y
visible-some d b None y e = absurd (cc e)
visible-some d false (Some z) y e = e
visible-some d true (Some z) y e = by (is_other (declarer_at d.declarers z)) e
  where
    by : (b : Bool) → cond b None (Some z) ≡ Some y → Some z ≡ Some y
    by true e = absurd (cc e)
    by false e = e

seen-there : (d : Declarations) → IsTable d.scoping → (name : List ℕ) (b : Bool) (ss : List ScopeId) (y : SymbolId) → first_seen d name b ss ≡ Some y → HasSymbol d.scoping y
seen-there d h name b [] y e = absurd (cc e)
seen-there d h name b (s ∷ ss) y e = by (visible d b (get_binding d.scoping s name)) refl (seen-there d h name (is_in_parameters d s) ss y) e
  where
    by : (o : Option SymbolId) → visible d b (get_binding d.scoping s name) ≡ o → (first_seen d name (is_in_parameters d s) ss ≡ Some y → HasSymbol d.scoping y) → or_else o (first_seen d name (is_in_parameters d s) ss) ≡ Some y → HasSymbol d.scoping y
    by None is rest e = rest e
    by (Some z) is rest e = symbol-there d.scoping y name s (h.named s name y (visible-some d b (get_binding d.scoping s name) y (is ∙ e)))

pub meant-there : (d : Declarations) → IsTable d.scoping → (scope : Option ScopeId) (b : Bool) (name : List ℕ) (y : SymbolId) → meant d scope b name ≡ Some y → HasSymbol d.scoping y
meant-there d h None b name y e = absurd (cc e)
meant-there d h (Some s) b name y e = seen-there d h name b (scope_ancestors d.scoping s) y e

pub symbol-below : (symbols : List Symbol) (i : ℕ) → is_some (slice_get symbols i) ≡ true → i < length symbols
symbol-below [] i h = absurd (true≢false (sym h))
symbol-below (x ∷ symbols) zero h = omega arith
symbol-below (x ∷ symbols) (suc i) h = let k = symbol-below symbols i h in omega arith

created-table : (t : Table) (o : Option SymbolId) (f : ReferenceFlags) → ((y : SymbolId) → o ≡ Some y → y.0 < length t.symbols) → IsTable t → IsTable (with_created_reference t o f)
created-table t None f there h = IsTable-new_reference t h None f there
created-table t (Some y) f there h = IsTable-listing (with_new_reference t (Some y) f) (IsTable-new_reference t h (Some y) f there) y.0 (length t.references) (omega (arith, length-append t.references (record { symbol_id = Some y; flags = f } ∷ [])))

table-referred : (d : Declarations) (e : Entry) → IsTable d.scoping → IsTable (referred d e).scoping
table-referred d (entry.Scope node parent in_parameters flags) h = h
table-referred d (entry.Body node) h = h
table-referred d (entry.Binding node holder who name flags head) h = h
table-referred d (entry.Reference node scope in_parameters name flags) h = created-table d.scoping (meant d scope in_parameters name) flags (λ y e. symbol-below d.scoping.symbols y.0 (meant-there d h scope in_parameters name y e)) h

table-numbered : (n : Numbering) (es : List Entry) → IsTable n.declarations.scoping → IsTable (numbered n es).declarations.scoping
table-numbered n [] h = h
table-numbered n (e ∷ es) h = table-numbered (number n e) es (table-referred n.declarations e h)

pub built-table : (t : Tree) → IsTable (built_table t)
built-table t = table-numbered (record { declarations = declared none_declared (entries_of t); ids = []; next_scope = 0 }) (entries_of t) (declared-table t)
