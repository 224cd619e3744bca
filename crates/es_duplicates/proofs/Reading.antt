-- A scope table with more references that read a symbol.
use Rattle.std.proofs.Common.{◌≡◌, refl, sym, ap, ◌∙◌, ℕ, zero, suc, ◌+◌, List, [], ◌∷◌, ◌++◌, true, Option, Some, length, add-one, arith}
use Rattle.std.specs.Prelude.{is_some, slice_get}
use Rattle.std.proofs.lemmas.List.{length_push}
use Rattle.es_base.specs.Numbered.{unnumbered}
use Rattle.es_base.specs.Tree.{Tree}
use Rattle.es_base.specs.declared.ids.SymbolId.{SymbolId}
use Rattle.es_duplicates.specs.Reads.{names_read, with_reads}
use Rattle.es_expression.specs.Identifier.{identifier_reference}
use Rattle.es_scopes.specs.Table.{Table, listing, symbol_at, with_created_reference}
use Rattle.es_scopes.specs.declared.flags.ReferenceFlags.{ReferenceFlags}
use Rattle.es_scopes.specs.declared.flags.TheConstants.ReferenceFlags as flag
use Rattle.es_scopes.proofs.RowLemmas.{is_some-option_map, slice_get-changed_at_same}

-- one more reference: the symbol is there still
created_symbol : (t : Table) (y : SymbolId) (f : ReferenceFlags) → is_some (symbol_at (with_created_reference t (Some y) f) y) ≡ is_some (symbol_at t y)
created_symbol t y f = ap is_some (slice_get-changed_at_same (listing (length t.references)) y.0 t.symbols) ∙ is_some-option_map (listing (length t.references)) (slice_get t.symbols y.0)

created_count : (t : Table) (y : SymbolId) (f : ReferenceFlags) → length (with_created_reference t (Some y) f).references ≡ length t.references + 1
created_count t y f = length_push t.references (record { symbol_id = Some y; flags = f })

pub symbol_still : (t new : Table) (y : SymbolId) (f : ReferenceFlags) → new ≡ with_created_reference t (Some y) f → is_some (symbol_at t y) ≡ true → is_some (symbol_at new y) ≡ true
symbol_still t new y f is there = ap (λ n. is_some (symbol_at n y)) is ∙ created_symbol t y f ∙ there

pub one_more : (t new : Table) (y : SymbolId) (f : ReferenceFlags) → new ≡ with_created_reference t (Some y) f → length new.references ≡ length t.references + 1
one_more t new y f is = ap (λ n. length n.references) is ∙ created_count t y f

-- n more
read_symbol : (t : Table) (y : SymbolId) (n : ℕ) → is_some (symbol_at (with_reads y n t) y) ≡ is_some (symbol_at t y)
read_symbol t y zero = refl
read_symbol t y (suc n) = created_symbol (with_reads y n t) y flag.READ ∙ read_symbol t y n

read_count : (t : Table) (y : SymbolId) (n : ℕ) → length (with_reads y n t).references ≡ length t.references + n
read_count t y zero = omega arith
read_count t y (suc n) = let before = read_count t y n in created_count (with_reads y n t) y flag.READ ∙ (omega (arith, before))

pub reads_symbol : (t new : Table) (y : SymbolId) (n : ℕ) → new ≡ with_reads y n t → is_some (symbol_at t y) ≡ true → is_some (symbol_at new y) ≡ true
reads_symbol t new y n is there = ap (λ u. is_some (symbol_at u y)) is ∙ read_symbol t y n ∙ there

pub reads_count : (t new : Table) (y : SymbolId) (n : ℕ) → new ≡ with_reads y n t → length new.references ≡ length t.references + n
reads_count t new y n is = ap (λ u. length u.references) is ∙ read_count t y n

-- the next read
pub reads_next : (t now new : Table) (y : SymbolId) (n m : ℕ) → now ≡ with_reads y n t → new ≡ with_created_reference now (Some y) flag.READ → m ≡ n + 1 → new ≡ with_reads y m t
reads_next t now new y n m before is next =
    is ∙ ap (λ u. with_created_reference u (Some y) flag.READ) before ∙ ap (λ (k : ℕ). with_reads y k t) (sym (next ∙ add-one n))

pub names_next : (span : Option (ℕ × ℕ)) (name : List ℕ) (k n m r : ℕ) (before new : List Tree) (t : Tree) → before ≡ names_read span name k n → t ≡ identifier_reference unnumbered span (Some r) name → new ≡ before ++ t ∷ [] → r ≡ k + n → m ≡ n + 1 → new ≡ names_read span name k m
names_next span name k n m r before new t was is push at next =
    push ∙ ap (λ l. l ++ t ∷ []) was
    ∙ ap (λ u. names_read span name k n ++ u ∷ []) (is ∙ ap (λ (j : ℕ). identifier_reference unnumbered span (Some j) name) at)
    ∙ ap (λ (j : ℕ). names_read span name k j) (sym (next ∙ add-one n))

-- as many names as are asked for
pub names_count : (span : Option (ℕ × ℕ)) (name : List ℕ) (k n : ℕ) → length (names_read span name k n) ≡ n
names_count span name k zero = refl
names_count span name k (suc n) = let before = names_count span name k n in length_push (names_read span name k n) (identifier_reference unnumbered span (Some (k + n)) name) ∙ (omega (arith, before))
