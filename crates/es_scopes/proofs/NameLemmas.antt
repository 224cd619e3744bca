-- What holds of every table, after a name is added or changed; and what a row of a table shows.
use Rattle.std.proofs.Common.{◌≡◌, ◌≢◌, refl, sym, ap, subst, ◌∙◌, ℕ, zero, suc, List, [], ◌∷◌, ◌++◌, length, Option, Some, None, Bool, true, false, true≢false, cond, inl, inr, arith}
use Rattle.std.specs.Prelude.{slice_get, option_map, is_some, IfSome, bytes_eq, unwrap_or, All}
use Rattle.std.specs.List.{AllByRecursion}
use Rattle.std.specs.Ordering.{nat_cmp}
use Rattle.std.specs.FinSet as set
use Rattle.std.proofs.lemmas.List.{length-append}
use Rattle.std.proofs.lemmas.Slice.Eq.{bytes_eq-Decides}
use Rattle.es_base.specs.declared.ids.ScopeId.{ScopeId}
use Rattle.es_base.specs.declared.ids.SymbolId.{SymbolId}
use Rattle.es_scopes.specs.Bindings.{Names, lookup, renamed}
use Rattle.es_scopes.specs.Table.{Table, changed_at, row_at, parents, names_of_row, scope_at, symbol_at, get_binding, first_binding, scope_ancestors, ancestors_from, name_of, Holds, HasScope, HasSymbol, HasScopeIfAny, IsNamed, HaveTargets, IsTable, listed, ends, chain, or_none, or_else, new_symbol, holding, renaming, called, with_binding, with_name}
use Rattle.es_scopes.specs.declared.flags.SymbolFlags.{SymbolFlags}
use Rattle.es_scopes.specs.declared.table.Scope.{Scope}
use Rattle.es_scopes.specs.declared.table.Symbol.{Symbol}
use Rattle.es_scopes.proofs.RowLemmas.{same_or_other, length-changed_at, slice_get-changed_at_same, slice_get-changed_at_other, slice_get-push_within, slice_get-push_last, within_from_some, is_some-option_map}
use Rattle.es_scopes.proofs.TreeLemmas.{chain-parent, parent-ends, chain-there, ends-there, same_scope}
use Rattle.es_scopes.proofs.TableLemmas.{row_at-changed_same, row_at-changed_other, AreTrees-changed, AreListed-symbol, Named, is_some-parents}
use Rattle.es_scopes.proofs.BindingLemmas.{lookup-push, lookup-renamed}

none_is_some : (z : SymbolId) → None ≡ Some z → ⊥
none_is_some z e = cc

-- ---- what a row shows

module _ (t : Table) (h : IsTable t) (s : ScopeId) (x : Scope) (at : scope_at t s ≡ Some x) where
  row_parent : parents t.scopes s ≡ Some x.parent
  row_parent = ap (λ o. option_map (λ x. x.parent) o) at

  row_ends : ends (parents t.scopes) (length t.scopes) s ≡ true
  row_ends = h.trees s (ap is_some at)

  pub parent-there : HasScopeIfAny t x.parent
  parent-there p e = sym (is_some-parents t.scopes p) ∙ ends-there (parents t.scopes) (length t.scopes) p (parent-ends (parents t.scopes) (length t.scopes) s p (row_parent ∙ ap (λ o. Some o) e) row_ends)

  from_parent : (p : Option ScopeId) → or_none (Some p) (chain (parents t.scopes) (length t.scopes)) ≡ ancestors_from t p
  from_parent None = refl
  from_parent (Some p) = refl

  pub ancestors-parent : scope_ancestors t s ≡ s ∷ ancestors_from t x.parent
  ancestors-parent = chain-parent (parents t.scopes) (length t.scopes) s row_ends ∙ ap (λ o. s ∷ or_none o (chain (parents t.scopes) (length t.scopes))) row_parent ∙ ap (λ l. s ∷ l) (from_parent x.parent)

  pub binding-named : (name : List ℕ) (r : Option SymbolId) → r ≡ lookup name x.names → IfSome r (λ y. IsNamed t.symbols y name s)
  binding-named name None is = tt
  binding-named name (Some y) is = h.named s name y (ap (λ o. lookup name (names_of_row o)) at ∙ sym is)

pub ancestors-there : (t : Table) → IsTable t → (s : ScopeId) → HasScope t s → AllByRecursion (HasScope t) (scope_ancestors t s)
ancestors-there t h s there = chain-there (parents t.scopes) (HasScope t) (λ q live. sym (is_some-parents t.scopes q) ∙ live) (length t.scopes) s (h.trees s there)

-- ---- a new name

push_named : (symbols : List Symbol) (x : Symbol) (y : SymbolId) (name : List ℕ) (s : ScopeId) → IsNamed symbols y name s → IsNamed (symbols ++ x ∷ []) y name s
push_named symbols x y name s named =
    subst (λ o. Named o name s) (sym (slice_get-push_within symbols x y.0 (within_from_some symbols y.0 (sym (is_some-option_map {Y = List ℕ × ScopeId} (λ x. (x.name, x.scope)) (slice_get symbols y.0)) ∙ ap is_some named)))) named

module _ (t : Table) (h : IsTable t) (s : ScopeId) (name : List ℕ) (f : SymbolFlags) (x : Scope) (at : scope_at t s ≡ Some x) where
  abbrev id : SymbolId
  id = record { 0 = length t.symbols }

  abbrev symbols : List Symbol
  symbols = t.symbols ++ new_symbol name s f ∷ []

  len-symbols : length symbols ≡ suc (length t.symbols)
  len-symbols = omega (arith, length-append t.symbols (new_symbol name s f ∷ []))

  new_is_named : IsNamed symbols id name s
  new_is_named = ap (λ o. option_map {U = List ℕ × ScopeId} (λ x. (x.name, x.scope)) o) (slice_get-push_last t.symbols (new_symbol name s f))

  listed-push : (all : List Symbol) (y r : ℕ) → listed (slice_get (all ++ new_symbol name s f ∷ []) y) r ≡ true → listed (slice_get all y) r ≡ true
  listed-push [] zero r held = absurd (true≢false (sym held ∙ set.contains-empty nat_cmp r))
  listed-push [] (suc y) r held = held
  listed-push (w ∷ all) zero r held = held
  listed-push (w ∷ all) (suc y) r held = listed-push all y r held

  named_from : (names : Names) → ((n : List ℕ) (z : SymbolId) → lookup n names ≡ Some z → IsNamed t.symbols z n s) → (n : List ℕ) (z : SymbolId) → lookup n (names ++ (name, id) ∷ []) ≡ Some z → IsNamed symbols z n s
  named_from names was n z found = by (lookup n names) refl (sym (lookup-push n name id names) ∙ found)
    where
      by : (o : Option SymbolId) → lookup n names ≡ o → or_else o (cond (bytes_eq n name) (Some id) None) ≡ Some z → IsNamed symbols z n s
      by (Some w) e is = push_named t.symbols (new_symbol name s f) z n s (was n z (e ∙ is))
      by None e is = elim (bytes_eq n name) as (λ b. bytes_eq n name ≡ b → cond b (Some id) None ≡ Some z → IsNamed symbols z n s) [
        | true ↦ λ same is_id. subst (λ m. IsNamed symbols z m s) (sym ((bytes_eq-Decides n name).0 same)) (subst (λ y. IsNamed symbols y name s) (let e : id ≡ z = cc in e) new_is_named)
        | false ↦ λ _ none. absurd (none_is_some z none)
      ] refl is

  -- the symbol alone, which no scope holds yet
  pub IsTable-new_symbol : IsTable (record t { symbols = symbols })
  IsTable-new_symbol = record {
    trees = h.trees;
    named = λ q n z found. push_named t.symbols (new_symbol name s f) z n q (h.named q n z found);
    targets = λ r z e. let was = h.targets r z e in omega (arith, len-symbols);
    listed = λ y r held. h.listed y r (listed-push t.symbols y r held);
  }

  pub IsTable-binding : IsTable (with_binding t s name f)
  IsTable-binding = record {
    trees = AreTrees-changed (holding name id) s.0 t.scopes (λ x. refl) h.trees;
    named = λ q n z found. elim (same_or_other q.0 s.0) [
      | inl same ↦ subst (λ (p : ScopeId). IsNamed symbols z n p) (sym (same_scope q s same))
          (named_from x.names (λ m w e. h.named s m w (ap (λ o. lookup m (names_of_row o)) at ∙ e)) n z
          (ap (λ o. lookup n (names_of_row o)) (ap (option_map (holding name id)) (sym at) ∙ sym (row_at-changed_same (holding name id) s.0 t.scopes) ∙ ap (row_at (changed_at (option_map (holding name id)) s.0 t.scopes)) (sym same)) ∙ found))
      | inr apart ↦ push_named t.symbols (new_symbol name s f) z n q (h.named q n z (ap (λ o. lookup n (names_of_row o)) (sym (row_at-changed_other (option_map (holding name id)) s.0 q.0 t.scopes apart)) ∙ found))
    ];
    targets = IsTable-new_symbol.targets;
    listed = IsTable-new_symbol.listed;
  }

-- ---- another name

module _ (t : Table) (h : IsTable t) (y : SymbolId) (s : ScopeId) (name : List ℕ) (x : Scope) (at : scope_at t s ≡ Some x) where
  abbrev old : List ℕ
  old = name_of t y

  abbrev called_symbols : List Symbol
  called_symbols = changed_at (called name) y.0 t.symbols

  called_named : (o : Option Symbol) (n : List ℕ) (q : ScopeId) → Named o n q → Named (option_map (called name) o) name q
  called_named None n q e = cc
  called_named (Some w) n q e = let parts : (w.name, w.scope) ≡ (n, q) = cc in ap (λ (p : List ℕ × ScopeId). Some (name, p.1)) parts

  name_from : (o : Option Symbol) (n : List ℕ) (q : ScopeId) → Named o n q → unwrap_or (option_map (λ x. x.name) o) [] ≡ n
  name_from None n q e = cc
  name_from (Some w) n q e = let parts : (w.name, w.scope) ≡ (n, q) = cc in ap (λ (p : List ℕ × ScopeId). p.0) parts

  scope_from : (o : Option Symbol) (n m : List ℕ) (q r : ScopeId) → Named o n q → Named o m r → q ≡ r
  scope_from o n m q r e f = let parts : Some (n, q) ≡ Some (m, r) = sym e ∙ f in let pair : (n, q) ≡ (m, r) = cc in ap (λ (p : List ℕ × ScopeId). p.1) pair

  others_named : (z : SymbolId) (n : List ℕ) (q : ScopeId) → z.0 ≢ y.0 → IsNamed t.symbols z n q → IsNamed called_symbols z n q
  others_named z n q apart named = subst (λ o. Named o n q) (sym (slice_get-changed_at_other (called name) y.0 z.0 t.symbols apart)) named

  own_named : (n : List ℕ) (q : ScopeId) → IsNamed t.symbols y n q → IsNamed called_symbols y name q
  own_named n q named = subst (λ o. Named o name q) (sym (slice_get-changed_at_same (called name) y.0 t.symbols)) (called_named (slice_get t.symbols y.0) n q named)

  in_scope : lookup old x.names ≡ Some y → lookup name x.names ≡ None → (n : List ℕ) (z : SymbolId) → lookup n (renamed old name x.names) ≡ Some z → IsNamed called_symbols z n s
  in_scope held free n z found = by (bytes_eq n name) refl (sym (lookup-renamed old name n x.names free) ∙ found)
    where
      was : (m : List ℕ) (w : SymbolId) → lookup m x.names ≡ Some w → IsNamed t.symbols w m s
      was m w e = h.named s m w (ap (λ o. lookup m (names_of_row o)) at ∙ e)

      by : (b : Bool) → bytes_eq n name ≡ b → cond b (lookup old x.names) (cond (bytes_eq n old) None (lookup n x.names)) ≡ Some z → IsNamed called_symbols z n s
      by true same is =
          let own : y ≡ z = let e : Some y ≡ Some z = sym held ∙ is in cc in
          subst (λ m. IsNamed called_symbols z m s) (sym ((bytes_eq-Decides n name).0 same)) (subst (λ w. IsNamed called_symbols w name s) own (own_named old s (h.named s old y (ap (λ o. lookup old (names_of_row o)) at ∙ held))))
      by false other is = elim (bytes_eq n old) as (λ b. bytes_eq n old ≡ b → cond b None (lookup n x.names) ≡ Some z → IsNamed called_symbols z n s) [
        | true ↦ λ _ none. absurd (none_is_some z none)
        | false ↦ λ not_old found. others_named z n s
            (λ same. true≢false (sym ((bytes_eq-Decides n old).1 (sym (name_from (slice_get t.symbols z.0) n s (h.named s n z (ap (λ o. lookup n (names_of_row o)) at ∙ found))) ∙ ap (λ i. unwrap_or (option_map (λ x. x.name) (slice_get t.symbols i)) []) same)) ∙ not_old))
            (h.named s n z (ap (λ o. lookup n (names_of_row o)) at ∙ found))
      ] refl is

  pub IsTable-name : lookup old x.names ≡ Some y → lookup name x.names ≡ None → IsTable (with_name t y s name)
  IsTable-name held free = record {
    trees = AreTrees-changed (renaming old name) s.0 t.scopes (λ x. refl) h.trees;
    named = λ q n z found. elim (same_or_other q.0 s.0) [
      | inl same ↦ subst (λ (p : ScopeId). IsNamed called_symbols z n p) (sym (same_scope q s same))
          (in_scope held free n z
          (ap (λ o. lookup n (names_of_row o)) (ap (option_map (renaming old name)) (sym at) ∙ sym (row_at-changed_same (renaming old name) s.0 t.scopes) ∙ ap (row_at (changed_at (option_map (renaming old name)) s.0 t.scopes)) (sym same)) ∙ found))
      | inr apart ↦
          let named = h.named q n z (ap (λ o. lookup n (names_of_row o)) (sym (row_at-changed_other (option_map (renaming old name)) s.0 q.0 t.scopes apart)) ∙ found) in
          others_named z n q
          (λ same. apart (ap (λ (p : ScopeId). p.0) (scope_from (slice_get t.symbols y.0) n old q s (subst (λ i. Named (slice_get t.symbols i) n q) same named) (h.named s old y (ap (λ o. lookup old (names_of_row o)) at ∙ held)))))
          named
    ];
    targets = subst (HaveTargets t.references) (sym (length-changed_at (called name) y.0 t.symbols)) h.targets;
    listed = AreListed-symbol (called name) y.0 t.symbols (length t.references) (λ x r held. inl held) h.listed;
  }

-- ---- names in a chain of scopes

pub first-binding : (t : Table) (name : List ℕ) (s : ScopeId) (rest : List ScopeId) (y : SymbolId) → get_binding t s name ≡ Some y → first_binding t name (s ∷ rest) ≡ Some y
first-binding t name s rest y e = ap (λ o. or_else o (first_binding t name rest)) e

pub first-none : (t : Table) (name : List ℕ) (s : ScopeId) (rest : List ScopeId) → get_binding t s name ≡ None → first_binding t name (s ∷ rest) ≡ first_binding t name rest
first-none t name s rest e = ap (λ o. or_else o (first_binding t name rest)) e

pub symbol-there : (t : Table) (y : SymbolId) (name : List ℕ) (s : ScopeId) → IsNamed t.symbols y name s → HasSymbol t y
symbol-there t y name s named = sym (is_some-option_map {Y = List ℕ × ScopeId} (λ x. (x.name, x.scope)) (slice_get t.symbols y.0)) ∙ ap is_some named

pub All-from : {X : Type 0} (P : X → Type 0) (xs : List X) → AllByRecursion P xs → All P xs
All-from P [] h k d within = absurd (omega arith)
All-from P (x ∷ xs) h zero d within = h.0
All-from P (x ∷ xs) h (suc k) d within = All-from P xs h.1 k d (omega arith)

held_row : (o : Option Scope) (name : List ℕ) (y : SymbolId) → lookup name (names_of_row o) ≡ Some y → is_some o ≡ true
held_row None name y e = absurd (none_is_some y e)
held_row (Some x) name y e = refl

-- what is held is there
module _ (t : Table) (h : IsTable t) (s : ScopeId) (y : SymbolId) (held : Holds t s y) where
  pub holder-there : HasScope t s
  holder-there = held_row (scope_at t s) (name_of t y) y held

  pub symbol-held : HasSymbol t y
  symbol-held = symbol-there t y (name_of t y) s (h.named s (name_of t y) y held)

pub own-name : (t : Table) (y : SymbolId) (x : Symbol) (n : List ℕ) → symbol_at t y ≡ Some x → n ≡ x.name → n ≡ name_of t y
own-name t y x n at is = is ∙ sym (ap (λ o. unwrap_or (option_map (λ x. x.name) o) []) at)
