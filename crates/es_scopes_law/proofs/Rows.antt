-- The rows of scopes of a table of entries: the parent of each, and whether it stands in the parameters of its parent.
use Rattle.std.proofs.Common.{◌≡◌, refl, sym, ap, ◌∙◌, ℕ, zero, suc, ◌+◌, ◌<◌, List, [], ◌∷◌, ◌++◌, append_assoc, map, length, Bool, false, Option, Some, None, arith}
use Rattle.std.specs.Prelude.{option_map, slice_get, unwrap_or}
use Rattle.std.specs.Option.{option_and_then, ForSome}
use Rattle.std.proofs.lemmas.List.{map-append, append-nil}
use Rattle.es_base.specs.declared.ids.ScopeId.{ScopeId}
use Rattle.es_base.specs.declared.ids.SymbolId.{SymbolId}
use Rattle.es_scopes.specs.Table.{changed_at, parents, get_binding, holding, new_scope, HasScope}
use Rattle.es_scopes.specs.Tables.{bound_where, declare, declared, none_declared, is_in_parameters, scopes_in, AreOrdered}
use Rattle.es_scopes.specs.declared.declare.Declarations.{Declarations}
use Rattle.es_scopes.specs.declared.entry.Entry.{Entry}
use Rattle.es_scopes.specs.declared.entry.Entry.TheVariants as entry
use Rattle.es_scopes.specs.declared.flags.SymbolFlags.{SymbolFlags}
use Rattle.es_scopes.specs.declared.surroundings.Declarer.{Declarer}
use Rattle.es_scopes.specs.declared.table.Scope.{Scope}
use Rattle.es_scopes.proofs.TableShown.{marked-rows, again-rows}
use Rattle.es_scopes.proofs.TableSteps.{IsWhole-declared, scopes-declared}

-- the scope of an entry
pub record ScopeOf : Type 0 where
  pub node : ℕ
  pub parent : Option ScopeId
  pub in_parameters : Bool

abbrev pub scopes_among : List Entry → List ScopeOf
scopes_among [] = []
scopes_among (entry.Scope node parent in_parameters flags ∷ es) = record { node = node.0; parent = parent; in_parameters = in_parameters } ∷ scopes_among es
scopes_among (e ∷ es) = scopes_among es

pub among-append : (es fs : List Entry) → scopes_among (es ++ fs) ≡ scopes_among es ++ scopes_among fs
among-append [] fs = refl
among-append (entry.Scope node parent in_parameters flags ∷ es) fs = ap (λ l. record { node = node.0; parent = parent; in_parameters = in_parameters } ∷ l) (among-append es fs)
among-append (entry.Body node ∷ es) fs = among-append es fs
among-append (entry.Binding node holder who name flags head ∷ es) fs = among-append es fs
among-append (entry.Reference node scope in_parameters name flags ∷ es) fs = among-append es fs

pub among-count : (es : List Entry) → length (scopes_among es) ≡ scopes_in es
among-count [] = refl
among-count (entry.Scope node parent in_parameters flags ∷ es) = omega (arith, among-count es)
among-count (entry.Body node ∷ es) = omega (arith, among-count es)
among-count (entry.Binding node holder who name flags head ∷ es) = omega (arith, among-count es)
among-count (entry.Reference node scope in_parameters name flags ∷ es) = omega (arith, among-count es)

-- ---- parents

abbrev row_parents : List (Option Scope) → List (Option (Option ScopeId))
row_parents rows = map (option_map (λ x. x.parent)) rows

parents-changed : (name : List ℕ) (y : SymbolId) (i : ℕ) (rows : List (Option Scope)) → row_parents (changed_at (option_map (holding name y)) i rows) ≡ row_parents rows
parents-changed name y i [] = refl
parents-changed name y zero (None ∷ rows) = refl
parents-changed name y zero (Some x ∷ rows) = refl
parents-changed name y (suc i) (row ∷ rows) = ap (λ l. option_map (λ x. x.parent) row ∷ l) (parents-changed name y i rows)

where-parents : (o : Option SymbolId) (d : Declarations) (s : ScopeId) (who : Declarer) (name : List ℕ) (flags : SymbolFlags) (head : Bool) → row_parents (bound_where o d s who name flags head).scoping.scopes ≡ row_parents d.scoping.scopes
where-parents None d s who name flags head = ap row_parents (marked-rows head _ _) ∙ parents-changed name (record { 0 = length d.scoping.symbols }) s.0 d.scoping.scopes
where-parents (Some y) d s who name flags head = ap row_parents (again-rows d y who flags head)

where-places : (o : Option SymbolId) (d : Declarations) (s : ScopeId) (who : Declarer) (name : List ℕ) (flags : SymbolFlags) (head : Bool) → (bound_where o d s who name flags head).in_parameters ≡ d.in_parameters
where-places None d s who name flags head = refl
where-places (Some y) d s who name flags head = refl

declared-parents : (d : Declarations) (es : List Entry) → row_parents (declared d es).scoping.scopes ≡ row_parents d.scoping.scopes ++ map (λ x. Some x.parent) (scopes_among es)
declared-parents d [] = sym (append-nil _)
declared-parents d (entry.Scope node parent in_parameters flags ∷ es) =
    declared-parents (declare d (entry.Scope node parent in_parameters flags)) es
    ∙ ap (λ l. l ++ map (λ x. Some x.parent) (scopes_among es)) (map-append (option_map (λ (x : Scope). x.parent)) d.scoping.scopes (Some (new_scope parent flags) ∷ []))
    ∙ append_assoc (row_parents d.scoping.scopes) (Some parent ∷ []) (map (λ x. Some x.parent) (scopes_among es))
declared-parents d (entry.Body node ∷ es) = declared-parents d es
declared-parents d (entry.Binding node None who name flags head ∷ es) = declared-parents d es
declared-parents d (entry.Binding node (Some s) who name flags head ∷ es) =
    declared-parents (declare d (entry.Binding node (Some s) who name flags head)) es
    ∙ ap (λ l. l ++ map (λ x. Some x.parent) (scopes_among es)) (where-parents (get_binding d.scoping s name) d s who name flags head)
declared-parents d (entry.Reference node scope in_parameters name flags ∷ es) = declared-parents d es

declared-places : (d : Declarations) (es : List Entry) → (declared d es).in_parameters ≡ d.in_parameters ++ map (λ x. x.in_parameters) (scopes_among es)
declared-places d [] = sym (append-nil _)
declared-places d (entry.Scope node parent in_parameters flags ∷ es) =
    declared-places (declare d (entry.Scope node parent in_parameters flags)) es ∙ append_assoc d.in_parameters (in_parameters ∷ []) (map (λ x. x.in_parameters) (scopes_among es))
declared-places d (entry.Body node ∷ es) = declared-places d es
declared-places d (entry.Binding node None who name flags head ∷ es) = declared-places d es
declared-places d (entry.Binding node (Some s) who name flags head ∷ es) =
    declared-places (declare d (entry.Binding node (Some s) who name flags head)) es
    ∙ ap (λ l. l ++ map (λ x. x.in_parameters) (scopes_among es)) (where-places (get_binding d.scoping s name) d s who name flags head)
declared-places d (entry.Reference node scope in_parameters name flags ∷ es) = declared-places d es

pub get-map : {X Y : Type 0} (f : X → Y) (xs : List X) (i : ℕ) → slice_get (map f xs) i ≡ option_map f (slice_get xs i)
get-map f [] i = refl
get-map f (x ∷ xs) zero = refl
get-map f (x ∷ xs) (suc i) = get-map f xs i

parents-row : (rows : List (Option Scope)) (i : ℕ) → parents rows (record { 0 = i }) ≡ option_and_then (λ p. p) (slice_get (row_parents rows) i)
parents-row [] i = refl
parents-row (None ∷ rows) zero = refl
parents-row (Some x ∷ rows) zero = refl
parents-row (row ∷ rows) (suc i) = parents-row rows i

-- the scope numbered j
pub scope-parent : (es : List Entry) (j : ℕ) (x : ScopeOf) → slice_get (scopes_among es) j ≡ Some x → parents (declared none_declared es).scoping.scopes (record { 0 = j }) ≡ Some x.parent
scope-parent es j x h =
    parents-row (declared none_declared es).scoping.scopes j
    ∙ ap (λ (l : List (Option (Option ScopeId))). option_and_then (λ p. p) (slice_get l j)) (declared-parents none_declared es)
    ∙ ap (option_and_then (λ p. p)) (get-map (λ (x : ScopeOf). Some x.parent) (scopes_among es) j ∙ ap (option_map (λ (x : ScopeOf). Some x.parent)) h)

pub scope-place : (es : List Entry) (j : ℕ) (x : ScopeOf) → slice_get (scopes_among es) j ≡ Some x → is_in_parameters (declared none_declared es) (record { 0 = j }) ≡ x.in_parameters
scope-place es j x h =
    ap (λ (l : List Bool). unwrap_or (slice_get l j) false) (declared-places none_declared es)
    ∙ ap (λ (o : Option Bool). unwrap_or o false) (get-map (λ (x : ScopeOf). x.in_parameters) (scopes_among es) j ∙ ap (option_map (λ (x : ScopeOf). x.in_parameters)) h)

pub scope-known : (es : List Entry) (j : ℕ) → j < length (scopes_among es) → HasScope (declared none_declared es).scoping (record { 0 = j })
scope-known es j l = IsWhole-declared none_declared es (λ s l. absurd (omega arith)) (record { 0 = j }) (omega (arith, among-count es, scopes-declared none_declared es))

-- a parent stands before its scope
abbrev Before : ℕ → Option ScopeId → Type 0
Before n p = ForSome p (λ s. s.0 < n)

first-parent : (a x : ScopeOf) → Some a ≡ Some x → a.parent ≡ x.parent
first-parent a x e = ap (λ (o : Option ScopeOf). parent_of_some o) e
  where
    parent_of_some : Option ScopeOf → Option ScopeId
    parent_of_some None = None
    parent_of_some (Some x) = x.parent

pub parent-before : (n : ℕ) (es : List Entry) (j : ℕ) (x : ScopeOf) → AreOrdered n es → slice_get (scopes_among es) j ≡ Some x → Before (n + j) x.parent
parent-before n [] j x h e = absurd (cc e)
parent-before n (entry.Scope node parent in_parameters flags ∷ es) zero x h e = λ q is. let k = h.0 q (first-parent (record { node = node.0; parent = parent; in_parameters = in_parameters }) x e ∙ is) in omega arith
parent-before n (entry.Scope node parent in_parameters flags ∷ es) (suc j) x h e = λ q is. let k = parent-before (n + 1) es j x h.1 e q is in omega arith
parent-before n (entry.Body node ∷ es) j x h e = λ q is. let k = parent-before (n + 0) es j x h.1 e q is in omega arith
parent-before n (entry.Binding node holder who name flags head ∷ es) j x h e = λ q is. let k = parent-before (n + 0) es j x h.1 e q is in omega arith
parent-before n (entry.Reference node scope in_parameters name flags ∷ es) j x h e = λ q is. let k = parent-before (n + 0) es j x h.1 e q is in omega arith

pub get-some : {X : Type 0} (xs : List X) (i : ℕ) → i < length xs → (x : X) × (slice_get xs i ≡ Some x)
get-some [] i l = absurd (omega arith)
get-some (x ∷ xs) zero l = (x, refl)
get-some (x ∷ xs) (suc i) l = get-some xs i (omega arith)

pub get-below : {X : Type 0} (xs : List X) (i : ℕ) (x : X) → slice_get xs i ≡ Some x → i < length xs
get-below [] i x h = absurd (cc h)
get-below (y ∷ xs) zero x h = omega arith
get-below (y ∷ xs) (suc i) x h = let k = get-below xs i x h in omega arith
