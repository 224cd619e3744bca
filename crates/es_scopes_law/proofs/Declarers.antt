-- What is known of the symbol of a name, by the entries that declare the name: whether it is seen from parameters, and whether
-- it is marked.
use Rattle.std.proofs.Common.{◌≡◌, ◌≢◌, refl, sym, ap, subst, ◌∙◌, ℕ, zero, suc, ◌<◌, inl, inr, List, [], ◌∷◌, ◌++◌, length, nat_eq, Bool, true, false, true≢false, cond, ◌&&◌, ◌||◌, Option, Some, None, arith}
use Rattle.std.specs.Prelude.{option_map, slice_get, is_some, bytes_eq, unwrap_or}
use Rattle.std.proofs.lemmas.Bool.{and_parts}
use Rattle.std.proofs.lemmas.Bool.Decides.{Decides-eqb}
use Rattle.std.proofs.lemmas.List.{length-append}
use Rattle.std.proofs.lemmas.Slice.Eq.{bytes_eq-Decides}
use Rattle.es_base.specs.declared.ids.ScopeId.{ScopeId}
use Rattle.es_base.specs.declared.ids.SymbolId.{SymbolId}
use Rattle.es_scopes.specs.Bindings.{lookup}
use Rattle.es_scopes.specs.Table.{Table, IsTable, IsNamed, HasScope, row_at, names_of_row, changed_at, get_binding, or_else, holding, new_scope, new_symbol, marked, symbol_flagged, with_binding, with_symbol_flags}
use Rattle.es_scopes.specs.Tables.{marked_if, flags_of, flags_with, repeats, joined, bound_first, bound_again, bound_where, opened, declare, declarer_at, Fits, IsWhole}
use Rattle.es_scopes.specs.declared.declare.Declarations.{Declarations}
use Rattle.es_scopes.specs.declared.entry.Entry.{Entry}
use Rattle.es_scopes.specs.declared.entry.Entry.TheVariants as entry
use Rattle.es_scopes.specs.declared.flags.ScopeFlags.{ScopeFlags}
use Rattle.es_scopes.specs.declared.flags.SymbolFlags.{SymbolFlags}
use Rattle.es_scopes.specs.declared.surroundings.Declarer.{Declarer}
use Rattle.es_scopes.specs.declared.surroundings.Declarer.TheVariants as declarer
use Rattle.es_scopes.specs.declared.table.Scope.{Scope}
use Rattle.es_scopes.specs.declared.table.Symbol.{Symbol}
use Rattle.es_scopes.proofs.BindingLemmas.{lookup-push}
use Rattle.es_scopes.proofs.NameLemmas.{symbol-there}
use Rattle.es_scopes.proofs.RowLemmas.{same_or_other, length-changed_at, slice_get-changed_at_other, slice_get-push_within, slice_get-push_last}
use Rattle.es_scopes.proofs.TableLemmas.{row_at-changed_same, row_at-changed_other}
use Rattle.es_scopes.proofs.TableShown.{marked-rows, again-rows}
use Rattle.es_scopes.proofs.TableSteps.{IsWhole-declare}
use Rattle.es_scopes_law.proofs.Held.{table-declare, symbol-below}

-- ---- the symbol of a name after an entry

abbrev pub is_at : ℕ → List ℕ → ScopeId → List ℕ → Bool
is_at q x s name = nat_eq s.0 q && bytes_eq x name

pub at-same : (q : ℕ) (x : List ℕ) (s : ScopeId) (name : List ℕ) → is_at q x s name ≡ true → (q ≡ s.0) × (x ≡ name)
at-same q x s name h = let both = and_parts (nat_eq s.0 q) (bytes_eq x name) h in (sym ((Decides-eqb s.0 q).0 both.0), (bytes_eq-Decides x name).0 both.1)

pub at-own : (s : ScopeId) (name : List ℕ) → is_at s.0 name s name ≡ true
at-own s name = ap (λ b. b && bytes_eq name name) ((Decides-eqb s.0 s.0).1 refl) ∙ (bytes_eq-Decides name name).1 refl

binding-push : (scopes : List (Option Scope)) (p : Option ScopeId) (f : ScopeFlags) (q : ℕ) (x : List ℕ) → lookup x (names_of_row (row_at (scopes ++ Some (new_scope p f) ∷ []) q)) ≡ lookup x (names_of_row (row_at scopes q))
binding-push [] p f zero x = refl
binding-push [] p f (suc q) x = refl
binding-push (row ∷ scopes) p f zero x = refl
binding-push (row ∷ scopes) p f (suc q) x = binding-push scopes p f q x

row-binding : (name x : List ℕ) (y : SymbolId) (o : Option Scope) → is_some o ≡ true → lookup name (names_of_row o) ≡ None → lookup x (names_of_row (option_map (holding name y) o)) ≡ cond (bytes_eq x name) (Some y) (lookup x (names_of_row o))
row-binding name x y None there none = absurd (true≢false (sym there))
row-binding name x y (Some row) there none = lookup-push x name y row.names ∙ by (bytes_eq x name) refl
  where
    or_none : (o : Option SymbolId) → or_else o None ≡ o
    or_none None = refl
    or_none (Some z) = refl

    by : (b : Bool) → bytes_eq x name ≡ b → or_else (lookup x row.names) (cond b (Some y) None) ≡ cond b (Some y) (lookup x row.names)
    by true e = ap (λ o. or_else o (Some y)) (ap (λ z. lookup z row.names) ((bytes_eq-Decides x name).0 e) ∙ none)
    by false e = or_none (lookup x row.names)

binding-first : (scopes : List (Option Scope)) (s : ScopeId) (q : ℕ) (name x : List ℕ) (y : SymbolId) → is_some (row_at scopes s.0) ≡ true → lookup name (names_of_row (row_at scopes s.0)) ≡ None
    → lookup x (names_of_row (row_at (changed_at (option_map (holding name y)) s.0 scopes) q)) ≡ cond (is_at q x s name) (Some y) (lookup x (names_of_row (row_at scopes q)))
binding-first scopes s q name x y there none = elim (same_or_other q s.0) [
  | inl same ↦ subst (λ (k : ℕ). lookup x (names_of_row (row_at (changed_at (option_map (holding name y)) s.0 scopes) k)) ≡ cond (is_at k x s name) (Some y) (lookup x (names_of_row (row_at scopes k)))) (sym same)
      (ap (λ o. lookup x (names_of_row o)) (row_at-changed_same (holding name y) s.0 scopes) ∙ row-binding name x y (row_at scopes s.0) there none ∙ ap (λ b. cond (b && bytes_eq x name) (Some y) (lookup x (names_of_row (row_at scopes s.0)))) (sym ((Decides-eqb s.0 s.0).1 refl)))
  | inr other ↦ ap (λ o. lookup x (names_of_row o)) (row_at-changed_other (option_map (holding name y)) s.0 q scopes other)
      ∙ ap (λ b. cond (b && bytes_eq x name) (Some y) (lookup x (names_of_row (row_at scopes q)))) (sym (apart s.0 q (λ e. other (sym e))))
]
  where
    apart : (a b : ℕ) → (a ≡ b → ⊥) → nat_eq a b ≡ false
    apart a b no_same = elim (nat_eq a b) as (λ v. nat_eq a b ≡ v → v ≡ false) [
      | true ↦ λ e. absurd (no_same ((Decides-eqb a b).0 e))
      | false ↦ λ e. refl
    ] refl

get-first : (d : Declarations) (s : ScopeId) (who : Declarer) (name : List ℕ) (flags : SymbolFlags) (head : Bool) (q : ScopeId) (x : List ℕ) → HasScope d.scoping s → get_binding d.scoping s name ≡ None
    → get_binding (bound_first d s who name flags head).scoping q x ≡ cond (is_at q.0 x s name) (Some (record { 0 = length d.scoping.symbols })) (get_binding d.scoping q x)
get-first d s who name flags head q x there none =
    ap (λ (rows : List (Option Scope)). lookup x (names_of_row (row_at rows q.0))) (marked-rows head (record { 0 = length d.scoping.symbols }) (with_binding d.scoping s name flags))
    ∙ binding-first d.scoping.scopes s q.0 name x (record { 0 = length d.scoping.symbols }) there none

get-again : (d : Declarations) (y : SymbolId) (who : Declarer) (flags : SymbolFlags) (head : Bool) (q : ScopeId) (x : List ℕ) → get_binding (bound_again d y who flags head).scoping q x ≡ get_binding d.scoping q x
get-again d y who flags head q x = ap (λ (rows : List (Option Scope)). lookup x (names_of_row (row_at rows q.0))) (again-rows d y who flags head)

-- two names have two symbols
names-apart : (t : Table) (s q : ScopeId) (name x : List ℕ) (y z : SymbolId) → IsTable t → get_binding t s name ≡ Some y → get_binding t q x ≡ Some z → z.0 ≡ y.0 → (q.0 ≡ s.0) × (x ≡ name)
names-apart t s q name x y z h a b same =
    let one : IsNamed t.symbols y name s = h.named s name y a in
    let other : IsNamed t.symbols z x q = h.named q x z b in
    let both : Some (x, q) ≡ Some (name, s) = sym other ∙ ap (λ (n : ℕ). option_map {U = List ℕ × ScopeId} (λ (w : Symbol). (w.name, w.scope)) (slice_get t.symbols n)) same ∙ one in
    let pair : (x, q) ≡ (name, s) = cc in
    (ap (λ (p : List ℕ × ScopeId). p.1.0) pair, ap (λ (p : List ℕ × ScopeId). p.0) pair)

-- ---- an attribute of symbols

-- the entries so far make a table, of which each symbol has its declarer
pub record Made (d : Declarations) : Type 0 where
  pub table : IsTable d.scoping
  pub whole : IsWhole d.scoping
  pub many : length d.declarers ≡ length d.scoping.symbols

module _ {X : Type 0} (none : X) (A : Declarations → SymbolId → X) (F : Declarer → SymbolFlags → Bool → X) (G : X → Declarer → Declarer → SymbolFlags → Bool → X) where
  -- how it changes
  pub record Changes : Type 0 where
    pub opens : (d : Declarations) (p : Option ScopeId) (b : Bool) (f : ScopeFlags) (y : SymbolId) → A (opened d p b f) y ≡ A d y
    pub old : (d : Declarations) (s : ScopeId) (who : Declarer) (name : List ℕ) (flags : SymbolFlags) (head : Bool) (y : SymbolId) → Made d → y.0 < length d.scoping.symbols → A (bound_first d s who name flags head) y ≡ A d y
    pub new : (d : Declarations) (s : ScopeId) (who : Declarer) (name : List ℕ) (flags : SymbolFlags) (head : Bool) → Made d → A (bound_first d s who name flags head) (record { 0 = length d.scoping.symbols }) ≡ F who flags head
    pub again : (d : Declarations) (y : SymbolId) (who : Declarer) (flags : SymbolFlags) (head : Bool) → Made d → y.0 < length d.scoping.symbols → A (bound_again d y who flags head) y ≡ G (A d y) (declarer_at d.declarers y) who flags head
    pub others : (d : Declarations) (y z : SymbolId) (who : Declarer) (flags : SymbolFlags) (head : Bool) → z.0 ≢ y.0 → A (bound_again d y who flags head) z ≡ A d z

  abbrev pub of_symbol : Declarations → Option SymbolId → X
  of_symbol d None = none
  of_symbol d (Some y) = A d y

  -- of the symbol of a name
  abbrev pub of_name : Declarations → ℕ → List ℕ → X
  of_name d q x = of_symbol d (get_binding d.scoping (record { 0 = q }) x)

  -- of that after an entry that declares the name
  abbrev pub next_of : Declarations → Option SymbolId → Declarer → SymbolFlags → Bool → X
  next_of d None who flags head = F who flags head
  next_of d (Some y) who flags head = G (A d y) (declarer_at d.declarers y) who flags head

  abbrev pub after_entry : Declarations → ℕ → List ℕ → Entry → X
  after_entry d q x (entry.Binding node (Some s) who name flags head) = cond (is_at q x s name) (next_of d (get_binding d.scoping s name) who flags head) (of_name d q x)
  after_entry d q x e = of_name d q x

  module _ (c : Changes) where
    below : (d : Declarations) (q : ScopeId) (x : List ℕ) (y : SymbolId) → Made d → get_binding d.scoping q x ≡ Some y → y.0 < length d.scoping.symbols
    below d q x y made e = symbol-below d.scoping.symbols y.0 (symbol-there d.scoping y x q (made.table.named q x y e))

    after-first : (d : Declarations) (s : ScopeId) (who : Declarer) (name : List ℕ) (flags : SymbolFlags) (head : Bool) (q : ℕ) (x : List ℕ) → Made d → HasScope d.scoping s → get_binding d.scoping s name ≡ None
        → of_name (bound_first d s who name flags head) q x ≡ cond (is_at q x s name) (F who flags head) (of_name d q x)
    after-first d s who name flags head q x made there free =
        ap (of_symbol (bound_first d s who name flags head)) (get-first d s who name flags head (record { 0 = q }) x there free) ∙ by (is_at q x s name) (get_binding d.scoping (record { 0 = q }) x) refl
      where
        by : (b : Bool) (o : Option SymbolId) → get_binding d.scoping (record { 0 = q }) x ≡ o → of_symbol (bound_first d s who name flags head) (cond b (Some (record { 0 = length d.scoping.symbols })) o) ≡ cond b (F who flags head) (of_symbol d o)
        by true o e = c.new d s who name flags head made
        by false None e = refl
        by false (Some y) e = c.old d s who name flags head y made (below d (record { 0 = q }) x y made e)

    after-again : (d : Declarations) (s : ScopeId) (y : SymbolId) (who : Declarer) (name : List ℕ) (flags : SymbolFlags) (head : Bool) (q : ℕ) (x : List ℕ) → Made d → get_binding d.scoping s name ≡ Some y
        → of_name (bound_again d y who flags head) q x ≡ cond (is_at q x s name) (G (A d y) (declarer_at d.declarers y) who flags head) (of_name d q x)
    after-again d s y who name flags head q x made held =
        ap (of_symbol (bound_again d y who flags head)) (get-again d y who flags head (record { 0 = q }) x)
        ∙ by (is_at q x s name) refl (get_binding d.scoping (record { 0 = q }) x) refl
      where
        by : (b : Bool) → is_at q x s name ≡ b → (o : Option SymbolId) → get_binding d.scoping (record { 0 = q }) x ≡ o → of_symbol (bound_again d y who flags head) o ≡ cond b (G (A d y) (declarer_at d.declarers y) who flags head) (of_symbol d o)
        by true e o is =
            let same = at-same q x s name e in
            let here : o ≡ Some y = sym is ∙ (λ i. get_binding d.scoping (record { 0 = same.0 i }) (same.1 i)) ∙ held in
            ap (of_symbol (bound_again d y who flags head)) here ∙ c.again d y who flags head made (below d s name y made held)
        by false e None is = refl
        by false e (Some z) is = c.others d y z who flags head (λ same.
            let one = names-apart d.scoping s (record { 0 = q }) name x y z made.table held is same in
            true≢false (sym (at-own s name) ∙ (λ i. is_at (sym one.0 i) (sym one.1 i) s name) ∙ e))

    pub after-declare : (d : Declarations) (e : Entry) (q : ℕ) (x : List ℕ) → Made d → Fits (length d.scoping.scopes) e → of_name (declare d e) q x ≡ after_entry d q x e
    after-declare d (entry.Scope node parent in_parameters flags) q x made fits =
        ap (of_symbol (opened d parent in_parameters flags)) (binding-push d.scoping.scopes parent flags q x) ∙ by (get_binding d.scoping (record { 0 = q }) x)
      where
        by : (o : Option SymbolId) → of_symbol (opened d parent in_parameters flags) o ≡ of_symbol d o
        by None = refl
        by (Some y) = c.opens d parent in_parameters flags y
    after-declare d (entry.Body node) q x made fits = refl
    after-declare d (entry.Binding node None who name flags head) q x made fits = refl
    after-declare d (entry.Binding node (Some s) who name flags head) q x made fits = by (get_binding d.scoping s name) refl
      where
        by : (o : Option SymbolId) → get_binding d.scoping s name ≡ o → of_name (bound_where o d s who name flags head) q x ≡ cond (is_at q x s name) (next_of d o who flags head) (of_name d q x)
        by None e = after-first d s who name flags head q x made (made.whole s (fits s refl)) e
        by (Some y) e = after-again d s y who name flags head q x made e
    after-declare d (entry.Reference node scope in_parameters name flags) q x made fits = refl

-- ---- after all entries of a program

first-many : (d : Declarations) (s : ScopeId) (who : Declarer) (name : List ℕ) (flags : SymbolFlags) (head : Bool) → length d.declarers ≡ length d.scoping.symbols → length (bound_first d s who name flags head).declarers ≡ length (bound_first d s who name flags head).scoping.symbols
first-many d s who name flags true h = omega (arith, h, length-append d.declarers (who ∷ []), length-changed_at marked (length d.scoping.symbols) (d.scoping.symbols ++ new_symbol name s flags ∷ []), length-append d.scoping.symbols (new_symbol name s flags ∷ []))
first-many d s who name flags false h = omega (arith, h, length-append d.declarers (who ∷ []), length-append d.scoping.symbols (new_symbol name s flags ∷ []))

marked-many : (b : Bool) (y : SymbolId) (t : Table) → length (marked_if b y t).symbols ≡ length t.symbols
marked-many true y t = length-changed_at marked y.0 t.symbols
marked-many false y t = refl

where-many : (o : Option SymbolId) (d : Declarations) (s : ScopeId) (who : Declarer) (name : List ℕ) (flags : SymbolFlags) (head : Bool) → length d.declarers ≡ length d.scoping.symbols → length (bound_where o d s who name flags head).declarers ≡ length (bound_where o d s who name flags head).scoping.symbols
where-many None d s who name flags head h = first-many d s who name flags head h
where-many (Some y) d s who name flags head h =
    let f = flags_with (declarer_at d.declarers y) who (flags_of d.scoping y) flags in
    omega (arith, h, length-changed_at (joined who) y.0 d.declarers, marked-many (head || repeats (declarer_at d.declarers y) who) y (with_symbol_flags d.scoping y f), length-changed_at (symbol_flagged f) y.0 d.scoping.symbols)

declare-many : (d : Declarations) (e : Entry) → length d.declarers ≡ length d.scoping.symbols → length (declare d e).declarers ≡ length (declare d e).scoping.symbols
declare-many d (entry.Scope node parent in_parameters flags) h = h
declare-many d (entry.Body node) h = h
declare-many d (entry.Binding node None who name flags head) h = h
declare-many d (entry.Binding node (Some s) who name flags head) h = where-many (get_binding d.scoping s name) d s who name flags head h
declare-many d (entry.Reference node scope in_parameters name flags) h = h

pub made-declare : (d : Declarations) (e : Entry) → Fits (length d.scoping.scopes) e → Made d → Made (declare d e)
made-declare d e fits made = record { table = table-declare d e made.whole fits made.table; whole = IsWhole-declare d e made.whole; many = declare-many d e made.many }

-- ---- whether a name is seen from parameters, and whether it is more than an own name

pub declarer-changed : (ds : List Declarer) (f : Declarer → Declarer) (y : SymbolId) → y.0 < length ds → declarer_at (changed_at f y.0 ds) y ≡ f (declarer_at ds y)
declarer-changed ds f y l = go ds y.0 l
  where
    go : (ds : List Declarer) (i : ℕ) → i < length ds → unwrap_or (slice_get (changed_at f i ds) i) declarer.Other ≡ f (unwrap_or (slice_get ds i) declarer.Other)
    go [] i l = absurd (omega arith)
    go (x ∷ ds) zero l = refl
    go (x ∷ ds) (suc i) l = go ds i (omega arith)

-- an entry of the name that is so
abbrev pub entry_is : (Declarer → Bool) → ℕ → List ℕ → Entry → Bool
entry_is P q x (entry.Binding node (Some s) who name flags head) = is_at q x s name && P who
entry_is P q x e = false

module _ (P : Declarer → Bool) (both : (a b : Declarer) → P (joined a b) ≡ (P b || P a)) where
  abbrev pub who_is : Declarations → SymbolId → Bool
  who_is d y = P (declarer_at d.declarers y)

  who-changes : Changes false who_is (λ who flags head. P who) (λ a old who flags head. a || P who)
  who-changes = record {
    opens = λ d p b f y. refl;
    old = λ d s who name flags head y made l. ap (λ o. P (unwrap_or o declarer.Other)) (slice_get-push_within d.declarers who y.0 (omega (arith, made.many)));
    new = λ d s who name flags head made. ap (λ o. P (unwrap_or o declarer.Other)) (ap (slice_get (d.declarers ++ who ∷ [])) (sym made.many) ∙ slice_get-push_last d.declarers who);
    again = λ d y who flags head made l. ap P (declarer-changed d.declarers (joined who) y (omega (arith, made.many))) ∙ both who (declarer_at d.declarers y);
    others = λ d y z who flags head other. ap (λ o. P (unwrap_or o declarer.Other)) (slice_get-changed_at_other (joined who) y.0 z.0 d.declarers other);
  }

  pub who-declare : (d : Declarations) (e : Entry) (q : ℕ) (x : List ℕ) → Made d → Fits (length d.scoping.scopes) e → of_name false who_is (λ who flags head. P who) (λ a old who flags head. a || P who) (declare d e) q x ≡ (of_name false who_is (λ who flags head. P who) (λ a old who flags head. a || P who) d q x || entry_is P q x e)
  who-declare d e q x made fits = after-declare false who_is (λ who flags head. P who) (λ a old who flags head. a || P who) who-changes d e q x made fits ∙ by e
    where
      or_false : (b : Bool) → b ≡ (b || false)
      or_false true = refl
      or_false false = refl

      by : (e : Entry) → after_entry false who_is (λ who flags head. P who) (λ a old who flags head. a || P who) d q x e ≡ (of_name false who_is (λ who flags head. P who) (λ a old who flags head. a || P who) d q x || entry_is P q x e)
      by (entry.Scope node parent in_parameters flags) = or_false _
      by (entry.Body node) = or_false _
      by (entry.Binding node None who name flags head) = or_false _
      by (entry.Binding node (Some s) who name flags head) = here (is_at q x s name) refl
        where
          here : (b : Bool) → is_at q x s name ≡ b → cond b (next_of false who_is (λ who flags head. P who) (λ a old who flags head. a || P who) d (get_binding d.scoping s name) who flags head) (of_name false who_is (λ who flags head. P who) (λ a old who flags head. a || P who) d q x) ≡ (of_name false who_is (λ who flags head. P who) (λ a old who flags head. a || P who) d q x || (b && P who))
          here false e = or_false _
          here true e =
              let same = at-same q x s name e in
              next (get_binding d.scoping s name) ∙ (λ i. of_symbol false who_is (λ who flags head. P who) (λ a old who flags head. a || P who) d (get_binding d.scoping (record { 0 = sym same.0 i }) (sym same.1 i)) || P who)
            where
              next : (o : Option SymbolId) → next_of false who_is (λ who flags head. P who) (λ a old who flags head. a || P who) d o who flags head ≡ (of_symbol false who_is (λ who flags head. P who) (λ a old who flags head. a || P who) d o || P who)
              next None = refl
              next (Some y) = refl
      by (entry.Reference node scope in_parameters name flags) = or_false _
