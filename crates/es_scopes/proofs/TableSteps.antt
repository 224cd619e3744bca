-- What each entry does to the sizes of a table, where no scope is removed.
use Rattle.std.proofs.Common.{◌≡◌, refl, sym, ap, subst, ◌∙◌, ℕ, ◌+◌, ◌<◌, ◌≤◌, List, [], ◌∷◌, ◌++◌, length, drop, get_or, Bool, true, false, ◌||◌, Option, Some, None, ◌⊎◌, inl, inr, arith}
use Rattle.std.specs.Prelude.{option_map, is_some, slice_get}
use Rattle.std.specs.Option.{option_and_then}
use Rattle.std.proofs.lemmas.List.{length-append, drop_more}
use Rattle.es_base.specs.declared.ids.ScopeId.{ScopeId}
use Rattle.es_base.specs.declared.ids.SymbolId.{SymbolId}
use Rattle.es_scopes.specs.Table.{Table, row_at, changed_at, get_binding, holding, new_scope, new_symbol, marked, symbol_flagged, with_symbol_flags, with_binding, with_created_reference}
use Rattle.es_scopes.specs.declared.flags.SymbolFlags.{SymbolFlags}
use Rattle.es_scopes.specs.declared.flags.ReferenceFlags.{ReferenceFlags}
use Rattle.es_scopes.specs.declared.table.Scope.{Scope}
use Rattle.es_scopes.proofs.RowLemmas.{length-changed_at, slice_get-push_within, slice_get-push_last, is_some-option_map}
use Rattle.es_scopes.proofs.TableLemmas.{part-changed}
use Rattle.es_scopes.proofs.TableShown.{declared-references}
use Rattle.es_scopes.specs.Tables.{marked_if, bound_first, bound_where, declare, declared, none_declared, meant, referred, number, numbered, Fits, AreOrdered, IsWhole, scope_count, scopes_in, flags_of, flags_with, repeats, declarer_at}
use Rattle.es_scopes.specs.declared.declare.Declarations.{Declarations}
use Rattle.es_scopes.specs.declared.refer.Numbering.{Numbering}
use Rattle.es_scopes.specs.declared.entry.Entry.{Entry}
use Rattle.es_scopes.specs.declared.entry.Entry.TheVariants as entry
use Rattle.es_scopes.specs.declared.surroundings.Declarer.{Declarer}

-- no row is gone
abbrev AreThere : List (Option Scope) → Type 0
AreThere scopes = (i : ℕ) → i < length scopes → is_some (row_at scopes i) ≡ true

there-push : (scopes : List (Option Scope)) (x : Scope) → AreThere scopes → AreThere (scopes ++ Some x ∷ [])
there-push scopes x h i l = elim (within_or_last i (length scopes) (omega (arith, length-append scopes (Some x ∷ [])))) [
  | inl within ↦ ap (λ o. is_some (option_and_then (λ r. r) o)) (slice_get-push_within scopes (Some x) i within) ∙ h i within
  | inr last ↦ ap (λ o. is_some (option_and_then (λ r. r) o)) (ap (slice_get (scopes ++ Some x ∷ [])) last ∙ slice_get-push_last scopes (Some x))
]
  where
    within_or_last : (i n : ℕ) → i < n + 1 → (i < n) ⊎ (i ≡ n)
    within_or_last i n l = grind arith

there-changed : (f : Scope → Scope) (n : ℕ) (scopes : List (Option Scope)) → AreThere scopes → AreThere (changed_at (option_map f) n scopes)
there-changed f n scopes h i l = part-changed is_some f n scopes (λ o. is_some-option_map f o) i ∙ h i (omega (arith, length-changed_at (option_map f) n scopes))

marked-scopes : (b : Bool) (y : SymbolId) (t : Table) → (marked_if b y t).scopes ≡ t.scopes
marked-scopes true y t = refl
marked-scopes false y t = refl

marked-symbols : (b : Bool) (y : SymbolId) (t : Table) → length (marked_if b y t).symbols ≡ length t.symbols
marked-symbols true y t = length-changed_at _ y.0 t.symbols
marked-symbols false y t = refl

-- an identifier that declares leaves the number of scopes, and adds one symbol at most
record Keeps (n : ℕ) (before after : Table) : Type 0 where
  there : AreThere before.scopes → AreThere after.scopes
  scopes : length after.scopes ≡ length before.scopes + n
  symbols : length after.symbols ≤ length before.symbols + 1

first-keeps : (d : Declarations) (s : ScopeId) (who : Declarer) (name : List ℕ) (flags : SymbolFlags) (head : Bool) → Keeps 0 d.scoping (bound_first d s who name flags head).scoping
first-keeps d s who name flags head =
    let t : Table = with_binding d.scoping s name flags in
    record {
      there = λ h. subst AreThere (sym (marked-scopes head (record { 0 = length d.scoping.symbols }) t)) (there-changed _ s.0 d.scoping.scopes h);
      scopes = ap length (marked-scopes head (record { 0 = length d.scoping.symbols }) t) ∙ omega (arith, length-changed_at (option_map (holding name (record { 0 = length d.scoping.symbols }))) s.0 d.scoping.scopes);
      symbols = omega (arith, marked-symbols head (record { 0 = length d.scoping.symbols }) t, length-append d.scoping.symbols (new_symbol name s flags ∷ []));
    }

again-keeps : (d : Declarations) (y : SymbolId) (f : SymbolFlags) (b : Bool) → Keeps 0 d.scoping (marked_if b y (with_symbol_flags d.scoping y f))
again-keeps d y f true = record { there = λ h. h; scopes = omega arith; symbols = omega (arith, length-changed_at marked y.0 (changed_at (symbol_flagged f) y.0 d.scoping.symbols), length-changed_at (symbol_flagged f) y.0 d.scoping.symbols) }
again-keeps d y f false = record { there = λ h. h; scopes = omega arith; symbols = omega (arith, length-changed_at (symbol_flagged f) y.0 d.scoping.symbols) }

where-keeps : (o : Option SymbolId) (d : Declarations) (s : ScopeId) (who : Declarer) (name : List ℕ) (flags : SymbolFlags) (head : Bool) → Keeps 0 d.scoping (bound_where o d s who name flags head).scoping
where-keeps None d s who name flags head = first-keeps d s who name flags head
where-keeps (Some y) d s who name flags head = again-keeps d y (flags_with (declarer_at d.declarers y) who (flags_of d.scoping y) flags) (head || repeats (declarer_at d.declarers y) who)

same-keeps : (t : Table) → Keeps 0 t t
same-keeps t = record { there = λ h. h; scopes = omega arith; symbols = omega arith }

declare-keeps : (d : Declarations) (e : Entry) → Keeps (scope_count e) d.scoping (declare d e).scoping
declare-keeps d (entry.Scope node parent in_parameters flags) = record {
  there = there-push d.scoping.scopes (new_scope parent flags);
  scopes = length-append d.scoping.scopes (Some (new_scope parent flags) ∷ []);
  symbols = omega arith;
}
declare-keeps d (entry.Body node) = same-keeps d.scoping
declare-keeps d (entry.Binding node None who name flags head) = same-keeps d.scoping
declare-keeps d (entry.Binding node (Some s) who name flags head) = where-keeps (get_binding d.scoping s name) d s who name flags head
declare-keeps d (entry.Reference node scope in_parameters name flags) = same-keeps d.scoping

pub IsWhole-declare : (d : Declarations) (e : Entry) → IsWhole d.scoping → IsWhole (declare d e).scoping
IsWhole-declare d e h = λ s l. (declare-keeps d e).there (λ i l. h (record { 0 = i }) l) s.0 l

pub scopes-declare : (d : Declarations) (e : Entry) → length (declare d e).scoping.scopes ≡ length d.scoping.scopes + scope_count e
scopes-declare d e = (declare-keeps d e).scopes

pub symbols-declare : (d : Declarations) (e : Entry) → length (declare d e).scoping.symbols ≤ length d.scoping.symbols + 1
symbols-declare d e = (declare-keeps d e).symbols

pub IsWhole-declared : (d : Declarations) (es : List Entry) → IsWhole d.scoping → IsWhole (declared d es).scoping
IsWhole-declared d [] h = h
IsWhole-declared d (e ∷ es) h = IsWhole-declared (declare d e) es (IsWhole-declare d e h)

pub scopes-declared : (d : Declarations) (es : List Entry) → length (declared d es).scoping.scopes ≡ length d.scoping.scopes + scopes_in es
scopes-declared d [] = omega arith
scopes-declared d (e ∷ es) = omega (arith, scopes-declared (declare d e) es, scopes-declare d e)

pub at_most_one : (e : Entry) → scope_count e ≤ 1
at_most_one (entry.Scope node parent in_parameters flags) = omega arith
at_most_one (entry.Body node) = omega arith
at_most_one (entry.Binding node holder who name flags head) = omega arith
at_most_one (entry.Reference node scope in_parameters name flags) = omega arith

-- ---- references

created-scopes : (t : Table) (y : Option SymbolId) (f : ReferenceFlags) → (with_created_reference t y f).scopes ≡ t.scopes
created-scopes t None f = refl
created-scopes t (Some y) f = refl

pub created-references : (t : Table) (y : Option SymbolId) (f : ReferenceFlags) → length (with_created_reference t y f).references ≡ length t.references + 1
created-references t None f = length-append t.references (record { symbol_id = None; flags = f } ∷ [])
created-references t (Some y) f = length-append t.references (record { symbol_id = Some y; flags = f } ∷ [])

pub scopes-referred : (d : Declarations) (e : Entry) → (referred d e).scoping.scopes ≡ d.scoping.scopes
scopes-referred d (entry.Scope node parent in_parameters flags) = refl
scopes-referred d (entry.Body node) = refl
scopes-referred d (entry.Binding node holder who name flags head) = refl
scopes-referred d (entry.Reference node scope in_parameters name flags) = created-scopes d.scoping (meant d scope in_parameters name) flags

pub references-referred : (d : Declarations) (e : Entry) → length (referred d e).scoping.references ≤ length d.scoping.references + 1
references-referred d (entry.Scope node parent in_parameters flags) = omega arith
references-referred d (entry.Body node) = omega arith
references-referred d (entry.Binding node holder who name flags head) = omega arith
references-referred d (entry.Reference node scope in_parameters name flags) = omega (arith, created-references d.scoping (meant d scope in_parameters name) flags)

pub IsWhole-referred : (d : Declarations) (e : Entry) → IsWhole d.scoping → IsWhole (referred d e).scoping
IsWhole-referred d e h = subst (λ (scopes : List (Option Scope)). (s : ScopeId) → s.0 < length scopes → is_some (row_at scopes s.0) ≡ true) (sym (scopes-referred d e)) h

-- ---- all entries of a tree name scopes of its table

-- each entry names scopes among the first n
abbrev pub AllFit : ℕ → List Entry → Type 0
AllFit n [] = Unit
AllFit n (e ∷ es) = Fits n e × AllFit n es

fits-le : (n m : ℕ) (e : Entry) → n ≤ m → Fits n e → Fits m e
fits-le n m (entry.Scope node parent in_parameters flags) le h = λ s e. let k = h s e in omega arith
fits-le n m (entry.Body node) le h = tt
fits-le n m (entry.Binding node holder who name flags head) le h = λ s e. let k = h s e in omega arith
fits-le n m (entry.Reference node scope in_parameters name flags) le h = λ s e. let k = h s e in omega arith

pub all-fit : (n m : ℕ) (es : List Entry) → AreOrdered n es → n + scopes_in es ≤ m → AllFit m es
all-fit n m [] h le = tt
all-fit n m (e ∷ es) h le = (fits-le n m e (omega arith) h.0, all-fit (n + scope_count e) m es h.1 (omega arith))

-- ---- how far the loops over entries have come

pub record Declares (all : List Entry) (i : ℕ) (d : Declarations) : Type 0 where
  pub reached : declared d (drop i all) ≡ declared none_declared all
  pub whole : IsWhole d.scoping
  pub ordered : AreOrdered (length d.scoping.scopes) (drop i all)
  pub scopes : length d.scoping.scopes ≤ i
  pub symbols : length d.scoping.symbols ≤ i

pub declares-fit : (all : List Entry) (i : ℕ) (d : Declarations) (e : Entry) → i < length all → e ≡ get_or all i e → Declares all i d → Fits (length d.scoping.scopes) e
declares-fit all i d e l is h =
    let next : AreOrdered (length d.scoping.scopes) (get_or all i e ∷ drop (i + 1) all) = subst (AreOrdered (length d.scoping.scopes)) (drop_more all i e l) h.ordered in
    subst (Fits (length d.scoping.scopes)) (sym is) next.0

pub declares-more : (all : List Entry) (i : ℕ) (d after : Declarations) (e : Entry) → i < length all → e ≡ get_or all i e → after ≡ declare d e → Declares all i d → Declares all (i + 1) after
declares-more all i d after e l is done h =
    let here : drop i all ≡ e ∷ drop (i + 1) all = drop_more all i e l ∙ ap (λ x. x ∷ drop (i + 1) all) (sym is) in
    let next : AreOrdered (length d.scoping.scopes) (e ∷ drop (i + 1) all) = subst (AreOrdered (length d.scoping.scopes)) here h.ordered in
    subst (Declares all (i + 1)) (sym done) (record {
      reached = sym (ap (declared d) here) ∙ h.reached;
      whole = IsWhole-declare d e h.whole;
      ordered = subst (λ (n : ℕ). AreOrdered n (drop (i + 1) all)) (sym (scopes-declare d e)) next.1;
      scopes = omega (arith, h.scopes, scopes-declare d e, at_most_one e);
      symbols = omega (arith, h.symbols, symbols-declare d e);
    })

pub record Numbers (all : List Entry) (start : Numbering) (i : ℕ) (n : Numbering) : Type 0 where
  pub reached : numbered n (drop i all) ≡ numbered start all
  pub whole : IsWhole n.declarations.scoping
  pub fit : AllFit (length n.declarations.scoping.scopes) (drop i all)
  pub references : length n.declarations.scoping.references ≤ i
  pub scopes : n.next_scope ≤ i

pub numbers-fit : (all : List Entry) (start : Numbering) (i : ℕ) (n : Numbering) (e : Entry) → i < length all → e ≡ get_or all i e → Numbers all start i n → Fits (length n.declarations.scoping.scopes) e
numbers-fit all start i n e l is h =
    let next : AllFit (length n.declarations.scoping.scopes) (get_or all i e ∷ drop (i + 1) all) = subst (AllFit (length n.declarations.scoping.scopes)) (drop_more all i e l) h.fit in
    subst (Fits (length n.declarations.scoping.scopes)) (sym is) next.0

pub numbers-more : (all : List Entry) (start : Numbering) (i : ℕ) (n after : Numbering) (e : Entry) → i < length all → e ≡ get_or all i e → after ≡ number n e → Numbers all start i n → Numbers all start (i + 1) after
numbers-more all start i n after e l is done h =
    let here : drop i all ≡ e ∷ drop (i + 1) all = drop_more all i e l ∙ ap (λ x. x ∷ drop (i + 1) all) (sym is) in
    let next : AllFit (length n.declarations.scoping.scopes) (e ∷ drop (i + 1) all) = subst (AllFit (length n.declarations.scoping.scopes)) here h.fit in
    subst (Numbers all start (i + 1)) (sym done) (record {
      reached = sym (ap (numbered n) here) ∙ h.reached;
      whole = IsWhole-referred n.declarations e h.whole;
      fit = subst (λ (scopes : List (Option Scope)). AllFit (length scopes) (drop (i + 1) all)) (sym (scopes-referred n.declarations e)) next.1;
      references = omega (arith, h.references, references-referred n.declarations e);
      scopes = omega (arith, h.scopes, at_most_one e);
    })

pub numbers-start : (all : List Entry) → AreOrdered 0 all → Numbers all (record { declarations = declared none_declared all; ids = []; next_scope = 0 }) 0 (record { declarations = declared none_declared all; ids = []; next_scope = 0 })
numbers-start all ordered = record {
  reached = refl;
  whole = IsWhole-declared none_declared all (λ s l. absurd (omega arith));
  fit = all-fit 0 _ all ordered (omega (arith, scopes-declared none_declared all));
  references = omega (arith, ap length (declared-references none_declared all));
  scopes = omega arith;
}
