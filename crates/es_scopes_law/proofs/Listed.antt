-- The list of a symbol of a table of entries is of the references that mean it.
use Rattle.std.proofs.Common.{◌≡◌, refl, sym, ap, subst, ◌∙◌, ℕ, zero, suc, List, [], ◌∷◌, ◌++◌, length, nat_eq, Bool, true, false, true≢false, ◌&&◌, ◌||◌, Option, Some, None, inl, inr, arith}
use Rattle.std.specs.Prelude.{option_map, slice_get}
use Rattle.std.specs.Cmp.{unsigned_tied}
use Rattle.std.specs.FinSet as set
use Rattle.std.specs.Ordering.{nat_cmp}
use Rattle.std.proofs.lemmas.Bool.Decides.{Decides-eqb}
use Rattle.std.proofs.lemmas.Cmp.{nat_cmp_total}
use Rattle.es_base.specs.Tree.{Tree}
use Rattle.es_base.specs.declared.ids.ScopeId.{ScopeId}
use Rattle.es_base.specs.declared.ids.SymbolId.{SymbolId}
use Rattle.es_scopes.specs.Built.{built_table}
use Rattle.es_scopes.specs.Entries.{entries_of}
use Rattle.es_scopes.specs.ReferenceNumbers.{ReferenceNumbers}
use Rattle.es_scopes.specs.Table.{Table, changed_at, get_binding, listing, marked, symbol_flagged, new_symbol, with_binding, with_created_reference, with_symbol_flags}
use Rattle.es_scopes.specs.Tables.{marked_if, flags_of, flags_with, repeats, bound_where, declare, declared, none_declared, declarer_at, meant, referred, number, numbered}
use Rattle.es_scopes.specs.declared.declare.Declarations.{Declarations}
use Rattle.es_scopes.specs.declared.entry.Entry.{Entry}
use Rattle.es_scopes.specs.declared.entry.Entry.TheVariants as entry
use Rattle.es_scopes.specs.declared.flags.ReferenceFlags.{ReferenceFlags}
use Rattle.es_scopes.specs.declared.flags.SymbolFlags.{SymbolFlags}
use Rattle.es_scopes.specs.declared.refer.Numbering.{Numbering}
use Rattle.es_scopes.specs.declared.surroundings.Declarer.{Declarer}
use Rattle.es_scopes.specs.declared.table.Reference.{Reference}
use Rattle.es_scopes.specs.declared.table.Symbol.{Symbol}
use Rattle.es_scopes.proofs.RowLemmas.{same_or_other, slice_get-changed_at_same, slice_get-changed_at_other, slice_get-push_cases}
use Rattle.es_scopes.proofs.TableShown.{declared-references}
use Rattle.es_scopes_law.proofs.Marks.{mark_of}

-- a reference means the symbol y
abbrev pub is_target : Option SymbolId → ℕ → Bool
is_target None y = false
is_target (Some z) y = nat_eq z.0 y

abbrev pub points : Option Reference → ℕ → Bool
points None y = false
points (Some r) y = is_target r.symbol_id y

abbrev IsListed : List Symbol → List Reference → Type 0
IsListed symbols references = (y : ℕ) (x : Symbol) → slice_get symbols y ≡ Some x → (k : ℕ) → set.contains x.references k ≡ points (slice_get references k) y

map-is : {X Y : Type 0} (f : X → Y) (o : Option X) (y : Y) → option_map f o ≡ Some y → (x : X) × (o ≡ Some x) × (f x ≡ y)
map-is f None y e = absurd (cc e)
map-is f (Some x) y e = (x, refl, cc)

-- ---- symbols of no list yet

abbrev Unlisted : List Symbol → Type 0
Unlisted symbols = (y : ℕ) (x : Symbol) → slice_get symbols y ≡ Some x → (k : ℕ) → set.contains x.references k ≡ false

unlisted-changed : (f : Symbol → Symbol) (i : ℕ) (symbols : List Symbol) → ((x : Symbol) → (f x).references ≡ x.references) → Unlisted symbols → Unlisted (changed_at f i symbols)
unlisted-changed f i symbols kept h y x at k = elim (same_or_other y i) [
  | inl same ↦
      let was = map-is f (slice_get symbols i) x (sym (slice_get-changed_at_same f i symbols) ∙ ap (slice_get (changed_at f i symbols)) (sym same) ∙ at) in
      ap (λ (z : Symbol). set.contains z.references k) (sym was.2) ∙ ap (λ (l : ReferenceNumbers). set.contains l k) (kept was.0) ∙ h i was.0 was.1 k
  | inr other ↦ h y x (sym (slice_get-changed_at_other f i y symbols other) ∙ at) k
]

unlisted-push : (symbols : List Symbol) (name : List ℕ) (s : ScopeId) (f : SymbolFlags) → Unlisted symbols → Unlisted (symbols ++ new_symbol name s f ∷ [])
unlisted-push symbols name s f h y x at k = elim (slice_get-push_cases symbols (new_symbol name s f) x y at) [
  | inl was ↦ h y x was k
  | inr last ↦ ap (λ (z : Symbol). set.contains z.references k) (sym last.1) ∙ set.contains-empty nat_cmp k
]

unlisted-marked : (b : Bool) (y : SymbolId) (t : Table) → Unlisted t.symbols → Unlisted (marked_if b y t).symbols
unlisted-marked true y t h = unlisted-changed marked y.0 t.symbols (λ x. refl) h
unlisted-marked false y t h = h

unlisted-where : (o : Option SymbolId) (d : Declarations) (s : ScopeId) (who : Declarer) (name : List ℕ) (flags : SymbolFlags) (head : Bool) → Unlisted d.scoping.symbols → Unlisted (bound_where o d s who name flags head).scoping.symbols
unlisted-where None d s who name flags head h = unlisted-marked head (record { 0 = length d.scoping.symbols }) (with_binding d.scoping s name flags) (unlisted-push d.scoping.symbols name s flags h)
unlisted-where (Some y) d s who name flags head h =
    let f = flags_with (declarer_at d.declarers y) who (flags_of d.scoping y) flags in
    unlisted-marked (head || repeats (declarer_at d.declarers y) who) y (with_symbol_flags d.scoping y f) (unlisted-changed (symbol_flagged f) y.0 d.scoping.symbols (λ x. refl) h)

unlisted-declare : (d : Declarations) (e : Entry) → Unlisted d.scoping.symbols → Unlisted (declare d e).scoping.symbols
unlisted-declare d (entry.Scope node parent in_parameters flags) h = h
unlisted-declare d (entry.Body node) h = h
unlisted-declare d (entry.Binding node None who name flags head) h = h
unlisted-declare d (entry.Binding node (Some s) who name flags head) h = unlisted-where (get_binding d.scoping s name) d s who name flags head h
unlisted-declare d (entry.Reference node scope in_parameters name flags) h = h

unlisted-declared : (d : Declarations) (es : List Entry) → Unlisted d.scoping.symbols → Unlisted (declared d es).scoping.symbols
unlisted-declared d [] h = h
unlisted-declared d (e ∷ es) h = unlisted-declared (declare d e) es (unlisted-declare d e h)

-- ---- a reference more

or-false : (b : Bool) → b ≡ (b || false)
or-false true = refl
or-false false = refl

is-same : (a b : ℕ) → a ≡ b → nat_eq a b ≡ true
is-same a b e = (Decides-eqb a b).1 e

is-other : (a b : ℕ) → (a ≡ b → ⊥) → nat_eq a b ≡ false
is-other a b no_same = elim (nat_eq a b) as (λ v. nat_eq a b ≡ v → v ≡ false) [
  | true ↦ λ e. absurd (no_same ((Decides-eqb a b).0 e))
  | false ↦ λ e. refl
] refl

eq-suc : (a b : ℕ) → nat_eq (suc a) (suc b) ≡ nat_eq a b
eq-suc a b = elim (nat_eq a b) as (λ v. nat_eq a b ≡ v → nat_eq (suc a) (suc b) ≡ v) [
  | true ↦ λ e. is-same (suc a) (suc b) (ap suc ((Decides-eqb a b).0 e))
  | false ↦ λ e. is-other (suc a) (suc b) (λ same. let lower : a ≡ b = omega arith in true≢false (sym (is-same a b lower) ∙ e))
] refl

points-push : (references : List Reference) (r : Reference) (k y : ℕ) → points (slice_get (references ++ r ∷ []) k) y ≡ (points (slice_get references k) y || (nat_eq k (length references) && is_target r.symbol_id y))
points-push [] r zero y = refl
points-push [] r (suc k) y = ap (λ b. b && is_target r.symbol_id y) (sym (is-other (suc k) 0 (λ e. omega arith)))
points-push (x ∷ references) r zero y = or-false (is_target x.symbol_id y) ∙ ap (λ b. is_target x.symbol_id y || (b && is_target r.symbol_id y)) (sym (is-other 0 (suc (length references)) (λ e. omega arith)))
points-push (x ∷ references) r (suc k) y = points-push references r k y ∙ ap (λ b. points (slice_get references k) y || (b && is_target r.symbol_id y)) (sym (eq-suc k (length references)))

and-false : (a : Bool) → (a && false) ≡ false
and-false true = refl
and-false false = refl

or-swap : (a b : Bool) → (a || b) ≡ (b || (a && true))
or-swap true true = refl
or-swap true false = refl
or-swap false true = refl
or-swap false false = refl

listed-created : (t : Table) (o : Option SymbolId) (f : ReferenceFlags) → IsListed t.symbols t.references → IsListed (with_created_reference t o f).symbols (with_created_reference t o f).references
listed-created t None f h y x at k =
    h y x at k ∙ or-false (points (slice_get t.references k) y) ∙ ap (λ b. points (slice_get t.references k) y || b) (sym (and-false (nat_eq k (length t.references)))) ∙ sym (points-push t.references (record { symbol_id = None; flags = f }) k y)
listed-created t (Some z) f h y x at k = elim (same_or_other y z.0) [
  | inl same ↦
      let was = map-is (listing (length t.references)) (slice_get t.symbols z.0) x (sym (slice_get-changed_at_same (listing (length t.references)) z.0 t.symbols) ∙ ap (slice_get (changed_at (listing (length t.references)) z.0 t.symbols)) (sym same) ∙ at) in
      ap (λ (w : Symbol). set.contains w.references k) (sym was.2)
      ∙ set.contains-insert nat_cmp_total was.0.references (length t.references) k
      ∙ (λ i. unsigned_tied k (length t.references) i || h z.0 was.0 was.1 k i)
      ∙ or-swap (nat_eq k (length t.references)) (points (slice_get t.references k) z.0)
      ∙ ap (λ b. points (slice_get t.references k) z.0 || (nat_eq k (length t.references) && b)) (sym (is-same z.0 z.0 refl))
      ∙ sym (points-push t.references (record { symbol_id = Some z; flags = f }) k z.0)
      ∙ ap (points (slice_get (t.references ++ record { symbol_id = Some z; flags = f } ∷ []) k)) (sym same)
  | inr other ↦
      h y x (sym (slice_get-changed_at_other (listing (length t.references)) z.0 y t.symbols other) ∙ at) k
      ∙ or-false (points (slice_get t.references k) y)
      ∙ ap (λ b. points (slice_get t.references k) y || b) (sym (and-false (nat_eq k (length t.references))) ∙ ap (λ b. nat_eq k (length t.references) && b) (sym (is-other z.0 y (λ e. other (sym e)))))
      ∙ sym (points-push t.references (record { symbol_id = Some z; flags = f }) k y)
]

listed-referred : (d : Declarations) (e : Entry) → IsListed d.scoping.symbols d.scoping.references → IsListed (referred d e).scoping.symbols (referred d e).scoping.references
listed-referred d (entry.Scope node parent in_parameters flags) h = h
listed-referred d (entry.Body node) h = h
listed-referred d (entry.Binding node holder who name flags head) h = h
listed-referred d (entry.Reference node scope in_parameters name flags) h = listed-created d.scoping (meant d scope in_parameters name) flags h

listed-numbered : (n : Numbering) (es : List Entry) → IsListed n.declarations.scoping.symbols n.declarations.scoping.references → IsListed (numbered n es).declarations.scoping.symbols (numbered n es).declarations.scoping.references
listed-numbered n [] h = h
listed-numbered n (e ∷ es) h = listed-numbered (number n e) es (listed-referred n.declarations e h)

pub built-listed : (t : Tree) → IsListed (built_table t).symbols (built_table t).references
built-listed t = listed-numbered (record { declarations = declared none_declared (entries_of t); ids = []; next_scope = 0 }) (entries_of t) (λ y x at k.
    unlisted-declared none_declared (entries_of t) (λ y x at k. absurd (cc at)) y x at k
    ∙ sym (ap (λ (l : List Reference). points (slice_get l k) y) (declared-references none_declared (entries_of t))))

-- ---- marks stay

mark-listed : (r : ℕ) (o : Option Symbol) → mark_of (option_map (listing r) o) ≡ mark_of o
mark-listed r None = refl
mark-listed r (Some x) = refl

mark-created : (t : Table) (o : Option SymbolId) (f : ReferenceFlags) (y : ℕ) → mark_of (slice_get (with_created_reference t o f).symbols y) ≡ mark_of (slice_get t.symbols y)
mark-created t None f y = refl
mark-created t (Some z) f y = elim (same_or_other y z.0) [
  | inl same ↦ subst (λ (i : ℕ). mark_of (slice_get (changed_at (listing (length t.references)) z.0 t.symbols) i) ≡ mark_of (slice_get t.symbols i)) (sym same) (ap mark_of (slice_get-changed_at_same (listing (length t.references)) z.0 t.symbols) ∙ mark-listed (length t.references) (slice_get t.symbols z.0))
  | inr other ↦ ap mark_of (slice_get-changed_at_other (listing (length t.references)) z.0 y t.symbols other)
]

mark-referred : (d : Declarations) (e : Entry) (y : ℕ) → mark_of (slice_get (referred d e).scoping.symbols y) ≡ mark_of (slice_get d.scoping.symbols y)
mark-referred d (entry.Scope node parent in_parameters flags) y = refl
mark-referred d (entry.Body node) y = refl
mark-referred d (entry.Binding node holder who name flags head) y = refl
mark-referred d (entry.Reference node scope in_parameters name flags) y = mark-created d.scoping (meant d scope in_parameters name) flags y

mark-numbered : (n : Numbering) (es : List Entry) (y : ℕ) → mark_of (slice_get (numbered n es).declarations.scoping.symbols y) ≡ mark_of (slice_get n.declarations.scoping.symbols y)
mark-numbered n [] y = refl
mark-numbered n (e ∷ es) y = mark-numbered (number n e) es y ∙ mark-referred n.declarations e y

pub mark-built : (t : Tree) (y : ℕ) → mark_of (slice_get (built_table t).symbols y) ≡ mark_of (slice_get (declared none_declared (entries_of t)).scoping.symbols y)
mark-built t y = mark-numbered (record { declarations = declared none_declared (entries_of t); ids = []; next_scope = 0 }) (entries_of t) y
