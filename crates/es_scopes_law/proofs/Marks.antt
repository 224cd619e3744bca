-- Which symbols of a table of entries are marked: those of a name that more than one identifier declares in its scope, own names
-- of function expressions aside, and those of a `var` in the head of a for-in or for-of.
use Rattle.std.proofs.Common.{◌≡◌, ◌≢◌, refl, sym, ap, subst, ◌∙◌, ℕ, zero, suc, ◌+◌, ◌<◌, List, [], ◌∷◌, ◌++◌, length, nat_eq, Bool, true, false, true≢false, cond, ◌&&◌, ◌||◌, not, Option, Some, None, arith}
use Rattle.std.specs.Prelude.{option_map, slice_get, is_some, bytes_eq, unwrap_or}
use Rattle.es_base.specs.Preorder.{one_if}
use Rattle.es_base.specs.Tree.{Tree}
use Rattle.es_base.specs.declared.ids.ScopeId.{ScopeId}
use Rattle.es_base.specs.declared.ids.SymbolId.{SymbolId}
use Rattle.es_scopes.specs.Entries.{entries_of}
use Rattle.es_scopes.specs.Held.{held_weight}
use Rattle.es_scopes.specs.Table.{Table, symbol_at, get_binding, changed_at, marked, symbol_flagged, new_symbol, with_binding, with_symbol_flags}
use Rattle.es_scopes.specs.Tables.{marked_if, flags_of, flags_with, repeats, joined, declare, declared, none_declared, is_own_name, declarer_at, Fits, AreOrdered}
use Rattle.es_scopes.specs.declared.declare.Declarations.{Declarations}
use Rattle.es_scopes.specs.declared.entry.Entry.{Entry}
use Rattle.es_scopes.specs.declared.entry.Entry.TheVariants as entry
use Rattle.es_scopes.specs.declared.flags.SymbolFlags.{SymbolFlags}
use Rattle.es_scopes.specs.declared.surroundings.Declarer.{Declarer}
use Rattle.es_scopes.specs.declared.surroundings.Declarer.TheVariants as declarer
use Rattle.es_scopes.specs.declared.table.Symbol.{Symbol}
use Rattle.es_scopes.proofs.OrderLemmas.{entries-ordered}
use Rattle.es_scopes.proofs.RowLemmas.{slice_get-changed_at_same, slice_get-changed_at_other, slice_get-push_within, slice_get-push_last}
use Rattle.es_scopes.proofs.TableSteps.{scopes-declare}
use Rattle.es_scopes_law.proofs.Declarers.{Made, made-declare, Changes, of_name, of_symbol, next_of, after_entry, after-declare, is_at, at-same, entry_is, who_is, who-declare}
use Rattle.es_scopes_law.proofs.Seen.{spelled, made-none}

abbrev pub mark_of : Option Symbol → Bool
mark_of o = unwrap_or (option_map (λ (x : Symbol). x.is_marked) o) false

abbrev pub is_marked_at : Table → SymbolId → Bool
is_marked_at t y = mark_of (symbol_at t y)

abbrev marks : Declarations → SymbolId → Bool
marks d y = is_marked_at d.scoping y

abbrev first_mark : Declarer → SymbolFlags → Bool → Bool
first_mark who flags head = head

abbrev more_mark : Bool → Declarer → Declarer → SymbolFlags → Bool → Bool
more_mark a old who flags head = a || (head || repeats old who)

first-marked : (head : Bool) (symbols : List Symbol) (x : Symbol) (t : Table) → x.is_marked ≡ false → mark_of (slice_get (marked_if head (record { 0 = length symbols }) (record t { symbols = symbols ++ x ∷ [] })).symbols (length symbols)) ≡ head
first-marked true symbols x t h = ap mark_of (slice_get-changed_at_same marked (length symbols) (symbols ++ x ∷ []) ∙ ap (option_map marked) (slice_get-push_last symbols x))
first-marked false symbols x t h = ap mark_of (slice_get-push_last symbols x) ∙ h

first-other : (head : Bool) (symbols : List Symbol) (x : Symbol) (t : Table) (i : ℕ) → i < length symbols → mark_of (slice_get (marked_if head (record { 0 = length symbols }) (record t { symbols = symbols ++ x ∷ [] })).symbols i) ≡ mark_of (slice_get symbols i)
first-other true symbols x t i l = ap mark_of (slice_get-changed_at_other marked (length symbols) i (symbols ++ x ∷ []) (λ e. omega arith) ∙ slice_get-push_within symbols x i l)
first-other false symbols x t i l = ap mark_of (slice_get-push_within symbols x i l)

mark-flagged : (f : SymbolFlags) (o : Option Symbol) → mark_of (option_map (symbol_flagged f) o) ≡ mark_of o
mark-flagged f None = refl
mark-flagged f (Some x) = refl

some-marked : (o : Option Symbol) → is_some o ≡ true → mark_of (option_map marked o) ≡ true
some-marked None h = absurd (true≢false (sym h))
some-marked (Some x) h = refl

get-there : {X : Type 0} (xs : List X) (i : ℕ) → i < length xs → is_some (slice_get xs i) ≡ true
get-there [] i l = absurd (omega arith)
get-there (x ∷ xs) zero l = refl
get-there (x ∷ xs) (suc i) l = get-there xs i (omega arith)

is_some-map : (f : Symbol → Symbol) (o : Option Symbol) → is_some (option_map f o) ≡ is_some o
is_some-map f None = refl
is_some-map f (Some x) = refl

again-marked : (b : Bool) (t : Table) (y : SymbolId) (f : SymbolFlags) → y.0 < length t.symbols → mark_of (slice_get (marked_if b y (with_symbol_flags t y f)).symbols y.0) ≡ (mark_of (slice_get t.symbols y.0) || b)
again-marked true t y f l =
    let flagged = slice_get-changed_at_same (symbol_flagged f) y.0 t.symbols in
    ap mark_of (slice_get-changed_at_same marked y.0 (changed_at (symbol_flagged f) y.0 t.symbols) ∙ ap (option_map marked) flagged)
    ∙ some-marked (option_map (symbol_flagged f) (slice_get t.symbols y.0)) (is_some-map (symbol_flagged f) (slice_get t.symbols y.0) ∙ get-there t.symbols y.0 l)
    ∙ or_true (mark_of (slice_get t.symbols y.0))
  where
    or_true : (b : Bool) → true ≡ (b || true)
    or_true true = refl
    or_true false = refl
again-marked false t y f l = ap mark_of (slice_get-changed_at_same (symbol_flagged f) y.0 t.symbols) ∙ mark-flagged f (slice_get t.symbols y.0) ∙ or_false (mark_of (slice_get t.symbols y.0))
  where
    or_false : (b : Bool) → b ≡ (b || false)
    or_false true = refl
    or_false false = refl

again-other : (b : Bool) (t : Table) (y : SymbolId) (f : SymbolFlags) (i : ℕ) → i ≢ y.0 → mark_of (slice_get (marked_if b y (with_symbol_flags t y f)).symbols i) ≡ mark_of (slice_get t.symbols i)
again-other true t y f i other = ap mark_of (slice_get-changed_at_other marked y.0 i (changed_at (symbol_flagged f) y.0 t.symbols) other ∙ slice_get-changed_at_other (symbol_flagged f) y.0 i t.symbols other)
again-other false t y f i other = ap mark_of (slice_get-changed_at_other (symbol_flagged f) y.0 i t.symbols other)

mark-changes : Changes false marks first_mark more_mark
mark-changes = record {
  opens = λ d p b f y. refl;
  old = λ d s who name flags head y made l. first-other head d.scoping.symbols (new_symbol name s flags) (with_binding d.scoping s name flags) y.0 l;
  new = λ d s who name flags head made. first-marked head d.scoping.symbols (new_symbol name s flags) (with_binding d.scoping s name flags) refl;
  again = λ d y who flags head made l. again-marked (head || repeats (declarer_at d.declarers y) who) d.scoping y (flags_with (declarer_at d.declarers y) who (flags_of d.scoping y) flags) l;
  others = λ d y z who flags head other. again-other (head || repeats (declarer_at d.declarers y) who) d.scoping y (flags_with (declarer_at d.declarers y) who (flags_of d.scoping y) flags) z.0 other;
}

-- ---- identifiers beside own names

abbrev pub is_beside : Declarer → Bool
is_beside who = not (is_own_name who)

pub beside-both : (a b : Declarer) → is_beside (joined a b) ≡ (is_beside b || is_beside a)
beside-both declarer.OwnName declarer.OwnName = refl
beside-both declarer.OwnName declarer.Parameter = refl
beside-both declarer.OwnName declarer.Other = refl
beside-both declarer.Parameter declarer.OwnName = refl
beside-both declarer.Parameter declarer.Parameter = refl
beside-both declarer.Parameter declarer.Other = refl
beside-both declarer.Other declarer.OwnName = refl
beside-both declarer.Other declarer.Parameter = refl
beside-both declarer.Other declarer.Other = refl

abbrev mark_named : Declarations → ℕ → List ℕ → Bool
mark_named d q x = of_name false marks first_mark more_mark d q x

abbrev beside_named : Declarations → ℕ → List ℕ → Bool
beside_named d q x = of_name false (who_is is_beside beside-both) (λ who flags head. is_beside who) (λ a old who flags head. a || is_beside who) d q x

-- an entry of the name in the head of a for-in or for-of
abbrev pub entry_head : ℕ → List ℕ → Entry → Bool
entry_head q x (entry.Binding node (Some s) who name flags head) = is_at q x s name && head
entry_head q x e = false

abbrev pub some_head : ℕ → List ℕ → List Entry → Bool
some_head q x [] = false
some_head q x (e ∷ es) = entry_head q x e || some_head q x es

repeats-beside : (old who : Declarer) → repeats old who ≡ (is_beside old && is_beside who)
repeats-beside declarer.OwnName who = refl
repeats-beside declarer.Parameter declarer.OwnName = refl
repeats-beside declarer.Parameter declarer.Parameter = refl
repeats-beside declarer.Parameter declarer.Other = refl
repeats-beside declarer.Other declarer.OwnName = refl
repeats-beside declarer.Other declarer.Parameter = refl
repeats-beside declarer.Other declarer.Other = refl

or-false : (b : Bool) → b ≡ (b || false)
or-false true = refl
or-false false = refl

-- a mark after an entry
mark-declare : (d : Declarations) (e : Entry) (q : ℕ) (x : List ℕ) → Made d → Fits (length d.scoping.scopes) e → mark_named (declare d e) q x ≡ (mark_named d q x || (entry_head q x e || (beside_named d q x && entry_is is_beside q x e)))
mark-declare d e q x made fits = after-declare false marks first_mark more_mark mark-changes d e q x made fits ∙ by e
  where
    nothing : (a b : Bool) → a ≡ (a || (false || (b && false)))
    nothing true b = refl
    nothing false true = refl
    nothing false false = refl

    here : (o : Option SymbolId) (who : Declarer) (flags : SymbolFlags) (head : Bool) → next_of false marks first_mark more_mark d o who flags head ≡ (of_symbol false marks first_mark more_mark d o || (head || (of_symbol false (who_is is_beside beside-both) (λ who flags head. is_beside who) (λ a old who flags head. a || is_beside who) d o && is_beside who)))
    here None who flags true = refl
    here None who flags false = refl
    here (Some y) who flags head = ap (λ b. is_marked_at d.scoping y || (head || b)) (repeats-beside (declarer_at d.declarers y) who)

    at-named : (node_name : List ℕ) (s : ScopeId) (who : Declarer) (flags : SymbolFlags) (head b : Bool) → is_at q x s node_name ≡ b → cond b (next_of false marks first_mark more_mark d (get_binding d.scoping s node_name) who flags head) (mark_named d q x) ≡ (mark_named d q x || ((b && head) || (beside_named d q x && (b && is_beside who))))
    at-named name s who flags head false e = nothing (mark_named d q x) (beside_named d q x)
    at-named name s who flags head true e =
        let same = at-same q x s name e in
        here (get_binding d.scoping s name) who flags head
        ∙ (λ i. of_symbol false marks first_mark more_mark d (get_binding d.scoping (record { 0 = sym same.0 i }) (sym same.1 i)) || (head || (of_symbol false (who_is is_beside beside-both) (λ who flags head. is_beside who) (λ a old who flags head. a || is_beside who) d (get_binding d.scoping (record { 0 = sym same.0 i }) (sym same.1 i)) && is_beside who)))

    by : (e : Entry) → after_entry false marks first_mark more_mark d q x e ≡ (mark_named d q x || (entry_head q x e || (beside_named d q x && entry_is is_beside q x e)))
    by (entry.Scope node parent in_parameters flags) = nothing (mark_named d q x) (beside_named d q x)
    by (entry.Body node) = nothing (mark_named d q x) (beside_named d q x)
    by (entry.Binding node None who name flags head) = nothing (mark_named d q x) (beside_named d q x)
    by (entry.Binding node (Some s) who name flags head) = at-named name s who flags head (is_at q x s name) refl
    by (entry.Reference node scope in_parameters name flags) = nothing (mark_named d q x) (beside_named d q x)

-- ---- after all entries

-- how many identifiers of the name the scope has, own names aside
abbrev pub many_beside : ℕ → List ℕ → List Entry → ℕ
many_beside q x es = held_weight (spelled is_beside x) q es

abbrev pub two : ℕ → Bool
two zero = false
two (suc zero) = false
two (suc (suc n)) = true

pub weight-entry : (e : Entry) (es : List Entry) (q : ℕ) (x : List ℕ) → many_beside q x (e ∷ es) ≡ one_if (entry_is is_beside q x e) + many_beside q x es
weight-entry (entry.Scope node parent in_parameters flags) es q x = omega arith
weight-entry (entry.Body node) es q x = omega arith
weight-entry (entry.Binding node None who name flags head) es q x = omega arith
weight-entry (entry.Binding node (Some s) who name flags head) es q x = ap (λ (n : ℕ). n + many_beside q x es) (by (nat_eq s.0 q) (bytes_eq x name) (is_beside who))
  where
    by : (a b c : Bool) → cond a (one_if (b && c)) 0 ≡ one_if ((a && b) && c)
    by true b c = refl
    by false b c = refl
weight-entry (entry.Reference node scope in_parameters name flags) es q x = omega arith

-- m: marked so far; b: an identifier so far; h, w: what the entry adds; hs, n: what others add
mark-step : (m b h w hs : Bool) (n : ℕ) → ((m || (h || (b && w))) || (hs || two (one_if (b || w) + n))) ≡ (m || ((h || hs) || two (one_if b + (one_if w + n))))
mark-step true b h w hs n = refl
mark-step false b true w hs n = refl
mark-step false true false true hs n = let e : 1 + (1 + n) ≡ suc (suc n) = omega arith in or-true hs (two (1 + (1 + n))) (ap two e)
  where
    or-true : (a b : Bool) → b ≡ true → true ≡ (a || b)
    or-true true b e = refl
    or-true false b e = sym e
mark-step false true false false hs n = let e : 1 + n ≡ 1 + (0 + n) = omega arith in ap (λ (k : ℕ). hs || two k) e
mark-step false false false true hs n = let e : 1 + n ≡ 0 + (1 + n) = omega arith in ap (λ (k : ℕ). hs || two k) e
mark-step false false false false hs n = let e : 0 + n ≡ 0 + (0 + n) = omega arith in ap (λ (k : ℕ). hs || two k) e

mark-declared : (d : Declarations) (es : List Entry) (q : ℕ) (x : List ℕ) → Made d → AreOrdered (length d.scoping.scopes) es → mark_named (declared d es) q x ≡ (mark_named d q x || (some_head q x es || two (one_if (beside_named d q x) + many_beside q x es)))
mark-declared d [] q x made ordered = by (mark_named d q x) (beside_named d q x)
  where
    by : (m b : Bool) → m ≡ (m || (false || two (one_if b + 0)))
    by true b = refl
    by false true = refl
    by false false = refl
mark-declared d (e ∷ es) q x made ordered =
    mark-declared (declare d e) es q x (made-declare d e ordered.0 made) (subst (λ (n : ℕ). AreOrdered n es) (sym (scopes-declare d e)) ordered.1)
    ∙ (λ i. mark-declare d e q x made ordered.0 i || (some_head q x es || two (one_if (who-declare is_beside beside-both d e q x made ordered.0 i) + many_beside q x es)))
    ∙ mark-step (mark_named d q x) (beside_named d q x) (entry_head q x e) (entry_is is_beside q x e) (some_head q x es) (many_beside q x es)
    ∙ ap (λ (n : ℕ). mark_named d q x || (some_head q x (e ∷ es) || two (one_if (beside_named d q x) + n))) (sym (weight-entry e es q x))

-- the mark of the symbol of a name of a program
pub marks-declared : (t : Tree) (q : ScopeId) (x : List ℕ) (y : SymbolId) → get_binding (declared none_declared (entries_of t)).scoping q x ≡ Some y → is_marked_at (declared none_declared (entries_of t)).scoping y ≡ (some_head q.0 x (entries_of t) || two (many_beside q.0 x (entries_of t)))
marks-declared t q x y e =
    ap (of_symbol false marks first_mark more_mark (declared none_declared (entries_of t))) (sym e)
    ∙ mark-declared none_declared (entries_of t) q.0 x made-none (entries-ordered t)
    ∙ (let same : 0 + many_beside q.0 x (entries_of t) ≡ many_beside q.0 x (entries_of t) = omega arith in ap (λ (n : ℕ). some_head q.0 x (entries_of t) || two n) same)
