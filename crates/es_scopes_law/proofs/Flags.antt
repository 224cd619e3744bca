-- The flags and marks of the symbols of a built table.
use Rattle.std.proofs.Common.{◌≡◌, refl, sym, ap, subst, ◌∙◌, ℕ, zero, suc, ◌+◌, ◌<◌, List, [], ◌∷◌, ◌++◌, length, nat_eq, nat_le, Bool, true, false, true≢false, cond, ◌&&◌, ◌||◌, Option, Some, None, inl, inr, bit_or, arith}
use Rattle.std.specs.Prelude.{option_map, slice_get, is_some, bytes_eq, unwrap_or}
use Rattle.std.specs.List.{list_any}
use Rattle.std.proofs.lemmas.Bool.Decides.{nat_tests}
use Rattle.std.proofs.lemmas.Nat.Bits.{bit_at_or, same_from_bits}
use lib.Bits.{or_zero_r}
use Rattle.es_base.specs.Preorder.{one_if}
use Rattle.es_base.specs.Tree.{Tree}
use Rattle.es_base.specs.declared.ids.ScopeId.{ScopeId}
use Rattle.es_base.specs.declared.ids.SymbolId.{SymbolId}
use Rattle.es_scopes.specs.Bindings.{lookup}
use Rattle.es_scopes.specs.Built.{built_table}
use Rattle.es_scopes.specs.Entries.{entries_of}
use Rattle.es_scopes.specs.NodeBindings.{NodeBinding, all_flags, symbol_flags}
use Rattle.es_scopes.specs.Table.{Table, symbol_at, row_at, names_of_row, get_binding, changed_at, listing, marked, symbol_flagged, new_symbol, with_binding, with_symbol_flags, with_created_reference}
use Rattle.es_scopes.specs.Tables.{marked_if, flags_of, flags_with, repeats, joined, declare, declared, none_declared, is_own_name, declarer_at, meant, referred, number, numbered, Fits, AreOrdered}
use Rattle.es_scopes.specs.declared.declare.Declarations.{Declarations}
use Rattle.es_scopes.specs.declared.entry.Entry.{Entry}
use Rattle.es_scopes.specs.declared.entry.Entry.TheVariants as entry
use Rattle.es_scopes.specs.declared.flags.ReferenceFlags.{ReferenceFlags}
use Rattle.es_scopes.specs.declared.flags.SymbolFlags.{SymbolFlags}
use Rattle.es_scopes.specs.declared.refer.Numbering.{Numbering}
use Rattle.es_scopes.specs.declared.surroundings.Declarer.{Declarer}
use Rattle.es_scopes.specs.declared.surroundings.Declarer.TheVariants as declarer
use Rattle.es_scopes.specs.declared.table.Scope.{Scope}
use Rattle.es_scopes.specs.declared.table.Symbol.{Symbol}
use Rattle.es_scopes.proofs.NameLemmas.{symbol-there}
use Rattle.es_scopes.proofs.OrderLemmas.{entries-ordered}
use Rattle.es_scopes.proofs.RowLemmas.{same_or_other, slice_get-changed_at_same, slice_get-changed_at_other, slice_get-push_within, slice_get-push_last}
use Rattle.es_scopes.proofs.TableShown.{numbered-rows}
use Rattle.es_scopes.proofs.TableSteps.{scopes-declare}
use Rattle.es_scopes_law.specs.Symbols.{Declaring, declaring, bindings, beside, or_all, counted, is_marked}
use Rattle.es_scopes_law.proofs.Declarers.{Made, made-declare, Changes, of_name, of_symbol, next_of, after_entry, after-declare, is_at, at-same, declarer-changed}
use Rattle.es_scopes_law.proofs.Held.{built-table}
use Rattle.es_scopes_law.proofs.Listed.{mark-built}
use Rattle.es_scopes_law.proofs.Marks.{mark_of, is_beside, many_beside, some_head, two, marks-declared, weight-entry}
use Rattle.es_scopes_law.proofs.Seen.{made-none}

-- ---- flags of all

or-assoc : (a b c : ℕ) → bit_or (bit_or a b) c ≡ bit_or a (bit_or b c)
or-assoc a b c = same_from_bits (bit_or (bit_or a b) c) (bit_or a (bit_or b c)) (λ i. omega (arith, bit_at_or (bit_or a b) c i, bit_at_or a b i, bit_at_or a (bit_or b c) i, bit_at_or b c i))

or-zero : (a : ℕ) → bit_or a 0 ≡ a
or-zero a = or_zero_r a

-- what declares a name so far, and with which flags
abbrev next_who : Option Declarer → Declarer → Option Declarer
next_who None who = Some who
next_who (Some old) who = Some (joined who old)

abbrev next_flags : Option Declarer → SymbolFlags → Declarer → SymbolFlags → SymbolFlags
next_flags None f who flags = flags
next_flags (Some old) f who flags = flags_with old who f flags

abbrev flags_after : Option Declarer → SymbolFlags → List Declaring → SymbolFlags
flags_after o f [] = f
flags_after o f (d ∷ ds) = flags_after (next_who o d.who) (next_flags o f d.who (record { 0 = d.binding.flags })) ds

abbrev flagged_with : SymbolFlags → List NodeBinding → SymbolFlags
flagged_with f bs = record { 0 = bit_or f.0 (all_flags bs) }

more-flags : (f : SymbolFlags) (b : NodeBinding) (bs : List NodeBinding) → flagged_with (record { 0 = bit_or f.0 b.flags }) bs ≡ flagged_with f (b ∷ bs)
more-flags f b bs = ap (λ (n : ℕ). record { 0 = n }) (or-assoc f.0 b.flags (all_flags bs))

no-flags : (f : SymbolFlags) → f ≡ flagged_with f []
no-flags f = ap (λ (n : ℕ). record { 0 = n }) (sym (or-zero f.0))

-- behind an identifier that is no own name
beside-step : (old who : Declarer) (f : SymbolFlags) (b : NodeBinding) (ds : List Declaring) → is_own_name old ≡ false → ((o : Declarer) (g : SymbolFlags) → is_own_name o ≡ false → flags_after (Some o) g ds ≡ flagged_with g (beside ds))
    → flags_after (Some (joined who old)) (flags_with old who f (record { 0 = b.flags })) ds ≡ flagged_with f (cond (is_own_name who) (beside ds) (b ∷ beside ds))
beside-step declarer.OwnName who f b ds h rest = absurd (true≢false h)
beside-step declarer.Parameter declarer.OwnName f b ds h rest = rest declarer.Parameter f refl
beside-step declarer.Parameter declarer.Parameter f b ds h rest = rest declarer.Parameter (record { 0 = bit_or f.0 b.flags }) refl ∙ more-flags f b (beside ds)
beside-step declarer.Parameter declarer.Other f b ds h rest = rest declarer.Parameter (record { 0 = bit_or f.0 b.flags }) refl ∙ more-flags f b (beside ds)
beside-step declarer.Other declarer.OwnName f b ds h rest = rest declarer.Parameter f refl
beside-step declarer.Other declarer.Parameter f b ds h rest = rest declarer.Parameter (record { 0 = bit_or f.0 b.flags }) refl ∙ more-flags f b (beside ds)
beside-step declarer.Other declarer.Other f b ds h rest = rest declarer.Other (record { 0 = bit_or f.0 b.flags }) refl ∙ more-flags f b (beside ds)

after-beside : (ds : List Declaring) (old : Declarer) (f : SymbolFlags) → is_own_name old ≡ false → flags_after (Some old) f ds ≡ flagged_with f (beside ds)
after-beside [] old f h = no-flags f
after-beside (d ∷ ds) old f h = beside-step old d.who f d.binding ds h (after-beside ds)

-- behind own names alone
abbrev own_or : SymbolFlags → List NodeBinding → List NodeBinding → SymbolFlags
own_or f [] all = flagged_with f all
own_or f (b ∷ bs) all = record { 0 = all_flags (b ∷ bs) }

own-more : (f : SymbolFlags) (b : NodeBinding) (bs all : List NodeBinding) → own_or (record { 0 = bit_or f.0 b.flags }) bs all ≡ own_or f bs (b ∷ all)
own-more f b [] all = more-flags f b all
own-more f b (c ∷ bs) all = refl

own-step : (who : Declarer) (f : SymbolFlags) (b : NodeBinding) (ds : List Declaring) → ((g : SymbolFlags) → flags_after (Some declarer.OwnName) g ds ≡ own_or g (beside ds) (bindings ds))
    → flags_after (Some (joined who declarer.OwnName)) (flags_with declarer.OwnName who f (record { 0 = b.flags })) ds ≡ own_or f (cond (is_own_name who) (beside ds) (b ∷ beside ds)) (b ∷ bindings ds)
own-step declarer.OwnName f b ds rest = rest (record { 0 = bit_or f.0 b.flags }) ∙ own-more f b (beside ds) (bindings ds)
own-step declarer.Parameter f b ds rest = after-beside ds declarer.Parameter (record { 0 = b.flags }) refl
own-step declarer.Other f b ds rest = after-beside ds declarer.Parameter (record { 0 = b.flags }) refl

after-own : (ds : List Declaring) (f : SymbolFlags) → flags_after (Some declarer.OwnName) f ds ≡ own_or f (beside ds) (bindings ds)
after-own [] f = no-flags f
after-own (d ∷ ds) f = own-step d.who f d.binding ds (after-own ds)

own-counted : (b : NodeBinding) (bs all : List NodeBinding) → own_or (record { 0 = b.flags }) bs all ≡ symbol_flags (or_all bs (b ∷ all))
own-counted b [] all = refl
own-counted b (c ∷ bs) all = refl

-- the flags of a name are those that count
first-step : (who : Declarer) (b : NodeBinding) (ds : List Declaring) → flags_after (Some who) (record { 0 = b.flags }) ds ≡ symbol_flags (or_all (cond (is_own_name who) (beside ds) (b ∷ beside ds)) (b ∷ bindings ds))
first-step declarer.OwnName b ds = after-own ds (record { 0 = b.flags }) ∙ own-counted b (beside ds) (bindings ds)
first-step declarer.Parameter b ds = after-beside ds declarer.Parameter (record { 0 = b.flags }) refl
first-step declarer.Other b ds = after-beside ds declarer.Other (record { 0 = b.flags }) refl

flags-counted : (ds : List Declaring) → flags_after None (record { 0 = 0 }) ds ≡ symbol_flags (counted ds)
flags-counted [] = refl
flags-counted (d ∷ ds) = first-step d.who d.binding ds

-- ---- the symbol of a name, entry by entry

abbrev flags_here : Declarations → SymbolId → SymbolFlags
flags_here d y = flags_of d.scoping y

abbrev first_flags : Declarer → SymbolFlags → Bool → SymbolFlags
first_flags who flags head = flags

abbrev more_flags : SymbolFlags → Declarer → Declarer → SymbolFlags → Bool → SymbolFlags
more_flags f old who flags head = flags_with old who f flags

abbrev no_flags_yet : SymbolFlags
no_flags_yet = record { 0 = 0 }

abbrev flags_in : Option Symbol → SymbolFlags
flags_in o = unwrap_or (option_map (λ (x : Symbol). x.flags) o) no_flags_yet

marked-flags : (o : Option Symbol) → flags_in (option_map marked o) ≡ flags_in o
marked-flags None = refl
marked-flags (Some x) = refl

flagged-flags : (f : SymbolFlags) (o : Option Symbol) → is_some o ≡ true → flags_in (option_map (symbol_flagged f) o) ≡ f
flagged-flags f None h = absurd (true≢false (sym h))
flagged-flags f (Some x) h = refl

get-there : {X : Type 0} (xs : List X) (i : ℕ) → i < length xs → is_some (slice_get xs i) ≡ true
get-there [] i l = absurd (omega arith)
get-there (x ∷ xs) zero l = refl
get-there (x ∷ xs) (suc i) l = get-there xs i (omega arith)

marked_if-flags : (b : Bool) (y : SymbolId) (t : Table) (i : ℕ) → flags_in (slice_get (marked_if b y t).symbols i) ≡ flags_in (slice_get t.symbols i)
marked_if-flags false y t i = refl
marked_if-flags true y t i = elim (same_or_other i y.0) [
  | inl same ↦ subst (λ (k : ℕ). flags_in (slice_get (changed_at marked y.0 t.symbols) k) ≡ flags_in (slice_get t.symbols k)) (sym same) (ap flags_in (slice_get-changed_at_same marked y.0 t.symbols) ∙ marked-flags (slice_get t.symbols y.0))
  | inr other ↦ ap flags_in (slice_get-changed_at_other marked y.0 i t.symbols other)
]

flags-changes : Changes no_flags_yet flags_here first_flags more_flags
flags-changes = record {
  opens = λ d p b f y. refl;
  old = λ d s who name flags head y made l. marked_if-flags head (record { 0 = length d.scoping.symbols }) (with_binding d.scoping s name flags) y.0 ∙ ap flags_in (slice_get-push_within d.scoping.symbols (new_symbol name s flags) y.0 l);
  new = λ d s who name flags head made. marked_if-flags head (record { 0 = length d.scoping.symbols }) (with_binding d.scoping s name flags) (length d.scoping.symbols) ∙ ap flags_in (slice_get-push_last d.scoping.symbols (new_symbol name s flags));
  again = λ d y who flags head made l.
      let f = flags_with (declarer_at d.declarers y) who (flags_of d.scoping y) flags in
      marked_if-flags (head || repeats (declarer_at d.declarers y) who) y (with_symbol_flags d.scoping y f) y.0
      ∙ ap flags_in (slice_get-changed_at_same (symbol_flagged f) y.0 d.scoping.symbols)
      ∙ flagged-flags f (slice_get d.scoping.symbols y.0) (get-there d.scoping.symbols y.0 l);
  others = λ d y z who flags head other.
      let f = flags_with (declarer_at d.declarers y) who (flags_of d.scoping y) flags in
      marked_if-flags (head || repeats (declarer_at d.declarers y) who) y (with_symbol_flags d.scoping y f) z.0
      ∙ ap flags_in (slice_get-changed_at_other (symbol_flagged f) y.0 z.0 d.scoping.symbols other);
}

abbrev who_here : Declarations → SymbolId → Option Declarer
who_here d y = Some (declarer_at d.declarers y)

abbrev first_who : Declarer → SymbolFlags → Bool → Option Declarer
first_who who flags head = Some who

abbrev more_who : Option Declarer → Declarer → Declarer → SymbolFlags → Bool → Option Declarer
more_who o old who flags head = Some (joined who old)

who-changes : Changes None who_here first_who more_who
who-changes = record {
  opens = λ d p b f y. refl;
  old = λ d s who name flags head y made l. ap (λ o. Some (unwrap_or o declarer.Other)) (slice_get-push_within d.declarers who y.0 (omega (arith, made.many)));
  new = λ d s who name flags head made. ap (λ o. Some (unwrap_or o declarer.Other)) (ap (slice_get (d.declarers ++ who ∷ [])) (sym made.many) ∙ slice_get-push_last d.declarers who);
  again = λ d y who flags head made l. ap (λ w. Some w) (declarer-changed d.declarers (joined who) y (omega (arith, made.many)));
  others = λ d y z who flags head other. ap (λ o. Some (unwrap_or o declarer.Other)) (slice_get-changed_at_other (joined who) y.0 z.0 d.declarers other);
}

abbrev flags_named : Declarations → ScopeId → List ℕ → SymbolFlags
flags_named d s x = of_name no_flags_yet flags_here first_flags more_flags d s.0 x

abbrev who_named : Declarations → ScopeId → List ℕ → Option Declarer
who_named d s x = of_name None who_here first_who more_who d s.0 x

-- what an entry declares of a name
abbrev declared_by : ScopeId → List ℕ → Entry → List Declaring
declared_by s x e = declaring s x (e ∷ [])

declaring-more : (s : ScopeId) (x : List ℕ) (e : Entry) (es : List Entry) → declaring s x (e ∷ es) ≡ declared_by s x e ++ declaring s x es
declaring-more s x (entry.Scope node parent in_parameters flags) es = refl
declaring-more s x (entry.Body node) es = refl
declaring-more s x (entry.Binding node None who name flags head) es = refl
declaring-more s x (entry.Binding node (Some q) who name flags head) es = by (nat_eq q.0 s.0 && bytes_eq x name)
  where
    by : (b : Bool) → cond b (record { who = who; binding = record { node = node.0; name = name; flags = flags.0; head_var = head } } ∷ []) [] ++ declaring s x es ≡ (cond b (record { who = who; binding = record { node = node.0; name = name; flags = flags.0; head_var = head } } ∷ []) [] ++ []) ++ declaring s x es
    by true = refl
    by false = refl
declaring-more s x (entry.Reference node scope in_parameters name flags) es = refl

abbrev who_after : Option Declarer → List Declaring → Option Declarer
who_after o [] = o
who_after o (d ∷ ds) = who_after (next_who o d.who) ds

flags-append : (o : Option Declarer) (f : SymbolFlags) (ds es : List Declaring) → flags_after o f (ds ++ es) ≡ flags_after (who_after o ds) (flags_after o f ds) es
flags-append o f [] es = refl
flags-append o f (d ∷ ds) es = flags-append (next_who o d.who) (next_flags o f d.who (record { 0 = d.binding.flags })) ds es

-- one entry more
module _ (d : Declarations) (s : ScopeId) (x : List ℕ) (made : Made d) where
  here-flags : (o : Option SymbolId) (who : Declarer) (flags : SymbolFlags) (head : Bool) → next_of no_flags_yet flags_here first_flags more_flags d o who flags head ≡ next_flags (of_symbol None who_here first_who more_who d o) (of_symbol no_flags_yet flags_here first_flags more_flags d o) who flags
  here-flags None who flags head = refl
  here-flags (Some y) who flags head = refl

  here-who : (o : Option SymbolId) (who : Declarer) (flags : SymbolFlags) (head : Bool) → next_of None who_here first_who more_who d o who flags head ≡ next_who (of_symbol None who_here first_who more_who d o) who
  here-who None who flags head = refl
  here-who (Some y) who flags head = refl

  flags-declare : (e : Entry) → Fits (length d.scoping.scopes) e → flags_named (declare d e) s x ≡ flags_after (who_named d s x) (flags_named d s x) (declared_by s x e)
  flags-declare e fits = after-declare no_flags_yet flags_here first_flags more_flags flags-changes d e s.0 x made fits ∙ by e
    where
      by : (e : Entry) → after_entry no_flags_yet flags_here first_flags more_flags d s.0 x e ≡ flags_after (who_named d s x) (flags_named d s x) (declared_by s x e)
      by (entry.Scope node parent in_parameters flags) = refl
      by (entry.Body node) = refl
      by (entry.Binding node None who name flags head) = refl
      by (entry.Binding node (Some q) who name flags head) = at (is_at s.0 x q name) refl
        where
          at : (b : Bool) → is_at s.0 x q name ≡ b → cond b (next_of no_flags_yet flags_here first_flags more_flags d (get_binding d.scoping q name) who flags head) (flags_named d s x) ≡ flags_after (who_named d s x) (flags_named d s x) (cond b (record { who = who; binding = record { node = node.0; name = name; flags = flags.0; head_var = head } } ∷ []) [] ++ [])
          at false e = refl
          at true e =
              let same = at-same s.0 x q name e in
              here-flags (get_binding d.scoping q name) who flags head
              ∙ (λ i. next_flags (of_symbol None who_here first_who more_who d (get_binding d.scoping (record { 0 = sym same.0 i }) (sym same.1 i))) (of_symbol no_flags_yet flags_here first_flags more_flags d (get_binding d.scoping (record { 0 = sym same.0 i }) (sym same.1 i))) who flags)
      by (entry.Reference node scope in_parameters name flags) = refl

  who-declare : (e : Entry) → Fits (length d.scoping.scopes) e → who_named (declare d e) s x ≡ who_after (who_named d s x) (declared_by s x e)
  who-declare e fits = after-declare None who_here first_who more_who who-changes d e s.0 x made fits ∙ by e
    where
      by : (e : Entry) → after_entry None who_here first_who more_who d s.0 x e ≡ who_after (who_named d s x) (declared_by s x e)
      by (entry.Scope node parent in_parameters flags) = refl
      by (entry.Body node) = refl
      by (entry.Binding node None who name flags head) = refl
      by (entry.Binding node (Some q) who name flags head) = at (is_at s.0 x q name) refl
        where
          at : (b : Bool) → is_at s.0 x q name ≡ b → cond b (next_of None who_here first_who more_who d (get_binding d.scoping q name) who flags head) (who_named d s x) ≡ who_after (who_named d s x) (cond b (record { who = who; binding = record { node = node.0; name = name; flags = flags.0; head_var = head } } ∷ []) [] ++ [])
          at false e = refl
          at true e =
              let same = at-same s.0 x q name e in
              here-who (get_binding d.scoping q name) who flags head
              ∙ (λ i. next_who (of_symbol None who_here first_who more_who d (get_binding d.scoping (record { 0 = sym same.0 i }) (sym same.1 i))) who)
      by (entry.Reference node scope in_parameters name flags) = refl

flags-declared : (d : Declarations) (es : List Entry) (s : ScopeId) (x : List ℕ) → Made d → AreOrdered (length d.scoping.scopes) es → flags_named (declared d es) s x ≡ flags_after (who_named d s x) (flags_named d s x) (declaring s x es)
flags-declared d [] s x made ordered = refl
flags-declared d (e ∷ es) s x made ordered =
    flags-declared (declare d e) es s x (made-declare d e ordered.0 made) (subst (λ (n : ℕ). AreOrdered n es) (sym (scopes-declare d e)) ordered.1)
    ∙ (λ i. flags_after (who-declare d s x made e ordered.0 i) (flags-declare d s x made e ordered.0 i) (declaring s x es))
    ∙ sym (flags-append (who_named d s x) (flags_named d s x) (declared_by s x e) (declaring s x es))
    ∙ ap (flags_after (who_named d s x) (flags_named d s x)) (sym (declaring-more s x e es))

-- ---- flags stay while references are entered

listed-flags : (r : ℕ) (o : Option Symbol) → flags_in (option_map (listing r) o) ≡ flags_in o
listed-flags r None = refl
listed-flags r (Some x) = refl

created-flags : (t : Table) (o : Option SymbolId) (f : ReferenceFlags) (y : ℕ) → flags_in (slice_get (with_created_reference t o f).symbols y) ≡ flags_in (slice_get t.symbols y)
created-flags t None f y = refl
created-flags t (Some z) f y = elim (same_or_other y z.0) [
  | inl same ↦ subst (λ (i : ℕ). flags_in (slice_get (changed_at (listing (length t.references)) z.0 t.symbols) i) ≡ flags_in (slice_get t.symbols i)) (sym same) (ap flags_in (slice_get-changed_at_same (listing (length t.references)) z.0 t.symbols) ∙ listed-flags (length t.references) (slice_get t.symbols z.0))
  | inr other ↦ ap flags_in (slice_get-changed_at_other (listing (length t.references)) z.0 y t.symbols other)
]

referred-flags : (d : Declarations) (e : Entry) (y : ℕ) → flags_in (slice_get (referred d e).scoping.symbols y) ≡ flags_in (slice_get d.scoping.symbols y)
referred-flags d (entry.Scope node parent in_parameters flags) y = refl
referred-flags d (entry.Body node) y = refl
referred-flags d (entry.Binding node holder who name flags head) y = refl
referred-flags d (entry.Reference node scope in_parameters name flags) y = created-flags d.scoping (meant d scope in_parameters name) flags y

numbered-flags : (n : Numbering) (es : List Entry) (y : ℕ) → flags_in (slice_get (numbered n es).declarations.scoping.symbols y) ≡ flags_in (slice_get n.declarations.scoping.symbols y)
numbered-flags n [] y = refl
numbered-flags n (e ∷ es) y = numbered-flags (number n e) es y ∙ referred-flags n.declarations e y

-- ---- marks

some-any : (s : ScopeId) (x : List ℕ) (es : List Entry) → some_head s.0 x es ≡ list_any (λ b. b.head_var) (bindings (declaring s x es))
some-any s x [] = refl
some-any s x (entry.Scope node parent in_parameters flags ∷ es) = some-any s x es
some-any s x (entry.Body node ∷ es) = some-any s x es
some-any s x (entry.Binding node None who name flags head ∷ es) = some-any s x es
some-any s x (entry.Binding node (Some q) who name flags head ∷ es) = by (nat_eq q.0 s.0 && bytes_eq x name) (some-any s x es)
  where
    by : (b : Bool) → some_head s.0 x es ≡ list_any (λ b. b.head_var) (bindings (declaring s x es)) → ((b && head) || some_head s.0 x es) ≡ list_any (λ b. b.head_var) (bindings (cond b (record { who = who; binding = record { node = node.0; name = name; flags = flags.0; head_var = head } } ∷ []) [] ++ declaring s x es))
    by true rest = ap (λ r. head || r) rest
    by false rest = rest
some-any s x (entry.Reference node scope in_parameters name flags ∷ es) = some-any s x es

many-length : (s : ScopeId) (x : List ℕ) (es : List Entry) → many_beside s.0 x es ≡ length (beside (declaring s x es))
many-length s x [] = refl
many-length s x (entry.Scope node parent in_parameters flags ∷ es) = many-length s x es
many-length s x (entry.Body node ∷ es) = many-length s x es
many-length s x (entry.Binding node None who name flags head ∷ es) = omega (arith, many-length s x es)
many-length s x (entry.Binding node (Some q) who name flags head ∷ es) = weight-entry (entry.Binding node (Some q) who name flags head) es s.0 x ∙ by (nat_eq q.0 s.0 && bytes_eq x name) who (many-length s x es)
  where
    by : (b : Bool) (w : Declarer) → many_beside s.0 x es ≡ length (beside (declaring s x es)) → one_if (b && is_beside w) + many_beside s.0 x es ≡ length (beside (cond b (record { who = w; binding = record { node = node.0; name = name; flags = flags.0; head_var = head } } ∷ []) [] ++ declaring s x es))
    by false w rest = omega (arith, rest)
    by true declarer.OwnName rest = omega (arith, rest)
    by true declarer.Parameter rest = omega (arith, rest)
    by true declarer.Other rest = omega (arith, rest)
many-length s x (entry.Reference node scope in_parameters name flags ∷ es) = many-length s x es

two-le : (n : ℕ) → two n ≡ nat_le 2 n
two-le zero = refl
two-le (suc zero) = refl
two-le (suc (suc n)) = grind (arith, nat_tests)

-- ---- the symbols of a built table

some-row : (o : Option Symbol) → is_some o ≡ true → (x : Symbol) × (o ≡ Some x)
some-row None h = absurd (true≢false (sym h))
some-row (Some x) h = (x, refl)

module _ (t : Tree) (s : ScopeId) (x : List ℕ) (y : SymbolId) (held : get_binding (built_table t) s x ≡ Some y) where
  held-declared : get_binding (declared none_declared (entries_of t)).scoping s x ≡ Some y
  held-declared = ap (λ (l : List (Option Scope)). lookup x (names_of_row (row_at l s.0))) (sym (numbered-rows (record { declarations = declared none_declared (entries_of t); ids = []; next_scope = 0 }) (entries_of t))) ∙ held

  there : is_some (symbol_at (built_table t) y) ≡ true
  there = symbol-there (built_table t) y x s ((built-table t).named s x y held)

  pub flags-built : option_map (λ (r : Symbol). r.flags) (symbol_at (built_table t) y) ≡ Some (symbol_flags (counted (declaring s x (entries_of t))))
  flags-built =
      let row = some-row (symbol_at (built_table t) y) there in
      ap (option_map (λ (r : Symbol). r.flags)) row.1
      ∙ ap (λ (f : SymbolFlags). Some f) (sym (ap flags_in row.1)
      ∙ numbered-flags (record { declarations = declared none_declared (entries_of t); ids = []; next_scope = 0 }) (entries_of t) y.0
      ∙ ap (of_symbol no_flags_yet flags_here first_flags more_flags (declared none_declared (entries_of t))) (sym held-declared)
      ∙ flags-declared none_declared (entries_of t) s x made-none (entries-ordered t)
      ∙ flags-counted (declaring s x (entries_of t)))

  pub mark-is : option_map (λ (r : Symbol). r.is_marked) (symbol_at (built_table t) y) ≡ Some (is_marked (declaring s x (entries_of t)))
  mark-is =
      let row = some-row (symbol_at (built_table t) y) there in
      ap (option_map (λ (r : Symbol). r.is_marked)) row.1
      ∙ ap (λ b. Some b) (sym (ap mark_of row.1)
      ∙ mark-built t y.0
      ∙ marks-declared t s x y held-declared
      ∙ (λ i. some-any s x (entries_of t) i || (two-le (many_beside s.0 x (entries_of t)) ∙ ap (nat_le 2) (many-length s x (entries_of t))) i))
