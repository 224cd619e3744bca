-- The scopes among the entries of a tree are those of `scopes_of`, by their flags.
use Rattle.std.proofs.Common.{◌≡◌, refl, sym, ap, subst, ◌∙◌, ℕ, suc, ◌+◌, List, [], ◌∷◌, ◌++◌, append_assoc, map, Bool, true, false, cond, not, ◌||◌, Some, None, arith}
use Rattle.std.specs.Prelude.{option_to_list}
use Rattle.std.proofs.lemmas.List.{map-append, append-nil}
use Rattle.es_base.specs.Tree.{Tree, Part, Parts, Node, end, more, child, absent, list, string, no_string, boolean, literal}
use Rattle.es_base.specs.declared.kind.Kind.{Kind}
use Rattle.es_scopes.specs.Entries.{Collected, binding, entry_of, entered, collected, collected_parts, collected_part, collected_items, nothing_yet, entries_of}
use Rattle.es_scopes.specs.NodeScopes as scopes
use Rattle.es_scopes.specs.NodeScopes.{NodeScope, own_scope, node_scopes, scopes_of_parts, scopes_of_part, scopes_of_items, scopes_of, outermost, opens, has_scope, is_strict, scope_flags}
use Rattle.es_steps.specs.Strict.{makes_strict}
use Rattle.es_scopes.specs.Shown.{scope_flags_in}
use Rattle.es_scopes.specs.Surroundings.{scope_place, inside, nowhere}
use Rattle.es_scopes.specs.declared.entry.Entry.{Entry}
use Rattle.es_scopes.specs.declared.entry.Entry.TheVariants as entry
use Rattle.es_scopes.specs.declared.flags.ScopeFlags.{ScopeFlags}
use Rattle.es_scopes.specs.declared.surroundings.Declares.{Declares}
use Rattle.es_scopes.specs.declared.surroundings.Declares.TheVariants as declares
use Rattle.es_scopes.specs.declared.surroundings.Surroundings.{Surroundings}
use Rattle.es_steps.specs.Parts.{at, string_of}

abbrev flags_of : List NodeScope → List ScopeFlags
flags_of xs = map (λ x. x.flags) xs

-- a place, by the numbers of nodes, and what is known there
pub record Alike (p : scopes.Place) (s : Surroundings) : Type 0 where
  pub strict : p.strict ≡ s.strict
  pub is_body : p.is_body ≡ s.is_body
  pub given : p.given ≡ s.given.0

scopes-append : (es fs : List Entry) → scope_flags_in (es ++ fs) ≡ scope_flags_in es ++ scope_flags_in fs
scopes-append [] fs = refl
scopes-append (entry.Scope node parent in_parameters flags ∷ es) fs = ap (λ l. flags ∷ l) (scopes-append es fs)
scopes-append (entry.Body node ∷ es) fs = scopes-append es fs
scopes-append (entry.Binding node holder who name flags head ∷ es) fs = scopes-append es fs
scopes-append (entry.Reference node scope in_parameters name flags ∷ es) fs = scopes-append es fs

-- of the entry of a node
module _ (kind : Kind) (m : ℕ) (ps : Parts) (p : scopes.Place) (s : Surroundings) (h : Alike p s) where
  flags-alike : scope_flags kind p.given (is_strict kind ps p) ≡ scope_flags kind s.given.0 (is_strict kind ps (scope_place s))
  flags-alike = λ i. scope_flags kind (h.given i) (h.strict i || makes_strict kind ps)

  scope-where : (a b : Bool) → (a ≡ false → b ≡ false) → scope_flags_in (option_to_list (cond a (Some (cond b (entry.Scope (record { 0 = m }) s.scope s.in_parameters (scope_flags kind s.given.0 (is_strict kind ps (scope_place s)))) (entry.Body (record { 0 = m })))) None)) ≡ flags_of (cond b (record { node = m; around = p.around; flags = scope_flags kind p.given (is_strict kind ps p) } ∷ []) [])
  scope-where true true k = ap (λ f. f ∷ []) (sym flags-alike)
  scope-where true false k = refl
  scope-where false true k = absurd (cc (k refl))
  scope-where false false k = refl

own-scope : (kind : Kind) (m : ℕ) (ps : Parts) (p : scopes.Place) (s : Surroundings) → Alike p s → scope_flags_in (option_to_list (entry_of kind (record { 0 = m }) ps s)) ≡ flags_of (own_scope kind m ps p)
own-scope Kind.IdentifierReference m ps p s h = refl
own-scope Kind.BindingIdentifier m ps p s h = of_binding s.declares
  where
    of_binding : (d : Declares) → scope_flags_in (binding d (record { 0 = m }) (string_of (at 0 ps)) s ∷ []) ≡ []
    of_binding declares.Nothing = refl
    of_binding (declares.Statement lexical var) = refl
    of_binding (declares.Body q) = refl
    of_binding (declares.Pattern holder who) = refl
own-scope Kind.BlockStatement m ps p s h =
    scope-where Kind.BlockStatement m ps p s h true (not s.is_body) (λ e. cc)
    ∙ ap (λ b. flags_of (cond (not b) (record { node = m; around = p.around; flags = scope_flags Kind.BlockStatement p.given (is_strict Kind.BlockStatement ps p) } ∷ []) [])) (sym h.is_body)
own-scope kind m ps p s h = scope-where kind m ps p s h (has_scope kind) (has_scope kind) (λ e. e)

inside-alike : (kind : Kind) (m n : ℕ) (ps : Parts) (p : scopes.Place) (s : Surroundings) → Alike p s → (i : ℕ) → Alike (scopes.inside kind m ps p i) (inside kind (record { 0 = n }) ps s i)
inside-alike kind m n ps p s h i = record { strict = ap (λ b. b || makes_strict kind ps) h.strict; is_body = refl; given = refl }

first-alike : (f : ℕ → Surroundings) (i : ℕ) (places : ℕ → scopes.Place) → ((j : ℕ) → Alike (places j) (f (i + j))) → Alike (places 0) (f i)
first-alike f i places h = let same : i + 0 ≡ i = omega arith in subst (λ (k : ℕ). Alike (places 0) (f k)) same (h 0)

rest-alike : (f : ℕ → Surroundings) (i : ℕ) (places : ℕ → scopes.Place) → ((j : ℕ) → Alike (places j) (f (i + j))) → (j : ℕ) → Alike (places (suc j)) (f ((i + 1) + j))
rest-alike f i places h j = let same : i + suc j ≡ (i + 1) + j = omega arith in subst (λ (k : ℕ). Alike (places (suc j)) (f k)) same (h (suc j))

joined : (c : List ScopeFlags) (xs ys : List NodeScope) → (c ++ flags_of xs) ++ flags_of ys ≡ c ++ flags_of (xs ++ ys)
joined c xs ys = append_assoc c (flags_of xs) (flags_of ys) ∙ ap (λ l. c ++ l) (sym (map-append (λ (x : NodeScope). x.flags) xs ys))

mutual
  pub scopes-collected : (s : Surroundings) (c : Collected) (t : Tree) (p : scopes.Place) → Alike p s → scope_flags_in (collected s c t).entries ≡ scope_flags_in c.entries ++ flags_of (node_scopes p t)
  scopes-collected s c (Node kind m span id ps) p h =
      scopes-parts (inside kind (record { 0 = c.next }) ps s) 0 (entered kind (record { 0 = m }) ps s c) ps (scopes.inside kind m ps p) (λ j. let same : 0 + j ≡ j = omega arith in subst (λ (k : ℕ). Alike (scopes.inside kind m ps p j) (inside kind (record { 0 = c.next }) ps s k)) (sym same) (inside-alike kind m c.next ps p s h j))
      ∙ ap (λ l. l ++ flags_of (scopes_of_parts (scopes.inside kind m ps p) ps)) (scopes-append c.entries (option_to_list (entry_of kind (record { 0 = m }) ps s)) ∙ ap (λ l. scope_flags_in c.entries ++ l) (own-scope kind m ps p s h))
      ∙ joined (scope_flags_in c.entries) (own_scope kind m ps p) (scopes_of_parts (scopes.inside kind m ps p) ps)

  scopes-parts : (f : ℕ → Surroundings) (i : ℕ) (c : Collected) (ps : Parts) (places : ℕ → scopes.Place) → ((j : ℕ) → Alike (places j) (f (i + j))) → scope_flags_in (collected_parts f i c ps).entries ≡ scope_flags_in c.entries ++ flags_of (scopes_of_parts places ps)
  scopes-parts f i c end places h = sym (append-nil (scope_flags_in c.entries))
  scopes-parts f i c (more p ps) places h =
      scopes-parts f (i + 1) (collected_part (f i) c p) ps (λ j. places (suc j)) (rest-alike f i places h)
      ∙ ap (λ l. l ++ flags_of (scopes_of_parts (λ j. places (suc j)) ps)) (scopes-part (f i) c p (places 0) (first-alike f i places h))
      ∙ joined (scope_flags_in c.entries) (scopes_of_part (places 0) p) (scopes_of_parts (λ j. places (suc j)) ps)

  scopes-part : (s : Surroundings) (c : Collected) (p : Part) (q : scopes.Place) → Alike q s → scope_flags_in (collected_part s c p).entries ≡ scope_flags_in c.entries ++ flags_of (scopes_of_part q p)
  scopes-part s c (child t) q h = scopes-collected s c t q h
  scopes-part s c absent q h = sym (append-nil (scope_flags_in c.entries))
  scopes-part s c (list ps) q h = scopes-items s c ps q h
  scopes-part s c (string b) q h = sym (append-nil (scope_flags_in c.entries))
  scopes-part s c no_string q h = sym (append-nil (scope_flags_in c.entries))
  scopes-part s c (boolean b) q h = sym (append-nil (scope_flags_in c.entries))
  scopes-part s c (literal v) q h = sym (append-nil (scope_flags_in c.entries))

  scopes-items : (s : Surroundings) (c : Collected) (ps : Parts) (q : scopes.Place) → Alike q s → scope_flags_in (collected_items s c ps).entries ≡ scope_flags_in c.entries ++ flags_of (scopes_of_items q ps)
  scopes-items s c end q h = sym (append-nil (scope_flags_in c.entries))
  scopes-items s c (more p ps) q h =
      scopes-items s (collected_part s c p) ps q h
      ∙ ap (λ l. l ++ flags_of (scopes_of_items q ps)) (scopes-part s c p q h)
      ∙ joined (scope_flags_in c.entries) (scopes_of_part q p) (scopes_of_items q ps)

pub scopes-entries : (t : Tree) → scope_flags_in (entries_of t) ≡ map (λ x. x.flags) (scopes_of t)
scopes-entries t = scopes-collected nowhere nothing_yet t outermost (record { strict = refl; is_body = refl; given = refl })
