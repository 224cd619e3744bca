-- The identifiers that declare among the entries of a tree are those of `bindings_of`.
use Rattle.std.proofs.Common.{◌≡◌, refl, sym, ap, ◌∙◌, ℕ, suc, ◌+◌, List, [], ◌∷◌, ◌++◌, append_assoc, Bool, true, false, cond, Some, None, arith}
use Rattle.std.specs.Prelude.{option_to_list}
use Rattle.std.proofs.lemmas.List.{append-nil}
use Rattle.es_base.specs.Tree.{Tree, Part, Parts, Node, end, more, child, absent, list, string, no_string, boolean, literal}
use Rattle.es_base.specs.declared.kind.Kind.{Kind}
use Rattle.es_scopes.specs.NodeBindings.{NodeBinding, own_binding, node_bindings, bindings_of_parts, bindings_of_part, bindings_of_items, bindings_of, flags_in, in_head}
use Rattle.es_scopes.specs.NodeScopes.{opens, has_scope, is_strict, scope_flags}
use Rattle.es_steps.specs.Parts.{at, string_of}
use Rattle.es_scopes.specs.Entries.{Collected, binding, entry_of, entered, collected, collected_parts, collected_part, collected_items, nothing_yet, entries_of}
use Rattle.es_scopes.specs.Surroundings.{scope_place, inside, nowhere}
use Rattle.es_scopes.specs.Shown.{bindings_in}
use Rattle.es_scopes.specs.declared.entry.Entry.{Entry}
use Rattle.es_scopes.specs.declared.entry.Entry.TheVariants as entry
use Rattle.es_scopes.specs.declared.surroundings.Declares.{Declares}
use Rattle.es_scopes.specs.declared.surroundings.Declares.TheVariants as declares
use Rattle.es_scopes.specs.declared.surroundings.Surroundings.{Surroundings}

bindings-append : (es fs : List Entry) → bindings_in (es ++ fs) ≡ bindings_in es ++ bindings_in fs
bindings-append [] fs = refl
bindings-append (entry.Scope node parent in_parameters flags ∷ es) fs = bindings-append es fs
bindings-append (entry.Body node ∷ es) fs = bindings-append es fs
bindings-append (entry.Binding node holder who name flags head ∷ es) fs = ap (λ l. record { node = node.0; name = name; flags = flags.0; head_var = head } ∷ l) (bindings-append es fs)
bindings-append (entry.Reference node scope in_parameters name flags ∷ es) fs = bindings-append es fs

-- of the entry of a node
own-binding : (kind : Kind) (m : ℕ) (ps : Parts) (s : Surroundings) → bindings_in (option_to_list (entry_of kind (record { 0 = m }) ps s)) ≡ own_binding kind m ps s.symbol_flags.0 s.head_var
own-binding Kind.IdentifierReference m ps s = refl
own-binding Kind.BindingIdentifier m ps s = of_binding s.declares
  where
    of_binding : (d : Declares) → bindings_in (binding d (record { 0 = m }) (string_of (at 0 ps)) s ∷ []) ≡ record { node = m; name = string_of (at 0 ps); flags = s.symbol_flags.0; head_var = s.head_var } ∷ []
    of_binding declares.Nothing = refl
    of_binding (declares.Statement lexical var) = refl
    of_binding (declares.Body q) = refl
    of_binding (declares.Pattern holder who) = refl
own-binding kind m ps s = of_scope (has_scope kind) (opens kind (scope_place s)) (is_strict kind ps (scope_place s))
  where
    of_scope : (a b strict : Bool) → bindings_in (option_to_list (cond a (Some (cond b (entry.Scope (record { 0 = m }) s.scope s.in_parameters (scope_flags kind s.given.0 strict)) (entry.Body (record { 0 = m })))) None)) ≡ []
    of_scope true true strict = refl
    of_scope true false strict = refl
    of_scope false b strict = refl

-- what is known in the parts from the i-th on
record Knows (f : ℕ → Surroundings) (i : ℕ) (flags : ℕ → ℕ) (head : ℕ → Bool) : Type 0 where
  flags_are : (j : ℕ) → flags j ≡ (f (i + j)).symbol_flags.0
  head_is : (j : ℕ) → head j ≡ (f (i + j)).head_var

rest-knows : (f : ℕ → Surroundings) (i : ℕ) (flags : ℕ → ℕ) (head : ℕ → Bool) → Knows f i flags head → Knows f (i + 1) (λ j. flags (suc j)) (λ j. head (suc j))
rest-knows f i flags head h = record {
  flags_are = λ j. h.flags_are (suc j) ∙ (let same : i + suc j ≡ (i + 1) + j = omega arith in ap (λ (k : ℕ). (f k).symbol_flags.0) same);
  head_is = λ j. h.head_is (suc j) ∙ (let same : i + suc j ≡ (i + 1) + j = omega arith in ap (λ (k : ℕ). (f k).head_var) same);
}

first-knows : (f : ℕ → Surroundings) (i : ℕ) (flags : ℕ → ℕ) (head : ℕ → Bool) (p : Part) → Knows f i flags head → bindings_of_part (f i).symbol_flags.0 (f i).head_var p ≡ bindings_of_part (flags 0) (head 0) p
first-knows f i flags head p h =
    let same : i + 0 ≡ i = omega arith in
    let one : flags 0 ≡ (f i).symbol_flags.0 = h.flags_are 0 ∙ ap (λ (k : ℕ). (f k).symbol_flags.0) same in
    let other : head 0 ≡ (f i).head_var = h.head_is 0 ∙ ap (λ (k : ℕ). (f k).head_var) same in
    λ i. bindings_of_part (sym one i) (sym other i) p

joined : (c xs ys : List NodeBinding) → (c ++ xs) ++ ys ≡ c ++ (xs ++ ys)
joined c xs ys = append_assoc c xs ys

mutual
  pub bindings-collected : (s : Surroundings) (c : Collected) (t : Tree) → bindings_in (collected s c t).entries ≡ bindings_in c.entries ++ node_bindings s.symbol_flags.0 s.head_var t
  bindings-collected s c (Node kind m span id ps) =
      bindings-parts (inside kind (record { 0 = c.next }) ps s) 0 (entered kind (record { 0 = m }) ps s c) ps (flags_in kind ps s.symbol_flags.0) (in_head kind ps s.head_var) (record {
        flags_are = λ j. let same : 0 + j ≡ j = omega arith in ap (flags_in kind ps s.symbol_flags.0) (sym same);
        head_is = λ j. let same : 0 + j ≡ j = omega arith in ap (in_head kind ps s.head_var) (sym same);
      })
      ∙ ap (λ l. l ++ bindings_of_parts (flags_in kind ps s.symbol_flags.0) (in_head kind ps s.head_var) ps) (bindings-append c.entries (option_to_list (entry_of kind (record { 0 = m }) ps s)) ∙ ap (λ l. bindings_in c.entries ++ l) (own-binding kind m ps s))
      ∙ joined (bindings_in c.entries) (own_binding kind m ps s.symbol_flags.0 s.head_var) (bindings_of_parts (flags_in kind ps s.symbol_flags.0) (in_head kind ps s.head_var) ps)

  bindings-parts : (f : ℕ → Surroundings) (i : ℕ) (c : Collected) (ps : Parts) (flags : ℕ → ℕ) (head : ℕ → Bool) → Knows f i flags head → bindings_in (collected_parts f i c ps).entries ≡ bindings_in c.entries ++ bindings_of_parts flags head ps
  bindings-parts f i c end flags head h = sym (append-nil (bindings_in c.entries))
  bindings-parts f i c (more p ps) flags head h =
      bindings-parts f (i + 1) (collected_part (f i) c p) ps (λ j. flags (suc j)) (λ j. head (suc j)) (rest-knows f i flags head h)
      ∙ ap (λ l. l ++ bindings_of_parts (λ j. flags (suc j)) (λ j. head (suc j)) ps) (bindings-part (f i) c p ∙ ap (λ l. bindings_in c.entries ++ l) (first-knows f i flags head p h))
      ∙ joined (bindings_in c.entries) (bindings_of_part (flags 0) (head 0) p) (bindings_of_parts (λ j. flags (suc j)) (λ j. head (suc j)) ps)

  bindings-part : (s : Surroundings) (c : Collected) (p : Part) → bindings_in (collected_part s c p).entries ≡ bindings_in c.entries ++ bindings_of_part s.symbol_flags.0 s.head_var p
  bindings-part s c (child t) = bindings-collected s c t
  bindings-part s c absent = sym (append-nil (bindings_in c.entries))
  bindings-part s c (list ps) = bindings-items s c ps
  bindings-part s c (string b) = sym (append-nil (bindings_in c.entries))
  bindings-part s c no_string = sym (append-nil (bindings_in c.entries))
  bindings-part s c (boolean b) = sym (append-nil (bindings_in c.entries))
  bindings-part s c (literal v) = sym (append-nil (bindings_in c.entries))

  bindings-items : (s : Surroundings) (c : Collected) (ps : Parts) → bindings_in (collected_items s c ps).entries ≡ bindings_in c.entries ++ bindings_of_items s.symbol_flags.0 s.head_var ps
  bindings-items s c end = sym (append-nil (bindings_in c.entries))
  bindings-items s c (more p ps) =
      bindings-items s (collected_part s c p) ps
      ∙ ap (λ l. l ++ bindings_of_items s.symbol_flags.0 s.head_var ps) (bindings-part s c p)
      ∙ joined (bindings_in c.entries) (bindings_of_part s.symbol_flags.0 s.head_var p) (bindings_of_items s.symbol_flags.0 s.head_var ps)

pub bindings-entries : (t : Tree) → bindings_in (entries_of t) ≡ bindings_of t
bindings-entries t = bindings-collected nowhere nothing_yet t
