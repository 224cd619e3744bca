-- The references among the entries of a tree are those of `references_of`.
use Rattle.std.proofs.Common.{◌≡◌, refl, sym, ap, ◌∙◌, ℕ, suc, ◌+◌, List, [], ◌∷◌, ◌++◌, append_assoc, Bool, true, false, cond, Some, None, arith}
use Rattle.std.specs.Prelude.{option_to_list}
use Rattle.std.proofs.lemmas.List.{append-nil}
use Rattle.es_base.specs.Tree.{Tree, Part, Parts, Node, end, more, child, absent, list, string, no_string, boolean, literal}
use Rattle.es_base.specs.declared.kind.Kind.{Kind}
use Rattle.es_scopes.specs.NodeReferences.{NodeReference, own_reference, node_references, references_of_parts, references_of_part, references_of_items, references_of, use_in}
use Rattle.es_scopes.specs.NodeScopes.{opens, has_scope, is_strict, scope_flags}
use Rattle.es_steps.specs.Parts.{at, string_of}
use Rattle.es_scopes.specs.Entries.{Collected, binding, entry_of, entered, collected, collected_parts, collected_part, collected_items, nothing_yet, entries_of}
use Rattle.es_scopes.specs.Surroundings.{scope_place, inside, nowhere}
use Rattle.es_scopes.specs.Shown.{references_in}
use Rattle.es_scopes.specs.declared.entry.Entry.{Entry}
use Rattle.es_scopes.specs.declared.entry.Entry.TheVariants as entry
use Rattle.es_scopes.specs.declared.surroundings.Declares.{Declares}
use Rattle.es_scopes.specs.declared.surroundings.Declares.TheVariants as declares
use Rattle.es_scopes.specs.declared.surroundings.Surroundings.{Surroundings}

references-append : (es fs : List Entry) → references_in (es ++ fs) ≡ references_in es ++ references_in fs
references-append [] fs = refl
references-append (entry.Scope node parent in_parameters flags ∷ es) fs = references-append es fs
references-append (entry.Body node ∷ es) fs = references-append es fs
references-append (entry.Binding node holder who name flags head ∷ es) fs = references-append es fs
references-append (entry.Reference node scope in_parameters name flags ∷ es) fs = ap (λ l. record { node = node.0; name = name; flags = flags } ∷ l) (references-append es fs)

-- of the entry of a node
own-reference : (kind : Kind) (m : ℕ) (ps : Parts) (s : Surroundings) → references_in (option_to_list (entry_of kind (record { 0 = m }) ps s)) ≡ own_reference kind m ps s.usage.0
own-reference Kind.IdentifierReference m ps s = refl
own-reference Kind.BindingIdentifier m ps s = of_binding s.declares
  where
    of_binding : (d : Declares) → references_in (binding d (record { 0 = m }) (string_of (at 0 ps)) s ∷ []) ≡ []
    of_binding declares.Nothing = refl
    of_binding (declares.Statement lexical var) = refl
    of_binding (declares.Body q) = refl
    of_binding (declares.Pattern holder who) = refl
own-reference kind m ps s = of_scope (has_scope kind) (opens kind (scope_place s)) (is_strict kind ps (scope_place s))
  where
    of_scope : (a b strict : Bool) → references_in (option_to_list (cond a (Some (cond b (entry.Scope (record { 0 = m }) s.scope s.in_parameters (scope_flags kind s.given.0 strict)) (entry.Body (record { 0 = m })))) None)) ≡ []
    of_scope true true strict = refl
    of_scope true false strict = refl
    of_scope false b strict = refl

shift : (f : ℕ → Surroundings) (i j : ℕ) → (f (i + suc j)).usage.0 ≡ (f ((i + 1) + j)).usage.0
shift f i j = let same : i + suc j ≡ (i + 1) + j = omega arith in ap (λ (k : ℕ). (f k).usage.0) same

here : (f : ℕ → Surroundings) (i : ℕ) → (f (i + 0)).usage.0 ≡ (f i).usage.0
here f i = let same : i + 0 ≡ i = omega arith in ap (λ (k : ℕ). (f k).usage.0) same

joined : (c xs ys : List NodeReference) → (c ++ xs) ++ ys ≡ c ++ (xs ++ ys)
joined c xs ys = append_assoc c xs ys

mutual
  pub references-collected : (s : Surroundings) (c : Collected) (t : Tree) → references_in (collected s c t).entries ≡ references_in c.entries ++ node_references s.usage.0 t
  references-collected s c (Node kind m span id ps) =
      references-parts (inside kind (record { 0 = c.next }) ps s) 0 (entered kind (record { 0 = m }) ps s c) ps (use_in kind ps s.usage.0) (λ j. let same : 0 + j ≡ j = omega arith in ap (use_in kind ps s.usage.0) (sym same))
      ∙ ap (λ l. l ++ references_of_parts (use_in kind ps s.usage.0) ps) (references-append c.entries (option_to_list (entry_of kind (record { 0 = m }) ps s)) ∙ ap (λ l. references_in c.entries ++ l) (own-reference kind m ps s))
      ∙ joined (references_in c.entries) (own_reference kind m ps s.usage.0) (references_of_parts (use_in kind ps s.usage.0) ps)

  references-parts : (f : ℕ → Surroundings) (i : ℕ) (c : Collected) (ps : Parts) (uses : ℕ → ℕ) → ((j : ℕ) → uses j ≡ (f (i + j)).usage.0) → references_in (collected_parts f i c ps).entries ≡ references_in c.entries ++ references_of_parts uses ps
  references-parts f i c end uses same = sym (append-nil (references_in c.entries))
  references-parts f i c (more p ps) uses same =
      references-parts f (i + 1) (collected_part (f i) c p) ps (λ j. uses (suc j)) (λ j. same (suc j) ∙ shift f i j)
      ∙ ap (λ l. l ++ (references_of_parts (λ j. uses (suc j)) ps)) (references-part (f i) c p ∙ ap (λ u. references_in c.entries ++ references_of_part u p) (sym (same 0 ∙ here f i)))
      ∙ joined (references_in c.entries) (references_of_part (uses 0) p) (references_of_parts (λ j. uses (suc j)) ps)

  references-part : (s : Surroundings) (c : Collected) (p : Part) → references_in (collected_part s c p).entries ≡ references_in c.entries ++ references_of_part s.usage.0 p
  references-part s c (child t) = references-collected s c t
  references-part s c absent = sym (append-nil (references_in c.entries))
  references-part s c (list ps) = references-items s c ps
  references-part s c (string b) = sym (append-nil (references_in c.entries))
  references-part s c no_string = sym (append-nil (references_in c.entries))
  references-part s c (boolean b) = sym (append-nil (references_in c.entries))
  references-part s c (literal v) = sym (append-nil (references_in c.entries))

  references-items : (s : Surroundings) (c : Collected) (ps : Parts) → references_in (collected_items s c ps).entries ≡ references_in c.entries ++ references_of_items s.usage.0 ps
  references-items s c end = sym (append-nil (references_in c.entries))
  references-items s c (more p ps) =
      references-items s (collected_part s c p) ps
      ∙ ap (λ l. l ++ references_of_items s.usage.0 ps) (references-part s c p)
      ∙ joined (references_in c.entries) (references_of_part s.usage.0 p) (references_of_items s.usage.0 ps)

pub references-entries : (t : Tree) → references_in (entries_of t) ≡ references_of t
references-entries t = references-collected nowhere nothing_yet t
