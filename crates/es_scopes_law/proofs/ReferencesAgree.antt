-- In a tree that carries the numbers of its table, references agree.
use Rattle.std.proofs.Common.{◌≡◌, refl, sym, ap, subst, ◌∙◌, ℕ, ◌+◌, List, [], ◌∷◌, map, Some, arith}
use Rattle.std.specs.Prelude.{option_map, slice_get, is_some}
use Rattle.std.specs.Option.{option_and_then}
use Rattle.es_base.specs.Carried.{symbol_number}
use Rattle.es_base.specs.Tree.{Tree}
use Rattle.es_base.specs.declared.ids.ReferenceId.{ReferenceId}
use Rattle.es_scopes.specs.Agreement.{carried, meant_symbol, CarriesReference}
use Rattle.es_scopes.specs.Built.{built_table}
use Rattle.es_scopes.specs.Entries.{entries_of}
use Rattle.es_scopes.specs.NodeReferences.{NodeReference}
use Rattle.es_scopes.specs.References.{writes}
use Rattle.es_scopes.specs.Shown.{references_in, targets_from}
use Rattle.es_scopes.specs.Tables.{declared, none_declared, meant}
use Rattle.es_scopes.specs.declared.declare.Declarations.{Declarations}
use Rattle.es_scopes.specs.declared.entry.Entry.{Entry}
use Rattle.es_scopes.specs.declared.entry.Entry.TheVariants as entry
use Rattle.es_scopes.specs.declared.flags.ReferenceFlags.{ReferenceFlags}
use Rattle.es_scopes.specs.declared.table.Reference as table
use Rattle.es_scopes.proofs.NumberShown.{targets-built}
use Rattle.es_scopes.proofs.ReferenceOrder.{references-entries}
use Rattle.es_scopes.proofs.TableShown.{references-built}
use Rattle.es_scopes_law.proofs.Borne.{given}
use Rattle.es_scopes_law.proofs.Lists.{In, in-at}
use Rattle.es_scopes_law.proofs.Referred.{Told, told, references-told}
use Rattle.es_scopes_law.proofs.Rows.{get-map}
use Rattle.es_scopes_law.proofs.ScopesAgree.{IsBuilt, carries, reference-given, map-some, some-same}
use Rattle.es_scopes_law.proofs.Uses.{has_write}
use Rattle.es_steps.specs.References.{Reference, resolve}

told-nodes : (d : Declarations) (es : List Entry) → map (λ (x : Told). x.0) (told d es) ≡ map (λ (x : NodeReference). x.node) (references_in es)
told-nodes d [] = refl
told-nodes d (entry.Scope node parent in_parameters flags ∷ es) = told-nodes d es
told-nodes d (entry.Body node ∷ es) = told-nodes d es
told-nodes d (entry.Binding node holder who name flags head ∷ es) = told-nodes d es
told-nodes d (entry.Reference node scope in_parameters name flags ∷ es) = ap (λ l. node.0 ∷ l) (told-nodes d es)

told-writes : (d : Declarations) (es : List Entry) → map (λ (x : Told). x.2) (told d es) ≡ map (λ (x : NodeReference). has_write x.flags.0) (references_in es)
told-writes d [] = refl
told-writes d (entry.Scope node parent in_parameters flags ∷ es) = told-writes d es
told-writes d (entry.Body node ∷ es) = told-writes d es
told-writes d (entry.Binding node holder who name flags head ∷ es) = told-writes d es
told-writes d (entry.Reference node scope in_parameters name flags ∷ es) = ap (λ l. has_write flags.0 ∷ l) (told-writes d es)

told-targets : (d : Declarations) (es : List Entry) → map (λ (x : Told). x.3) (told d es) ≡ map symbol_number (targets_from d es)
told-targets d [] = refl
told-targets d (entry.Scope node parent in_parameters flags ∷ es) = told-targets d es
told-targets d (entry.Body node ∷ es) = told-targets d es
told-targets d (entry.Binding node holder who name flags head ∷ es) = told-targets d es
told-targets d (entry.Reference node scope in_parameters name flags ∷ es) = ap (λ l. symbol_number (meant d scope in_parameters name) ∷ l) (told-targets d es)

get-told : {X : Type 0} (f : Told → X) (xs : List Told) (ys : List X) (k : ℕ) (x : Told) → map f xs ≡ ys → slice_get xs k ≡ Some x → slice_get ys k ≡ Some (f x)
get-told f xs ys k x is at = ap (λ l. slice_get l k) (sym is) ∙ get-map f xs k ∙ ap (option_map f) at

module _ (t : Tree) (h : IsBuilt t) where
  -- the k-th reference
  pub record ReferenceNumbered (number : ℕ) (r : Reference) : Type 0 where
    pub carries_it : carried t r.number ≡ Some number
    pub row : table.Reference
    pub at : slice_get (built_table t).references number ≡ Some row
    pub target : symbol_number row.symbol_id ≡ meant_symbol t r.to
    pub write : writes (Some row) ≡ r.writes

  -- what the k-th entry of a reference tells is what the k-th reference of the tree is
  pub reference-at : (k : ℕ) (r : Reference) → slice_get (resolve t) k ≡ Some r → ReferenceNumbered k r
  reference-at k r at =
      let D = declared none_declared (entries_of t) in
      let x : Told = (r.number, r.spelling, r.writes, meant_symbol t r.to) in
      let it : slice_get (told D (entries_of t)) k ≡ Some x = ap (λ l. slice_get l k) (references-told t h) ∙ get-map (λ (r : Reference). (r.number, r.spelling, r.writes, meant_symbol t r.to)) (resolve t) k ∙ ap (option_map (λ (r : Reference). (r.number, r.spelling, r.writes, meant_symbol t r.to))) at in
      let node = map-some (λ (x : NodeReference). x.node) (slice_get (references_in (entries_of t)) k) r.number (sym (get-map _ (references_in (entries_of t)) k) ∙ get-told (λ (x : Told). x.0) (told D (entries_of t)) _ k x (told-nodes D (entries_of t)) it) in
      let target = map-some symbol_number (slice_get (targets_from D (entries_of t)) k) (meant_symbol t r.to) (sym (get-map symbol_number (targets_from D (entries_of t)) k) ∙ get-told (λ (x : Told). x.3) (told D (entries_of t)) _ k x (told-targets D (entries_of t)) it) in
      let row = map-some (λ (x : table.Reference). x.symbol_id) (slice_get (built_table t).references k) target.0 (sym (get-map (λ (x : table.Reference). x.symbol_id) (built_table t).references k) ∙ ap (λ l. slice_get l k) (targets-built t) ∙ target.1) in
      let write : slice_get (map (λ (x : NodeReference). has_write x.flags.0) (references_in (entries_of t))) k ≡ Some r.writes = get-told (λ (x : Told). x.2) (told D (entries_of t)) _ k x (told-writes D (entries_of t)) it in
      record {
        carries_it = ap (carried t) (sym node.2) ∙ carries t h node.0.node (Some k) (let same : 0 + k ≡ k = omega arith in subst (λ (j : ℕ). In (node.0.node, Some j) (given (built_table t) 0 0 (entries_of t))) same (reference-given (built_table t) 0 0 (entries_of t) k node.0 node.1));
        row = row.0;
        at = row.1;
        target = ap symbol_number row.2 ∙ target.2;
        write = some-same (writes (Some row.0)) r.writes
            (sym (ap (option_map (λ (f : ReferenceFlags). has_write f.0)) (get-map (λ (x : table.Reference). x.flags) (built_table t).references k ∙ ap (option_map (λ (x : table.Reference). x.flags)) row.1))
            ∙ ap (λ l. option_map (λ (f : ReferenceFlags). has_write f.0) (slice_get l k)) (references-built t ∙ ap (map (λ (x : NodeReference). x.flags)) (sym (references-entries t)))
            ∙ sym (get-map (λ (f : ReferenceFlags). has_write f.0) (map (λ (x : NodeReference). x.flags) (references_in (entries_of t))) k)
            ∙ ap (λ l. slice_get l k) (map-twice (references_in (entries_of t)))
            ∙ write);
      }
    where
      map-twice : (xs : List NodeReference) → map (λ (f : ReferenceFlags). has_write f.0) (map (λ (x : NodeReference). x.flags) xs) ≡ map (λ (x : NodeReference). has_write x.flags.0) xs
      map-twice [] = refl
      map-twice (x ∷ xs) = ap (λ l. has_write x.flags.0 ∷ l) (map-twice xs)

  pub reference-numbered : (r : Reference) → In r (resolve t) → (k : ℕ) × ReferenceNumbered k r
  reference-numbered r among = let k = in-at r (resolve t) among in (k.0, reference-at k.0 r k.1)

  -- the reference of a row of the table
  pub reference-of : (k : ℕ) (row : table.Reference) → slice_get (built_table t).references k ≡ Some row → (r : Reference) × (slice_get (resolve t) k ≡ Some r)
  reference-of k row at =
      let D = declared none_declared (entries_of t) in
      let target : slice_get (map (λ (x : Told). x.3) (told D (entries_of t))) k ≡ Some (symbol_number row.symbol_id) =
      ap (λ l. slice_get l k) (told-targets D (entries_of t) ∙ ap (map symbol_number) (sym (targets-built t))) ∙ get-map symbol_number (map (λ (x : table.Reference). x.symbol_id) (built_table t).references) k ∙ ap (option_map symbol_number) (get-map (λ (x : table.Reference). x.symbol_id) (built_table t).references k ∙ ap (option_map (λ (x : table.Reference). x.symbol_id)) at) in
      let it = map-some (λ (x : Told). x.3) (slice_get (told D (entries_of t)) k) (symbol_number row.symbol_id) (sym (get-map (λ (x : Told). x.3) (told D (entries_of t)) k) ∙ target) in
      let found = map-some (λ (r : Reference). (r.number, r.spelling, r.writes, meant_symbol t r.to)) (slice_get (resolve t) k) it.0 (sym (get-map (λ (r : Reference). (r.number, r.spelling, r.writes, meant_symbol t r.to)) (resolve t) k) ∙ ap (λ l. slice_get l k) (sym (references-told t h)) ∙ it.1) in
      (found.0, found.1)

  pub carries-reference_of : (r : Reference) → In r (resolve t) → (k : ReferenceId) × CarriesReference (built_table t) t r k
  carries-reference_of r among =
      let k = reference-numbered r among in (
        record { 0 = k.0 },
        record {
          carries = k.1.carries_it;
          there = ap is_some k.1.at;
          target = ap (λ o. symbol_number (option_and_then (λ x. x.symbol_id) o)) k.1.at ∙ k.1.target;
        },
      )
