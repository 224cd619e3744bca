-- A map of bindings holds what was added, and of references the first of each number.
use Rattle.std.proofs.Common.{◌≡◌, refl, sym, ap, ◌∙◌, ℕ, List, [], ◌∷◌, nat_eq, Bool, true, false, cond, Option, Some, None}
use Rattle.std.proofs.lemmas.Bool.{eqb-true}
use Rattle.std.specs.Map as entries
use Rattle.std.specs.Str.{chars}
use Rattle.indexmap.specs.IndexMap.{insert_entry}
use Rattle.es_base.specs.declared.ids.NodeId.{NodeId}
use Rattle.es_steps.specs.LoweredClasses.{referent_of}
use Rattle.es_steps.specs.Values.{String}
use Rattle.es_shapes.specs.Names.{bound_number}
use Rattle.es_outside.specs.Bindings.{binding_in, first_binding, flat, number_of}
use Rattle.es_references.specs.References as named
use Rattle.es_references.specs.References.{references_of}
use Rattle.es_references.specs.declared.references.Reference.{Reference}

pub looked_up : (m : ℕ) (es : List (ℕ × Option ℕ)) → flat (entries.lookup (nat_eq m) es) ≡ binding_in m es
looked_up m [] = refl
looked_up m (e ∷ es) = here (nat_eq m e.0) (looked_up m es)
  where
    here : (b : Bool) → flat (entries.lookup (nat_eq m) es) ≡ binding_in m es → flat (cond b (Some e.1) (entries.lookup (nat_eq m) es)) ≡ cond b e.1 (binding_in m es)
    here true h = refl
    here false h = h

swapped : (b : Bool) (m k x : ℕ) (v w r : Option ℕ) → nat_eq k x ≡ false → nat_eq m x ≡ b → cond b w (cond (nat_eq m k) v r) ≡ cond (nat_eq m k) v (cond b w r)
swapped false m k x v w r apart there = refl
swapped true m k x v w r apart there =
    let other : nat_eq m k ≡ false = elim (nat_eq m k) as (λ c. nat_eq m k ≡ c → nat_eq m k ≡ false) [
      | true ↦ λ t. absurd (cc (eqb-true m k t, apart, there))
      | false ↦ λ f. f
    ] refl in
    rw other refl

pub inserted : (k : ℕ) (v : Option ℕ) (es : List (ℕ × Option ℕ)) (m : ℕ) → binding_in m (insert_entry nat_eq es k v) ≡ cond (nat_eq m k) v (binding_in m es)
inserted k v [] m = refl
inserted k v (e ∷ es) m = elim (nat_eq k e.0) as (λ b. nat_eq k e.0 ≡ b → binding_in m (cond b ((e.0, v) ∷ es) (e ∷ insert_entry nat_eq es k v)) ≡ cond (nat_eq m k) v (cond (nat_eq m e.0) e.1 (binding_in m es))) [
  | true ↦ λ t. same (eqb-true k e.0 t)
  | false ↦ λ f. ap (λ r. cond (nat_eq m e.0) e.1 r) (inserted k v es m) ∙ swapped (nat_eq m e.0) m k e.0 v e.1 (binding_in m es) f refl
] refl
  where
    twice : (b : Bool) → cond b v (binding_in m es) ≡ cond b v (cond b e.1 (binding_in m es))
    twice true = refl
    twice false = refl

    same : k ≡ e.0 → cond (nat_eq m e.0) v (binding_in m es) ≡ cond (nat_eq m k) v (cond (nat_eq m e.0) e.1 (binding_in m es))
    same s = twice (nat_eq m e.0) ∙ ap (λ x. cond (nat_eq m x) v (cond (nat_eq m e.0) e.1 (binding_in m es))) (sym s)

-- ---- of a resolution

bound_again : (s : String) (b : Option NodeId) → number_of b ≡ bound_number (Some (named.referent_of s b))
bound_again s None = refl
bound_again s (Some b) = refl

pub bound_first : (m : ℕ) (rs : List Reference) → first_binding m rs ≡ bound_number (referent_of m (references_of rs))
bound_first m [] = refl
bound_first m (r ∷ rs) = here (nat_eq m r.node.0) (bound_first m rs)
  where
    here : (b : Bool) → first_binding m rs ≡ bound_number (referent_of m (references_of rs)) → cond b (number_of r.binding) (first_binding m rs) ≡ bound_number (cond b (Some (named.referent_of (chars r.name.now) r.binding)) (referent_of m (references_of rs)))
    here true h = bound_again (chars r.name.now) r.binding
    here false h = h
