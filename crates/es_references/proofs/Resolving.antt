-- References in code are those of the resolution.
use Rattle.std.proofs.Common.{◌≡◌, refl, sym, ap, ◌∙◌, ℕ, suc, ◌+◌, List, [], ◌∷◌, ◌++◌, Bool, true, false, cond, bytes_eq, Option, Some, None, arith}
use Rattle.es_base.specs.Table.{Field, members_of}
use Rattle.es_base.specs.Tree.{Tree, Part, Parts, Node, end, more, child, absent, list, string, no_string, boolean, literal}
use Rattle.es_base.specs.declared.ids.NodeId.{NodeId}
use Rattle.es_base.specs.declared.kind.Kind.{Kind}
use Rattle.es_binding_faults.specs.Named.{plain, plain_one}
use Rattle.es_binding_faults.proofs.Plain.{plain-append, plain-bound_part}
use Rattle.es_steps.specs.Parts.{at, string_of}
use Rattle.es_steps.specs.References.{Reference, declared, referent, is_reference, is_target, reference, references, references_in, part_references, item_references, resolve}
use Rattle.es_steps.specs.Scopes.{Declaration, own_name, names_at, is_body_part, ScopeForm, program_scope, function_scope, own_function_scope, arrow_scope, own_class_scope, block_scope, static_block_scope, loop_scope, switch_scope, catch_scope, no_scope, scope_of, seen}
use Rattle.es_steps.specs.Values.{String}
use Rattle.es_references.specs.Frames.{binding_of}
use Rattle.es_references.specs.References.{meaning, meant_in, meant_from, meant_at, meant_of, names_inside, referent_of}

-- ---- what a name means

abbrev or_outer : Option NodeId → Option NodeId → Option NodeId
or_outer None o = o
or_outer (Some b) o = Some b

declared_append : (s : String) (xs ys : List Declaration) → binding_of (referent s (declared s (xs ++ ys))) ≡ or_outer (binding_of (referent s (declared s xs))) (binding_of (referent s (declared s ys)))
declared_append s [] ys = refl
declared_append s (d ∷ xs) ys = here (bytes_eq s d.spelling) (declared_append s xs ys)
  where
    here : (b : Bool) → binding_of (referent s (declared s (xs ++ ys))) ≡ or_outer (binding_of (referent s (declared s xs))) (binding_of (referent s (declared s ys)))
        → binding_of (referent s (cond b (Some d) (declared s (xs ++ ys)))) ≡ or_outer (binding_of (referent s (cond b (Some d) (declared s xs)))) (binding_of (referent s (declared s ys)))
    here true h = refl
    here false h = h

pub declared_here : (s : String) (xs ys : List Declaration) (b : NodeId) → Some b ≡ binding_of (referent s (declared s xs)) → binding_of (referent s (declared s (xs ++ ys))) ≡ Some b
declared_here s xs ys b e = declared_append s xs ys ∙ ap (λ o. or_outer o (binding_of (referent s (declared s ys)))) (sym e)

pub declared_outside : (s : String) (xs ys : List Declaration) → None ≡ binding_of (referent s (declared s xs)) → binding_of (referent s (declared s (xs ++ ys))) ≡ binding_of (referent s (declared s ys))
declared_outside s xs ys e = declared_append s xs ys ∙ ap (λ o. or_outer o (binding_of (referent s (declared s ys)))) (sym e)

-- ---- without the classes that names may name

pub same_referent : (s : String) (ds : List Declaration) → referent s (declared s ds) ≡ referent s (declared s (plain ds))
same_referent s [] = refl
same_referent s (d ∷ ds) = here (bytes_eq s d.spelling) (same_referent s ds)
  where
    here : (b : Bool) → referent s (declared s ds) ≡ referent s (declared s (plain ds))
        → referent s (cond b (Some d) (declared s ds)) ≡ referent s (cond b (Some (plain_one d)) (declared s (plain ds)))
    here true h = refl
    here false h = h

pub plain_seen : (form : ScopeForm) (m : ℕ) (ps : Parts) (i : ℕ) → plain (seen form m ps i) ≡ plain (seen form 0 ps i)
plain_seen program_scope m ps i = refl
plain_seen function_scope m ps i = refl
plain_seen own_function_scope m ps i = refl
plain_seen arrow_scope m ps i = refl
plain_seen own_class_scope m ps i = plain-bound_part (own_name m) (at 0 ps) ∙ sym (plain-bound_part (own_name 0) (at 0 ps))
plain_seen block_scope m ps i = refl
plain_seen static_block_scope m ps i = refl
plain_seen loop_scope m ps i = refl
plain_seen switch_scope m ps i = refl
plain_seen catch_scope m ps i = refl
plain_seen no_scope m ps i = refl

pub inside : (names : List Declaration) (is_body : Bool) (kind : Kind) (m : ℕ) (ps : Parts) (i : ℕ) → plain (names_at is_body kind m ps i ++ names) ≡ names_inside (plain names) is_body kind ps i
inside names is_body kind m ps i = plain-append (names_at is_body kind m ps i) names ∙ ap (λ (ds : List Declaration). ds ++ plain names) (plain_seen (scope_of kind is_body) m ps i)

-- ---- of a tree

one : (names : List Declaration) (target : Bool) (m : ℕ) (s : String) → reference names target m s ≡ (meaning (plain names) target m s ∷ [])
one names target m s = ap (λ r. record { number = m; spelling = s; to = r; writes = target } ∷ []) (same_referent s names)

either : (b : Bool) (xs ys us vs : List Reference) → xs ≡ us → ys ≡ vs → cond b xs ys ≡ cond b us vs
either true xs ys us vs e f = e
either false xs ys us vs e f = f

mutual
  meant-tree : (names : List Declaration) (target is_body : Bool) (t : Tree) → references names target is_body t ≡ meant_in (plain names) target is_body t
  meant-tree names target is_body (Node kind m span semantic_id ps) =
      either (is_reference kind) (reference names target m (string_of (at 0 ps))) (references_in (λ i. names_at is_body kind m ps i ++ names) (is_body_part kind) (members_of kind) ps) (meaning (plain names) target m (string_of (at 0 ps)) ∷ []) (meant_from (names_inside (plain names) is_body kind ps) (is_body_part kind) 0 (members_of kind) ps)
      (one names target m (string_of (at 0 ps)))
      (meant-parts (λ i. names_at is_body kind m ps i ++ names) (is_body_part kind) (names_inside (plain names) is_body kind ps) (is_body_part kind) 0 (members_of kind) ps
      (λ k. inside names is_body kind m ps k ∙ ap (names_inside (plain names) is_body kind ps) (from_zero k)) (λ k. ap (is_body_part kind) (from_zero k)))
    where
      from_zero : (k : ℕ) → k ≡ 0 + k
      from_zero k = omega arith

  meant-parts : (names : ℕ → List Declaration) (parts : ℕ → Bool) (sees : ℕ → List Declaration) (bodies : ℕ → Bool) (i : ℕ) (fs : List Field) (ps : Parts) → ((k : ℕ) → plain (names k) ≡ sees (i + k)) → ((k : ℕ) → parts k ≡ bodies (i + k))
      → references_in names parts fs ps ≡ meant_from sees bodies i fs ps
  meant-parts names parts sees bodies i fs end same are = refl
  meant-parts names parts sees bodies i [] (more p ps) same are = refl
  meant-parts names parts sees bodies i (f ∷ fs) (more p ps) same are =
      ap (λ (ms : List Reference). ms ++ references_in (λ k. names (suc k)) (λ k. parts (suc k)) fs ps)
      (meant-part (names 0) (is_target f.sort) (parts 0) p ∙ ap (λ ds. meant_at ds (is_target f.sort) (parts 0) p) (same 0 ∙ ap sees (at_once i)) ∙ ap (λ b. meant_at (sees i) (is_target f.sort) b p) (are 0 ∙ ap bodies (at_once i)))
      ∙ ap (λ (ms : List Reference). meant_at (sees i) (is_target f.sort) (bodies i) p ++ ms) (meant-parts (λ k. names (suc k)) (λ k. parts (suc k)) sees bodies (i + 1) fs ps (λ k. same (suc k) ∙ ap sees (one_on i k)) (λ k. are (suc k) ∙ ap bodies (one_on i k)))
    where
      at_once : (i : ℕ) → i + 0 ≡ i
      at_once i = omega arith

      one_on : (i k : ℕ) → i + suc k ≡ (i + 1) + k
      one_on i k = omega arith

  meant-part : (names : List Declaration) (target is_body : Bool) (p : Part) → part_references names target is_body p ≡ meant_at (plain names) target is_body p
  meant-part names target is_body (child t) = meant-tree names target is_body t
  meant-part names target is_body absent = refl
  meant-part names target is_body (list ps) = meant-items names target ps
  meant-part names target is_body (string s) = refl
  meant-part names target is_body no_string = refl
  meant-part names target is_body (boolean b) = refl
  meant-part names target is_body (literal v) = refl

  meant-items : (names : List Declaration) (target : Bool) (ps : Parts) → item_references names target ps ≡ meant_of (plain names) target ps
  meant-items names target end = refl
  meant-items names target (more p ps) =
      ap (λ (ms : List Reference). ms ++ item_references names target ps) (meant-part names target false p)
      ∙ ap (λ (ms : List Reference). meant_at (plain names) target false p ++ ms) (meant-items names target ps)

pub resolved : (t : Tree) → meant_in [] false false t ≡ resolve t
resolved t = sym (meant-tree [] false false t)

-- ---- in code

pub no_reference : (kind : Kind) → (kind ≡ Kind.IdentifierReference → ⊥) → is_reference kind ≡ false
no_reference Kind.IdentifierReference other = absurd (other refl)
no_reference kind other = refl

-- a name without a binding is free
pub referent_again : (s : String) (names : List Declaration) (b : Option NodeId) → b ≡ binding_of (referent s (declared s names)) → referent_of s b ≡ referent s (declared s names)
referent_again s names b e = ap (referent_of s) e ∙ here (declared s names)
  where
    here : (d : Option Declaration) → referent_of s (binding_of (referent s d)) ≡ referent s d
    here None = refl
    here (Some d) = refl
