-- The definitions on a class are looked up by the classes of definitions.
use Rattle.std.proofs.Common.{◌≡◌, refl, sym, ap, ◌∙◌, ℕ, List, [], ◌∷◌, ◌++◌, Bool, true, false, cond, ◌||◌, nat_eq, Option, Some, None}
use Rattle.std.proofs.lemmas.Bool.{eqb-true}
use Rattle.std.proofs.lemmas.List.{map-append}
use Rattle.es_base.specs.Tree.{Tree, Part, Node, child}
use Rattle.es_base.specs.declared.kind.Kind.{Kind}
use Rattle.es_base.specs.declared.ledger.GeneratedKind.{GeneratedKind}
use Rattle.es_base.specs.declared.ledger.LedgerEntry.{LedgerEntry}
use Rattle.es_binding_faults.proofs.HasNumbers.{has_number-append}
use Rattle.es_grouped.proofs.Having.{having_append}
use Rattle.es_grouped.specs.Groups.{group, having}
use Rattle.es_grouped.specs.declared.Grouped.{Grouped}
use Rattle.es_lowered.specs.Definitions as spec
use Rattle.es_lowered.specs.Definitions.{BrandKey, PrivateKey, PublicKey, class_identifiers, is_bound_among, is_class_temporary, is_member_of, is_static_member, is_static_of, key_is_static, names_class, statics_of}
use Rattle.es_node.specs.View.{kind_of, number_in, parts_in}
use Rattle.es_owed_definitions.specs.Statics.{bound_classes, classes_on, key_class, member_class, named_classes, static_class, static_pairs, temporary_class, with_classes}
use Rattle.es_owed_definitions.specs.Views.{definition_view, definition_views}
use Rattle.es_owed_definitions.specs.declared.definition.FieldDefinition.{FieldDefinition}
use Rattle.es_steps.specs.Context.{generated_as}
use Rattle.es_steps.specs.LoweredClasses.{referent_of}
use Rattle.es_steps.specs.Parts.{at, string_of, is_present}
use Rattle.es_steps.specs.PrivateNames.{PrivateMember, member_at}
use Rattle.es_steps.specs.References.{Reference, has_number}
use Rattle.es_steps.specs.Values.{Referent, Bound, Free}

-- ---- what a node names

module _ (ledger : List LedgerEntry) (members : List PrivateMember) (rs : List Reference) (declared : Grouped ℕ) where
  pub named_reference : (t : Tree) → kind_of t ≡ Kind.IdentifierReference → named_classes ledger members rs declared (child t) ≡ temporary_class (generated_as (string_of (at 0 (parts_in t))) ledger) ++ bound_classes declared (referent_of (number_in t) rs)
  named_reference (Node Kind.IdentifierReference m span semantic_id ps) is = refl
  named_reference (Node kind m span semantic_id ps) is = absurd (cc)

  pub names_nothing : (t : Tree) → (kind_of t ≡ Kind.IdentifierReference → ⊥) → named_classes ledger members rs declared (child t) ≡ []
  names_nothing (Node Kind.IdentifierReference m span semantic_id ps) other = absurd (other refl)
  names_nothing (Node kind m span semantic_id ps) other = refl

-- ---- a class among those of a definition

one : (n k : ℕ) → has_number n (k ∷ []) ≡ nat_eq n k
one n k = here (nat_eq n k)
  where
    here : (b : Bool) → (b || false) ≡ b
    here true = refl
    here false = refl

temporary : (n : ℕ) (g : Option GeneratedKind) → has_number n (temporary_class g) ≡ is_class_temporary n g
temporary n (Some (GeneratedKind.ClassTemp k)) = one n k.0
temporary n g = refl

member : (n : ℕ) (x : Option PrivateMember) → has_number n (member_class x) ≡ is_member_of n x
member n None = refl
member n (Some x) = one n x.class

static_member : (n : ℕ) (g : Option GeneratedKind) (members : List PrivateMember) → has_number n (static_class g members) ≡ is_static_member n g members
static_member n (Some (GeneratedKind.StaticField d)) members = member n (member_at d.0 members)
static_member n g members = refl

static_key : (n : ℕ) (ledger : List LedgerEntry) (members : List PrivateMember) (k : spec.DefinedKey) → has_number n (key_class ledger members k) ≡ key_is_static n ledger members k
static_key n ledger members (BrandKey s) = refl
static_key n ledger members (PrivateKey s) = static_member n (generated_as s ledger) members
static_key n ledger members (PublicKey k is_name) = refl

-- ids are the identifiers of class n
module _ (ledger : List LedgerEntry) (members : List PrivateMember) (rs : List Reference) (declared : Grouped ℕ) (n : ℕ) (ids : List ℕ) (are : (b : ℕ) → has_number n (group b declared) ≡ has_number b ids) where
  bound : (r : Option Referent) → has_number n (bound_classes declared r) ≡ is_bound_among ids r
  bound None = refl
  bound (Some (Bound b)) = are b
  bound (Some (Free s)) = refl

  named : (p : Part) → has_number n (named_classes ledger members rs declared p) ≡ names_class n ledger rs ids p
  named (child (Node Kind.IdentifierReference m span semantic_id ps)) =
      has_number-append n (temporary_class (generated_as (string_of (at 0 ps)) ledger)) (bound_classes declared (referent_of m rs))
      ∙ ap (λ b. b || has_number n (bound_classes declared (referent_of m rs))) (temporary n (generated_as (string_of (at 0 ps)) ledger))
      ∙ ap (λ b. is_class_temporary n (generated_as (string_of (at 0 ps)) ledger) || b) (bound (referent_of m rs))
  named p = refl

  on_class : (d : spec.FieldDefinition) → has_number n (classes_on ledger members rs declared d) ≡ is_static_of n ledger members rs ids d
  on_class d = here (is_present d.object)
    where
      here : (b : Bool) → has_number n (cond b (named_classes ledger members rs declared d.object) (key_class ledger members d.key)) ≡ cond b (names_class n ledger rs ids d.object) (key_is_static n ledger members d.key)
      here true = named d.object
      here false = static_key n ledger members d.key

-- ---- a definition with each of its classes

pub with_more : (k : ℕ) (ns : List ℕ) (d : FieldDefinition) → with_classes (k ∷ ns) d ≡ cond (has_number k ns) [] ((k, d) ∷ []) ++ with_classes ns d
with_more k ns d = refl

never : {X : Type 0} → false ≡ true → X
never e = absurd (cc)

once : (d : FieldDefinition) (stands is rest : Bool) → (is ≡ true → rest ≡ stands) → cond stands [] (cond is (d ∷ []) [] ++ []) ++ cond rest (d ∷ []) [] ≡ cond (is || rest) (d ∷ []) []
once d true true true same = refl
once d true true false same = never (same refl)
once d true false rest same = refl
once d false true true same = never (sym (same refl))
once d false true false same = refl
once d false false rest same = refl

with_one : (n k : ℕ) (d : FieldDefinition) (b : Bool) → having n (cond b [] ((k, d) ∷ [])) ≡ cond b [] (cond (nat_eq n k) (d ∷ []) [] ++ [])
with_one n k d true = refl
with_one n k d false = refl

of_each : (n : ℕ) (ns : List ℕ) (d : FieldDefinition) → having n (with_classes ns d) ≡ cond (has_number n ns) (d ∷ []) []
of_each n [] d = refl
of_each n (k ∷ ns) d =
    having_append n (cond (has_number k ns) [] ((k, d) ∷ [])) (with_classes ns d)
    ∙ ap (λ xs. xs ++ having n (with_classes ns d)) (with_one n k d (has_number k ns))
    ∙ ap (λ xs. cond (has_number k ns) [] (cond (nat_eq n k) (d ∷ []) [] ++ []) ++ xs) (of_each n ns d)
    ∙ once d (has_number k ns) (nat_eq n k) (has_number n ns) (λ e. ap (λ z. has_number z ns) (eqb-true n k e))

viewed : (d : FieldDefinition) (b : Bool) → definition_views (cond b (d ∷ []) []) ≡ cond b (definition_view d ∷ []) []
viewed d true = refl
viewed d false = refl

module _ (ledger : List LedgerEntry) (members : List PrivateMember) (rs : List Reference) (declared : Grouped ℕ) (n : ℕ) (ids : List ℕ) (are : (b : ℕ) → has_number n (group b declared) ≡ has_number b ids) where
  pub by_classes : (ds : List FieldDefinition) → definition_views (having n (static_pairs ledger members rs declared ds)) ≡ statics_of (is_static_of n ledger members rs ids) (definition_views ds)
  by_classes [] = refl
  by_classes (d ∷ ds) =
      let ns = classes_on ledger members rs declared (definition_view d) in
      let rest = definition_views (having n (static_pairs ledger members rs declared ds)) in
      ap definition_views (having_append n (with_classes ns d) (static_pairs ledger members rs declared ds))
      ∙ map-append definition_view (having n (with_classes ns d)) (having n (static_pairs ledger members rs declared ds))
      ∙ ap (λ xs. definition_views xs ++ rest) (of_each n ns d)
      ∙ ap (λ xs. xs ++ rest) (viewed d (has_number n ns))
      ∙ ap (λ b. cond b (definition_view d ∷ []) [] ++ rest) (on_class ledger members rs declared n ids are (definition_view d))
      ∙ ap (λ xs. cond (is_static_of n ledger members rs ids (definition_view d)) (definition_view d ∷ []) [] ++ xs) (by_classes ds)

-- those of a program, by the same references, nodes and definitions
pub same_statics : (first n : ℕ) (ledger : List LedgerEntry) (members : List PrivateMember) (rs ss : List Reference) (ts us : List Tree) (ds es : List spec.FieldDefinition) → rs ≡ ss → ts ≡ us → ds ≡ es
    → statics_of (is_static_of n ledger members rs (class_identifiers first n ts)) ds ≡ statics_of (is_static_of n ledger members ss (class_identifiers first n us)) es
same_statics first n ledger members rs ss ts us ds es references nodes definitions =
    ap (λ (z : List Reference). statics_of (is_static_of n ledger members z (class_identifiers first n ts)) ds) references
    ∙ ap (λ (z : List Tree). statics_of (is_static_of n ledger members ss (class_identifiers first n z)) ds) nodes
    ∙ ap (statics_of (is_static_of n ledger members ss (class_identifiers first n us))) definitions
