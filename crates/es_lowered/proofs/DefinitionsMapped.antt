-- The definitions of fields in a lowered program, under a change of numbers of both programs.
use Rattle.std.specs.Prelude.{◌≡◌, ℕ, List, [], ◌∷◌, ◌++◌, map, Bool, true, false, cond, not, ◌&&◌, ◌||◌, nat_eq, codes, bytes_eq, Option, Some, None}
use Rattle.std.proofs.Common.{refl, ap, ap₂, ◌∙◌}
use Rattle.es_base.specs.Numbered.{is_new}
use Rattle.es_base.specs.Preorder.{preorder, number_of}
use Rattle.es_base.specs.Tree.{Tree, Part, Parts, Node, end, more, child, absent, list, string, literal}
use Rattle.es_base.specs.declared.kind.Kind.{Kind}
use Rattle.es_base.specs.declared.ledger.GeneratedKind.{GeneratedKind}
use Rattle.es_base.specs.declared.ledger.LedgerEntry.{LedgerEntry}
use Rattle.es_base.specs.declared.literal.LiteralValue.TheVariants as literal_value
use Rattle.es_steps.specs.Context.{generated_as, is_function}
use Rattle.es_lowered.specs.Definitions.{old_ones, DefinedKey, BrandKey, PrivateKey, PublicKey, FieldDefinition, definition, spelling, helper_definition, property_value, writable_part, field_part, loose_by, object_definition, call_definition, static_by, static_definition, set_definition, is_assignment, is_super_of, given_to, given_part, definition_at, is_given_super, definitions_in, definitions_at, definitions_of, function_definitions, super_definitions, constructor_definitions, all_definitions, is_new_this, on_this, instance_definitions, identifier_in, is_class_number, declares_class, class_identifiers, is_class_temporary, is_bound_among, names_class, is_member_of, is_static_member, key_is_static, is_static_of, statics_of, static_definitions, is_member_name, is_temporary, is_member_key, referent_at, is_property_name, same_referent, is_name_part, Names, is_computed_key, is_key_of, key_fits, is_void_zero, nodes_in, number_stands, is_followed, value_fits, all_fit, is_brand_of, is_brand_key, branded_fit, is_instance_method, any_of, chosen, defined_fields, names_of, class_fits, classes_fit, definitions_stand, key_temporary, key_temporaries, class_temporaries, with_class, all_temporaries, element_numbers, body_numbers, elements_kept, is_super_name, any_reads, any_definition, is_construction, are_constructions, is_plain_super, super_stands, supers_stand, is_of_members, none_of_members}
use Rattle.es_steps.specs.KeptNodes.{is_within}
use Rattle.es_steps.specs.LoweredClasses.{Element, elements_of, is_left_out, is_lowered_element, constructor_in, referent_of}
use Rattle.es_steps.specs.Options.{lowers_fields, sets_fields}
use Rattle.es_steps.specs.Parts.{at, items, string_of, is_true, is_present}
use Rattle.es_steps.specs.PrivateNames.{PrivateMember, member_at, is_class}
use Rattle.es_steps.specs.References.{Reference, resolve}
use Rattle.es_steps.specs.SameTrees.{same_part}
use Rattle.es_steps.specs.SameValues.{same_boolean}
use Rattle.es_steps.specs.Scopes.{class_in}
use Rattle.es_steps.specs.Values.{String, Referent, Bound, Free}
use Rattle.es_steps.specs.declared.options.Options.{Options}
use Rattle.es_steps.proofs.ContextMapped.{generated_as-mapped}
use Rattle.es_steps.proofs.KeptNodesMapped.{mapped_element, elements_of-mapped, is_left_out-mapped, constructor_in-mapped, referent_of-mapped, needs_temporary-mapped, same_part-mapped, stands_equal-mapped, is_within-mapped}
use Rattle.es_steps.proofs.Mapped.{Renames, mapped, mapped_part, mapped_parts, mapped_option, mapped_generated, mapped_ledger, mapped_privates, mapped_private, mapped_referent, mapped_reference}
use Rattle.es_steps.proofs.PartsMapped.{cond-mapped, append-mapped, at-mapped, items_at-mapped, string_at-mapped, is_true_at-mapped, is_present-mapped, number_of-mapped, preorder-mapped}
use Rattle.es_steps.proofs.PrivatesMapped.{member_at-mapped}
use Rattle.es_steps.proofs.ReferencesMapped.{resolve-mapped, written-mapped, has_number-mapped}
use Rattle.es_steps.proofs.ScopesMapped.{class_in-mapped}

module _ (f : ℕ → ℕ) where
  abbrev pub mapped_key : DefinedKey → DefinedKey
  mapped_key (BrandKey s) = BrandKey s
  mapped_key (PrivateKey s) = PrivateKey s
  mapped_key (PublicKey k is_name) = PublicKey (mapped_part f k) is_name

  abbrev pub mapped_field : FieldDefinition → FieldDefinition
  mapped_field d = record { object = mapped_part f d.object; key = mapped_key d.key; value = mapped_part f d.value }

  abbrev pub mapped_names : Names → Names
  mapped_names x = record { ledger = mapped_ledger f x.ledger; source = map (mapped_reference f) x.source; written = map f x.written; lowered = map (mapped_reference f) x.lowered; identifiers = map f x.identifiers }

  -- ---- forms

  pub spelling-mapped : (p : Part) → spelling (mapped_part f p) ≡ spelling p
  spelling-mapped (child (Node Kind.IdentifierReference m span semantic_id ps)) = string_at-mapped f 0 ps
  spelling-mapped (child (Node Kind.BindingIdentifier m span semantic_id ps)) = string_at-mapped f 0 ps
  spelling-mapped p = refl

  helper_three-mapped : (h : String) (o k v : Part) → helper_definition h (more (mapped_part f o) (more (mapped_part f k) (more (mapped_part f v) end))) ≡ map mapped_field (helper_definition h (more o (more k (more v end))))
  helper_three-mapped h o k v =
      rw (spelling-mapped k)
      (cond-mapped (map mapped_field) (bytes_eq h (codes "defineProperty")) (definition o (PublicKey k false) v) _ refl
      (cond-mapped (map mapped_field) (bytes_eq h (codes "classPrivateFieldInitSpec")) (definition o (PrivateKey (spelling k)) v) [] refl refl))

  helper_definition-mapped : (h : String) (es : Parts) → helper_definition h (mapped_parts f es) ≡ map mapped_field (helper_definition h es)
  helper_definition-mapped h (more o (more k (more v end))) = helper_three-mapped h o k v
  helper_definition-mapped h (more o (more k end)) = rw (spelling-mapped k) (cond-mapped (map mapped_field) (bytes_eq h (codes "classPrivateMethodInitSpec")) (definition o (BrandKey (spelling k)) absent) [] refl refl)
  helper_definition-mapped h es = refl

  property_value-mapped : (s : String) (p : Part) → property_value s (mapped_part f p) ≡ mapped_part f (property_value s p)
  property_value-mapped s (child (Node Kind.Property m span semantic_id (more (child (Node Kind.IdentifierName k kspan k_semantic_id (more (string t) end))) (more v rest)))) = cond-mapped (mapped_part f) (bytes_eq s t) v absent refl refl
  property_value-mapped s p = refl

  pub writable_part-mapped : (p : Part) → writable_part (mapped_part f p) ≡ mapped_part f (writable_part p)
  writable_part-mapped (child (Node Kind.ObjectExpression m span semantic_id (more (list (more w (more v end))) end))) =
      rw (property_value-mapped (codes "writable") w, is_present-mapped f (property_value (codes "writable") w))
      (cond-mapped (mapped_part f) (is_present (property_value (codes "writable") w)) (property_value (codes "value") v) absent (property_value-mapped (codes "value") v) refl)
  writable_part-mapped p = refl

  pub field_part-mapped : (p : Part) → field_part (mapped_part f p) ≡ mapped_part f (field_part p)
  field_part-mapped (child (Node Kind.ObjectExpression m span semantic_id (more (list (more v end)) end))) = property_value-mapped (codes "_") v
  field_part-mapped p = refl

  loose_by-mapped : (g : Option GeneratedKind) (o k v : Part) → loose_by (mapped_option (mapped_generated f) g) (mapped_part f o) (mapped_part f k) (mapped_part f v) ≡ map mapped_field (loose_by g o k v)
  loose_by-mapped (Some (GeneratedKind.LooseKey d)) o k (child v) = rw (spelling-mapped k) refl
  loose_by-mapped g o k v = refl

  generated_spelling-mapped : (ledger : List LedgerEntry) (p : Part) → generated_as (spelling (mapped_part f p)) (mapped_ledger f ledger) ≡ mapped_option (mapped_generated f) (generated_as (spelling p) ledger)
  generated_spelling-mapped ledger p = ap (λ s. generated_as s (mapped_ledger f ledger)) (spelling-mapped p) ∙ generated_as-mapped f (spelling p) ledger

  object_definition-mapped : (ledger : List LedgerEntry) (es : Parts) → object_definition (mapped_ledger f ledger) (mapped_parts f es) ≡ map mapped_field (object_definition ledger es)
  object_definition-mapped ledger (more o (more k (more v end))) = rw (generated_spelling-mapped ledger k, writable_part-mapped v) (loose_by-mapped (generated_as (spelling k) ledger) o k (writable_part v))
  object_definition-mapped ledger es = refl

  static_by-mapped : (g : Option GeneratedKind) (to v : Part) → static_by (mapped_option (mapped_generated f) g) (mapped_part f to) (mapped_part f v) ≡ map mapped_field (static_by g to v)
  static_by-mapped (Some (GeneratedKind.StaticField d)) to (child v) = rw (spelling-mapped to) refl
  static_by-mapped g to v = refl

  static_definition-mapped : (ledger : List LedgerEntry) (to v : Part) → static_definition (mapped_ledger f ledger) (mapped_part f to) (mapped_part f v) ≡ map mapped_field (static_definition ledger to v)
  static_definition-mapped ledger to v = rw (generated_spelling-mapped ledger to, field_part-mapped v) (static_by-mapped (generated_as (spelling to) ledger) to (field_part v))

  set_definition-mapped : (o : Options) (to v : Part) → set_definition o (mapped_part f to) (mapped_part f v) ≡ map mapped_field (set_definition o to v)
  set_definition-mapped o (child (Node Kind.MemberExpression m span semantic_id ps)) v = rw (at-mapped f 0 ps, at-mapped f 1 ps, is_true_at-mapped f 2 ps) (cond-mapped (map mapped_field) (sets_fields o) (definition (at 0 ps) (PublicKey (at 1 ps) (not (is_true (at 2 ps)))) v) [] refl refl)
  set_definition-mapped o to v = refl

  given_to-mapped : (kind : Kind) (ps : Parts) → given_to kind (mapped_parts f ps) ≡ mapped_part f (given_to kind ps)
  given_to-mapped Kind.AssignmentExpression ps = at-mapped f 1 ps
  given_to-mapped Kind.VariableDeclarator ps = at-mapped f 0 ps
  given_to-mapped kind ps = refl

  given_part-mapped : (kind : Kind) (ps : Parts) → given_part kind (mapped_parts f ps) ≡ mapped_part f (given_part kind ps)
  given_part-mapped Kind.AssignmentExpression ps = at-mapped f 2 ps
  given_part-mapped Kind.VariableDeclarator ps = at-mapped f 1 ps
  given_part-mapped kind ps = refl

  identifier_in-mapped : (p : Part) → identifier_in (mapped_part f p) ≡ map f (identifier_in p)
  identifier_in-mapped (child (Node Kind.BindingIdentifier b span semantic_id ps)) = refl
  identifier_in-mapped p = refl

  identifier_at-mapped : (ps : Parts) → identifier_in (at 0 (mapped_parts f ps)) ≡ map f (identifier_in (at 0 ps))
  identifier_at-mapped ps = ap identifier_in (at-mapped f 0 ps) ∙ identifier_in-mapped (at 0 ps)

  is_temporary-mapped : (g : Option GeneratedKind) → is_temporary (mapped_option (mapped_generated f) g) ≡ is_temporary g
  is_temporary-mapped (Some GeneratedKind.Temp) = refl
  is_temporary-mapped g = refl

  is_property_name-mapped : (s : String) (is_name : Bool) (p : Part) → is_property_name s is_name (mapped_part f p) ≡ is_property_name s is_name p
  is_property_name-mapped s true (child (Node Kind.IdentifierName m span semantic_id ps)) = rw (string_at-mapped f 0 ps) refl
  is_property_name-mapped s false (child (Node Kind.Literal m span semantic_id (more (literal (literal_value.String t raw)) end))) = refl
  is_property_name-mapped s is_name p = refl

  is_void_zero-mapped : (p : Part) → is_void_zero (mapped_part f p) ≡ is_void_zero p
  is_void_zero-mapped (child (Node Kind.UnaryExpression m span semantic_id (more (string operator) (more (child (Node Kind.Literal k kspan k_semantic_id (more (literal (literal_value.Number raw)) end))) end)))) = refl
  is_void_zero-mapped p = refl

  nodes_in-mapped : (p : Part) → nodes_in (mapped_part f p) ≡ map (mapped f) (nodes_in p)
  nodes_in-mapped (child t) = preorder-mapped f t
  nodes_in-mapped p = refl

  key_temporary-mapped : (ledger : List LedgerEntry) (k : DefinedKey) → key_temporary (mapped_ledger f ledger) (mapped_key k) ≡ key_temporary ledger k
  key_temporary-mapped ledger (PublicKey k is_name) = rw (generated_spelling-mapped ledger k, is_temporary-mapped (generated_as (spelling k) ledger), spelling-mapped k) refl
  key_temporary-mapped ledger (BrandKey s) = refl
  key_temporary-mapped ledger (PrivateKey s) = refl

  key_temporaries-mapped : (ledger : List LedgerEntry) (ds : List FieldDefinition) → key_temporaries (mapped_ledger f ledger) (map mapped_field ds) ≡ key_temporaries ledger ds
  key_temporaries-mapped ledger [] = refl
  key_temporaries-mapped ledger (d ∷ ds) = ap₂ (λ a b. a ++ b) (key_temporary-mapped ledger d.key) (key_temporaries-mapped ledger ds)

  abbrev pub mapped_temporary : String × ℕ → String × ℕ
  mapped_temporary p = (p.0, f p.1)

  with_class-mapped : (n : ℕ) (ss : List String) → with_class (f n) ss ≡ map mapped_temporary (with_class n ss)
  with_class-mapped n [] = refl
  with_class-mapped n (s ∷ ss) = ap (λ rest. (s, f n) ∷ rest) (with_class-mapped n ss)

  element_numbers-mapped : (es : List Element) → element_numbers (map (mapped_element f) es) ≡ map f (element_numbers es)
  element_numbers-mapped [] = refl
  element_numbers-mapped (e ∷ es) = ap (λ rest. f e.number ∷ rest) (element_numbers-mapped es)

  chosen-mapped : (test : Element → Bool) → ((e : Element) → test (mapped_element f e) ≡ test e) → (es : List Element) → chosen test (map (mapped_element f) es) ≡ map (mapped_element f) (chosen test es)
  chosen-mapped test same [] = refl
  chosen-mapped test same (e ∷ es) = rw (same e) (append-mapped (mapped_element f) _ _ (cond-mapped (map (mapped_element f)) (test e) (e ∷ []) [] refl refl) (chosen-mapped test same es))

  defined_fields-mapped : (o : Options) (is_static : Bool) (es : List Element) → defined_fields o is_static (map (mapped_element f) es) ≡ map (mapped_element f) (defined_fields o is_static es)
  defined_fields-mapped o is_static es = chosen-mapped (λ e. e.is_field && (not (is_left_out o e) && same_boolean is_static e.is_static)) (λ e. ap (λ b. e.is_field && (not b && same_boolean is_static e.is_static)) (is_left_out-mapped f o e)) es

  any_method-mapped : (es : List Element) → any_of is_instance_method (map (mapped_element f) es) ≡ any_of is_instance_method es
  any_method-mapped [] = refl
  any_method-mapped (e ∷ es) = ap (λ b. is_instance_method e || b) (any_method-mapped es)

module _ {first : ℕ} {f : ℕ → ℕ} (r : Renames first f) where
  -- ---- definitions in a tree

  call_definition-mapped : (ledger : List LedgerEntry) (g : Part) (es : Parts) → call_definition first (mapped_ledger f ledger) (mapped_part f g) (mapped_parts f es) ≡ map (mapped_field f) (call_definition first ledger g es)
  call_definition-mapped ledger (child (Node Kind.MemberExpression m span semantic_id (more (child (Node Kind.IdentifierReference b bspan b_semantic_id (more (string s) end))) (more (child (Node Kind.IdentifierName k kspan k_semantic_id (more (string h) end))) rest)))) es =
      rw (r.new b)
      (cond-mapped (map (mapped_field f)) (is_new first b && bytes_eq s (codes "babelHelpers")) (helper_definition h es) _ (helper_definition-mapped f h es)
      (cond-mapped (map (mapped_field f)) (is_new first b && (bytes_eq s (codes "Object") && bytes_eq h (codes "defineProperty"))) (object_definition ledger es) [] (object_definition-mapped f ledger es) refl))
  call_definition-mapped ledger g es = refl

  is_super_of-mapped : (n : ℕ) (g : Option GeneratedKind) → is_super_of (f n) (mapped_option (mapped_generated f) g) ≡ is_super_of n g
  is_super_of-mapped n (Some (GeneratedKind.SuperFn k)) = r.apart n k.0
  is_super_of-mapped n g = refl

  module _ (o : Options) (ledger : List LedgerEntry) where
    abbrev there : List LedgerEntry
    there = mapped_ledger f ledger

    definition_at-mapped : (kind : Kind) (m : ℕ) (ps : Parts) → definition_at first o there kind (f m) (mapped_parts f ps) ≡ map (mapped_field f) (definition_at first o ledger kind m ps)
    definition_at-mapped Kind.CallExpression m ps = rw (at-mapped f 0 ps, items_at-mapped f 1 ps) (call_definition-mapped ledger (at 0 ps) (items (at 1 ps)))
    definition_at-mapped Kind.AssignmentExpression m ps =
        rw (r.new m, string_at-mapped f 0 ps, at-mapped f 1 ps, at-mapped f 2 ps)
        (cond-mapped (map (mapped_field f)) (is_new first m && is_assignment ps) (set_definition o (at 1 ps) (at 2 ps) ++ static_definition ledger (at 1 ps) (at 2 ps)) [] (append-mapped (mapped_field f) _ _ (set_definition-mapped f o (at 1 ps) (at 2 ps)) (static_definition-mapped f ledger (at 1 ps) (at 2 ps))) refl)
    definition_at-mapped Kind.VariableDeclarator m ps = rw (at-mapped f 0 ps, at-mapped f 1 ps) (static_definition-mapped f ledger (at 0 ps) (at 1 ps))
    definition_at-mapped kind m ps = refl

    is_given_super-mapped : (n : ℕ) (kind : Kind) (ps : Parts) → is_given_super first o there (f n) kind (mapped_parts f ps) ≡ is_given_super first o ledger n kind ps
    is_given_super-mapped n kind ps = rw (given_to-mapped f kind ps, generated_spelling-mapped f ledger (given_to kind ps)) (is_super_of-mapped n (generated_as (spelling (given_to kind ps)) ledger))

    mutual
      definitions_in-mapped : (n : ℕ) (t : Tree) → definitions_in first o there (f n) (mapped f t) ≡ map (mapped_field f) (definitions_in first o ledger n t)
      definitions_in-mapped n (Node kind m span semantic_id ps) =
          rw (is_given_super-mapped n kind ps)
          (cond-mapped (map (mapped_field f)) (is_class kind || (is_function kind || is_given_super first o ledger n kind ps)) [] (definition_at first o ledger kind m ps ++ definitions_of first o ledger n ps) refl (append-mapped (mapped_field f) _ _ (definition_at-mapped kind m ps) (definitions_of-mapped n ps)))

      definitions_at-mapped : (n : ℕ) (p : Part) → definitions_at first o there (f n) (mapped_part f p) ≡ map (mapped_field f) (definitions_at first o ledger n p)
      definitions_at-mapped n (child t) = definitions_in-mapped n t
      definitions_at-mapped n (list ps) = definitions_of-mapped n ps
      definitions_at-mapped n p = refl

      definitions_of-mapped : (n : ℕ) (ps : Parts) → definitions_of first o there (f n) (mapped_parts f ps) ≡ map (mapped_field f) (definitions_of first o ledger n ps)
      definitions_of-mapped n end = refl
      definitions_of-mapped n (more p ps) = append-mapped (mapped_field f) _ _ (definitions_at-mapped n p) (definitions_of-mapped n ps)

    function_definitions-mapped : (n : ℕ) (p : Part) → function_definitions first o there (f n) (mapped_part f p) ≡ map (mapped_field f) (function_definitions first o ledger n p)
    function_definitions-mapped n (child (Node kind m span semantic_id ps)) = definitions_of-mapped n ps
    function_definitions-mapped n p = refl

    super_definitions-mapped : (n : ℕ) (ts : List Tree) → super_definitions first o there (f n) (map (mapped f) ts) ≡ map (mapped_field f) (super_definitions first o ledger n ts)
    super_definitions-mapped n [] = refl
    super_definitions-mapped n (Node kind m span semantic_id ps ∷ ts) =
        rw (is_given_super-mapped n kind ps, given_part-mapped f kind ps)
        (append-mapped (mapped_field f) _ _ (cond-mapped (map (mapped_field f)) (is_given_super first o ledger n kind ps) (function_definitions first o ledger n (given_part kind ps)) [] (function_definitions-mapped n (given_part kind ps)) refl) (super_definitions-mapped n ts))

    constructor_definitions-mapped : (n : ℕ) (ts : List Tree) → constructor_definitions first o there (f n) (map (mapped f) ts) ≡ map (mapped_field f) (constructor_definitions first o ledger n ts)
    constructor_definitions-mapped n [] = refl
    constructor_definitions-mapped n (Node kind k span semantic_id ps ∷ ts) =
        rw (r.apart n k, at-mapped f 2 ps, constructor_in-mapped f (at 2 ps))
        (append-mapped (mapped_field f) _ _ (cond-mapped (map (mapped_field f)) (is_class kind && nat_eq n k) (function_definitions first o ledger n (constructor_in (at 2 ps))) [] (function_definitions-mapped n (constructor_in (at 2 ps))) refl) (constructor_definitions-mapped n ts))

    all_definitions-mapped : (ts : List Tree) → all_definitions first o there (map (mapped f) ts) ≡ map (mapped_field f) (all_definitions first o ledger ts)
    all_definitions-mapped [] = refl
    all_definitions-mapped (Node kind m span semantic_id ps ∷ ts) = append-mapped (mapped_field f) _ _ (definition_at-mapped kind m ps) (all_definitions-mapped ts)

  -- ---- of instances

  is_new_this-mapped : (p : Part) → is_new_this first (mapped_part f p) ≡ is_new_this first p
  is_new_this-mapped (child (Node Kind.ThisExpression m span semantic_id ps)) = r.new m
  is_new_this-mapped p = refl

  on_this-mapped : (ds : List FieldDefinition) → on_this first (map (mapped_field f) ds) ≡ map (mapped_field f) (on_this first ds)
  on_this-mapped [] = refl
  on_this-mapped (d ∷ ds) = rw (is_new_this-mapped d.object) (append-mapped (mapped_field f) _ _ (cond-mapped (map (mapped_field f)) (is_new_this first d.object) (d ∷ []) [] refl refl) (on_this-mapped ds))

  instance_definitions-mapped : (o : Options) (ledger : List LedgerEntry) (q : Tree) (n : ℕ) → instance_definitions first o (mapped_ledger f ledger) (mapped f q) (f n) ≡ map (mapped_field f) (instance_definitions first o ledger q n)
  instance_definitions-mapped o ledger q n =
      rw (preorder-mapped f q)
      (ap (on_this first) (append-mapped (mapped_field f) _ _ (super_definitions-mapped o ledger n (preorder q)) (constructor_definitions-mapped o ledger n (preorder q)))
      ∙ on_this-mapped (super_definitions first o ledger n (preorder q) ++ constructor_definitions first o ledger n (preorder q)))

  -- ---- of a class

  is_class_number-mapped : (n : ℕ) (k : Option ℕ) → is_class_number (f n) (mapped_option f k) ≡ is_class_number n k
  is_class_number-mapped n None = refl
  is_class_number-mapped n (Some k) = r.apart n k

  old_ones-mapped : (ns : List ℕ) → old_ones first (map f ns) ≡ map f (old_ones first ns)
  old_ones-mapped [] = refl
  old_ones-mapped (n ∷ ns) = append-mapped f _ _ (rw (r.new n) (cond-mapped (map f) (is_new first n) [] (n ∷ []) refl refl)) (old_ones-mapped ns)

  declares_class-mapped : (n : ℕ) (kind : Kind) (m : ℕ) (ps : Parts) → declares_class first (f n) kind (f m) (mapped_parts f ps) ≡ map f (declares_class first n kind m ps)
  declares_class-mapped n Kind.ClassDeclaration m ps = rw (r.apart n m) (cond-mapped (map f) (nat_eq n m) (identifier_in (at 0 ps)) [] (identifier_at-mapped f ps) refl)
  declares_class-mapped n Kind.ClassExpression m ps = rw (r.apart n m) (cond-mapped (map f) (nat_eq n m) (identifier_in (at 0 ps)) [] (identifier_at-mapped f ps) refl)
  declares_class-mapped n Kind.VariableDeclarator m ps = rw (r.new m, at-mapped f 1 ps, class_in-mapped f (at 1 ps), is_class_number-mapped n (class_in (at 1 ps))) (cond-mapped (map f) (is_new first m && is_class_number n (class_in (at 1 ps))) (old_ones first (identifier_in (at 0 ps))) [] (ap (old_ones first) (identifier_at-mapped f ps) ∙ old_ones-mapped (identifier_in (at 0 ps))) refl)
  declares_class-mapped n kind m ps = refl

  pub class_identifiers-mapped : (n : ℕ) (ts : List Tree) → class_identifiers first (f n) (map (mapped f) ts) ≡ map f (class_identifiers first n ts)
  class_identifiers-mapped n [] = refl
  class_identifiers-mapped n (Node kind m span semantic_id ps ∷ ts) = append-mapped f _ _ (declares_class-mapped n kind m ps) (class_identifiers-mapped n ts)

  is_class_temporary-mapped : (n : ℕ) (g : Option GeneratedKind) → is_class_temporary (f n) (mapped_option (mapped_generated f) g) ≡ is_class_temporary n g
  is_class_temporary-mapped n (Some (GeneratedKind.ClassTemp k)) = r.apart n k.0
  is_class_temporary-mapped n g = refl

  pub is_bound_among-mapped : (bs : List ℕ) (to : Option Referent) → is_bound_among (map f bs) (mapped_option (mapped_referent f) to) ≡ is_bound_among bs to
  is_bound_among-mapped bs (Some (Bound b)) = has_number-mapped r b bs
  is_bound_among-mapped bs (Some (Free s)) = refl
  is_bound_among-mapped bs None = refl

  pub names_class-mapped : (n : ℕ) (ledger : List LedgerEntry) (references : List Reference) (identifiers : List ℕ) (p : Part) → names_class (f n) (mapped_ledger f ledger) (map (mapped_reference f) references) (map f identifiers) (mapped_part f p) ≡ names_class n ledger references identifiers p
  names_class-mapped n ledger references identifiers (child (Node Kind.IdentifierReference m span semantic_id ps)) =
      rw (string_at-mapped f 0 ps, generated_as-mapped f (string_of (at 0 ps)) ledger, is_class_temporary-mapped n (generated_as (string_of (at 0 ps)) ledger), referent_of-mapped r m references, is_bound_among-mapped identifiers (referent_of m references)) refl
  names_class-mapped n ledger references identifiers p = refl

  is_member_of-mapped : (n : ℕ) (x : Option PrivateMember) → is_member_of (f n) (mapped_option (mapped_private f) x) ≡ is_member_of n x
  is_member_of-mapped n None = refl
  is_member_of-mapped n (Some x) = r.apart n x.class

  is_static_member-mapped : (n : ℕ) (g : Option GeneratedKind) (members : List PrivateMember) → is_static_member (f n) (mapped_option (mapped_generated f) g) (mapped_privates f members) ≡ is_static_member n g members
  is_static_member-mapped n (Some (GeneratedKind.StaticField d)) members = ap (is_member_of (f n)) (member_at-mapped r d.0 members) ∙ is_member_of-mapped n (member_at d.0 members)
  is_static_member-mapped n g members = refl

  key_is_static-mapped : (n : ℕ) (ledger : List LedgerEntry) (members : List PrivateMember) (k : DefinedKey) → key_is_static (f n) (mapped_ledger f ledger) (mapped_privates f members) (mapped_key f k) ≡ key_is_static n ledger members k
  key_is_static-mapped n ledger members (PrivateKey s) = rw (generated_as-mapped f s ledger) (is_static_member-mapped n (generated_as s ledger) members)
  key_is_static-mapped n ledger members (BrandKey s) = refl
  key_is_static-mapped n ledger members (PublicKey k is_name) = refl

  is_static_of-mapped : (n : ℕ) (ledger : List LedgerEntry) (members : List PrivateMember) (references : List Reference) (identifiers : List ℕ) (d : FieldDefinition) → is_static_of (f n) (mapped_ledger f ledger) (mapped_privates f members) (map (mapped_reference f) references) (map f identifiers) (mapped_field f d) ≡ is_static_of n ledger members references identifiers d
  is_static_of-mapped n ledger members references identifiers d = rw (is_present-mapped f d.object, names_class-mapped n ledger references identifiers d.object, key_is_static-mapped n ledger members d.key) refl

  statics_of-mapped : (test own : FieldDefinition → Bool) → ((d : FieldDefinition) → test (mapped_field f d) ≡ own d) → (ds : List FieldDefinition) → statics_of test (map (mapped_field f) ds) ≡ map (mapped_field f) (statics_of own ds)
  statics_of-mapped test own same [] = refl
  statics_of-mapped test own same (d ∷ ds) = rw (same d) (append-mapped (mapped_field f) _ _ (cond-mapped (map (mapped_field f)) (own d) (d ∷ []) [] refl refl) (statics_of-mapped test own same ds))

  static_definitions-mapped : (o : Options) (ledger : List LedgerEntry) (members : List PrivateMember) (q : Tree) (n : ℕ) → static_definitions first o (mapped_ledger f ledger) (mapped_privates f members) (mapped f q) (f n) ≡ map (mapped_field f) (static_definitions first o ledger members q n)
  static_definitions-mapped o ledger members q n =
      rw (resolve-mapped f q, preorder-mapped f q, class_identifiers-mapped n (preorder q), all_definitions-mapped o ledger (preorder q))
      (statics_of-mapped _ (is_static_of n ledger members (resolve q) (class_identifiers first n (preorder q))) (is_static_of-mapped n ledger members (resolve q) (class_identifiers first n (preorder q))) (all_definitions first o ledger (preorder q)))

  -- ---- keys and values

  is_member_name-mapped : (d : ℕ) (g : Option GeneratedKind) → is_member_name (f d) (mapped_option (mapped_generated f) g) ≡ is_member_name d g
  is_member_name-mapped d (Some (GeneratedKind.WeakMap k)) = r.apart d k.0
  is_member_name-mapped d (Some (GeneratedKind.StaticField k)) = r.apart d k.0
  is_member_name-mapped d (Some (GeneratedKind.LooseKey k)) = r.apart d k.0
  is_member_name-mapped d g = refl

  same_referent-mapped : (a b : Option Referent) → same_referent (mapped_option (mapped_referent f) a) (mapped_option (mapped_referent f) b) ≡ same_referent a b
  same_referent-mapped (Some (Bound b)) (Some (Bound c)) = r.apart b c
  same_referent-mapped (Some (Bound b)) (Some (Free t)) = refl
  same_referent-mapped (Some (Bound b)) None = refl
  same_referent-mapped (Some (Free s)) b = refl
  same_referent-mapped None b = refl

  number_stands-mapped : (m : ℕ) (ts : List Tree) → number_stands (f m) (map (mapped f) ts) ≡ number_stands m ts
  number_stands-mapped m [] = refl
  number_stands-mapped m (t ∷ ts) = rw (number_of-mapped f t, r.apart m (number_of t), number_stands-mapped m ts) refl

  value_fits-mapped : (p v : Part) → value_fits (mapped_part f p) (mapped_part f v) ≡ value_fits p v
  value_fits-mapped absent v = is_void_zero-mapped f v
  value_fits-mapped (child (Node Kind.Literal m span semantic_id ps)) v = rw (nodes_in-mapped f v) (stands_equal-mapped r (Node Kind.Literal m span semantic_id ps) (nodes_in v))
  value_fits-mapped (child (Node kind m span semantic_id ps)) v = ap (λ b. not (is_followed kind) || b) (ap (number_stands (f m)) (nodes_in-mapped f v) ∙ number_stands-mapped m (nodes_in v))
  value_fits-mapped p v = refl

  is_brand_of-mapped : (n : ℕ) (g : Option GeneratedKind) → is_brand_of (f n) (mapped_option (mapped_generated f) g) ≡ is_brand_of n g
  is_brand_of-mapped n (Some (GeneratedKind.Brand k)) = r.apart n k.0
  is_brand_of-mapped n g = refl

  is_brand_key-mapped : (n : ℕ) (ledger : List LedgerEntry) (k : DefinedKey) → is_brand_key (f n) (mapped_ledger f ledger) (mapped_key f k) ≡ is_brand_key n ledger k
  is_brand_key-mapped n ledger (BrandKey s) = rw (generated_as-mapped f s ledger) (is_brand_of-mapped n (generated_as s ledger))
  is_brand_key-mapped n ledger (PrivateKey s) = refl
  is_brand_key-mapped n ledger (PublicKey k is_name) = refl

  is_member_key-mapped : (p : Part) (g : Option GeneratedKind) → is_member_key (mapped_part f p) (mapped_option (mapped_generated f) g) ≡ is_member_key p g
  is_member_key-mapped (child (Node kind d span semantic_id ps)) g = is_member_name-mapped d g
  is_member_key-mapped p g = refl

  referent_at-mapped : (p : Part) (references : List Reference) → referent_at (mapped_part f p) (map (mapped_reference f) references) ≡ mapped_option (mapped_referent f) (referent_at p references)
  referent_at-mapped (child (Node kind m span semantic_id ps)) references = referent_of-mapped r m references
  referent_at-mapped p references = refl

  is_name_part-mapped : (p : Part) → is_name_part (mapped_part f p) ≡ is_name_part p
  is_name_part-mapped (child (Node Kind.IdentifierReference m span semantic_id ps)) = refl
  is_name_part-mapped p = refl

  is_computed_key-mapped : (x : Names) (n : ℕ) (key k : Part) → is_computed_key (mapped_names f x) (f n) (mapped_part f key) (mapped_part f k) ≡ is_computed_key x n key k
  is_computed_key-mapped x n key k =
      rw (needs_temporary-mapped r x.written x.source key, generated_spelling-mapped f x.ledger k, is_temporary-mapped f (generated_as (spelling k) x.ledger), is_name_part-mapped key, referent_at-mapped key x.source, referent_at-mapped k x.lowered, same_referent-mapped (referent_at key x.source) (referent_at k x.lowered), names_class-mapped n x.ledger x.lowered x.identifiers k, same_part-mapped r key k) refl

  abbrev else_key : Names → ℕ → Bool → Part → Bool → Part → Bool
  else_key x n computed key is_name k = not is_name && cond computed (is_computed_key x n key k) (same_part key k)

  else_key-mapped : (x : Names) (n : ℕ) (computed : Bool) (key : Part) (is_name : Bool) (k : Part) → else_key (mapped_names f x) (f n) computed (mapped_part f key) is_name (mapped_part f k) ≡ else_key x n computed key is_name k
  else_key-mapped x n computed key is_name k = ap₂ (λ a b. not is_name && cond computed a b) (is_computed_key-mapped x n key k) (same_part-mapped r key k)

  is_key_of-mapped : (x : Names) (n : ℕ) (e : Element) (key : Part) (is_name : Bool) (k : Part) → is_key_of (mapped_names f x) (f n) (mapped_element f e) (mapped_part f key) is_name (mapped_part f k) ≡ is_key_of x n e key is_name k
  is_key_of-mapped x n e (child (Node Kind.IdentifierName m span semantic_id ps)) is_name k = ap (λ s. is_property_name s is_name (mapped_part f k)) (string_at-mapped f 0 ps) ∙ is_property_name-mapped f (string_of (at 0 ps)) is_name k
  is_key_of-mapped x n e key is_name k = else_key-mapped x n e.computed key is_name k

  key_fits-mapped : (x : Names) (n : ℕ) (e : Element) (k : DefinedKey) → key_fits (mapped_names f x) (f n) (mapped_element f e) (mapped_key f k) ≡ key_fits x n e k
  key_fits-mapped x n e (BrandKey s) = refl
  key_fits-mapped x n e (PrivateKey s) = ap (λ b. e.is_private && b) (ap (is_member_key (mapped_part f e.key)) (generated_as-mapped f s x.ledger) ∙ is_member_key-mapped e.key (generated_as s x.ledger))
  key_fits-mapped x n e (PublicKey k is_name) = ap (λ b. not e.is_private && b) (is_key_of-mapped x n e e.key is_name k)

  -- ---- all definitions of a class

  all_fit-mapped : (x : Names) (n : ℕ) (es : List Element) (ds : List FieldDefinition) → all_fit (mapped_names f x) (f n) (map (mapped_element f) es) (map (mapped_field f) ds) ≡ all_fit x n es ds
  all_fit-mapped x n [] [] = refl
  all_fit-mapped x n [] (d ∷ ds) = refl
  all_fit-mapped x n (e ∷ es) [] = refl
  all_fit-mapped x n (e ∷ es) (d ∷ ds) = rw (key_fits-mapped x n e d.key, value_fits-mapped e.value d.value, all_fit-mapped x n es ds) refl

  branded_fit-mapped : (x : Names) (n : ℕ) (branded : Bool) (es : List Element) (ds : List FieldDefinition) → branded_fit (mapped_names f x) (f n) branded (map (mapped_element f) es) (map (mapped_field f) ds) ≡ branded_fit x n branded es ds
  branded_fit-mapped x n false es ds = all_fit-mapped x n es ds
  branded_fit-mapped x n true es [] = refl
  branded_fit-mapped x n true es (d ∷ ds) = ap₂ (λ a b. a && b) (is_brand_key-mapped n x.ledger d.key) (all_fit-mapped x n es ds)

  names_of-mapped : (ledger : List LedgerEntry) (p q : Tree) (n : ℕ) → names_of first (mapped_ledger f ledger) (mapped f p) (mapped f q) (f n) ≡ mapped_names f (names_of first ledger p q n)
  names_of-mapped ledger p q n = rw (written-mapped f p, resolve-mapped f p, resolve-mapped f q, preorder-mapped f q, class_identifiers-mapped n (preorder q)) refl

  class_fits-mapped : (o : Options) (ledger : List LedgerEntry) (members : List PrivateMember) (p q : Tree) (n : ℕ) (es : List Element) → class_fits first o (mapped_ledger f ledger) (mapped_privates f members) (mapped f p) (mapped f q) (f n) (map (mapped_element f) es) ≡ class_fits first o ledger members p q n es
  class_fits-mapped o ledger members p q n es =
      rw (names_of-mapped ledger p q n, any_method-mapped f es, defined_fields-mapped f o false es, defined_fields-mapped f o true es, instance_definitions-mapped o ledger q n, static_definitions-mapped o ledger members q n)
      (ap₂ (λ a b. a && b) (branded_fit-mapped (names_of first ledger p q n) n (any_of is_instance_method es) (defined_fields o false es) (instance_definitions first o ledger q n)) (all_fit-mapped (names_of first ledger p q n) n (defined_fields o true es) (static_definitions first o ledger members q n)))

  classes_fit-mapped : (o : Options) (ledger : List LedgerEntry) (members : List PrivateMember) (p q : Tree) (ts : List Tree) → classes_fit first o (mapped_ledger f ledger) (mapped_privates f members) (mapped f p) (mapped f q) (map (mapped f) ts) ≡ classes_fit first o ledger members p q ts
  classes_fit-mapped o ledger members p q [] = refl
  classes_fit-mapped o ledger members p q (Node kind n span semantic_id ps ∷ ts) =
      ap₂ (λ a b. (not (is_class kind) || a) && b)
      (ap (class_fits first o (mapped_ledger f ledger) (mapped_privates f members) (mapped f p) (mapped f q) (f n)) (elements_of-mapped f ps) ∙ class_fits-mapped o ledger members p q n (elements_of ps))
      (classes_fit-mapped o ledger members p q ts)

  -- ---- what stands for `super(..)`

  is_super_name-mapped : (g : Option GeneratedKind) → is_super_name (mapped_option (mapped_generated f) g) ≡ is_super_name g
  is_super_name-mapped None = refl
  is_super_name-mapped (Some (GeneratedKind.SuperFn n)) = refl
  is_super_name-mapped (Some g) = refl

  any_reads-mapped : (s : String) (rs : List Reference) → any_reads s (map (mapped_reference f) rs) ≡ any_reads s rs
  any_reads-mapped s [] = refl
  any_reads-mapped s (x ∷ rs) = ap (λ b. (bytes_eq s x.spelling && not x.writes) || b) (any_reads-mapped s rs)

  any_definition-mapped : (ds : List FieldDefinition) → any_definition (map (mapped_field f) ds) ≡ any_definition ds
  any_definition-mapped [] = refl
  any_definition-mapped (d ∷ ds) = refl

  module _ (o : Options) (ledger : List LedgerEntry) where
    is_construction-mapped : (p : Part) → is_construction first o (mapped_ledger f ledger) (mapped_part f p) ≡ is_construction first o ledger p
    is_construction-mapped (child (Node Kind.ThisExpression m span semantic_id ps)) = refl
    is_construction-mapped (child (Node Kind.CallExpression m span semantic_id (more (child (Node Kind.Super k kspan k_semantic_id ks)) rest))) = refl
    is_construction-mapped (child (Node kind m span semantic_id ps)) = ap any_definition (definition_at-mapped o ledger kind m ps) ∙ any_definition-mapped (definition_at first o ledger kind m ps)
    is_construction-mapped p = refl

    are_constructions-mapped : (ps : Parts) → are_constructions first o (mapped_ledger f ledger) (mapped_parts f ps) ≡ are_constructions first o ledger ps
    are_constructions-mapped end = refl
    are_constructions-mapped (more p ps) = ap₂ (λ a b. a && b) (is_construction-mapped p) (are_constructions-mapped ps)

    is_plain_super-mapped : (p : Part) → is_plain_super first o (mapped_ledger f ledger) (mapped_part f p) ≡ is_plain_super first o ledger p
    is_plain_super-mapped (child (Node Kind.ArrowFunctionExpression m span semantic_id (more args (more (child (Node Kind.SequenceExpression k kspan k_semantic_id (more (list es) end))) rest)))) = are_constructions-mapped es
    is_plain_super-mapped p = refl

    super_stands-mapped : (rs : List Reference) (kind : Kind) (ps : Parts) → super_stands first o (mapped_ledger f ledger) (map (mapped_reference f) rs) kind (mapped_parts f ps) ≡ super_stands first o ledger rs kind ps
    super_stands-mapped rs kind ps =
        rw (given_to-mapped f kind ps, given_part-mapped f kind ps, spelling-mapped f (given_to kind ps), generated_as-mapped f (spelling (given_to kind ps)) ledger, is_super_name-mapped (generated_as (spelling (given_to kind ps)) ledger), any_reads-mapped (spelling (given_to kind ps)) rs, is_plain_super-mapped (given_part kind ps)) refl

    supers_stand-mapped : (rs : List Reference) (ts : List Tree) → supers_stand first o (mapped_ledger f ledger) (map (mapped_reference f) rs) (map (mapped f) ts) ≡ supers_stand first o ledger rs ts
    supers_stand-mapped rs [] = refl
    supers_stand-mapped rs (Node kind m span semantic_id ps ∷ ts) = ap₂ (λ a b. a && b) (super_stands-mapped rs kind ps) (supers_stand-mapped rs ts)

  is_of_members-mapped : (g : GeneratedKind) → is_of_members (mapped_generated f g) ≡ is_of_members g
  is_of_members-mapped GeneratedKind.Temp = refl
  is_of_members-mapped _ = refl

  none_of_members-mapped : (ledger : List LedgerEntry) → none_of_members (mapped_ledger f ledger) ≡ none_of_members ledger
  none_of_members-mapped [] = refl
  none_of_members-mapped (e ∷ es) = ap₂ (λ a b. not a && b) (is_of_members-mapped e.kind) (none_of_members-mapped es)

  pub definitions_stand-mapped : (o : Options) (ledger : List LedgerEntry) (members : List PrivateMember) (p q : Tree) → definitions_stand first o (mapped_ledger f ledger) (mapped_privates f members) (mapped f p) (mapped f q) ≡ definitions_stand first o ledger members p q
  definitions_stand-mapped o ledger members p q =
      ap₂ (cond (lowers_fields o))
      (ap₂ (λ a b. a && b)
      (ap (classes_fit first o (mapped_ledger f ledger) (mapped_privates f members) (mapped f p) (mapped f q)) (preorder-mapped f p) ∙ classes_fit-mapped o ledger members p q (preorder p))
      (ap₂ (supers_stand first o (mapped_ledger f ledger)) (resolve-mapped f q) (preorder-mapped f q) ∙ supers_stand-mapped o ledger (resolve q) (preorder q)))
      (none_of_members-mapped ledger)

  -- ---- temporaries of keys

  class_temporaries-mapped : (o : Options) (ledger : List LedgerEntry) (members : List PrivateMember) (q : Tree) (n : ℕ) → class_temporaries first o (mapped_ledger f ledger) (mapped_privates f members) (mapped f q) (f n) ≡ class_temporaries first o ledger members q n
  class_temporaries-mapped o ledger members q n =
      ap (key_temporaries (mapped_ledger f ledger)) (append-mapped (mapped_field f) _ _ (instance_definitions-mapped o ledger q n) (static_definitions-mapped o ledger members q n))
      ∙ key_temporaries-mapped f ledger (instance_definitions first o ledger q n ++ static_definitions first o ledger members q n)

  pub all_temporaries-mapped : (o : Options) (ledger : List LedgerEntry) (members : List PrivateMember) (q : Tree) (ts : List Tree) → all_temporaries first o (mapped_ledger f ledger) (mapped_privates f members) (mapped f q) (map (mapped f) ts) ≡ map (mapped_temporary f) (all_temporaries first o ledger members q ts)
  all_temporaries-mapped o ledger members q [] = refl
  all_temporaries-mapped o ledger members q (Node kind n span semantic_id ps ∷ ts) =
      rw (class_temporaries-mapped o ledger members q n)
      (append-mapped (mapped_temporary f) _ _ (cond-mapped (map (mapped_temporary f)) (is_class kind) (with_class n (class_temporaries first o ledger members q n)) [] (with_class-mapped f n (class_temporaries first o ledger members q n)) refl) (all_temporaries-mapped o ledger members q ts))

  -- ---- elements

  body_numbers-mapped : (n : ℕ) (ts : List Tree) → body_numbers (f n) (map (mapped f) ts) ≡ map f (body_numbers n ts)
  body_numbers-mapped n [] = refl
  body_numbers-mapped n (Node kind k span semantic_id ps ∷ ts) = rw (r.apart n k, elements_of-mapped f ps) (cond-mapped (map f) (is_class kind && nat_eq n k) (element_numbers (elements_of ps)) (body_numbers n ts) (element_numbers-mapped f (elements_of ps)) (body_numbers-mapped n ts))

  pub elements_kept-mapped : (o : Options) (ts qs : List Tree) → elements_kept o (map (mapped f) ts) (map (mapped f) qs) ≡ elements_kept o ts qs
  elements_kept-mapped o [] qs = refl
  elements_kept-mapped o (Node kind n span semantic_id ps ∷ ts) qs =
      let kept : List Element = chosen (λ e. not (is_lowered_element o e)) (elements_of ps) in
      ap₂ (λ a b. (not (is_class kind) || a) && b)
      (ap₂ is_within (ap element_numbers (ap (chosen (λ e. not (is_lowered_element o e))) (elements_of-mapped f ps) ∙ chosen-mapped f (λ e. not (is_lowered_element o e)) (λ e. refl) (elements_of ps)) ∙ element_numbers-mapped f kept) (body_numbers-mapped n qs) ∙ is_within-mapped r (element_numbers kept) (body_numbers n qs))
      (elements_kept-mapped o ts qs)
