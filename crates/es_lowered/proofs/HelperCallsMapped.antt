-- What calls of helpers have to be, under a change of numbers.
use Rattle.std.specs.Prelude.{◌≡◌, ℕ, List, [], ◌∷◌, ◌++◌, map, Bool, true, false, cond, not, ◌&&◌, ◌||◌, bytes_eq, codes, Option, Some, None}
use Rattle.std.proofs.Common.{refl, ap, ap₂, ◌∙◌}
use Rattle.es_base.specs.Preorder.{preorder, preorder_of}
use Rattle.es_base.specs.Tree.{Tree, Part, Parts, Node, end, more, child, list, string, literal}
use Rattle.es_base.specs.declared.kind.Kind.{Kind}
use Rattle.es_base.specs.declared.ledger.GeneratedKind.{GeneratedKind}
use Rattle.es_base.specs.declared.ledger.LedgerEntry.{LedgerEntry}
use Rattle.es_base.specs.declared.literal.LiteralValue.TheVariants as literal_value
use Rattle.es_steps.specs.Context.{generated_as}
use Rattle.es_lowered.specs.Definitions.{spelling}
use Rattle.es_lowered.specs.HelperCalls.{is_helper_callee, is_any_helper, part_number, is_number_key, value_number, value_number_of, last_value_number, computed_key, computed_keys, is_renamed, is_private_kind, is_private_name, is_loose_key, is_silent_callee, is_loose_definition, is_member_helper, call_tells, is_new_object, tells, last_part, is_generated_name, is_key, is_key_part, gives_key, ends_with_key, is_write, has_key, form_has_key, part_has_key, last_has_key, first_has_key, third_has_key, StaticKey, is_name, kept_by, has_none, runs_with_class, any_runs, body_runs, is_name_literal, both_tests, behind_tests, generated_spelling, is_key_conversion, computed_static_key, static_key, method_key, method_keys, field_key, tests_of, tests_at, naming_in, naming_at, element_naming, body_naming, naming_calls, body_keys, is_nameless, converted_key, converted_keys, is_new_private, new_private_names, private_spelling, private_keys, is_one_among, Conversions, last_spelling, may_be_named, call_fits, is_kept_key, node_fits, names_inside, calls_fit, calls_in, calls_at, conversions, helper_calls_fit}
use Rattle.es_steps.specs.NameScopes.{is_any_function}
use Rattle.es_steps.specs.Parts.{at, items, string_of, is_true}
use Rattle.es_steps.specs.Printable.{name_of_part}
use Rattle.es_steps.specs.Values.{String}
use Rattle.es_steps.proofs.ContextMapped.{generated_as-mapped, is_generated-mapped}
use Rattle.es_lowered.proofs.DefinitionsMapped.{spelling-mapped}
use Rattle.es_steps.proofs.Mapped.{Renames, mapped, mapped_part, mapped_parts, mapped_option, mapped_generated, mapped_ledger}
use Rattle.es_steps.proofs.PartsMapped.{cond-mapped, append-mapped, at-mapped, items_at-mapped, string_at-mapped, is_true_at-mapped, is_present_at-mapped, number_of-mapped, preorder-mapped, preorder_of-mapped}
use Rattle.es_steps.proofs.PrintableMapped.{name_of_part-mapped, is_spelled-mapped}
use Rattle.es_steps.proofs.ReferencesMapped.{has_number-mapped}

module _ (f : ℕ → ℕ) where
  -- ---- computed keys

  pub part_number-mapped : (p : Part) → part_number (mapped_part f p) ≡ map f (part_number p)
  part_number-mapped (child t) = ap (λ n. n ∷ []) (number_of-mapped f t)
  part_number-mapped p = refl

  is_number_key-mapped : (p : Part) → is_number_key (mapped_part f p) ≡ is_number_key p
  is_number_key-mapped (child (Node Kind.Literal m span semantic_id (more (literal (literal_value.Number raw)) end))) = refl
  is_number_key-mapped (child (Node Kind.Literal m span semantic_id (more (literal (literal_value.BigInt s)) end))) = refl
  is_number_key-mapped p = refl

  pub is_number_at-mapped : (ps : Parts) → is_number_key (at 0 (mapped_parts f ps)) ≡ is_number_key (at 0 ps)
  is_number_at-mapped ps = ap is_number_key (at-mapped f 0 ps) ∙ is_number_key-mapped (at 0 ps)

  mutual
    value_number-mapped : (t : Tree) → value_number (mapped f t) ≡ map f (value_number t)
    value_number-mapped (Node Kind.SequenceExpression m span semantic_id (more (list es) end)) = last_value_number-mapped es
    value_number-mapped t = ap (λ n. n ∷ []) (number_of-mapped f t)

    value_number_of-mapped : (p : Part) → value_number_of (mapped_part f p) ≡ map f (value_number_of p)
    value_number_of-mapped (child t) = value_number-mapped t
    value_number_of-mapped p = refl

    last_value_number-mapped : (ps : Parts) → last_value_number (mapped_parts f ps) ≡ map f (last_value_number ps)
    last_value_number-mapped end = refl
    last_value_number-mapped (more p end) = value_number_of-mapped p
    last_value_number-mapped (more p (more q rest)) = last_value_number-mapped (more q rest)

  key_number-mapped : (b : Bool) (ps : Parts) → cond b (value_number_of (at 0 (mapped_parts f ps))) [] ≡ map f (cond b (value_number_of (at 0 ps)) [])
  key_number-mapped b ps = cond-mapped (map f) b (value_number_of (at 0 ps)) [] (ap value_number_of (at-mapped f 0 ps) ∙ value_number_of-mapped (at 0 ps)) refl

  computed_key-mapped : (t : Tree) → computed_key (mapped f t) ≡ map f (computed_key t)
  computed_key-mapped (Node Kind.PropertyDefinition m span semantic_id ps) =
      rw (is_true_at-mapped f 2 ps, is_number_at-mapped ps) (key_number-mapped (is_true (at 2 ps) || is_number_key (at 0 ps)) ps)
  computed_key-mapped (Node Kind.MethodDefinition m span semantic_id ps) = rw (is_true_at-mapped f 3 ps) (key_number-mapped (is_true (at 3 ps)) ps)
  computed_key-mapped (Node Kind.Property m span semantic_id ps) =
      rw (is_true_at-mapped f 5 ps, is_number_at-mapped ps) (key_number-mapped (is_true (at 5 ps) || is_number_key (at 0 ps)) ps)
  computed_key-mapped t = refl

  computed_keys-mapped : (ts : List Tree) → computed_keys (map (mapped f) ts) ≡ map f (computed_keys ts)
  computed_keys-mapped [] = refl
  computed_keys-mapped (t ∷ ts) = append-mapped f _ _ (computed_key-mapped t) (computed_keys-mapped ts)

  pub all_computed_keys-mapped : (p : Tree) → computed_keys (preorder (mapped f p)) ≡ map f (computed_keys (preorder p))
  all_computed_keys-mapped p = ap computed_keys (preorder-mapped f p) ∙ computed_keys-mapped (preorder p)

  -- ---- parts

  last_part-mapped : (ps : Parts) → last_part (mapped_parts f ps) ≡ mapped_part f (last_part ps)
  last_part-mapped end = refl
  last_part-mapped (more p end) = refl
  last_part-mapped (more p (more q rest)) = last_part-mapped (more q rest)

  pub runs_with_class-mapped : (p : Part) → runs_with_class (mapped_part f p) ≡ runs_with_class p
  runs_with_class-mapped (child (Node Kind.StaticBlock m span semantic_id ps)) = refl
  runs_with_class-mapped (child (Node Kind.PropertyDefinition m span semantic_id ps)) = is_true_at-mapped f 3 ps
  runs_with_class-mapped p = refl

  any_runs-mapped : (ps : Parts) → any_runs (mapped_parts f ps) ≡ any_runs ps
  any_runs-mapped end = refl
  any_runs-mapped (more p ps) = ap₂ (λ a b. a || b) (runs_with_class-mapped p) (any_runs-mapped ps)

  pub body_runs-mapped : (p : Part) → body_runs (mapped_part f p) ≡ body_runs p
  body_runs-mapped (child (Node Kind.ClassBody m span semantic_id ps)) = ap any_runs (items_at-mapped f 0 ps) ∙ any_runs-mapped (items (at 0 ps))
  body_runs-mapped p = refl

  is_name_literal-mapped : (p : Part) → is_name_literal (mapped_part f p) ≡ is_name_literal p
  is_name_literal-mapped (child (Node Kind.Literal m span semantic_id (more (literal (literal_value.String s raw)) end))) = refl
  is_name_literal-mapped p = refl

  is_renamed-mapped : (g : Option GeneratedKind) → is_renamed (mapped_option (mapped_generated f) g) ≡ is_renamed g
  is_renamed-mapped None = refl
  is_renamed-mapped (Some (GeneratedKind.ClassTemp n)) = refl
  is_renamed-mapped (Some kind) = refl

  is_private_kind-mapped : (g : GeneratedKind) → is_private_kind (mapped_generated f g) ≡ is_private_kind g
  is_private_kind-mapped (GeneratedKind.Private n) = refl
  is_private_kind-mapped kind = refl

  is_private_name-mapped : (ledger : List LedgerEntry) (s : String) → is_private_name (mapped_ledger f ledger) s ≡ is_private_name ledger s
  is_private_name-mapped [] s = refl
  is_private_name-mapped (e ∷ es) s = ap₂ (λ a b. (a && bytes_eq s e.name) || b) (is_private_kind-mapped e.kind) (is_private_name-mapped es s)

  is_loose_key-mapped : (g : Option GeneratedKind) → is_loose_key (mapped_option (mapped_generated f) g) ≡ is_loose_key g
  is_loose_key-mapped None = refl
  is_loose_key-mapped (Some (GeneratedKind.LooseKey d)) = refl
  is_loose_key-mapped (Some kind) = refl

  pub is_generated_name-mapped : (ledger : List LedgerEntry) (p : Part) → is_generated_name (mapped_ledger f ledger) (mapped_part f p) ≡ is_generated_name ledger p
  is_generated_name-mapped ledger (child (Node Kind.IdentifierReference m span semantic_id ps)) = rw (string_at-mapped f 0 ps) (is_generated-mapped f (string_of (at 0 ps)) ledger)
  is_generated_name-mapped ledger p = refl

  private_spelling-mapped : (first : ℕ) (ledger : List LedgerEntry) (p : Part) → private_spelling first (mapped_ledger f ledger) (mapped_part f p) ≡ private_spelling first ledger p
  private_spelling-mapped first ledger (child (Node Kind.PrivateField m span semantic_id ps)) = ap (λ s. s ∷ []) (rw (at-mapped f 1 ps) (name_of_part-mapped f (at 1 ps)))
  private_spelling-mapped first ledger p = refl

module _ {first : ℕ} {f : ℕ → ℕ} (r : Renames first f) where
  pub is_helper_callee-mapped : (h : String) (p : Part) → is_helper_callee first h (mapped_part f p) ≡ is_helper_callee first h p
  is_helper_callee-mapped h (child (Node Kind.MemberExpression m span semantic_id (more (child (Node Kind.IdentifierReference b bspan b_semantic_id (more (string s) end))) (more (child (Node Kind.IdentifierName k kspan k_semantic_id (more (string t) end))) rest)))) = rw (r.new b) refl
  is_helper_callee-mapped h p = refl

  pub is_any_helper-mapped : (p : Part) → is_any_helper first (mapped_part f p) ≡ is_any_helper first p
  is_any_helper-mapped (child (Node Kind.MemberExpression m span semantic_id (more (child (Node Kind.IdentifierReference b bspan b_semantic_id (more (string s) end))) rest))) = rw (r.new b) refl
  is_any_helper-mapped p = refl

  module _ (ledger : List LedgerEntry) where
    abbrev there : List LedgerEntry
    there = mapped_ledger f ledger

    -- ---- numbers that tell values

    is_silent_callee-mapped : (p : Part) → is_silent_callee first there (mapped_part f p) ≡ is_silent_callee first ledger p
    is_silent_callee-mapped (child (Node Kind.Super m span semantic_id ps)) = refl
    is_silent_callee-mapped (child (Node Kind.IdentifierReference m span semantic_id ps)) = rw (string_at-mapped f 0 ps) (is_generated-mapped f (string_of (at 0 ps)) ledger)
    is_silent_callee-mapped (child (Node kind m span semantic_id ps)) = ap (λ b. b && is_any_function kind) (r.new m)
    is_silent_callee-mapped p = refl

    is_loose_definition-mapped : (es : Parts) → is_loose_definition first there (mapped_parts f es) ≡ is_loose_definition first ledger es
    is_loose_definition-mapped end = refl
    is_loose_definition-mapped (more o end) = refl
    is_loose_definition-mapped (more o (more l rest)) =
        ap (λ s. is_loose_key (generated_as s there)) (spelling-mapped f l) ∙ ap is_loose_key (generated_as-mapped f (spelling l) ledger) ∙ is_loose_key-mapped f (generated_as (spelling l) ledger)

    is_member_helper-mapped : (g : Part) → is_member_helper first there (mapped_part f g) ≡ is_member_helper first ledger g
    is_member_helper-mapped g =
        ap₂ (λ a b. a || b) (ap₂ (λ a b. a || b) (is_helper_callee-mapped (codes "classPrivateFieldGet2") g) (is_helper_callee-mapped (codes "superPropGet") g))
        (ap₂ (λ a b. a || b) (is_helper_callee-mapped (codes "classPrivateFieldSet2") g) (is_helper_callee-mapped (codes "superPropSet") g))

    call_tells-mapped : (g : Part) (es : Parts) → call_tells first there (mapped_part f g) (mapped_parts f es) ≡ call_tells first ledger g es
    call_tells-mapped g es =
        rw (is_any_helper-mapped g, is_member_helper-mapped g, is_silent_callee-mapped g, is_loose_definition-mapped es) refl

    is_new_object-mapped : (p : Part) → is_new_object first there (mapped_part f p) ≡ is_new_object first ledger p
    is_new_object-mapped (child (Node Kind.ObjectExpression m span semantic_id ps)) = r.new m
    is_new_object-mapped p = refl

    tells-mapped : (kind : Kind) (ps : Parts) → tells first there kind (mapped_parts f ps) ≡ tells first ledger kind ps
    tells-mapped Kind.ThisExpression ps = refl
    tells-mapped Kind.MetaProperty ps = refl
    tells-mapped Kind.SequenceExpression ps = refl
    tells-mapped Kind.AssignmentExpression ps = rw (at-mapped f 1 ps, is_generated_name-mapped f ledger (at 1 ps)) refl
    tells-mapped Kind.PrivateField ps =
        ap (λ b. not b) (ap (is_private_name there) (ap name_of_part (at-mapped f 1 ps) ∙ name_of_part-mapped f (at 1 ps)) ∙ is_private_name-mapped f ledger (name_of_part (at 1 ps)))
    tells-mapped Kind.CallExpression ps = rw (at-mapped f 0 ps, items_at-mapped f 1 ps) (call_tells-mapped (at 0 ps) (items (at 1 ps)))
    tells-mapped Kind.MemberExpression ps = rw (at-mapped f 0 ps, is_new_object-mapped (at 0 ps)) refl
    tells-mapped Kind.IdentifierReference ps =
        ap (λ b. not b) (ap (λ s. is_renamed (generated_as s there)) (string_at-mapped f 0 ps) ∙ ap is_renamed (generated_as-mapped f (string_of (at 0 ps)) ledger) ∙ is_renamed-mapped f (generated_as (string_of (at 0 ps)) ledger))
    tells-mapped kind ps = refl

    -- ---- values of keys

    module _ (keys : List ℕ) where
      is_key-mapped : (kind : Kind) (m : ℕ) (ps : Parts) → is_key first there (map f keys) kind (f m) (mapped_parts f ps) ≡ is_key first ledger keys kind m ps
      is_key-mapped kind m ps = ap₂ (λ a b. a && b) (has_number-mapped r m keys) (tells-mapped kind ps)

      is_key_part-mapped : (p : Part) → is_key_part first there (map f keys) (mapped_part f p) ≡ is_key_part first ledger keys p
      is_key_part-mapped (child (Node kind m span semantic_id ps)) = is_key-mapped kind m ps
      is_key_part-mapped p = refl

      gives_key-mapped : (s : String) (ts : List Tree) → gives_key first there (map f keys) s (map (mapped f) ts) ≡ gives_key first ledger keys s ts
      gives_key-mapped s [] = refl
      gives_key-mapped s (Node Kind.AssignmentExpression m span semantic_id ps ∷ ts) =
          rw (at-mapped f 1 ps, spelling-mapped f (at 1 ps), at-mapped f 2 ps, is_key_part-mapped (at 2 ps), gives_key-mapped s ts) refl
      gives_key-mapped s (t ∷ ts) = gives_key-mapped s ts

      ends_with_key-mapped : (es : Parts) → ends_with_key first there (map f keys) (mapped_parts f es) ≡ ends_with_key first ledger keys es
      ends_with_key-mapped es =
          rw (last_part-mapped f es, is_generated_name-mapped f ledger (last_part es), spelling-mapped f (last_part es), preorder_of-mapped f es, gives_key-mapped (spelling (last_part es)) (preorder_of es)) refl

      is_write-mapped : (g : Part) → is_write first there (map f keys) (mapped_part f g) ≡ is_write first ledger keys g
      is_write-mapped g = ap₂ (λ a b. a || b) (is_helper_callee-mapped (codes "classPrivateFieldSet2") g) (is_helper_callee-mapped (codes "superPropSet") g)

      mutual
        has_key-mapped : (t : Tree) → has_key first there (map f keys) (mapped f t) ≡ has_key first ledger keys t
        has_key-mapped (Node kind m span semantic_id ps) = ap₂ (λ a b. a || b) (is_key-mapped kind m ps) (form_has_key-mapped kind ps)

        form_has_key-mapped : (kind : Kind) (ps : Parts) → form_has_key first there (map f keys) kind (mapped_parts f ps) ≡ form_has_key first ledger keys kind ps
        form_has_key-mapped Kind.SequenceExpression (more (list es) end) = ap₂ (λ a b. a || b) (ends_with_key-mapped es) (last_has_key-mapped es)
        form_has_key-mapped Kind.AssignmentExpression (more (string operator) (more to (more right end))) = ap (λ b. bytes_eq operator (codes "=") && b) (part_has_key-mapped right)
        form_has_key-mapped Kind.CallExpression (more g (more (list es) rest)) =
            ap₂ (λ a b. a || b) (ap₂ (λ a b. a && b) (is_helper_callee-mapped (codes "toPropertyKey") g) (first_has_key-mapped es)) (ap₂ (λ a b. a && b) (is_write-mapped g) (third_has_key-mapped es))
        form_has_key-mapped kind ps = refl

        part_has_key-mapped : (p : Part) → part_has_key first there (map f keys) (mapped_part f p) ≡ part_has_key first ledger keys p
        part_has_key-mapped (child t) = has_key-mapped t
        part_has_key-mapped p = refl

        last_has_key-mapped : (ps : Parts) → last_has_key first there (map f keys) (mapped_parts f ps) ≡ last_has_key first ledger keys ps
        last_has_key-mapped end = refl
        last_has_key-mapped (more p end) = part_has_key-mapped p
        last_has_key-mapped (more p (more q rest)) = last_has_key-mapped (more q rest)

        first_has_key-mapped : (ps : Parts) → first_has_key first there (map f keys) (mapped_parts f ps) ≡ first_has_key first ledger keys ps
        first_has_key-mapped (more p rest) = part_has_key-mapped p
        first_has_key-mapped end = refl

        third_has_key-mapped : (ps : Parts) → third_has_key first there (map f keys) (mapped_parts f ps) ≡ third_has_key first ledger keys ps
        third_has_key-mapped (more p (more q (more x rest))) = part_has_key-mapped x
        third_has_key-mapped ps = refl

    -- ---- keys of static elements

    generated_spelling-mapped : (p : Part) → generated_spelling first there (mapped_part f p) ≡ generated_spelling first ledger p
    generated_spelling-mapped p = rw (is_generated_name-mapped f ledger p, spelling-mapped f p) refl

    is_key_conversion-mapped : (p : Part) → is_key_conversion first there (mapped_part f p) ≡ is_key_conversion first ledger p
    is_key_conversion-mapped (child (Node Kind.CallExpression m span semantic_id ps)) = rw (at-mapped f 0 ps) (is_helper_callee-mapped (codes "toPropertyKey") (at 0 ps))
    is_key_conversion-mapped p = refl

    computed_static_key-mapped : (p : Part) → computed_static_key first there (mapped_part f p) ≡ computed_static_key first ledger p
    computed_static_key-mapped (child (Node Kind.Literal m span semantic_id (more (literal (literal_value.String s raw)) end))) = refl
    computed_static_key-mapped (child (Node Kind.AssignmentExpression m span semantic_id ps)) =
        rw (at-mapped f 2 ps, at-mapped f 1 ps) (ap₂ (λ b ss. cond b (kept_by ss) is_name ∷ []) (is_key_conversion-mapped (at 2 ps)) (generated_spelling-mapped (at 1 ps)))
    computed_static_key-mapped p = refl

    static_key-mapped : (b c : Bool) (p : Part) → static_key first there b c (mapped_part f p) ≡ static_key first ledger b c p
    static_key-mapped false c p = refl
    static_key-mapped true true p = computed_static_key-mapped p
    static_key-mapped true false p = ap (λ b. cond b (is_name ∷ []) []) (is_spelled-mapped f (codes "name") p)

    element_key-mapped : (i j : ℕ) (ps : Parts) → static_key first there (is_true (at i (mapped_parts f ps))) (is_true (at j (mapped_parts f ps))) (at 0 (mapped_parts f ps)) ≡ static_key first ledger (is_true (at i ps)) (is_true (at j ps)) (at 0 ps)
    element_key-mapped i j ps = rw (is_true_at-mapped f i ps, is_true_at-mapped f j ps, at-mapped f 0 ps) (static_key-mapped (is_true (at i ps)) (is_true (at j ps)) (at 0 ps))

    method_key-mapped : (p : Part) → method_key first there (mapped_part f p) ≡ method_key first ledger p
    method_key-mapped (child (Node Kind.MethodDefinition m span semantic_id ps)) = element_key-mapped 4 3 ps
    method_key-mapped p = refl

    method_keys-mapped : (ps : Parts) → method_keys first there (mapped_parts f ps) ≡ method_keys first ledger ps
    method_keys-mapped end = refl
    method_keys-mapped (more p ps) = ap₂ (λ a b. a ++ b) (method_key-mapped p) (method_keys-mapped ps)

    field_key-mapped : (p : Part) → field_key first there (mapped_part f p) ≡ field_key first ledger p
    field_key-mapped (child (Node Kind.PropertyDefinition m span semantic_id ps)) =
        ap₂ (λ a b. a ++ cond b (is_name ∷ []) []) (element_key-mapped 3 2 ps) (ap₂ (λ a b. a && b) (is_true_at-mapped f 3 ps) (is_present_at-mapped f 1 ps))
    field_key-mapped (child (Node Kind.StaticBlock m span semantic_id ps)) = refl
    field_key-mapped p = refl

    -- ---- names of classes

    mutual
      tests_of-mapped : (t : Tree) → tests_of first there (mapped f t) ≡ tests_of first ledger t
      tests_of-mapped (Node Kind.LogicalExpression m span semantic_id (more (string s) (more l (more q end)))) =
          ap (λ ts. cond (bytes_eq s (codes "&&")) ts None) (ap₂ both_tests (tests_at-mapped l) (tests_at-mapped q))
      tests_of-mapped (Node Kind.BinaryExpression m span semantic_id (more (string s) (more l (more q end)))) =
          rw (is_generated_name-mapped f ledger l, is_name_literal-mapped f q, spelling-mapped f l) refl
      tests_of-mapped t = refl

      tests_at-mapped : (p : Part) → tests_at first there (mapped_part f p) ≡ tests_at first ledger p
      tests_at-mapped (child t) = tests_of-mapped t
      tests_at-mapped p = refl

    mutual
      naming_in-mapped : (ks : List StaticKey) (t : Tree) → naming_in first there ks (mapped f t) ≡ map f (naming_in first ledger ks t)
      naming_in-mapped ks (Node Kind.CallExpression m span semantic_id (more g rest)) =
          rw (is_helper_callee-mapped (codes "setFunctionName") g) (cond-mapped (map f) (is_helper_callee first (codes "setFunctionName") g && has_none ks) (m ∷ []) [] refl refl)
      naming_in-mapped ks (Node Kind.SequenceExpression m span semantic_id (more (list (more p ps)) end)) = naming_at-mapped ks p
      naming_in-mapped ks (Node Kind.LogicalExpression m span semantic_id (more (string s) (more l (more q end)))) =
          rw (tests_at-mapped l) (cond-mapped (map f) (bytes_eq s (codes "&&")) (naming_at first ledger (behind_tests (tests_at first ledger l) ks) q) [] (naming_at-mapped (behind_tests (tests_at first ledger l) ks) q) refl)
      naming_in-mapped ks t = refl

      naming_at-mapped : (ks : List StaticKey) (p : Part) → naming_at first there ks (mapped_part f p) ≡ map f (naming_at first ledger ks p)
      naming_at-mapped ks (child t) = naming_in-mapped ks t
      naming_at-mapped ks p = refl

    element_naming-mapped : (ks : List StaticKey) (p : Part) → element_naming first there ks (mapped_part f p) ≡ map f (element_naming first ledger ks p)
    element_naming-mapped ks (child (Node Kind.PropertyDefinition m span semantic_id ps)) =
        rw (is_true_at-mapped f 3 ps, at-mapped f 1 ps) (cond-mapped (map f) (is_true (at 3 ps)) (naming_at first ledger ks (at 1 ps)) [] (naming_at-mapped ks (at 1 ps)) refl)
    element_naming-mapped ks p = refl

    body_naming-mapped : (ks : List StaticKey) (ps : Parts) → body_naming first there ks (mapped_parts f ps) ≡ map f (body_naming first ledger ks ps)
    body_naming-mapped ks end = refl
    body_naming-mapped ks (more p ps) =
        rw (field_key-mapped p) (append-mapped f _ _ (element_naming-mapped ks p) (body_naming-mapped (ks ++ field_key first ledger p) ps))

    naming_calls-mapped : (ts : List Tree) → naming_calls first there (map (mapped f) ts) ≡ map f (naming_calls first ledger ts)
    naming_calls-mapped [] = refl
    naming_calls-mapped (Node Kind.ClassBody m span semantic_id ps ∷ ts) =
        rw (items_at-mapped f 0 ps, method_keys-mapped (items (at 0 ps))) (append-mapped f _ _ (body_naming-mapped (method_keys first ledger (items (at 0 ps))) (items (at 0 ps))) (naming_calls-mapped ts))
    naming_calls-mapped (t ∷ ts) = naming_calls-mapped ts

    body_keys-mapped : (p : Part) → body_keys first there (mapped_part f p) ≡ body_keys first ledger p
    body_keys-mapped (child (Node Kind.ClassBody m span semantic_id ps)) = ap (method_keys first there) (items_at-mapped f 0 ps) ∙ method_keys-mapped (items (at 0 ps))
    body_keys-mapped p = refl

    is_nameless-mapped : (p : Part) → is_nameless first there (mapped_part f p) ≡ is_nameless first ledger p
    is_nameless-mapped (child (Node Kind.FunctionExpression m span semantic_id ps)) = refl
    is_nameless-mapped (child (Node Kind.ArrowFunctionExpression m span semantic_id ps)) = refl
    is_nameless-mapped (child (Node Kind.ClassExpression m span semantic_id ps)) = rw (at-mapped f 2 ps, body_keys-mapped (at 2 ps), body_runs-mapped f (at 2 ps)) refl
    is_nameless-mapped p = refl

    -- ---- keys that names are kept by

    converted_key-mapped : (t : Tree) → converted_key first there (mapped f t) ≡ converted_key first ledger t
    converted_key-mapped (Node Kind.AssignmentExpression m span semantic_id ps) =
        rw (at-mapped f 2 ps, is_key_conversion-mapped (at 2 ps), at-mapped f 1 ps, generated_spelling-mapped (at 1 ps)) refl
    converted_key-mapped t = refl

    converted_keys-mapped : (ts : List Tree) → converted_keys first there (map (mapped f) ts) ≡ converted_keys first ledger ts
    converted_keys-mapped [] = refl
    converted_keys-mapped (t ∷ ts) = ap₂ (λ a b. a ++ b) (converted_key-mapped t) (converted_keys-mapped ts)

    pub is_new_private-mapped : (p : Part) → is_new_private first there (mapped_part f p) ≡ is_new_private first ledger p
    is_new_private-mapped (child (Node Kind.PrivateIdentifier d span semantic_id ps)) = r.new d
    is_new_private-mapped p = refl

    new_private_names-mapped : (ts : List Tree) → new_private_names first there (map (mapped f) ts) ≡ new_private_names first ledger ts
    new_private_names-mapped [] = refl
    new_private_names-mapped (Node Kind.PropertyDefinition m span semantic_id ps ∷ ts) = rw (at-mapped f 0 ps, is_new_private-mapped (at 0 ps), name_of_part-mapped f (at 0 ps), new_private_names-mapped ts) refl
    new_private_names-mapped (t ∷ ts) = new_private_names-mapped ts

    private_keys-mapped : (ts : List Tree) → private_keys first there (map (mapped f) ts) ≡ private_keys first ledger ts
    private_keys-mapped [] = refl
    private_keys-mapped (Node Kind.Property m span semantic_id ps ∷ ts) = rw (r.new m, is_true_at-mapped f 5 ps, at-mapped f 0 ps, private_spelling-mapped f first ledger (at 0 ps), private_keys-mapped ts) refl
    private_keys-mapped (t ∷ ts) = private_keys-mapped ts

    last_spelling-mapped : (keys : List ℕ) (x y : Conversions) (p : Part) → last_spelling first there (map f keys) y (mapped_part f p) ≡ last_spelling first ledger keys x p
    last_spelling-mapped keys x y (child (Node Kind.SequenceExpression m span semantic_id (more (list es) end))) = ap (generated_spelling first there) (last_part-mapped f es) ∙ generated_spelling-mapped (last_part es)
    last_spelling-mapped keys x y p = generated_spelling-mapped p

    module _ (keys : List ℕ) (x : Conversions) where
      abbrev seen : Conversions
      seen = record { naming = map f x.naming; converted = x.converted; privates = x.privates }

      may_be_named-mapped : (m : ℕ) (p : Part) → may_be_named first there (map f keys) seen (f m) (mapped_part f p) ≡ may_be_named first ledger keys x m p
      may_be_named-mapped m (child (Node Kind.ThisExpression k span semantic_id ps)) = has_number-mapped r m x.naming
      may_be_named-mapped m p = is_nameless-mapped p

      call_fits-mapped : (m : ℕ) (g : Part) (es : Parts) → call_fits first there (map f keys) seen (f m) (mapped_part f g) (mapped_parts f es) ≡ call_fits first ledger keys x m g es
      call_fits-mapped m g end = refl
      call_fits-mapped m g (more e es) =
          rw (is_helper_callee-mapped (codes "toPropertyKey") g, is_helper_callee-mapped (codes "setFunctionName") g, part_has_key-mapped keys e, may_be_named-mapped m e) refl

      is_kept_key-mapped : (p : Part) → is_kept_key first there (map f keys) seen (mapped_part f p) ≡ is_kept_key first ledger keys x p
      is_kept_key-mapped (child (Node Kind.PrivateField m span semantic_id ps)) = rw (at-mapped f 1 ps, name_of_part-mapped f (at 1 ps)) refl
      is_kept_key-mapped (child (Node Kind.Literal m span semantic_id (more (literal (literal_value.String s raw)) end))) = refl
      is_kept_key-mapped p = ap (λ ss. is_one_among ss x.converted) (generated_spelling-mapped p)

      node_fits-mapped : (names : List String) (kind : Kind) (m : ℕ) (ps : Parts) → node_fits first there (map f keys) seen names kind (f m) (mapped_parts f ps) ≡ node_fits first ledger keys x names kind m ps
      node_fits-mapped names Kind.CallExpression m ps = rw (at-mapped f 0 ps, items_at-mapped f 1 ps) (call_fits-mapped m (at 0 ps) (items (at 1 ps)))
      node_fits-mapped names Kind.Property m ps = rw (r.new m, is_true_at-mapped f 5 ps, at-mapped f 0 ps, is_kept_key-mapped (at 0 ps)) refl
      node_fits-mapped names Kind.PropertyDefinition m ps =
          rw (at-mapped f 0 ps, is_new_private-mapped (at 0 ps), name_of_part-mapped f (at 0 ps), at-mapped f 1 ps, last_spelling-mapped keys x seen (at 1 ps)) refl
      node_fits-mapped names kind m ps = refl

      names_inside-mapped : (names : List String) (kind : Kind) (ps : Parts) → names_inside first there (map f keys) seen names kind (mapped_parts f ps) ≡ names_inside first ledger keys x names kind ps
      names_inside-mapped names Kind.ClassBody ps = ap (private_keys first there) (preorder_of-mapped f ps) ∙ private_keys-mapped (preorder_of ps)
      names_inside-mapped names kind ps = refl

      mutual
        calls_fit-mapped : (names : List String) (t : Tree) → calls_fit first there (map f keys) seen names (mapped f t) ≡ calls_fit first ledger keys x names t
        calls_fit-mapped names (Node kind m span semantic_id ps) =
            rw (node_fits-mapped names kind m ps, names_inside-mapped names kind ps) (ap (λ b. node_fits first ledger keys x names kind m ps && b) (calls_in-mapped (names_inside first ledger keys x names kind ps) ps))

        calls_in-mapped : (names : List String) (ps : Parts) → calls_in first there (map f keys) seen names (mapped_parts f ps) ≡ calls_in first ledger keys x names ps
        calls_in-mapped names end = refl
        calls_in-mapped names (more p ps) = ap₂ (λ a b. a && b) (calls_at-mapped names p) (calls_in-mapped names ps)

        calls_at-mapped : (names : List String) (p : Part) → calls_at first there (map f keys) seen names (mapped_part f p) ≡ calls_at first ledger keys x names p
        calls_at-mapped names (child t) = calls_fit-mapped names t
        calls_at-mapped names (list ps) = calls_in-mapped names ps
        calls_at-mapped names p = refl

    pub helper_calls_fit-mapped : (keys : List ℕ) (q : Tree) → helper_calls_fit first there (map f keys) (mapped f q) ≡ helper_calls_fit first ledger keys q
    helper_calls_fit-mapped keys q =
        rw (preorder-mapped f q, naming_calls-mapped (preorder q), converted_keys-mapped (preorder q), new_private_names-mapped (preorder q)) (calls_fit-mapped keys (conversions first ledger (preorder q)) [] q)
