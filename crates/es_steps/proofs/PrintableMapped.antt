-- Whether a tree can be printed does not depend on its numbers.
use Rattle.std.specs.Prelude.{◌≡◌, ℕ, suc, Bool, false, cond, bytes_eq, not, ◌&&◌, ◌||◌, codes, List, [], ◌∷◌, map}
use Rattle.std.proofs.Common.{refl, ap, ap₂, ◌∙◌}
use Rattle.es_base.specs.Conforms.{is_among}
use Rattle.es_base.specs.Preorder.{preorder}
use Rattle.es_base.specs.Tree.{Tree, Part, Parts, Node, end, more, child, absent, list, string, boolean, literal}
use Rattle.es_base.specs.declared.kind.Kind.{Kind}
use Rattle.es_base.specs.declared.literal.LiteralValue.TheVariants as literal_value
use Rattle.es_steps.specs.KeptNodes.{statement_list}
use Rattle.es_steps.specs.Parts.{at, items, is_present, string_of}
use Rattle.es_steps.specs.Printable.{is_bad_name, is_bad_label_name, is_bad_label, is_bad_literal, tails_fit, is_bad_template, lacks_cooked, is_uncooked, any_uncooked, has_uncooked, is_bare_string, is_directive_of, is_bad_directive, is_directive, has_late_directive, are_names, is_strict_with_patterns, has_bad_prologue, count, is_kind_of, is_default, is_function_expression, is_identifier_name, name_of_part, shorthand_name, has_id, is_suspending, is_bad_property, is_spelled, is_bad_method, is_bad_field, is_meta_property, only_named, are_behind_default, are_specifiers, is_declaration_body, is_lexical_body, ends_open, part_ends_open, is_bad_if, is_super_part, has_optional, part_has_optional, is_spine_kind, any_optional, behind_first, has_stray_optional, lacks_initializer, is_bare_declaration, any_bare, has_bare_declaration, is_bad_form, is_bad_node, is_default_export, is_module, is_declaration_without_name, is_bad_in, has_bad, bad_at, bad_in, Jumps, no_jumps, is_label_among, is_stray, is_looping, part_is_looping, jumps_inside, has_stray, stray_at, stray_in, is_new_target, has_target, has_stray_target, stray_target_at, stray_target_in, stray_target_of, is_literal_part, has_string_name, prologue, statement_number, bare_in, bare_strings, all_among, is_printable, stays_printable}
use Rattle.es_steps.specs.References.{is_for_each}
use Rattle.es_steps.specs.Reserved.{no_words}
use Rattle.es_steps.specs.Values.{String}
use Rattle.es_steps.proofs.KeptNodesMapped.{statement_list-mapped}
use Rattle.es_steps.proofs.Mapped.{Renames, mapped, mapped_part, mapped_parts}
use Rattle.es_steps.proofs.PartsMapped.{append-mapped, number_of-mapped, preorder-mapped, cond-mapped, at-mapped, items_at-mapped, string_at-mapped, is_true_at-mapped, is_present_at-mapped}
use Rattle.es_steps.proofs.ReferencesMapped.{has_number-mapped}
use Rattle.es_steps.proofs.ReservedMapped.{has_reserved-mapped}
use Rattle.es_steps.proofs.ScopesMapped.{is_declaring-mapped}
use Rattle.es_steps.proofs.StrictMapped.{body_strict-mapped, directives_at-mapped}

module _ (f : ℕ → ℕ) where
  is_bad_name-mapped : (kind : Kind) (ps : Parts) → is_bad_name kind (mapped_parts f ps) ≡ is_bad_name kind ps
  is_bad_name-mapped Kind.IdentifierReference ps = rw (string_at-mapped f 0 ps) refl
  is_bad_name-mapped Kind.BindingIdentifier ps = rw (string_at-mapped f 0 ps) refl
  is_bad_name-mapped Kind.IdentifierName ps = rw (string_at-mapped f 0 ps) refl
  is_bad_name-mapped Kind.PrivateIdentifier ps = rw (string_at-mapped f 0 ps) refl
  is_bad_name-mapped kind ps = refl

  is_bad_label_name-mapped : (p : Part) → is_bad_label_name (mapped_part f p) ≡ is_bad_label_name p
  is_bad_label_name-mapped (child (Node kind m span semantic_id ps)) = rw (string_at-mapped f 0 ps) refl
  is_bad_label_name-mapped p = refl

  is_bad_label-mapped : (kind : Kind) (ps : Parts) → is_bad_label kind (mapped_parts f ps) ≡ is_bad_label kind ps
  is_bad_label-mapped Kind.LabeledStatement ps = rw (at-mapped f 0 ps) (is_bad_label_name-mapped (at 0 ps))
  is_bad_label-mapped Kind.BreakStatement ps = rw (at-mapped f 0 ps) (is_bad_label_name-mapped (at 0 ps))
  is_bad_label-mapped Kind.ContinueStatement ps = rw (at-mapped f 0 ps) (is_bad_label_name-mapped (at 0 ps))
  is_bad_label-mapped kind ps = refl

  is_bad_literal-mapped : (kind : Kind) (ps : Parts) → is_bad_literal kind (mapped_parts f ps) ≡ is_bad_literal kind ps
  is_bad_literal-mapped Kind.Literal (more (literal v) ps) = refl
  is_bad_literal-mapped kind ps = refl

  tails_fit-mapped : (ps : Parts) → tails_fit (mapped_parts f ps) ≡ tails_fit ps
  tails_fit-mapped end = refl
  tails_fit-mapped (more (child (Node kind m span semantic_id ps)) end) = is_true_at-mapped f 2 ps
  tails_fit-mapped (more (child (Node kind m span semantic_id ps)) (more q rest)) = ap₂ (λ a b. not a && b) (is_true_at-mapped f 2 ps) (tails_fit-mapped (more q rest))
  tails_fit-mapped (more p rest) = tails_fit-mapped rest

  is_bad_template-mapped : (kind : Kind) (ps : Parts) → is_bad_template kind (mapped_parts f ps) ≡ is_bad_template kind ps
  is_bad_template-mapped Kind.TemplateElement ps = rw (string_at-mapped f 0 ps) refl
  is_bad_template-mapped Kind.TemplateLiteral ps = rw (items_at-mapped f 0 ps) (ap not (tails_fit-mapped (items (at 0 ps))))
  is_bad_template-mapped kind ps = refl

  lacks_cooked-mapped : (ps : Parts) → lacks_cooked (mapped_parts f ps) ≡ lacks_cooked ps
  lacks_cooked-mapped end = refl
  lacks_cooked-mapped (more (child (Node kind m span semantic_id (more raw (more (string s) ps)))) rest) = lacks_cooked-mapped rest
  lacks_cooked-mapped (more p rest) = refl

  is_uncooked-mapped : (p : Part) → is_uncooked (mapped_part f p) ≡ is_uncooked p
  is_uncooked-mapped (child (Node Kind.TemplateLiteral m span semantic_id ps)) = ap lacks_cooked (items_at-mapped f 0 ps) ∙ lacks_cooked-mapped (items (at 0 ps))
  is_uncooked-mapped p = refl

  any_uncooked-mapped : (ps : Parts) → any_uncooked (mapped_parts f ps) ≡ any_uncooked ps
  any_uncooked-mapped end = refl
  any_uncooked-mapped (more (list ps) rest) = ap₂ (λ a b. a || b) (any_uncooked-mapped ps) (any_uncooked-mapped rest)
  any_uncooked-mapped (more p rest) = ap₂ (λ a b. a || b) (is_uncooked-mapped p) (any_uncooked-mapped rest)

  has_uncooked-mapped : (kind : Kind) (ps : Parts) → has_uncooked kind (mapped_parts f ps) ≡ has_uncooked kind ps
  has_uncooked-mapped Kind.TaggedTemplateExpression ps = ap is_uncooked (at-mapped f 0 ps) ∙ is_uncooked-mapped (at 0 ps)
  has_uncooked-mapped kind ps = any_uncooked-mapped ps

  is_directive_of-mapped : (s : String) (p : Part) → is_directive_of s (mapped_part f p) ≡ is_directive_of s p
  is_directive_of-mapped s (child (Node Kind.Literal m span semantic_id (more (literal (literal_value.String t raw)) end))) = refl
  is_directive_of-mapped s p = refl

  is_bad_directive-mapped : (kind : Kind) (ps : Parts) → is_bad_directive kind (mapped_parts f ps) ≡ is_bad_directive kind ps
  is_bad_directive-mapped Kind.ExpressionStatement (more e (more (string s) end)) = ap not (is_directive_of-mapped s e)
  is_bad_directive-mapped kind ps = refl

  is_directive-mapped : (p : Part) → is_directive (mapped_part f p) ≡ is_directive p
  is_directive-mapped (child (Node Kind.ExpressionStatement m span semantic_id (more e (more (string s) end)))) = refl
  is_directive-mapped p = refl

  has_late_directive-mapped : (late : Bool) (ps : Parts) → has_late_directive late (mapped_parts f ps) ≡ has_late_directive late ps
  has_late_directive-mapped late end = refl
  has_late_directive-mapped late (more p ps) = rw (is_directive-mapped p, has_late_directive-mapped (late || not (is_directive p)) ps) refl

  are_names-mapped : (ps : Parts) → are_names (mapped_parts f ps) ≡ are_names ps
  are_names-mapped end = refl
  are_names-mapped (more p ps) = ap₂ (λ a b. a && b) (is_declaring-mapped f p) (are_names-mapped ps)

  strict_with_patterns-mapped : (i j : ℕ) (ps : Parts) → is_strict_with_patterns (at i (mapped_parts f ps)) (at j (mapped_parts f ps)) ≡ is_strict_with_patterns (at i ps) (at j ps)
  strict_with_patterns-mapped i j ps = rw (items_at-mapped f i ps) (ap₂ (λ a b. not a && b) (are_names-mapped (items (at i ps))) (body_strict-mapped f j ps))

  late_in-mapped : (kind : Kind) (ps : Parts) → has_late_directive false (statement_list kind (mapped_parts f ps)) ≡ has_late_directive false (statement_list kind ps)
  late_in-mapped kind ps = ap (has_late_directive false) (statement_list-mapped f kind ps) ∙ has_late_directive-mapped false (statement_list kind ps)

  is_bare_string-mapped : (p : Part) → is_bare_string (mapped_part f p) ≡ is_bare_string p
  is_bare_string-mapped (child (Node Kind.ExpressionStatement m span semantic_id (more (child (Node Kind.Literal k kspan k_semantic_id (more (literal (literal_value.String s raw)) end))) (more directive end)))) =
      ap not (is_directive-mapped (child (Node Kind.ExpressionStatement m span semantic_id (more absent (more directive end)))))
  is_bare_string-mapped p = refl

  has_bad_prologue-mapped : (kind : Kind) (ps : Parts) → has_bad_prologue kind (mapped_parts f ps) ≡ has_bad_prologue kind ps
  has_bad_prologue-mapped Kind.FunctionDeclaration ps = strict_with_patterns-mapped 1 2 ps
  has_bad_prologue-mapped Kind.FunctionExpression ps = strict_with_patterns-mapped 1 2 ps
  has_bad_prologue-mapped Kind.ArrowFunctionExpression ps = strict_with_patterns-mapped 0 1 ps
  has_bad_prologue-mapped kind ps = late_in-mapped kind ps

  count-mapped : (ps : Parts) → count (mapped_parts f ps) ≡ count ps
  count-mapped end = refl
  count-mapped (more p ps) = ap suc (count-mapped ps)

  is_kind_of-mapped : (test : Kind → Bool) (p : Part) → is_kind_of test (mapped_part f p) ≡ is_kind_of test p
  is_kind_of-mapped test (child (Node kind m span semantic_id ps)) = refl
  is_kind_of-mapped test p = refl

  pub name_of_part-mapped : (p : Part) → name_of_part (mapped_part f p) ≡ name_of_part p
  name_of_part-mapped (child (Node kind m span semantic_id ps)) = string_at-mapped f 0 ps
  name_of_part-mapped p = refl

  shorthand_name-mapped : (p : Part) → shorthand_name (mapped_part f p) ≡ shorthand_name p
  shorthand_name-mapped (child (Node Kind.AssignmentPattern m span semantic_id ps)) = rw (at-mapped f 0 ps) (name_of_part-mapped (at 0 ps))
  shorthand_name-mapped (child (Node Kind.AssignmentTargetWithDefault m span semantic_id ps)) = rw (at-mapped f 0 ps) (name_of_part-mapped (at 0 ps))
  shorthand_name-mapped p = name_of_part-mapped p

  has_id-mapped : (p : Part) → has_id (mapped_part f p) ≡ has_id p
  has_id-mapped (child (Node Kind.FunctionExpression m span semantic_id ps)) = is_present_at-mapped f 0 ps
  has_id-mapped p = refl

  is_suspending-mapped : (p : Part) → is_suspending (mapped_part f p) ≡ is_suspending p
  is_suspending-mapped (child (Node Kind.FunctionExpression m span semantic_id ps)) = rw (is_true_at-mapped f 3 ps, is_true_at-mapped f 4 ps) refl
  is_suspending-mapped p = refl

  is_bad_property-mapped : (ps : Parts) → is_bad_property (mapped_parts f ps) ≡ is_bad_property ps
  is_bad_property-mapped ps = rw (string_at-mapped f 2 ps, is_true_at-mapped f 3 ps, is_true_at-mapped f 4 ps, is_true_at-mapped f 5 ps, at-mapped f 0 ps, at-mapped f 1 ps, name_of_part-mapped (at 0 ps), shorthand_name-mapped (at 1 ps), is_kind_of-mapped is_identifier_name (at 0 ps), is_kind_of-mapped is_function_expression (at 1 ps), has_id-mapped (at 1 ps), is_suspending-mapped (at 1 ps)) refl

  pub is_spelled-mapped : (s : String) (p : Part) → is_spelled s (mapped_part f p) ≡ is_spelled s p
  is_spelled-mapped s (child (Node Kind.IdentifierName m span semantic_id ps)) = rw (string_at-mapped f 0 ps) refl
  is_spelled-mapped s (child (Node Kind.Literal m span semantic_id (more (literal (literal_value.String t raw)) end))) = refl
  is_spelled-mapped s p = refl

  spelled_at-mapped : (s : String) (i : ℕ) (ps : Parts) → is_spelled s (at i (mapped_parts f ps)) ≡ is_spelled s (at i ps)
  spelled_at-mapped s i ps = ap (is_spelled s) (at-mapped f i ps) ∙ is_spelled-mapped s (at i ps)

  is_bad_method-mapped : (ps : Parts) → is_bad_method (mapped_parts f ps) ≡ is_bad_method ps
  is_bad_method-mapped ps = rw (string_at-mapped f 2 ps, is_true_at-mapped f 3 ps, is_true_at-mapped f 4 ps, spelled_at-mapped (codes "constructor") 0 ps, spelled_at-mapped (codes "prototype") 0 ps, at-mapped f 1 ps, has_id-mapped (at 1 ps), is_suspending-mapped (at 1 ps)) refl

  is_bad_field-mapped : (ps : Parts) → is_bad_field (mapped_parts f ps) ≡ is_bad_field ps
  is_bad_field-mapped ps = rw (is_true_at-mapped f 2 ps, is_true_at-mapped f 3 ps, spelled_at-mapped (codes "constructor") 0 ps, spelled_at-mapped (codes "prototype") 0 ps) refl

  is_meta_property-mapped : (ps : Parts) → is_meta_property (mapped_parts f ps) ≡ is_meta_property ps
  is_meta_property-mapped ps = rw (at-mapped f 0 ps, at-mapped f 1 ps, name_of_part-mapped (at 0 ps), name_of_part-mapped (at 1 ps)) refl

  only_named-mapped : (ps : Parts) → only_named (mapped_parts f ps) ≡ only_named ps
  only_named-mapped end = refl
  only_named-mapped (more (child (Node Kind.ImportSpecifier m span semantic_id ps)) rest) = only_named-mapped rest
  only_named-mapped ps = refl

  are_behind_default-mapped : (ps : Parts) → are_behind_default (mapped_parts f ps) ≡ are_behind_default ps
  are_behind_default-mapped (more (child (Node Kind.ImportNamespaceSpecifier m span semantic_id ps)) end) = refl
  are_behind_default-mapped ps = only_named-mapped ps

  are_specifiers-mapped : (ps : Parts) → are_specifiers (mapped_parts f ps) ≡ are_specifiers ps
  are_specifiers-mapped (more (child (Node Kind.ImportDefaultSpecifier m span semantic_id ps)) rest) = are_behind_default-mapped rest
  are_specifiers-mapped ps = are_behind_default-mapped ps

  is_declaration_body-mapped : (kind : Kind) (ps : Parts) → is_declaration_body kind (mapped_parts f ps) ≡ is_declaration_body kind ps
  is_declaration_body-mapped Kind.ClassDeclaration ps = refl
  is_declaration_body-mapped Kind.VariableDeclaration ps = rw (string_at-mapped f 0 ps) refl
  is_declaration_body-mapped kind ps = refl

  is_lexical_body-mapped : (p : Part) → is_lexical_body (mapped_part f p) ≡ is_lexical_body p
  is_lexical_body-mapped (child (Node kind m span semantic_id ps)) = is_declaration_body-mapped kind ps
  is_lexical_body-mapped p = refl

  lexical_body_at-mapped : (i : ℕ) (ps : Parts) → is_lexical_body (at i (mapped_parts f ps)) ≡ is_lexical_body (at i ps)
  lexical_body_at-mapped i ps = ap is_lexical_body (at-mapped f i ps) ∙ is_lexical_body-mapped (at i ps)

  mutual
    ends_open-mapped : (t : Tree) → ends_open (mapped f t) ≡ ends_open t
    ends_open-mapped (Node Kind.IfStatement m span semantic_id (more t (more c (more absent end)))) = refl
    ends_open-mapped (Node Kind.IfStatement m span semantic_id (more t (more c (more a end)))) = part_ends_open-mapped a
    ends_open-mapped (Node Kind.LabeledStatement m span semantic_id (more l (more b end))) = part_ends_open-mapped b
    ends_open-mapped (Node Kind.WhileStatement m span semantic_id (more t (more b end))) = part_ends_open-mapped b
    ends_open-mapped (Node Kind.WithStatement m span semantic_id (more t (more b end))) = part_ends_open-mapped b
    ends_open-mapped (Node Kind.ForStatement m span semantic_id (more i (more t (more u (more b end))))) = part_ends_open-mapped b
    ends_open-mapped (Node Kind.ForInStatement m span semantic_id (more l (more r (more b end)))) = part_ends_open-mapped b
    ends_open-mapped (Node Kind.ForOfStatement m span semantic_id (more l (more r (more b w)))) = part_ends_open-mapped b
    ends_open-mapped t = refl

    part_ends_open-mapped : (p : Part) → part_ends_open (mapped_part f p) ≡ part_ends_open p
    part_ends_open-mapped (child t) = ends_open-mapped t
    part_ends_open-mapped p = refl

  is_bad_if-mapped : (ps : Parts) → is_bad_if (mapped_parts f ps) ≡ is_bad_if ps
  is_bad_if-mapped ps = rw (is_present_at-mapped f 2 ps, lexical_body_at-mapped 1 ps, lexical_body_at-mapped 2 ps, at-mapped f 1 ps, part_ends_open-mapped (at 1 ps)) refl

  pub is_super_part-mapped : (p : Part) → is_super_part (mapped_part f p) ≡ is_super_part p
  is_super_part-mapped (child (Node Kind.Super m span semantic_id ps)) = refl
  is_super_part-mapped p = refl

  super_at-mapped : (ps : Parts) → is_super_part (at 0 (mapped_parts f ps)) ≡ is_super_part (at 0 ps)
  super_at-mapped ps = ap is_super_part (at-mapped f 0 ps) ∙ is_super_part-mapped (at 0 ps)

  mutual
    pub has_optional-mapped : (t : Tree) → has_optional (mapped f t) ≡ has_optional t
    has_optional-mapped (Node Kind.MemberExpression m span semantic_id (more o (more k (more computed (more (boolean b) end))))) = ap (λ x. b || x) (part_has_optional-mapped o)
    has_optional-mapped (Node Kind.PrivateField m span semantic_id (more o (more k (more computed (more (boolean b) end))))) = ap (λ x. b || x) (part_has_optional-mapped o)
    has_optional-mapped (Node Kind.CallExpression m span semantic_id (more g (more arguments (more (boolean b) end)))) = ap (λ x. b || x) (part_has_optional-mapped g)
    has_optional-mapped t = refl

    part_has_optional-mapped : (p : Part) → part_has_optional (mapped_part f p) ≡ part_has_optional p
    part_has_optional-mapped (child t) = has_optional-mapped t
    part_has_optional-mapped p = refl

  any_optional-mapped : (ps : Parts) → any_optional (mapped_parts f ps) ≡ any_optional ps
  any_optional-mapped end = refl
  any_optional-mapped (more (list ps) rest) = ap₂ (λ a b. a || b) (any_optional-mapped ps) (any_optional-mapped rest)
  any_optional-mapped (more p rest) = ap₂ (λ a b. a || b) (part_has_optional-mapped p) (any_optional-mapped rest)

  behind_first-mapped : (ps : Parts) → behind_first (mapped_parts f ps) ≡ mapped_parts f (behind_first ps)
  behind_first-mapped end = refl
  behind_first-mapped (more p ps) = refl

  has_stray_optional-mapped : (kind : Kind) (ps : Parts) → has_stray_optional kind (mapped_parts f ps) ≡ has_stray_optional kind ps
  has_stray_optional-mapped kind ps = ap any_optional (cond-mapped (mapped_parts f) (is_spine_kind kind) (behind_first ps) ps (behind_first-mapped ps) refl) ∙ any_optional-mapped (cond (is_spine_kind kind) (behind_first ps) ps)

  lacks_initializer-mapped : (b : Bool) (ps : Parts) → lacks_initializer b (mapped_parts f ps) ≡ lacks_initializer b ps
  lacks_initializer-mapped b end = refl
  lacks_initializer-mapped b (more (child (Node kind m span semantic_id (more id (more absent end)))) ps) = rw (is_declaring-mapped f id, lacks_initializer-mapped b ps) refl
  lacks_initializer-mapped b (more p ps) = lacks_initializer-mapped b ps

  is_bare_declaration-mapped : (p : Part) → is_bare_declaration (mapped_part f p) ≡ is_bare_declaration p
  is_bare_declaration-mapped (child (Node Kind.VariableDeclaration m span semantic_id ps)) = rw (string_at-mapped f 0 ps, items_at-mapped f 1 ps) (lacks_initializer-mapped (bytes_eq (string_of (at 0 ps)) (codes "const")) (items (at 1 ps)))
  is_bare_declaration-mapped p = refl

  any_bare-mapped : (ps : Parts) → any_bare (mapped_parts f ps) ≡ any_bare ps
  any_bare-mapped end = refl
  any_bare-mapped (more (list ps) rest) = ap₂ (λ a b. a || b) (any_bare-mapped ps) (any_bare-mapped rest)
  any_bare-mapped (more p rest) = ap₂ (λ a b. a || b) (is_bare_declaration-mapped p) (any_bare-mapped rest)

  has_bare_declaration-mapped : (kind : Kind) (ps : Parts) → has_bare_declaration kind (mapped_parts f ps) ≡ has_bare_declaration kind ps
  has_bare_declaration-mapped kind ps = ap any_bare (cond-mapped (mapped_parts f) (is_for_each kind) (behind_first ps) ps (behind_first-mapped ps) refl) ∙ any_bare-mapped (cond (is_for_each kind) (behind_first ps) ps)

  default_at-mapped : (ps : Parts) → is_kind_of is_default (at 0 (mapped_parts f ps)) ≡ is_kind_of is_default (at 0 ps)
  default_at-mapped ps = ap (is_kind_of is_default) (at-mapped f 0 ps) ∙ is_kind_of-mapped is_default (at 0 ps)

  without_name-mapped : (ps : Parts) → not (is_present (at 0 (mapped_parts f ps))) ≡ not (is_present (at 0 ps))
  without_name-mapped ps = ap not (is_present_at-mapped f 0 ps)

  is_literal_part-mapped : (p : Part) → is_literal_part (mapped_part f p) ≡ is_literal_part p
  is_literal_part-mapped (child (Node Kind.Literal m span semantic_id ps)) = refl
  is_literal_part-mapped p = refl

  has_string_name-mapped : (ps : Parts) → has_string_name (mapped_parts f ps) ≡ has_string_name ps
  has_string_name-mapped end = refl
  has_string_name-mapped (more (child (Node kind m span semantic_id (more local rest))) ps) = ap₂ (λ a b. a || b) (is_literal_part-mapped local) (has_string_name-mapped ps)
  has_string_name-mapped (more p ps) = has_string_name-mapped ps

  is_bad_form-mapped : (kind : Kind) (ps : Parts) → is_bad_form kind (mapped_parts f ps) ≡ is_bad_form kind ps
  is_bad_form-mapped Kind.Property ps = is_bad_property-mapped ps
  is_bad_form-mapped Kind.BindingProperty ps = is_bad_property-mapped ps
  is_bad_form-mapped Kind.AssignmentTargetProperty ps = is_bad_property-mapped ps
  is_bad_form-mapped Kind.MethodDefinition ps = is_bad_method-mapped ps
  is_bad_form-mapped Kind.PropertyDefinition ps = is_bad_field-mapped ps
  is_bad_form-mapped Kind.SequenceExpression ps = rw (items_at-mapped f 0 ps, count-mapped (items (at 0 ps))) refl
  is_bad_form-mapped Kind.MetaProperty ps = ap not (is_meta_property-mapped ps)
  is_bad_form-mapped Kind.VariableDeclaration ps = rw (items_at-mapped f 1 ps, count-mapped (items (at 1 ps))) refl
  is_bad_form-mapped Kind.VariableDeclarator ps = default_at-mapped ps
  is_bad_form-mapped Kind.AssignmentPattern ps = default_at-mapped ps
  is_bad_form-mapped Kind.AssignmentTargetWithDefault ps = default_at-mapped ps
  is_bad_form-mapped Kind.RestElement ps = default_at-mapped ps
  is_bad_form-mapped Kind.AssignmentTargetRest ps = default_at-mapped ps
  is_bad_form-mapped Kind.CatchClause ps = default_at-mapped ps
  is_bad_form-mapped Kind.ExportNamedDeclaration ps = rw (is_present_at-mapped f 0 ps, is_present_at-mapped f 2 ps, items_at-mapped f 1 ps, count-mapped (items (at 1 ps)), has_string_name-mapped (items (at 1 ps))) refl
  is_bad_form-mapped Kind.ImportDeclaration ps = rw (items_at-mapped f 0 ps) (ap not (are_specifiers-mapped (items (at 0 ps))))
  is_bad_form-mapped Kind.IfStatement ps = is_bad_if-mapped ps
  is_bad_form-mapped Kind.LabeledStatement ps = lexical_body_at-mapped 1 ps
  is_bad_form-mapped Kind.WhileStatement ps = lexical_body_at-mapped 1 ps
  is_bad_form-mapped Kind.WithStatement ps = lexical_body_at-mapped 1 ps
  is_bad_form-mapped Kind.DoWhileStatement ps = lexical_body_at-mapped 0 ps
  is_bad_form-mapped Kind.ForStatement ps = lexical_body_at-mapped 3 ps
  is_bad_form-mapped Kind.ForInStatement ps = lexical_body_at-mapped 2 ps
  is_bad_form-mapped Kind.ForOfStatement ps = lexical_body_at-mapped 2 ps
  is_bad_form-mapped Kind.MemberExpression ps = rw (super_at-mapped ps, is_true_at-mapped f 3 ps) refl
  is_bad_form-mapped Kind.PrivateField ps = super_at-mapped ps
  is_bad_form-mapped Kind.CallExpression ps = rw (super_at-mapped ps, is_true_at-mapped f 2 ps) refl
  is_bad_form-mapped Kind.ChainExpression ps = rw (at-mapped f 0 ps) (ap not (part_has_optional-mapped (at 0 ps)))
  is_bad_form-mapped kind ps = refl

  is_bad_node-mapped : (kind : Kind) (ps : Parts) → is_bad_node kind (mapped_parts f ps) ≡ is_bad_node kind ps
  is_bad_node-mapped kind ps = rw (is_bad_name-mapped kind ps, is_bad_label-mapped kind ps, is_bad_literal-mapped kind ps, is_bad_template-mapped kind ps, is_bad_directive-mapped kind ps, has_bad_prologue-mapped kind ps, is_bad_form-mapped kind ps, has_stray_optional-mapped kind ps, has_uncooked-mapped kind ps, has_bare_declaration-mapped kind ps) refl

  is_module-mapped : (kind : Kind) (ps : Parts) → is_module kind (mapped_parts f ps) ≡ is_module kind ps
  is_module-mapped Kind.Program ps = rw (string_at-mapped f 0 ps) refl
  is_module-mapped kind ps = refl

  is_declaration_without_name-mapped : (kind : Kind) (ps : Parts) → is_declaration_without_name kind (mapped_parts f ps) ≡ is_declaration_without_name kind ps
  is_declaration_without_name-mapped Kind.FunctionDeclaration ps = without_name-mapped ps
  is_declaration_without_name-mapped Kind.ClassDeclaration ps = without_name-mapped ps
  is_declaration_without_name-mapped kind ps = refl

  is_bad_in-mapped : (d m : Bool) (kind : Kind) (ps : Parts) → is_bad_in d m kind (mapped_parts f ps) ≡ is_bad_in d m kind ps
  is_bad_in-mapped d m kind ps = rw (is_declaration_without_name-mapped kind ps, is_bad_node-mapped kind ps) refl

  mutual
    has_bad-mapped : (d m : Bool) (t : Tree) → has_bad d m (mapped f t) ≡ has_bad d m t
    has_bad-mapped d m (Node kind n span semantic_id ps) = rw (is_bad_in-mapped d m kind ps, is_module-mapped kind ps, bad_in-mapped (is_default_export kind) (is_module kind ps) ps) refl

    bad_at-mapped : (d m : Bool) (p : Part) → bad_at d m (mapped_part f p) ≡ bad_at d m p
    bad_at-mapped d m (child t) = has_bad-mapped d m t
    bad_at-mapped d m (list ps) = bad_in-mapped d m ps
    bad_at-mapped d m p = refl

    bad_in-mapped : (d m : Bool) (ps : Parts) → bad_in d m (mapped_parts f ps) ≡ bad_in d m ps
    bad_in-mapped d m end = refl
    bad_in-mapped d m (more p ps) = ap₂ (λ a b. a || b) (bad_at-mapped d m p) (bad_in-mapped d m ps)

  -- ---- jumps

  is_label_among-mapped : (unlabelled : Bool) (labels : List String) (p : Part) → is_label_among unlabelled labels (mapped_part f p) ≡ is_label_among unlabelled labels p
  is_label_among-mapped unlabelled labels absent = refl
  is_label_among-mapped unlabelled labels (child (Node kind m span semantic_id ps)) = ap (λ s. is_among s labels) (string_at-mapped f 0 ps)
  is_label_among-mapped unlabelled labels p = refl

  label_at-mapped : (unlabelled : Bool) (labels : List String) (ps : Parts) → is_label_among unlabelled labels (at 0 (mapped_parts f ps)) ≡ is_label_among unlabelled labels (at 0 ps)
  label_at-mapped unlabelled labels ps = ap (is_label_among unlabelled labels) (at-mapped f 0 ps) ∙ is_label_among-mapped unlabelled labels (at 0 ps)

  is_stray-mapped : (j : Jumps) (kind : Kind) (ps : Parts) → is_stray j kind (mapped_parts f ps) ≡ is_stray j kind ps
  is_stray-mapped j Kind.BreakStatement ps = ap not (label_at-mapped j.breaks j.labels ps)
  is_stray-mapped j Kind.ContinueStatement ps = ap not (label_at-mapped j.continues j.loops ps)
  is_stray-mapped j Kind.LabeledStatement ps = ap (λ s. is_among s j.labels) (ap name_of_part (at-mapped f 0 ps) ∙ name_of_part-mapped (at 0 ps))
  is_stray-mapped j kind ps = refl

  mutual
    is_looping-mapped : (t : Tree) → is_looping (mapped f t) ≡ is_looping t
    is_looping-mapped (Node Kind.LabeledStatement m span semantic_id (more l (more b end))) = part_is_looping-mapped b
    is_looping-mapped (Node kind m span semantic_id ps) = refl

    part_is_looping-mapped : (p : Part) → part_is_looping (mapped_part f p) ≡ part_is_looping p
    part_is_looping-mapped (child t) = is_looping-mapped t
    part_is_looping-mapped p = refl

  jumps_inside-mapped : (j : Jumps) (kind : Kind) (ps : Parts) → jumps_inside j kind (mapped_parts f ps) ≡ jumps_inside j kind ps
  jumps_inside-mapped j Kind.LabeledStatement ps = rw (at-mapped f 0 ps, name_of_part-mapped (at 0 ps), at-mapped f 1 ps, part_is_looping-mapped (at 1 ps)) refl
  jumps_inside-mapped j kind ps = refl

  mutual
    has_stray-mapped : (j : Jumps) (t : Tree) → has_stray j (mapped f t) ≡ has_stray j t
    has_stray-mapped j (Node kind m span semantic_id ps) =
        ap₂ (λ a b. a || b) (is_stray-mapped j kind ps) (ap (λ k. stray_in k (mapped_parts f ps)) (jumps_inside-mapped j kind ps) ∙ stray_in-mapped (jumps_inside j kind ps) ps)

    stray_at-mapped : (j : Jumps) (p : Part) → stray_at j (mapped_part f p) ≡ stray_at j p
    stray_at-mapped j (child t) = has_stray-mapped j t
    stray_at-mapped j (list ps) = stray_in-mapped j ps
    stray_at-mapped j p = refl

    stray_in-mapped : (j : Jumps) (ps : Parts) → stray_in j (mapped_parts f ps) ≡ stray_in j ps
    stray_in-mapped j end = refl
    stray_in-mapped j (more p ps) = ap₂ (λ a b. a || b) (stray_at-mapped j p) (stray_in-mapped j ps)

  is_new_target-mapped : (kind : Kind) (ps : Parts) → is_new_target kind (mapped_parts f ps) ≡ is_new_target kind ps
  is_new_target-mapped Kind.MetaProperty ps = rw (at-mapped f 0 ps, name_of_part-mapped (at 0 ps)) refl
  is_new_target-mapped kind ps = refl

  mutual
    has_stray_target-mapped : (b : Bool) (t : Tree) → has_stray_target b (mapped f t) ≡ has_stray_target b t
    has_stray_target-mapped b (Node kind m span semantic_id ps) = ap₂ (λ a c. (a && not b) || c) (is_new_target-mapped kind ps) (stray_target_in-mapped (λ i. b || has_target kind i) ps)

    stray_target_at-mapped : (b : Bool) (p : Part) → stray_target_at b (mapped_part f p) ≡ stray_target_at b p
    stray_target_at-mapped b (child t) = has_stray_target-mapped b t
    stray_target_at-mapped b (list ps) = stray_target_of-mapped b ps
    stray_target_at-mapped b p = refl

    stray_target_in-mapped : (b : ℕ → Bool) (ps : Parts) → stray_target_in b (mapped_parts f ps) ≡ stray_target_in b ps
    stray_target_in-mapped b end = refl
    stray_target_in-mapped b (more p ps) = ap₂ (λ a c. a || c) (stray_target_at-mapped (b 0) p) (stray_target_in-mapped (λ i. b (suc i)) ps)

    stray_target_of-mapped : (b : Bool) (ps : Parts) → stray_target_of b (mapped_parts f ps) ≡ stray_target_of b ps
    stray_target_of-mapped b end = refl
    stray_target_of-mapped b (more p ps) = ap₂ (λ a c. a || c) (stray_target_at-mapped b p) (stray_target_of-mapped b ps)

  pub is_printable-mapped : (t : Tree) → is_printable (mapped f t) ≡ is_printable t
  is_printable-mapped t =
      ap not (ap₂ (λ a b. a || b) (has_bad-mapped false false t)
      (ap₂ (λ a b. a || b) (has_stray-mapped (no_jumps false) t) (ap₂ (λ a b. a || b) (has_stray_target-mapped false t) (has_reserved-mapped f no_words t))))

  prologue-mapped : (kind : Kind) (ps : Parts) → prologue kind (mapped_parts f ps) ≡ mapped_parts f (prologue kind ps)
  prologue-mapped Kind.Program ps = items_at-mapped f 1 ps
  prologue-mapped Kind.FunctionDeclaration ps = directives_at-mapped f 2 ps
  prologue-mapped Kind.FunctionExpression ps = directives_at-mapped f 2 ps
  prologue-mapped Kind.ArrowFunctionExpression ps = directives_at-mapped f 1 ps
  prologue-mapped kind ps = refl

  statement_number-mapped : (p : Part) → statement_number (mapped_part f p) ≡ map f (statement_number p)
  statement_number-mapped (child t) = ap (λ n. n ∷ []) (number_of-mapped f t)
  statement_number-mapped p = refl

  bare_in-mapped : (ps : Parts) → bare_in (mapped_parts f ps) ≡ map f (bare_in ps)
  bare_in-mapped end = refl
  bare_in-mapped (more p ps) =
      rw (is_bare_string-mapped p, is_directive-mapped p)
      (cond-mapped (map f) (is_bare_string p) _ _
      (append-mapped f _ _ (statement_number-mapped p) (bare_in-mapped ps))
      (cond-mapped (map f) (is_directive p) (bare_in ps) [] (bare_in-mapped ps) refl))

  bare_strings-mapped : (ts : List Tree) → bare_strings (map (mapped f) ts) ≡ map f (bare_strings ts)
  bare_strings-mapped [] = refl
  bare_strings-mapped (Node kind m span semantic_id ps ∷ ts) =
      append-mapped f _ _ (ap bare_in (prologue-mapped kind ps) ∙ bare_in-mapped (prologue kind ps)) (bare_strings-mapped ts)

module _ {first : ℕ} {f : ℕ → ℕ} (r : Renames first f) where
  all_among-mapped : (ns ks : List ℕ) → all_among (map f ns) (map f ks) ≡ all_among ns ks
  all_among-mapped [] ks = refl
  all_among-mapped (n ∷ ns) ks = ap₂ (λ a b. a && b) (has_number-mapped r n ks) (all_among-mapped ns ks)

  pub stays_printable-mapped : (p q : Tree) → stays_printable (mapped f p) (mapped f q) ≡ stays_printable p q
  stays_printable-mapped p q =
      rw (is_printable-mapped f p, is_printable-mapped f q, preorder-mapped f p, preorder-mapped f q, bare_strings-mapped f (preorder p), bare_strings-mapped f (preorder q), all_among-mapped (bare_strings (preorder q)) (bare_strings (preorder p))) refl
