-- Which node of the source a node stands for does not depend on numbers.
use Rattle.std.specs.Prelude.{◌≡◌, ℕ, List, [], ◌∷◌, map, Bool, true, cond, not, bytes_eq, codes, ◌&&◌, ◌||◌}
use Rattle.std.proofs.Common.{refl, ap, ap₂, ◌∙◌}
use Rattle.es_base.specs.Conforms.{is_rest}
use Rattle.es_base.specs.Preorder.{preorder, number_of}
use Rattle.es_base.specs.Tree.{Tree, Part, Parts, Node, end, more, child, absent, literal}
use Rattle.es_base.specs.declared.kind.Kind.{Kind}
use Rattle.es_base.specs.declared.literal.LiteralValue.TheVariants as literal_value
use Rattle.es_lowered.specs.Carriers.{is_loose_base, form_of_callee, form_of_deleted, parameters_of, is_one_parameter, form_of_getter, form_of_accessor, is_proto, is_shorthand, gives_prototype, form_of_property, form_of_names, form_of_head, is_function_statement, is_labelled_function, ends_in_function, is_odd_branch, is_odd_body, odd_if, head_or, form_of_export, odd_form, is_call_of, may_question, has_question, carries, stands_for_node, is_carried, all_carried, numbers_carried, is_super_member, is_lowered_target, assigns_super, same_node, keeps_target}
use Rattle.es_lowered.proofs.BoundMapped.{bound_stay-mapped}
use Rattle.es_lowered.proofs.KeptWordsMapped.{keeps_words-mapped}
use Rattle.es_steps.specs.Parts.{at, items, string_of}
use Rattle.es_steps.specs.SameTrees.{same_kind}
use Rattle.es_steps.specs.Values.{String}
use Rattle.es_steps.proofs.Mapped.{Renames, mapped, mapped_part, mapped_parts}
use Rattle.es_steps.proofs.PrintableMapped.{name_of_part-mapped, is_super_part-mapped}
use Rattle.es_steps.proofs.PartsMapped.{at-mapped, items_at-mapped, string_at-mapped, is_true_at-mapped, preorder-mapped, number_of-mapped}

module _ {first : ℕ} {f : ℕ → ℕ} (r : Renames first f) where
  is_loose_base-mapped : (p : Part) → is_loose_base (mapped_part f p) ≡ is_loose_base p
  is_loose_base-mapped (child (Node Kind.CallExpression m span semantic_id (more (child (Node Kind.MemberExpression k kspan k_semantic_id ps)) rest))) =
      rw (at-mapped f 0 ps, name_of_part-mapped f (at 0 ps), at-mapped f 1 ps, name_of_part-mapped f (at 1 ps)) refl
  is_loose_base-mapped p = refl

  form_of_callee-mapped : (p : Part) → form_of_callee (mapped_part f p) ≡ form_of_callee p
  form_of_callee-mapped (child (Node Kind.IdentifierReference m span semantic_id ps)) = rw (string_at-mapped f 0 ps) refl
  form_of_callee-mapped (child (Node Kind.PrivateField m span semantic_id ps)) = refl
  form_of_callee-mapped p = refl

  form_of_deleted-mapped : (p : Part) → form_of_deleted (mapped_part f p) ≡ form_of_deleted p
  form_of_deleted-mapped (child (Node Kind.IdentifierReference m span semantic_id ps)) = refl
  form_of_deleted-mapped (child (Node Kind.PrivateField m span semantic_id ps)) = refl
  form_of_deleted-mapped (child (Node Kind.ChainExpression m span semantic_id (more (child (Node Kind.PrivateField k kspan k_semantic_id ks)) end))) = refl
  form_of_deleted-mapped (child (Node Kind.MemberExpression m span semantic_id ps)) = rw (at-mapped f 0 ps, is_loose_base-mapped (at 0 ps)) refl
  form_of_deleted-mapped p = refl

  parameters_of-mapped : (p : Part) → parameters_of (mapped_part f p) ≡ mapped_parts f (parameters_of p)
  parameters_of-mapped (child (Node Kind.FunctionExpression m span semantic_id ps)) = items_at-mapped f 1 ps
  parameters_of-mapped p = refl

  is_rest-mapped : (p : Part) → is_rest (mapped_part f p) ≡ is_rest p
  is_rest-mapped (child (Node Kind.RestElement m span semantic_id ps)) = refl
  is_rest-mapped (child (Node Kind.AssignmentTargetRest m span semantic_id ps)) = refl
  is_rest-mapped p = refl

  is_one_parameter-mapped : (ps : Parts) → is_one_parameter (mapped_parts f ps) ≡ is_one_parameter ps
  is_one_parameter-mapped end = refl
  is_one_parameter-mapped (more p end) = ap not (is_rest-mapped p)
  is_one_parameter-mapped (more p (more q qs)) = refl

  form_of_getter-mapped : (ps : Parts) → form_of_getter (mapped_parts f ps) ≡ form_of_getter ps
  form_of_getter-mapped end = refl
  form_of_getter-mapped (more p ps) = refl

  form_of_accessor-mapped : (kind : String) (p : Part) → form_of_accessor kind (parameters_of (mapped_part f p)) ≡ form_of_accessor kind (parameters_of p)
  form_of_accessor-mapped kind p = rw (parameters_of-mapped p, form_of_getter-mapped (parameters_of p), is_one_parameter-mapped (parameters_of p)) refl

  accessor-mapped : (ps : Parts) → form_of_accessor (string_of (at 2 (mapped_parts f ps))) (parameters_of (at 1 (mapped_parts f ps))) ≡ form_of_accessor (string_of (at 2 ps)) (parameters_of (at 1 ps))
  accessor-mapped ps = rw (string_at-mapped f 2 ps, at-mapped f 1 ps) (form_of_accessor-mapped (string_of (at 2 ps)) (at 1 ps))

  is_proto-mapped : (p : Part) → is_proto (mapped_part f p) ≡ is_proto p
  is_proto-mapped (child (Node Kind.IdentifierName m span semantic_id ps)) = rw (string_at-mapped f 0 ps) refl
  is_proto-mapped (child (Node Kind.Literal m span semantic_id (more (literal (literal_value.String s raw)) end))) = refl
  is_proto-mapped p = refl

  form_of_property-mapped : (ps : Parts) → form_of_property (mapped_parts f ps) ≡ form_of_property ps
  form_of_property-mapped ps =
      ap₂ (λ b a. cond b is_shorthand a) (is_true_at-mapped f 4 ps)
      (ap₂ (λ b a. cond b gives_prototype a) (ap₂ (λ a b. a && not b) (ap is_proto (at-mapped f 0 ps) ∙ is_proto-mapped (at 0 ps)) (is_true_at-mapped f 5 ps)) (accessor-mapped ps))

  form_of_names-mapped : (is_var : Bool) (ps : Parts) → form_of_names is_var (mapped_parts f ps) ≡ form_of_names is_var ps
  form_of_names-mapped is_var (more (child (Node Kind.VariableDeclarator m span semantic_id (more id (more absent end)))) end) = refl
  form_of_names-mapped true (more (child (Node Kind.VariableDeclarator m span semantic_id (more (child (Node Kind.BindingIdentifier k kspan k_semantic_id ks)) rest))) end) = refl
  form_of_names-mapped is_var ps = refl

  form_of_head-mapped : (p : Part) → form_of_head (mapped_part f p) ≡ form_of_head p
  form_of_head-mapped (child (Node Kind.VariableDeclaration m span semantic_id ps)) =
      rw (string_at-mapped f 0 ps, items_at-mapped f 1 ps) (form_of_names-mapped (bytes_eq (string_of (at 0 ps)) (codes "var")) (items (at 1 ps)))
  form_of_head-mapped p = refl

  is_function_statement-mapped : (t : Tree) → is_function_statement (mapped f t) ≡ is_function_statement t
  is_function_statement-mapped (Node Kind.FunctionDeclaration m span semantic_id ps) = refl
  is_function_statement-mapped (Node kind m span semantic_id ps) = refl

  mutual
    is_labelled_function-mapped : (t : Tree) → is_labelled_function (mapped f t) ≡ is_labelled_function t
    is_labelled_function-mapped (Node Kind.LabeledStatement m span semantic_id ps) = ends_in_function-mapped ps
    is_labelled_function-mapped (Node kind m span semantic_id ps) = refl

    ends_in_function-mapped : (ps : Parts) → ends_in_function (mapped_parts f ps) ≡ ends_in_function ps
    ends_in_function-mapped (more label (more (child t) end)) = ap₂ (λ a b. a || b) (is_function_statement-mapped t) (is_labelled_function-mapped t)
    ends_in_function-mapped ps = refl

  is_odd_branch-mapped : (p : Part) → is_odd_branch (mapped_part f p) ≡ is_odd_branch p
  is_odd_branch-mapped (child t) = is_labelled_function-mapped t
  is_odd_branch-mapped p = refl

  is_odd_body-mapped : (p : Part) → is_odd_body (mapped_part f p) ≡ is_odd_body p
  is_odd_body-mapped (child t) = ap₂ (λ a b. a || b) (is_function_statement-mapped t) (is_labelled_function-mapped t)
  is_odd_body-mapped p = refl

  branch_at-mapped : (i : ℕ) (ps : Parts) → is_odd_branch (at i (mapped_parts f ps)) ≡ is_odd_branch (at i ps)
  branch_at-mapped i ps = ap is_odd_branch (at-mapped f i ps) ∙ is_odd_branch-mapped (at i ps)

  body_at-mapped : (i : ℕ) (ps : Parts) → is_odd_body (at i (mapped_parts f ps)) ≡ is_odd_body (at i ps)
  body_at-mapped i ps = ap is_odd_body (at-mapped f i ps) ∙ is_odd_body-mapped (at i ps)

  loop-mapped : (ps : Parts) → head_or (form_of_head (at 0 (mapped_parts f ps))) (odd_if (is_odd_body (at 2 (mapped_parts f ps)))) ≡ head_or (form_of_head (at 0 ps)) (odd_if (is_odd_body (at 2 ps)))
  loop-mapped ps = ap₂ head_or (ap form_of_head (at-mapped f 0 ps) ∙ form_of_head-mapped (at 0 ps)) (ap odd_if (body_at-mapped 2 ps))

  form_of_export-mapped : (p : Part) → form_of_export (mapped_part f p) ≡ form_of_export p
  form_of_export-mapped (child (Node Kind.FunctionDeclaration m span semantic_id ps)) = refl
  form_of_export-mapped (child (Node Kind.ClassDeclaration m span semantic_id ps)) = refl
  form_of_export-mapped (child (Node Kind.VariableDeclaration m span semantic_id ps)) = refl
  form_of_export-mapped (child (Node kind m span semantic_id ps)) = refl
  form_of_export-mapped p = refl

  odd_form-mapped : (kind : Kind) (ps : Parts) → odd_form kind (mapped_parts f ps) ≡ odd_form kind ps
  odd_form-mapped Kind.CallExpression ps = ap form_of_callee (at-mapped f 0 ps) ∙ form_of_callee-mapped (at 0 ps)
  odd_form-mapped Kind.TaggedTemplateExpression ps = ap form_of_callee (at-mapped f 0 ps) ∙ form_of_callee-mapped (at 0 ps)
  odd_form-mapped Kind.UnaryExpression ps = rw (string_at-mapped f 0 ps, at-mapped f 1 ps, form_of_deleted-mapped (at 1 ps)) refl
  odd_form-mapped Kind.Property ps = form_of_property-mapped ps
  odd_form-mapped Kind.MethodDefinition ps = accessor-mapped ps
  odd_form-mapped Kind.ForInStatement ps = loop-mapped ps
  odd_form-mapped Kind.ForOfStatement ps = loop-mapped ps
  odd_form-mapped Kind.ForStatement ps = ap odd_if (body_at-mapped 3 ps)
  odd_form-mapped Kind.WhileStatement ps = ap odd_if (body_at-mapped 1 ps)
  odd_form-mapped Kind.DoWhileStatement ps = ap odd_if (body_at-mapped 0 ps)
  odd_form-mapped Kind.IfStatement ps = ap₂ (λ a b. odd_if (a || b)) (branch_at-mapped 1 ps) (branch_at-mapped 2 ps)
  odd_form-mapped Kind.ExportNamedDeclaration ps = ap form_of_export (at-mapped f 0 ps) ∙ form_of_export-mapped (at 0 ps)
  odd_form-mapped kind ps = refl

  has_question-mapped : (kind : Kind) (ps : Parts) → has_question kind (mapped_parts f ps) ≡ has_question kind ps
  has_question-mapped Kind.MemberExpression ps = is_true_at-mapped f 3 ps
  has_question-mapped Kind.PrivateField ps = is_true_at-mapped f 3 ps
  has_question-mapped Kind.CallExpression ps = is_true_at-mapped f 2 ps
  has_question-mapped kind ps = refl

  is_call_of-mapped : (ps : Parts) → is_call_of (mapped_parts f ps) ≡ is_call_of ps
  is_call_of-mapped ps = rw (at-mapped f 1 ps, name_of_part-mapped f (at 1 ps), is_true_at-mapped f 2 ps) refl

  may_question-mapped : (kind : Kind) (ps : Parts) → may_question kind (mapped_parts f ps) ≡ may_question kind ps
  may_question-mapped Kind.MemberExpression ps = ap₂ (λ a b. not a || b) (is_true_at-mapped f 3 ps) (is_call_of-mapped ps)
  may_question-mapped Kind.PrivateField ps = ap not (is_true_at-mapped f 3 ps)
  may_question-mapped Kind.CallExpression ps = ap not (is_true_at-mapped f 2 ps)
  may_question-mapped kind ps = refl

  is_super_member-mapped : (p : Part) → is_super_member (mapped_part f p) ≡ is_super_member p
  is_super_member-mapped (child (Node Kind.MemberExpression m span semantic_id ps)) = rw (at-mapped f 0 ps) (is_super_part-mapped f (at 0 ps))
  is_super_member-mapped (child (Node kind m span semantic_id ps)) = refl
  is_super_member-mapped p = refl

  is_lowered_target-mapped : (p : Part) → is_lowered_target (mapped_part f p) ≡ is_lowered_target p
  is_lowered_target-mapped (child (Node Kind.PrivateField m span semantic_id ps)) = refl
  is_lowered_target-mapped p = is_super_member-mapped p

  assigns_super-mapped : (kind : Kind) (ps : Parts) → assigns_super kind (mapped_parts f ps) ≡ assigns_super kind ps
  assigns_super-mapped Kind.AssignmentExpression ps = ap is_super_member (at-mapped f 1 ps) ∙ is_super_member-mapped (at 1 ps)
  assigns_super-mapped kind ps = refl

  same_node-mapped : (p q : Part) → same_node (mapped_part f p) (mapped_part f q) ≡ same_node p q
  same_node-mapped (child t) (child u) = rw (number_of-mapped f t, number_of-mapped f u) (r.apart (number_of t) (number_of u))
  same_node-mapped (child t) q = refl
  same_node-mapped p q = refl

  target-mapped : (ps qs : Parts) → same_node (at 1 (mapped_parts f ps)) (at 1 (mapped_parts f qs)) ≡ same_node (at 1 ps) (at 1 qs)
  target-mapped ps qs = ap₂ same_node (at-mapped f 1 ps) (at-mapped f 1 qs) ∙ same_node-mapped (at 1 ps) (at 1 qs)

  lowered-mapped : (ps : Parts) → is_lowered_target (at 1 (mapped_parts f ps)) ≡ is_lowered_target (at 1 ps)
  lowered-mapped ps = ap is_lowered_target (at-mapped f 1 ps) ∙ is_lowered_target-mapped (at 1 ps)

  keeps_target-mapped : (kind : Kind) (ps : Parts) (other : Kind) (qs : Parts) → keeps_target kind (mapped_parts f ps) other (mapped_parts f qs) ≡ keeps_target kind ps other qs
  keeps_target-mapped Kind.AssignmentExpression ps other qs = ap₂ (λ a b. a || (same_kind Kind.AssignmentExpression other && b)) (lowered-mapped ps) (target-mapped ps qs)
  keeps_target-mapped Kind.UpdateExpression ps other qs = ap₂ (λ a b. a || b) (lowered-mapped ps) (target-mapped ps qs)
  keeps_target-mapped kind ps other qs = refl

  carries-mapped : (kind : Kind) (ps : Parts) (other : Kind) (qs : Parts) → carries kind (mapped_parts f ps) other (mapped_parts f qs) ≡ carries kind ps other qs
  carries-mapped kind ps other qs = rw (string_at-mapped f 0 ps, string_at-mapped f 0 qs, keeps_words-mapped f kind ps qs, keeps_target-mapped kind ps other qs, odd_form-mapped kind ps, odd_form-mapped other qs, has_question-mapped kind ps, may_question-mapped other qs) refl

  stands_for_node-mapped : (kind : Kind) (n : ℕ) (qs : Parts) (ts : List Tree) → stands_for_node kind (f n) (mapped_parts f qs) (map (mapped f) ts) ≡ stands_for_node kind n qs ts
  stands_for_node-mapped kind n qs [] = refl
  stands_for_node-mapped kind n qs (Node other m span semantic_id ps ∷ ts) = ap₂ (λ a b. a || b) (ap₂ (λ a b. a && b) (r.apart n m) (carries-mapped other ps kind qs)) (stands_for_node-mapped kind n qs ts)

  is_carried-mapped : (ps : List Tree) (t : Tree) → is_carried first (map (mapped f) ps) (mapped f t) ≡ is_carried first ps t
  is_carried-mapped ps (Node kind n span semantic_id qs) = rw (r.new n, assigns_super-mapped kind qs, odd_form-mapped kind qs, may_question-mapped kind qs, stands_for_node-mapped kind n qs ps) refl

  all_carried-mapped : (ps ts : List Tree) → all_carried first (map (mapped f) ps) (map (mapped f) ts) ≡ all_carried first ps ts
  all_carried-mapped ps [] = refl
  all_carried-mapped ps (t ∷ ts) = ap₂ (λ a b. a && b) (is_carried-mapped ps t) (all_carried-mapped ps ts)

  pub numbers_carried-mapped : (p q : Tree) → numbers_carried first (mapped f p) (mapped f q) ≡ numbers_carried first p q
  numbers_carried-mapped p q =
      ap₂ (λ a b. a && b) (ap₂ (all_carried first) (preorder-mapped f p) (preorder-mapped f q) ∙ all_carried-mapped (preorder p) (preorder q)) (bound_stay-mapped r p q)
