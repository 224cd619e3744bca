-- Reading a tree into codes follows a change of numbers.
use Rattle.std.specs.Prelude.{◌≡◌, ℕ, suc, map}
use Rattle.std.proofs.Common.{refl, ap, ap₂, ◌∙◌}
use Rattle.es_base.specs.Tree as tree
use Rattle.es_base.specs.Tree.{Tree, Part, Parts, Node}
use Rattle.es_base.specs.declared.kind.Kind.{Kind}
use Rattle.es_steps.specs.ClassHeads.{declared_or_named}
use Rattle.es_steps.specs.Code.{sequence, spelled, static_block, steps}
use Rattle.es_steps.specs.Context.{Context, inside}
use Rattle.es_steps.specs.Members.{Members, code, list, more, at, word_of}
use Rattle.es_steps.specs.Reading.{statement_code, pattern_code, class_form_code, code_of, read, read_parts, read_part, read_items}
use Rattle.es_steps.specs.Statements.{class_of, declared_by, declared_by_let}
use Rattle.es_steps.proofs.ClassHeadsMapped.{declared_or_named-mapped}
use Rattle.es_steps.proofs.ContextMapped.{name_kind-mapped, inside-mapped, inside-first}
use Rattle.es_steps.proofs.ExpressionsMapped.{operation_of-mapped, literal_at-mapped, name_code-mapped, private_name_code-mapped, template_string_code-mapped, template_code-mapped, meta_code-mapped, member_code-mapped, private_field_code-mapped, private_in_code-mapped, assignment_code-mapped, update_code-mapped, unary_code-mapped, binary_code-mapped, logical_code-mapped, chain_code-mapped, call_code-mapped, tag_code-mapped, new_code-mapped, conditional_code-mapped, property_code-mapped}
use Rattle.es_steps.proofs.Mapped.{Renames, mapped, mapped_part, mapped_parts, mapped_context, mapped_code, mapped_member, mapped_members, mapped_pair}
use Rattle.es_steps.proofs.MembersMapped.{codes_in-mapped, word_at-mapped, codes_at-mapped}
use Rattle.es_steps.proofs.StatementsMapped.{held_from-mapped, case_code-mapped, catch_code-mapped, for_each_code-mapped, expression_code-mapped, declarator_code-mapped, declaration_code-mapped, return_code-mapped, suspension_code-mapped, default_export_code-mapped, default_code-mapped, rest_code-mapped, pattern_property_code-mapped, array_pattern_code-mapped, object_pattern_code-mapped, function_expression_code-mapped, function_declaration_code-mapped, arrow_code-mapped, declared_at-mapped, declared_by_let-mapped, class_of-mapped, field_code-mapped, method_code-mapped}

-- ---- by the rule of a kind

module _ {first : ℕ} {f : ℕ → ℕ} (r : Renames first f) (c : Context) (e : c.first_new ≡ first) where
  statement_code-mapped : (kind : Kind) (m : ℕ) (ps : Members) → statement_code (mapped_context f c) kind (f m) (mapped_members f ps) ≡ mapped_code f (statement_code c kind m ps)
  statement_code-mapped Kind.Program m ps = ap steps (codes_in-mapped f ps)
  statement_code-mapped Kind.ExpressionStatement m ps = expression_code-mapped r c e m ps
  statement_code-mapped Kind.BlockStatement m ps = ap steps (codes_in-mapped f ps)
  statement_code-mapped Kind.VariableDeclaration m ps = declaration_code-mapped f ps
  statement_code-mapped Kind.CatchClause m ps = catch_code-mapped f m ps
  statement_code-mapped Kind.VariableDeclarator m ps = declarator_code-mapped r c e m ps
  statement_code-mapped Kind.LabeledStatement m ps = held_from-mapped f 1 Kind.LabeledStatement m ps
  statement_code-mapped Kind.IfStatement m ps = held_from-mapped f 1 Kind.IfStatement m ps
  statement_code-mapped Kind.SwitchStatement m ps = held_from-mapped f 1 Kind.SwitchStatement m ps
  statement_code-mapped Kind.SwitchCase m ps = case_code-mapped f m ps
  statement_code-mapped Kind.TryStatement m ps = held_from-mapped f 0 Kind.TryStatement m ps
  statement_code-mapped Kind.WhileStatement m ps = held_from-mapped f 0 Kind.WhileStatement m ps
  statement_code-mapped Kind.DoWhileStatement m ps = held_from-mapped f 0 Kind.DoWhileStatement m ps
  statement_code-mapped Kind.ForStatement m ps = held_from-mapped f 1 Kind.ForStatement m ps
  statement_code-mapped Kind.ForInStatement m ps = for_each_code-mapped r c e Kind.ForInStatement m ps
  statement_code-mapped Kind.ForOfStatement m ps = for_each_code-mapped r c e Kind.ForOfStatement m ps
  statement_code-mapped Kind.DebuggerStatement m ps = operation_of-mapped f Kind.DebuggerStatement m ps
  statement_code-mapped Kind.ReturnStatement m ps = return_code-mapped r c e m ps
  statement_code-mapped Kind.ThrowStatement m ps = operation_of-mapped f Kind.ThrowStatement m ps
  statement_code-mapped Kind.BreakStatement m ps = operation_of-mapped f Kind.BreakStatement m ps
  statement_code-mapped Kind.ContinueStatement m ps = operation_of-mapped f Kind.ContinueStatement m ps
  statement_code-mapped Kind.ExportNamedDeclaration m ps = ap steps (codes_at-mapped f 0 ps)
  statement_code-mapped Kind.ExportDefaultDeclaration m ps = default_export_code-mapped f ps
  statement_code-mapped kind m ps = refl

  pattern_code-mapped : (kind : Kind) (m : ℕ) (ps : Members) → pattern_code (mapped_context f c) kind (f m) (mapped_members f ps) ≡ mapped_code f (pattern_code c kind m ps)
  pattern_code-mapped Kind.ObjectPattern m ps = object_pattern_code-mapped f m ps
  pattern_code-mapped Kind.ObjectAssignmentTarget m ps = object_pattern_code-mapped f m ps
  pattern_code-mapped Kind.ArrayPattern m ps = array_pattern_code-mapped f m ps
  pattern_code-mapped Kind.ArrayAssignmentTarget m ps = array_pattern_code-mapped f m ps
  pattern_code-mapped Kind.AssignmentPattern m ps = default_code-mapped f m ps
  pattern_code-mapped Kind.AssignmentTargetWithDefault m ps = default_code-mapped f m ps
  pattern_code-mapped Kind.RestElement m ps = rest_code-mapped f ps
  pattern_code-mapped Kind.AssignmentTargetRest m ps = rest_code-mapped f ps
  pattern_code-mapped Kind.BindingProperty m ps = pattern_property_code-mapped f m ps
  pattern_code-mapped Kind.AssignmentTargetProperty m ps = pattern_property_code-mapped f m ps
  pattern_code-mapped kind m ps = statement_code-mapped kind m ps

  class_declaration-mapped : (m : ℕ) (ps : Members) → class_of (declared_or_named (f m) (map (mapped_pair f) c.named) (declared_by (at 0 (mapped_members f ps)))) (f m) (mapped_members f ps) ≡ mapped_code f (class_of (declared_or_named m c.named (declared_by (at 0 ps))) m ps)
  class_declaration-mapped m ps =
      ap (λ d. class_of (declared_or_named (f m) (map (mapped_pair f) c.named) d) (f m) (mapped_members f ps)) (declared_at-mapped f 0 ps)
      ∙ ap (λ d. class_of d (f m) (mapped_members f ps)) (declared_or_named-mapped r m c.named (declared_by (at 0 ps)))
      ∙ class_of-mapped f (declared_or_named m c.named (declared_by (at 0 ps))) m ps

  class_form_code-mapped : (kind : Kind) (m : ℕ) (ps : Members) → class_form_code (mapped_context f c) kind (f m) (mapped_members f ps) ≡ mapped_code f (class_form_code c kind m ps)
  class_form_code-mapped Kind.FunctionDeclaration m ps = function_declaration_code-mapped r c e m ps
  class_form_code-mapped Kind.FunctionExpression m ps = function_expression_code-mapped r c e m ps
  class_form_code-mapped Kind.ArrowFunctionExpression m ps = arrow_code-mapped r c e m ps
  class_form_code-mapped Kind.ClassDeclaration m ps = class_declaration-mapped m ps
  class_form_code-mapped Kind.ClassExpression m ps = ap (λ d. class_of d (f m) (mapped_members f ps)) (declared_by_let-mapped r c e m c.named c.let_class) ∙ class_of-mapped f (declared_by_let m c.named c.let_class) m ps
  class_form_code-mapped Kind.ClassBody m ps = ap steps (codes_in-mapped f ps)
  class_form_code-mapped Kind.PropertyDefinition m ps = field_code-mapped r c e ps
  class_form_code-mapped Kind.MethodDefinition m ps = method_code-mapped r c e ps
  class_form_code-mapped Kind.StaticBlock m ps = ap static_block (codes_in-mapped f ps)
  class_form_code-mapped kind m ps = pattern_code-mapped kind m ps

  code_of-mapped : (kind : Kind) (m : ℕ) (ps : Members) → code_of (mapped_context f c) kind (f m) (mapped_members f ps) ≡ mapped_code f (code_of c kind m ps)
  code_of-mapped Kind.IdentifierReference m ps = rw (word_at-mapped f 0 ps) (name_code-mapped r c e m (word_of (at 0 ps)))
  code_of-mapped Kind.BindingIdentifier m ps = rw (word_at-mapped f 0 ps, name_kind-mapped r c e (word_of (at 0 ps))) refl
  code_of-mapped Kind.IdentifierName m ps = ap spelled (word_at-mapped f 0 ps)
  code_of-mapped Kind.PrivateIdentifier m ps = rw (word_at-mapped f 0 ps) (private_name_code-mapped r c e m (word_of (at 0 ps)))
  code_of-mapped Kind.Literal m ps = literal_at-mapped f m 0 ps
  code_of-mapped Kind.ThisExpression m ps = refl
  code_of-mapped Kind.Super m ps = refl
  code_of-mapped Kind.TemplateElement m ps = template_string_code-mapped f ps
  code_of-mapped Kind.TemplateLiteral m ps = template_code-mapped f m ps
  code_of-mapped Kind.TaggedTemplateExpression m ps = tag_code-mapped f m ps
  code_of-mapped Kind.MetaProperty m ps = meta_code-mapped r c e m ps
  code_of-mapped Kind.MemberExpression m ps = member_code-mapped r c e m ps
  code_of-mapped Kind.PrivateField m ps = private_field_code-mapped r c e m ps
  code_of-mapped Kind.PrivateIn m ps = private_in_code-mapped r c e m ps
  code_of-mapped Kind.AssignmentExpression m ps = assignment_code-mapped r c e m ps
  code_of-mapped Kind.UpdateExpression m ps = update_code-mapped f m ps
  code_of-mapped Kind.UnaryExpression m ps = unary_code-mapped f m ps
  code_of-mapped Kind.BinaryExpression m ps = binary_code-mapped r c e m ps
  code_of-mapped Kind.LogicalExpression m ps = logical_code-mapped r c e m ps
  code_of-mapped Kind.ChainExpression m ps = chain_code-mapped f m ps
  code_of-mapped Kind.CallExpression m ps = call_code-mapped r c e m ps
  code_of-mapped Kind.NewExpression m ps = new_code-mapped f m ps
  code_of-mapped Kind.ConditionalExpression m ps = conditional_code-mapped r c e m ps
  code_of-mapped Kind.SequenceExpression m ps = ap sequence (codes_in-mapped f ps)
  code_of-mapped Kind.Property m ps = property_code-mapped f ps
  code_of-mapped Kind.ArrayExpression m ps = operation_of-mapped f Kind.ArrayExpression m ps
  code_of-mapped Kind.ObjectExpression m ps = operation_of-mapped f Kind.ObjectExpression m ps
  code_of-mapped Kind.SpreadElement m ps = operation_of-mapped f Kind.SpreadElement m ps
  code_of-mapped Kind.YieldExpression m ps = suspension_code-mapped r c e Kind.YieldExpression m ps
  code_of-mapped Kind.AwaitExpression m ps = suspension_code-mapped r c e Kind.AwaitExpression m ps
  code_of-mapped Kind.ImportExpression m ps = operation_of-mapped f Kind.ImportExpression m ps
  code_of-mapped kind m ps = class_form_code-mapped kind m ps

-- ---- a tree

module _ {first : ℕ} {f : ℕ → ℕ} (r : Renames first f) where
  mutual
    pub read-mapped : (c : Context) → c.first_new ≡ first → (t : Tree) → read (mapped_context f c) (mapped f t) ≡ mapped_code f (read c t)
    read-mapped c e (Node kind m span semantic_id ps) =
        ap (code_of (mapped_context f c) kind (f m)) (read_parts-mapped _ (inside c kind m ps) (λ i. inside-first c kind m ps i ∙ e) (λ i. inside-mapped r c e kind m ps i) ps)
        ∙ code_of-mapped r c e kind m (read_parts (inside c kind m ps) ps)

    -- contexts part by part
    read_parts-mapped : (there here : ℕ → Context) → ((i : ℕ) → (here i).first_new ≡ first) → ((i : ℕ) → there i ≡ mapped_context f (here i)) → (ps : Parts) → read_parts there (mapped_parts f ps) ≡ mapped_members f (read_parts here ps)
    read_parts-mapped there here firsts same tree.end = refl
    read_parts-mapped there here firsts same (tree.more p ps) =
        ap₂ more
        (ap (λ x. read_part x (mapped_part f p)) (same 0) ∙ read_part-mapped (here 0) (firsts 0) p)
        (read_parts-mapped (λ i. there (suc i)) (λ i. here (suc i)) (λ i. firsts (suc i)) (λ i. same (suc i)) ps)

    read_part-mapped : (c : Context) → c.first_new ≡ first → (p : Part) → read_part (mapped_context f c) (mapped_part f p) ≡ mapped_member f (read_part c p)
    read_part-mapped c e (tree.child t) = ap code (read-mapped c e t)
    read_part-mapped c e (tree.list ps) = ap list (read_items-mapped c e ps)
    read_part-mapped c e p = refl

    read_items-mapped : (c : Context) → c.first_new ≡ first → (ps : Parts) → read_items (mapped_context f c) (mapped_parts f ps) ≡ mapped_members f (read_items c ps)
    read_items-mapped c e tree.end = refl
    read_items-mapped c e (tree.more p ps) = ap₂ more (read_part-mapped c e p) (read_items-mapped c e ps)
