-- Each rule of reading reads codes with holes as it reads what stands in them.
use Rattle.std.specs.Prelude.{◌≡◌, refl, ℕ, zero, suc, Bool, true, false, cond, not, ◌&&◌, nat_eq, Option, Some, None}
use Rattle.std.proofs.Common.{◌∙◌, ap, ap₂, sym}
use Rattle.es_base.specs.Tree as tree
use Rattle.es_base.specs.Tree.{Tree, Part, Parts, Node}
use Rattle.es_base.specs.declared.kind.Kind.{Kind}
use Rattle.es_steps.specs.ClassHeads.{declared_or_named}
use Rattle.es_steps.specs.Code.{Code, Codes, sequence, spelled, static_block, steps, chain, tested, from_member, initializers, done, and}
use Rattle.es_steps.specs.Context.{Context, Frame, function_frame, arrow_frame, class_frame, field_frame, method_frame, static_block_frame, object_frame, property_frame, assignment_frame, declarator_frame, same_frame, FunctionRole, a_function, constructor_of, method_on, super_function_of, in_function, new_here, framed, frame_of, inside}
use Rattle.es_steps.specs.Expressions.{the_code, ended_alone, spliced}
use Rattle.es_steps.specs.Members.{Member, Members, code, list, more, end, at, word_of}
use Rattle.es_steps.specs.Parts as parts
use Rattle.es_steps.specs.Parts.{string_of}
use Rattle.es_steps.specs.Reading.{statement_code, pattern_code, class_form_code, code_of, read, read_parts, read_part, read_items}
use Rattle.es_steps.specs.Statements.{class_of, declared_by, declared_by_let}
use Rattle.es_replacement.proofs.ChainsFilled.{conditional_code-filled}
use Rattle.es_replacement.proofs.Closed.{EndsClosed, ends_closed, code_of-closed}
use Rattle.es_replacement.proofs.Environments.{untrue}
use Rattle.es_replacement.proofs.ExpressionsFilled.{operation_of-filled, literal_at-filled, name_code-filled, template_string_code-filled, template_code-filled, meta_code-filled, member_code-filled, private_field_code-filled, private_in_code-filled, assignment_code-filled, update_code-filled, unary_code-filled, binary_code-filled, logical_code-filled, chain_code-filled, call_code-filled, tag_code-filled, new_code-filled, property_code-filled}
use Rattle.es_replacement.proofs.MembersFilled.{filled_member, filled_members, codes_in-filled, word_at-filled, codes_at-filled, the_code_at-filled, closed_part}
use Rattle.es_replacement.proofs.StatementsFilled.{held_from-filled, case_code-filled, catch_code-filled, for_each_code-filled, expression_code-filled, declarator_code-filled, declaration_code-filled, return_code-filled, suspension_code-filled, default_export_code-filled, default_code-filled, rest_code-filled, pattern_property_code-filled, array_pattern_code-filled, object_pattern_code-filled, function_expression_code-filled, function_declaration_code-filled, arrow_code-filled, class_of-filled, declared_at-filled, field_code-filled, method_code-filled}
use Rattle.es_replacement.specs.Holes.{filled, filled_all}
use Rattle.es_replacement.specs.TreeHoles.{PartHole, the_child, an_item, TreeHole, top, within, behind, further, inside_with, joined_members, read_place, read_with, code_around, is_head, is_at, is_part, ReadsThrough, IsApart}
use Rattle.es_replacement.specs.Law.{UnaskedLaw}
use Rattle.es_replacement.specs.Unasked.{is_unasked, ends_open, none_open, head_open, are_closed, is_closed, asked_part, is_closed_at, heads_closed}

-- ---- by the rule of a kind

module _ (c : Context) (fill : ℕ → Code) (unasked : (n : ℕ) → is_unasked c.first_new (fill n) ≡ true) where
  pub statement_code-filled : (kind : Kind) (m : ℕ) (ps : Members) → is_closed_at (asked_part kind (word_of (at 0 ps))) ps ≡ true → heads_closed kind ps ≡ true → statement_code c kind m (filled_members fill ps) ≡ filled fill (statement_code c kind m ps)
  statement_code-filled Kind.Program m ps closed heads = ap steps (codes_in-filled fill ps)
  statement_code-filled Kind.ExpressionStatement m ps closed heads = expression_code-filled c fill unasked m ps
  statement_code-filled Kind.BlockStatement m ps closed heads = ap steps (codes_in-filled fill ps)
  statement_code-filled Kind.VariableDeclaration m ps closed heads = declaration_code-filled c.first_new fill unasked ps
  statement_code-filled Kind.CatchClause m ps closed heads = catch_code-filled c.first_new fill unasked m ps closed
  statement_code-filled Kind.VariableDeclarator m ps closed heads = declarator_code-filled c fill unasked m ps closed
  statement_code-filled Kind.LabeledStatement m ps closed heads = held_from-filled c.first_new fill unasked 1 Kind.LabeledStatement m ps
  statement_code-filled Kind.IfStatement m ps closed heads = held_from-filled c.first_new fill unasked 1 Kind.IfStatement m ps
  statement_code-filled Kind.SwitchStatement m ps closed heads = held_from-filled c.first_new fill unasked 1 Kind.SwitchStatement m ps
  statement_code-filled Kind.SwitchCase m ps closed heads = case_code-filled c.first_new fill unasked m ps
  statement_code-filled Kind.TryStatement m ps closed heads = held_from-filled c.first_new fill unasked 0 Kind.TryStatement m ps
  statement_code-filled Kind.WhileStatement m ps closed heads = held_from-filled c.first_new fill unasked 0 Kind.WhileStatement m ps
  statement_code-filled Kind.DoWhileStatement m ps closed heads = held_from-filled c.first_new fill unasked 0 Kind.DoWhileStatement m ps
  statement_code-filled Kind.ForStatement m ps closed heads = held_from-filled c.first_new fill unasked 1 Kind.ForStatement m ps
  statement_code-filled Kind.ForInStatement m ps closed heads = for_each_code-filled c fill unasked Kind.ForInStatement m ps closed (untrue _ heads)
  statement_code-filled Kind.ForOfStatement m ps closed heads = for_each_code-filled c fill unasked Kind.ForOfStatement m ps closed (untrue _ heads)
  statement_code-filled Kind.DebuggerStatement m ps closed heads = operation_of-filled c.first_new fill unasked Kind.DebuggerStatement m ps
  statement_code-filled Kind.ReturnStatement m ps closed heads = return_code-filled c fill unasked m ps
  statement_code-filled Kind.ThrowStatement m ps closed heads = operation_of-filled c.first_new fill unasked Kind.ThrowStatement m ps
  statement_code-filled Kind.BreakStatement m ps closed heads = operation_of-filled c.first_new fill unasked Kind.BreakStatement m ps
  statement_code-filled Kind.ContinueStatement m ps closed heads = operation_of-filled c.first_new fill unasked Kind.ContinueStatement m ps
  statement_code-filled Kind.ExportNamedDeclaration m ps closed heads = ap steps (codes_at-filled fill 0 ps)
  statement_code-filled Kind.ExportDefaultDeclaration m ps closed heads = default_export_code-filled c.first_new fill unasked ps
  statement_code-filled kind m ps closed heads = refl

  pub pattern_code-filled : (kind : Kind) (m : ℕ) (ps : Members) → is_closed_at (asked_part kind (word_of (at 0 ps))) ps ≡ true → heads_closed kind ps ≡ true → pattern_code c kind m (filled_members fill ps) ≡ filled fill (pattern_code c kind m ps)
  pattern_code-filled Kind.ObjectPattern m ps closed heads = object_pattern_code-filled c.first_new fill unasked m ps closed
  pattern_code-filled Kind.ObjectAssignmentTarget m ps closed heads = object_pattern_code-filled c.first_new fill unasked m ps closed
  pattern_code-filled Kind.ArrayPattern m ps closed heads = array_pattern_code-filled c.first_new fill unasked m ps closed
  pattern_code-filled Kind.ArrayAssignmentTarget m ps closed heads = array_pattern_code-filled c.first_new fill unasked m ps closed
  pattern_code-filled Kind.AssignmentPattern m ps closed heads = default_code-filled c.first_new fill unasked m ps closed
  pattern_code-filled Kind.AssignmentTargetWithDefault m ps closed heads = default_code-filled c.first_new fill unasked m ps closed
  pattern_code-filled Kind.RestElement m ps closed heads = rest_code-filled c.first_new fill unasked ps closed
  pattern_code-filled Kind.AssignmentTargetRest m ps closed heads = rest_code-filled c.first_new fill unasked ps closed
  pattern_code-filled Kind.BindingProperty m ps closed heads = pattern_property_code-filled c.first_new fill unasked m ps closed
  pattern_code-filled Kind.AssignmentTargetProperty m ps closed heads = pattern_property_code-filled c.first_new fill unasked m ps closed
  pattern_code-filled kind m ps closed heads = statement_code-filled kind m ps closed heads

  class_declaration-filled : (m : ℕ) (ps : Members) → class_of (declared_or_named m c.named (declared_by (at 0 (filled_members fill ps)))) m (filled_members fill ps) ≡ filled fill (class_of (declared_or_named m c.named (declared_by (at 0 ps))) m ps)
  class_declaration-filled m ps =
      ap (λ d. class_of (declared_or_named m c.named d) m (filled_members fill ps)) (declared_at-filled c.first_new fill unasked 0 ps)
      ∙ class_of-filled c.first_new fill unasked (declared_or_named m c.named (declared_by (at 0 ps))) m ps

  pub class_form_code-filled : (kind : Kind) (m : ℕ) (ps : Members) → is_closed_at (asked_part kind (word_of (at 0 ps))) ps ≡ true → heads_closed kind ps ≡ true → class_form_code c kind m (filled_members fill ps) ≡ filled fill (class_form_code c kind m ps)
  class_form_code-filled Kind.FunctionDeclaration m ps closed heads = function_declaration_code-filled c fill unasked m ps
  class_form_code-filled Kind.FunctionExpression m ps closed heads = function_expression_code-filled c fill unasked m ps
  class_form_code-filled Kind.ArrowFunctionExpression m ps closed heads = arrow_code-filled c fill unasked m ps
  class_form_code-filled Kind.ClassDeclaration m ps closed heads = class_declaration-filled m ps
  class_form_code-filled Kind.ClassExpression m ps closed heads = class_of-filled c.first_new fill unasked (declared_by_let m c.named c.let_class) m ps
  class_form_code-filled Kind.ClassBody m ps closed heads = ap steps (codes_in-filled fill ps)
  class_form_code-filled Kind.PropertyDefinition m ps closed heads = field_code-filled c fill unasked ps
  class_form_code-filled Kind.MethodDefinition m ps closed heads = method_code-filled c fill unasked ps
  class_form_code-filled Kind.StaticBlock m ps closed heads = ap static_block (codes_in-filled fill ps)
  class_form_code-filled kind m ps closed heads = pattern_code-filled kind m ps closed heads

  pub code_of-filled : (kind : Kind) (m : ℕ) (ps : Members) → is_closed_at (asked_part kind (word_of (at 0 ps))) ps ≡ true → heads_closed kind ps ≡ true → code_of c kind m (filled_members fill ps) ≡ filled fill (code_of c kind m ps)
  code_of-filled Kind.IdentifierReference m ps closed heads = rw (word_at-filled fill 0 ps) (name_code-filled c fill unasked m (word_of (at 0 ps)))
  code_of-filled Kind.BindingIdentifier m ps closed heads = rw (word_at-filled fill 0 ps) refl
  code_of-filled Kind.IdentifierName m ps closed heads = ap spelled (word_at-filled fill 0 ps)
  code_of-filled Kind.PrivateIdentifier m ps closed heads = rw (word_at-filled fill 0 ps) refl
  code_of-filled Kind.Literal m ps closed heads = literal_at-filled c.first_new fill unasked m 0 ps
  code_of-filled Kind.ThisExpression m ps closed heads = refl
  code_of-filled Kind.Super m ps closed heads = refl
  code_of-filled Kind.TemplateElement m ps closed heads = template_string_code-filled c.first_new fill unasked ps
  code_of-filled Kind.TemplateLiteral m ps closed heads = template_code-filled c.first_new fill unasked m ps
  code_of-filled Kind.TaggedTemplateExpression m ps closed heads = tag_code-filled c.first_new fill unasked m ps closed
  code_of-filled Kind.MetaProperty m ps closed heads = meta_code-filled c fill unasked m ps
  code_of-filled Kind.MemberExpression m ps closed heads = member_code-filled c fill unasked m ps
  code_of-filled Kind.PrivateField m ps closed heads = private_field_code-filled c fill unasked m ps
  code_of-filled Kind.PrivateIn m ps closed heads = private_in_code-filled c.first_new fill unasked c m ps
  code_of-filled Kind.AssignmentExpression m ps closed heads = assignment_code-filled c fill unasked m ps closed
  code_of-filled Kind.UpdateExpression m ps closed heads = update_code-filled c.first_new fill unasked m ps closed
  code_of-filled Kind.UnaryExpression m ps closed heads = unary_code-filled c.first_new fill unasked m ps closed
  code_of-filled Kind.BinaryExpression m ps closed heads = binary_code-filled c fill unasked m ps
  code_of-filled Kind.LogicalExpression m ps closed heads = logical_code-filled c fill unasked m ps
  code_of-filled Kind.ChainExpression m ps closed heads = chain_code-filled c.first_new fill unasked m ps
  code_of-filled Kind.CallExpression m ps closed heads = call_code-filled c fill unasked m ps closed
  code_of-filled Kind.NewExpression m ps closed heads = new_code-filled c.first_new fill unasked m ps
  code_of-filled Kind.ConditionalExpression m ps closed heads = conditional_code-filled c fill unasked m ps
  code_of-filled Kind.SequenceExpression m ps closed heads = ap sequence (codes_in-filled fill ps)
  code_of-filled Kind.Property m ps closed heads = property_code-filled c.first_new fill unasked ps
  code_of-filled Kind.ArrayExpression m ps closed heads = operation_of-filled c.first_new fill unasked Kind.ArrayExpression m ps
  code_of-filled Kind.ObjectExpression m ps closed heads = operation_of-filled c.first_new fill unasked Kind.ObjectExpression m ps
  code_of-filled Kind.SpreadElement m ps closed heads = operation_of-filled c.first_new fill unasked Kind.SpreadElement m ps
  code_of-filled Kind.YieldExpression m ps closed heads = suspension_code-filled c fill unasked Kind.YieldExpression m ps
  code_of-filled Kind.AwaitExpression m ps closed heads = suspension_code-filled c fill unasked Kind.AwaitExpression m ps
  code_of-filled Kind.ImportExpression m ps closed heads = operation_of-filled c.first_new fill unasked Kind.ImportExpression m ps
  code_of-filled kind m ps closed heads = class_form_code-filled kind m ps closed heads

-- ---- the first new number is the same at each place

function_first : (role : FunctionRole) (f : ℕ) (ps : Parts) (c : Context) → (in_function role f ps c).first_new ≡ c.first_new
function_first a_function f ps c = refl
function_first (constructor_of n) f ps c = refl
function_first (method_on home) f ps c = refl
function_first (super_function_of n) f ps c = refl

cond_first : (b : Bool) (x y : Context) (first : ℕ) → x.first_new ≡ first → y.first_new ≡ first → (cond b x y).first_new ≡ first
cond_first true x y first p q = p
cond_first false x y first p q = q

framed_first : (frame : Frame) (m : ℕ) (ps : Parts) (i : ℕ) (c : Context) → (framed frame m ps i c).first_new ≡ c.first_new
framed_first function_frame m ps i c = function_first c.role m ps c
framed_first arrow_frame m ps i c = refl
framed_first class_frame m ps i c = cond_first (nat_eq i 2) _ c c.first_new refl refl
framed_first field_frame m ps i c = cond_first (nat_eq i 1) _ c c.first_new refl refl
framed_first method_frame m ps i c = refl
framed_first static_block_frame m ps i c = refl
framed_first object_frame m ps i c = refl
framed_first property_frame m ps i c = refl
framed_first assignment_frame m ps i c = refl
framed_first declarator_frame m ps i c = cond_first (new_here c m) _ c c.first_new refl refl
framed_first same_frame m ps i c = refl

inside_first : (c : Context) (kind : Kind) (m : ℕ) (ps : Parts) (i : ℕ) → (inside c kind m ps i).first_new ≡ c.first_new
inside_first c kind m ps i = framed_first (frame_of kind) m ps i c

-- ---- what is read has no hole

asked_closed : (i : Option ℕ) (ps : Members) → are_closed ps ≡ true → is_closed_at i ps ≡ true
asked_closed None ps h = refl
asked_closed (Some i) ps h = closed_part i ps h

abbrev inner : Code → Code
inner (chain m e) = e
inner (tested o again e) = e
inner (from_member e) = e
inner e = e

abbrev first_of : Codes → Code
first_of (and c cs) = c
first_of done = initializers 0

abbrev rest_of : Codes → Codes
rest_of (and c cs) = cs
rest_of done = done

abbrev items_of : Code → Codes
items_of (steps cs) = cs
items_of e = done

module _ (first : ℕ) (fill : ℕ → Code) (unasked : (n : ℕ) → is_unasked first (fill n) ≡ true) where
  stays_closed : (q : Code) → filled fill q ≡ q → ends_open q ≡ false
  stays_closed (initializers n) e = let no_hole : true ≡ false = sym (unasked n) ∙ ap (is_unasked first) e in absurd (cc)
  stays_closed (chain m q) e = stays_closed q (ap inner e)
  stays_closed (tested o again q) e = stays_closed q (ap inner e)
  stays_closed (from_member q) e = stays_closed q (ap inner e)
  stays_closed q e = refl

  stays_none : (cs : Codes) → filled_all fill cs ≡ cs → none_open cs ≡ true
  stays_none done e = refl
  stays_none (and c cs) e = ap (λ b. not b && none_open cs) (stays_closed c (ap first_of e)) ∙ stays_none cs (ap rest_of e)

  stays_heads : (q : Code) → filled fill q ≡ q → head_open q ≡ false
  stays_heads (steps cs) e = ap not (stays_none cs (ap items_of e))
  stays_heads q e = refl

  whole_heads : (kind : Kind) (ms : Members) → filled_members fill ms ≡ ms → heads_closed kind ms ≡ true
  whole_heads Kind.ForInStatement ms e = ap not (stays_heads (the_code (at 0 ms)) (sym (the_code_at-filled fill 0 ms) ∙ ap (λ x. the_code (at 0 x)) e))
  whole_heads Kind.ForOfStatement ms e = ap not (stays_heads (the_code (at 0 ms)) (sym (the_code_at-filled fill 0 ms) ∙ ap (λ x. the_code (at 0 x)) e))
  whole_heads kind ms e = refl

  moved : (c : Context) → c.first_new ≡ first → (n : ℕ) → is_unasked c.first_new (fill n) ≡ true
  moved c is n = ap (λ k. is_unasked k (fill n)) is ∙ unasked n

  not_open : (b d : Bool) → b ≡ false → d ≡ true → (not b && d) ≡ true
  not_open b d p q = ap (λ x. not x && d) p ∙ q

  mutual
    pub whole_read : (c : Context) → c.first_new ≡ first → (t : Tree) → filled fill (read c t) ≡ read c t
    whole_read c is (Node kind m span semantic_id ps) =
        let ms : Members = read_parts (inside c kind m ps) ps in
        let whole : filled_members fill ms ≡ ms = whole_parts (inside c kind m ps) (λ i. inside_first c kind m ps i ∙ is) ps in
        sym (code_of-filled c fill (moved c is) kind m ms (asked_closed (asked_part kind (word_of (at 0 ms))) ms (closed_parts (inside c kind m ps) (λ i. inside_first c kind m ps i ∙ is) ps)) (whole_heads kind ms whole)) ∙ ap (code_of c kind m) whole

    pub whole_parts : (d : ℕ → Context) → ((i : ℕ) → (d i).first_new ≡ first) → (ps : Parts) → filled_members fill (read_parts d ps) ≡ read_parts d ps
    whole_parts d is tree.end = refl
    whole_parts d is (tree.more p ps) = ap₂ more (whole_part (d 0) (is 0) p) (whole_parts (λ i. d (suc i)) (λ i. is (suc i)) ps)

    whole_part : (c : Context) → c.first_new ≡ first → (p : Part) → filled_member fill (read_part c p) ≡ read_part c p
    whole_part c is (tree.child t) = ap code (whole_read c is t)
    whole_part c is (tree.list ps) = ap list (whole_items c is ps)
    whole_part c is p = refl

    pub whole_items : (c : Context) → c.first_new ≡ first → (ps : Parts) → filled_members fill (read_items c ps) ≡ read_items c ps
    whole_items c is tree.end = refl
    whole_items c is (tree.more p ps) = ap₂ more (whole_part c is p) (whole_items c is ps)

    pub closed_parts : (d : ℕ → Context) → ((i : ℕ) → (d i).first_new ≡ first) → (ps : Parts) → are_closed (read_parts d ps) ≡ true
    closed_parts d is tree.end = refl
    closed_parts d is (tree.more p ps) = ap (λ b. b && are_closed (read_parts (λ i. d (suc i)) ps)) (part_closed (d 0) (is 0) p) ∙ closed_parts (λ i. d (suc i)) (λ i. is (suc i)) ps

    part_closed : (c : Context) → c.first_new ≡ first → (p : Part) → is_closed (read_part c p) ≡ true
    part_closed c is (tree.child t) = ap not (stays_closed (read c t) (whole_read c is t))
    part_closed c is (tree.list ps) = closed_items c is ps
    part_closed c is p = refl

    pub closed_items : (c : Context) → c.first_new ≡ first → (ps : Parts) → are_closed (read_items c ps) ≡ true
    closed_items c is tree.end = refl
    closed_items c is (tree.more p ps) = ap (λ b. b && are_closed (read_items c ps)) (part_closed c is p) ∙ closed_items c is ps

-- ---- around a hole

behind_first : (before : Parts) (d : ℕ → Context) (first : ℕ) → ((i : ℕ) → (d i).first_new ≡ first) → (behind before d).first_new ≡ first
behind_first tree.end d first is = is 0
behind_first (tree.more p ps) d first is = behind_first ps (λ i. d (suc i)) first (λ i. is (suc i))

further_first : (before : Parts) (d : ℕ → Context) (first : ℕ) → ((i : ℕ) → (d i).first_new ≡ first) → (i : ℕ) → (further before d i).first_new ≡ first
further_first tree.end d first is i = is (suc i)
further_first (tree.more p ps) d first is i = further_first ps (λ i. d (suc i)) first (λ i. is (suc i)) i

module _ (first : ℕ) (fill : ℕ → Code) (unasked : (n : ℕ) → is_unasked first (fill n) ≡ true) where
  joined-filled : (ps : Members) (p : Member) (qs : Members) → filled_members fill (joined_members ps (more p qs)) ≡ joined_members (filled_members fill ps) (more (filled_member fill p) (filled_members fill qs))
  joined-filled end p qs = refl
  joined-filled (more x ps) p qs = ap (more (filled_member fill x)) (joined-filled ps p qs)

  joined-closed : (ps : Members) (p : Member) (qs : Members) → are_closed ps ≡ true → is_closed p ≡ true → are_closed qs ≡ true → are_closed (joined_members ps (more p qs)) ≡ true
  joined-closed end p qs a b d = ap (λ x. x && are_closed qs) b ∙ d
  joined-closed (more x ps) p qs a b d = by (is_closed x) (are_closed ps) a (λ h. joined-closed ps p qs h b d)
    where
      by : (y z : Bool) → (y && z) ≡ true → (z ≡ true → are_closed (joined_members ps (more p qs)) ≡ true) → (y && are_closed (joined_members ps (more p qs))) ≡ true
      by true z h all = all h
      by false z h all = absurd (cc)

  place-filled : (c : Context) → c.first_new ≡ first → (place : PartHole) (q : Code) → filled_member fill (read_place c place q) ≡ read_place c place (filled fill q)
  place-filled c is the_child q = refl
  place-filled c is (an_item before after) q = ap list (joined-filled (read_items c before) (code q) (read_items c after) ∙ ap₂ (λ x y. joined_members x (more (code (filled fill q)) y)) (whole_items first fill unasked c is before) (whole_items first fill unasked c is after))

  place-closed : (c : Context) → c.first_new ≡ first → (place : PartHole) (q : Code) → ends_open q ≡ false → is_closed (read_place c place q) ≡ true
  place-closed c is the_child q h = ap not h
  place-closed c is (an_item before after) q h = joined-closed (read_items c before) (code q) (read_items c after) (closed_items first fill unasked c is before) (ap not h) (closed_items first fill unasked c is after)

  with-filled : (d : ℕ → Context) → ((i : ℕ) → (d i).first_new ≡ first) → (before : Parts) (place : PartHole) (after : Parts) (q : Code) → filled_members fill (read_with d before place after q) ≡ read_with d before place after (filled fill q)
  with-filled d is before place after q =
      joined-filled (read_parts d before) (read_place (behind before d) place q) (read_parts (further before d) after)
      ∙ ap (λ x. joined_members x (more (filled_member fill (read_place (behind before d) place q)) (filled_members fill (read_parts (further before d) after)))) (whole_parts first fill unasked d is before)
      ∙ ap₂ (λ x y. joined_members (read_parts d before) (more x y)) (place-filled (behind before d) (behind_first before d first is) place q) (whole_parts first fill unasked (further before d) (further_first before d first is) after)

  with-closed : (d : ℕ → Context) → ((i : ℕ) → (d i).first_new ≡ first) → (before : Parts) (place : PartHole) (after : Parts) (q : Code) → ends_open q ≡ false → are_closed (read_with d before place after q) ≡ true
  with-closed d is before place after q h = joined-closed (read_parts d before) (read_place (behind before d) place q) (read_parts (further before d) after) (closed_parts first fill unasked d is before) (place-closed (behind before d) (behind_first before d first is) place q h) (closed_parts first fill unasked (further before d) (further_first before d first is) after)

  part_closed_at : (d : ℕ → Context) → ((i : ℕ) → (d i).first_new ≡ first) → (ps : Parts) (i : ℕ) → is_closed (at i (read_parts d ps)) ≡ true
  part_closed_at d is ps i = closed_part i (read_parts d ps) (closed_parts first fill unasked d is ps)

  one_closed : (c : Context) → c.first_new ≡ first → (p : Part) → is_closed (read_part c p) ≡ true
  one_closed c is p = part_closed_at (λ i. c) (λ i. is) (tree.more p tree.end) 0

  -- a part that is not that of the hole
  other_closed : (d : ℕ → Context) → ((i : ℕ) → (d i).first_new ≡ first) → (before : Parts) (place : PartHole) (after : Parts) (q : Code) (i : ℕ) → is_at i before ≡ false → is_closed (at i (read_with d before place after q)) ≡ true
  other_closed d is tree.end place after q zero h = absurd (cc)
  other_closed d is tree.end place after q (suc i) h = part_closed_at (λ j. d (suc j)) (λ j. is (suc j)) after i
  other_closed d is (tree.more p before) place after q zero h = one_closed (d 0) (is 0) p
  other_closed d is (tree.more p before) place after q (suc i) h = other_closed (λ j. d (suc j)) (λ j. is (suc j)) before place after q i h

  others_closed : (d : ℕ → Context) → ((i : ℕ) → (d i).first_new ≡ first) → (before : Parts) (place : PartHole) (after : Parts) (q : Code) (i : Option ℕ) → is_part i before ≡ false → is_closed_at i (read_with d before place after q) ≡ true
  others_closed d is before place after q None h = refl
  others_closed d is before place after q (Some i) h = other_closed d is before place after q i h

  word-read : (c : Context) (p : Part) → word_of (read_part c p) ≡ string_of p
  word-read c (tree.string s) = refl
  word-read c p = refl

  word-with : (d : ℕ → Context) (before : Parts) (place : PartHole) (after : Parts) (q : Code) → word_of (at 0 (read_with d before place after q)) ≡ string_of (parts.at 0 before)
  word-with d tree.end the_child after q = refl
  word-with d tree.end (an_item x y) after q = refl
  word-with d (tree.more p before) place after q = word-read (d 0) p

  -- the third part of a conditional is the hole, or another part
  third_closed : (c : Context) (p : Member) → is_closed p ≡ true → ends_open (ended_alone (spliced c (the_code p))) ≡ false
  third_closed c p h = ends_closed c Kind.ConditionalExpression (more p (more p (more p end))) (three (is_closed p) h)
    where
      three : (b : Bool) → b ≡ true → (b && (b && (b && true))) ≡ true
      three true h = refl
      three false h = h

  apart_ends : (c : Context) (kind : Kind) (d : ℕ → Context) → ((i : ℕ) → (d i).first_new ≡ first) → (before : Parts) (place : PartHole) (after : Parts) → is_part (asked_part kind (string_of (parts.at 0 before))) before ≡ false → EndsClosed c kind (read_with d before place after (initializers 0))
  apart_ends c Kind.ChainExpression d is before place after h = other_closed d is before place after (initializers 0) 0 h
  apart_ends c Kind.ConditionalExpression d is (tree.more p (tree.more q tree.end)) the_child after h = refl
  apart_ends c Kind.ConditionalExpression d is (tree.more p (tree.more q tree.end)) (an_item x y) after h = refl
  apart_ends c Kind.ConditionalExpression d is tree.end place after h = third_closed c (at 2 (read_with d tree.end place after (initializers 0))) (other_closed d is tree.end place after (initializers 0) 2 refl)
  apart_ends c Kind.ConditionalExpression d is (tree.more p tree.end) place after h = third_closed c (at 2 (read_with d (tree.more p tree.end) place after (initializers 0))) (other_closed d is (tree.more p tree.end) place after (initializers 0) 2 refl)
  apart_ends c Kind.ConditionalExpression d is (tree.more p (tree.more q (tree.more r before))) place after h = third_closed c (at 2 (read_with d (tree.more p (tree.more q (tree.more r before))) place after (initializers 0))) (other_closed d is (tree.more p (tree.more q (tree.more r before))) place after (initializers 0) 2 refl)
  apart_ends c kind d is before place after h = tt

  part_heads : (c : Context) → c.first_new ≡ first → (p : Part) → head_open (the_code (read_part c p)) ≡ false
  part_heads c is (tree.child t) = stays_heads first fill unasked (read c t) (whole_read first fill unasked c is t)
  part_heads c is p = refl

  place_heads : (c : Context) (place : PartHole) (q : Code) → head_open q ≡ false → head_open (the_code (read_place c place q)) ≡ false
  place_heads c the_child q h = h
  place_heads c (an_item before after) q h = refl

  with_heads : (kind : Kind) (d : ℕ → Context) → ((i : ℕ) → (d i).first_new ≡ first) → (before : Parts) (place : PartHole) (after : Parts) (q : Code) → (is_head kind before && head_open q) ≡ false → heads_closed kind (read_with d before place after q) ≡ true
  with_heads Kind.ForInStatement d is tree.end place after q h = ap not (place_heads (d 0) place q h)
  with_heads Kind.ForInStatement d is (tree.more p ps) place after q h = ap not (part_heads (d 0) (is 0) p)
  with_heads Kind.ForOfStatement d is tree.end place after q h = ap not (place_heads (d 0) place q h)
  with_heads Kind.ForOfStatement d is (tree.more p ps) place after q h = ap not (part_heads (d 0) (is 0) p)
  with_heads kind d is before place after q h = refl

module _ (first : ℕ) (e : Code) (unasked : is_unasked first e ≡ true) where
  abbrev fill : ℕ → Code
  fill n = e

  abbrev all : (n : ℕ) → is_unasked first e ≡ true
  all n = unasked

  parts_first : (c : Context) → c.first_new ≡ first → (kind : Kind) (m : ℕ) (before : Parts) (place : PartHole) (after : Parts) (hole : TreeHole) (t : Tree) (i : ℕ) → (inside_with c kind m before place after hole t i).first_new ≡ first
  parts_first c is kind m before place after hole t i = inside_first c kind m _ i ∙ is

  around_closed : (c : Context) → c.first_new ≡ first → (kind : Kind) (m : ℕ) (span : Option (ℕ × ℕ)) (semantic_id : Option ℕ) (before : Parts) (place : PartHole) (after : Parts) (hole : TreeHole) (t : Tree) → IsApart c (within kind m span semantic_id before place after hole) t → ends_open (code_around c (within kind m span semantic_id before place after hole) t) ≡ false
  around_closed c is kind m span semantic_id before place after top t x =
      let d : ℕ → Context = inside_with c kind m before place after top t in
      code_of-closed c kind m (read_with d before place after (initializers 0)) (apart_ends first fill all c kind d (parts_first c is kind m before place after top t) before place after x)
  around_closed c is kind m span semantic_id before place after (within kind2 m2 span2 semantic_id2 before2 place2 after2 hole) t x =
      let outer : TreeHole = within kind2 m2 span2 semantic_id2 before2 place2 after2 hole in
      let d : ℕ → Context = inside_with c kind m before place after outer t in
      let firsts : (i : ℕ) → (d i).first_new ≡ first = parts_first c is kind m before place after outer t in
      let q : Code = code_around (behind before d) outer t in
      code_of-closed c kind m (read_with d before place after q) (ends_closed c kind (read_with d before place after q) (with-closed first fill all d firsts before place after q (around_closed (behind before d) (behind_first before d first firsts) kind2 m2 span2 semantic_id2 before2 place2 after2 hole t x.1)))

  -- a node is read through
  node_through : (c : Context) → c.first_new ≡ first → (kind : Kind) (m : ℕ) (before : Parts) (place : PartHole) (after : Parts) (d : ℕ → Context) → ((i : ℕ) → (d i).first_new ≡ first) → (q : Code) → is_closed_at (asked_part kind (word_of (at 0 (read_with d before place after q)))) (read_with d before place after q) ≡ true → (is_head kind before && head_open q) ≡ false → code_of c kind m (read_with d before place after (filled fill q)) ≡ filled fill (code_of c kind m (read_with d before place after q))
  node_through c is kind m before place after d firsts q closed heads = ap (code_of c kind m) (sym (with-filled first fill all d firsts before place after q)) ∙ code_of-filled c fill (moved first fill all c is) kind m (read_with d before place after q) closed (with_heads first fill all kind d firsts before place after q heads)

  no_head : (b : Bool) → (b && false) ≡ false
  no_head true = refl
  no_head false = refl

  through : (c : Context) → c.first_new ≡ first → (hole : TreeHole) (t : Tree) → IsApart c hole t → ReadsThrough c hole t e
  through c is top t x = tt
  through c is (within kind m span semantic_id before place after top) t x =
      let d : ℕ → Context = inside_with c kind m before place after top t in
      let firsts : (i : ℕ) → (d i).first_new ≡ first = parts_first c is kind m before place after top t in
      let ms : Members = read_with d before place after (initializers 0) in
      let closed : is_closed_at (asked_part kind (word_of (at 0 ms))) ms ≡ true = ap (λ s. is_closed_at (asked_part kind s) ms) (word-with first fill all d before place after (initializers 0)) ∙ others_closed first fill all d firsts before place after (initializers 0) (asked_part kind (string_of (parts.at 0 before))) x in
      (node_through c is kind m before place after d firsts (initializers 0) closed (no_head (is_head kind before)), tt)
  through c is (within kind m span semantic_id before place after (within kind2 m2 span2 semantic_id2 before2 place2 after2 hole)) t x =
      let outer : TreeHole = within kind2 m2 span2 semantic_id2 before2 place2 after2 hole in
      let d : ℕ → Context = inside_with c kind m before place after outer t in
      let firsts : (i : ℕ) → (d i).first_new ≡ first = parts_first c is kind m before place after outer t in
      let q : Code = code_around (behind before d) outer t in
      let closed : ends_open q ≡ false = around_closed (behind before d) (behind_first before d first firsts) kind2 m2 span2 semantic_id2 before2 place2 after2 hole t x.1 in
      let ms : Members = read_with d before place after q in
      (node_through c is kind m before place after d firsts q (asked_closed (asked_part kind (word_of (at 0 ms))) ms (with-closed first fill all d firsts before place after q closed)) x.0, through (behind before d) (behind_first before d first firsts) (within kind2 m2 span2 semantic_id2 before2 place2 after2 hole) t x.1)

pub unasked_law : UnaskedLaw
unasked_law c hole t e unasked x = through c.first_new e unasked c refl hole t x
