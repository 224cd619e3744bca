-- Which node of the source a node of a lowered program stands for: that of its number, whose kind and words it has, or of a kind that a
-- lowering makes of that one. A node that is new is of a kind that a lowering makes. (Our own.)
use Rattle.std.specs.Prelude.{ℕ, List, [], ◌∷◌, Bool, true, false, cond, not, nat_eq, codes, bytes_eq, ◌&&◌, ◌||◌}
use Rattle.es_base.specs.Conforms.{is_rest}
use Rattle.es_base.specs.Numbered.{is_new}
use Rattle.es_base.specs.Preorder.{preorder, number_of}
use Rattle.es_base.specs.Tree.{Tree, Part, Parts, Node, end, more, child, absent, literal}
use Rattle.es_base.specs.declared.kind.Kind.{Kind}
use Rattle.es_base.specs.declared.literal.LiteralValue.TheVariants as literal_value
use Rattle.es_lowered.specs.Bound.{bound_stay}
use Rattle.es_lowered.specs.KeptWords.{keeps_words}
use Rattle.es_steps.specs.KeptNodes.{is_underscored}
use Rattle.es_steps.specs.Parts.{at, items, string_of, is_true}
use Rattle.es_steps.specs.Printable.{name_of_part, is_super_part}
use Rattle.es_steps.specs.References.{is_reference}
use Rattle.es_steps.specs.SameTrees.{same_kind}
use Rattle.es_steps.specs.Values.{String}

-- the kinds of new nodes
abbrev pub is_made : Kind → Bool
is_made Kind.ArrayExpression = true
is_made Kind.ArrowFunctionExpression = true
is_made Kind.AssignmentExpression = true
is_made Kind.BinaryExpression = true
is_made Kind.BindingIdentifier = true
is_made Kind.BlockStatement = true
is_made Kind.CallExpression = true
is_made Kind.ChainExpression = true
is_made Kind.ConditionalExpression = true
is_made Kind.ExportNamedDeclaration = true
is_made Kind.ExportSpecifier = true
is_made Kind.ExpressionStatement = true
is_made Kind.FunctionDeclaration = true
is_made Kind.FunctionExpression = true
is_made Kind.IdentifierName = true
is_made Kind.IdentifierReference = true
is_made Kind.Literal = true
is_made Kind.LogicalExpression = true
is_made Kind.MemberExpression = true
is_made Kind.MethodDefinition = true
is_made Kind.NewExpression = true
is_made Kind.ObjectExpression = true
is_made Kind.PrivateField = true
is_made Kind.PrivateIdentifier = true
is_made Kind.Property = true
is_made Kind.PropertyDefinition = true
is_made Kind.RestElement = true
is_made Kind.ReturnStatement = true
is_made Kind.SequenceExpression = true
is_made Kind.SpreadElement = true
is_made Kind.Super = true
is_made Kind.TemplateElement = true
is_made Kind.TemplateLiteral = true
is_made Kind.ThisExpression = true
is_made Kind.UnaryExpression = true
is_made Kind.UpdateExpression = true
is_made Kind.VariableDeclaration = true
is_made Kind.VariableDeclarator = true
is_made kind = false

-- `_x.has(..)`, `_brand === ..`, `_p._`, `_m`, `(o, B.writeOnlyError(..))`
abbrev pub is_private_form : Kind → Bool
is_private_form Kind.CallExpression = true
is_private_form Kind.MemberExpression = true
is_private_form Kind.SequenceExpression = true
is_private_form kind = false

abbrev pub is_test_form : Kind → Bool
is_test_form Kind.CallExpression = true
is_test_form Kind.BinaryExpression = true
is_test_form kind = false

abbrev pub is_write_form : Kind → Bool
is_write_form Kind.BinaryExpression = true
is_write_form Kind.CallExpression = true
is_write_form Kind.LogicalExpression = true
is_write_form Kind.SequenceExpression = true
is_write_form kind = false

-- what a lowering makes of a node of this kind, but an identifier
abbrev pub becomes : Kind → Kind → Bool
becomes Kind.PrivateField kind = is_private_form kind
becomes Kind.PrivateIn kind = is_test_form kind
becomes Kind.AssignmentExpression kind = is_write_form kind
becomes Kind.MemberExpression Kind.CallExpression = true
becomes Kind.ChainExpression Kind.ConditionalExpression = true
becomes Kind.UnaryExpression Kind.ConditionalExpression = true
becomes Kind.FunctionExpression Kind.FunctionDeclaration = true
becomes Kind.ClassDeclaration Kind.ClassExpression = true
becomes kind other = false

-- an identifier has its spelling, or one that begins with `_`; `this` and the function of a private method become one
abbrev pub named_by : Kind → Bool
named_by Kind.IdentifierReference = true
named_by Kind.ThisExpression = true
named_by Kind.PrivateField = true
named_by kind = false

abbrev pub has_its_name : Kind → String → String → Bool
has_its_name kind s t = named_by kind && ((is_reference kind && bytes_eq s t) || is_underscored t)

-- forms that no value tells from others: a call of the name `eval` (13.3.6.1); a call and a tag of a private member, which is handed
-- its object (13.3.6.2); `delete` of a private member, and of a name (13.5.1.1); a getter with parameters, and a setter without its
-- one (15.4); the head of a for-in or for-of that declares several names or gives one a value (14.7.5); a property
-- that gives a prototype, and one without a value of its own (13.2.5.1, B.3.1); an export that declares nothing
-- (16.2.3); a branch or a body that is a function (14.6.1, 14.7.1)
pub data OddForm : Type 0 where
  calls_eval : OddForm
  calls_private : OddForm
  deletes_private : OddForm
  deletes_name : OddForm
  takes_odd_parameters : OddForm
  declares_oddly : OddForm
  gives_value : OddForm
  has_odd_body : OddForm
  gives_prototype : OddForm
  is_shorthand : OddForm
  exports_oddly : OddForm
  no_odd_form : OddForm

abbrev pub is_loose_base : Part → Bool
is_loose_base (child (Node Kind.CallExpression m span semantic_id (more (child (Node Kind.MemberExpression k kspan k_semantic_id ps)) rest))) = bytes_eq (name_of_part (at 0 ps)) (codes "babelHelpers") && bytes_eq (name_of_part (at 1 ps)) (codes "classPrivateFieldLooseBase")
is_loose_base p = false

abbrev pub form_of_callee : Part → OddForm
form_of_callee (child (Node Kind.IdentifierReference m span semantic_id ps)) = cond (bytes_eq (codes "eval") (string_of (at 0 ps))) calls_eval no_odd_form
form_of_callee (child (Node Kind.PrivateField m span semantic_id ps)) = calls_private
form_of_callee p = no_odd_form

abbrev pub form_of_deleted : Part → OddForm
form_of_deleted (child (Node Kind.IdentifierReference m span semantic_id ps)) = deletes_name
form_of_deleted (child (Node Kind.PrivateField m span semantic_id ps)) = deletes_private
form_of_deleted (child (Node Kind.ChainExpression m span semantic_id (more (child (Node Kind.PrivateField k kspan k_semantic_id ks)) end))) = deletes_private
form_of_deleted (child (Node Kind.MemberExpression m span semantic_id ps)) = cond (is_loose_base (at 0 ps)) deletes_private no_odd_form
form_of_deleted p = no_odd_form

abbrev pub parameters_of : Part → Parts
parameters_of (child (Node Kind.FunctionExpression m span semantic_id ps)) = items (at 1 ps)
parameters_of p = end

abbrev pub is_one_parameter : Parts → Bool
is_one_parameter (more p end) = not (is_rest p)
is_one_parameter ps = false

abbrev pub form_of_getter : Parts → OddForm
form_of_getter end = no_odd_form
form_of_getter ps = takes_odd_parameters

abbrev pub form_of_accessor : String → Parts → OddForm
form_of_accessor kind ps = cond (bytes_eq kind (codes "get")) (form_of_getter ps) (cond (bytes_eq kind (codes "set") && not (is_one_parameter ps)) takes_odd_parameters no_odd_form)

-- a key that is computed gives no prototype
abbrev pub is_proto : Part → Bool
is_proto (child (Node Kind.IdentifierName m span semantic_id ps)) = bytes_eq (string_of (at 0 ps)) (codes "__proto__")
is_proto (child (Node Kind.Literal m span semantic_id (more (literal (literal_value.String s raw)) end))) = bytes_eq s (codes "__proto__")
is_proto p = false

abbrev pub form_of_property : Parts → OddForm
form_of_property ps =
    cond (is_true (at 4 ps)) is_shorthand
    (cond (is_proto (at 0 ps) && not (is_true (at 5 ps))) gives_prototype
    (form_of_accessor (string_of (at 2 ps)) (parameters_of (at 1 ps))))

-- sloppy code may give a `var` a value in the head of a for-in (B.3.5)
abbrev pub form_of_names : Bool → Parts → OddForm
form_of_names is_var (more (child (Node Kind.VariableDeclarator m span semantic_id (more id (more absent end)))) end) = no_odd_form
form_of_names true (more (child (Node Kind.VariableDeclarator m span semantic_id (more (child (Node Kind.BindingIdentifier k kspan k_semantic_id ks)) rest))) end) = gives_value
form_of_names is_var ps = declares_oddly

abbrev pub form_of_head : Part → OddForm
form_of_head (child (Node Kind.VariableDeclaration m span semantic_id ps)) = form_of_names (bytes_eq (string_of (at 0 ps)) (codes "var")) (items (at 1 ps))
form_of_head p = no_odd_form

-- a function with a label, or one that is the body of a loop, is none of a block (14.6.1, 14.7.1)
abbrev pub is_function_statement : Tree → Bool
is_function_statement (Node Kind.FunctionDeclaration m span semantic_id ps) = true
is_function_statement t = false

abbrev mutual
  pub is_labelled_function : Tree → Bool
  is_labelled_function (Node Kind.LabeledStatement m span semantic_id ps) = ends_in_function ps
  is_labelled_function t = false

  pub ends_in_function : Parts → Bool
  ends_in_function (more label (more (child t) end)) = is_function_statement t || is_labelled_function t
  ends_in_function ps = false

abbrev pub is_odd_branch : Part → Bool
is_odd_branch (child t) = is_labelled_function t
is_odd_branch p = false

abbrev pub is_odd_body : Part → Bool
is_odd_body (child t) = is_function_statement t || is_labelled_function t
is_odd_body p = false

abbrev pub odd_if : Bool → OddForm
odd_if b = cond b has_odd_body no_odd_form

-- the body of a loop is not looked at where the head has a form of its own
abbrev pub head_or : OddForm → OddForm → OddForm
head_or no_odd_form body = body
head_or head body = head

abbrev pub form_of_export : Part → OddForm
form_of_export (child (Node Kind.FunctionDeclaration m span semantic_id ps)) = no_odd_form
form_of_export (child (Node Kind.ClassDeclaration m span semantic_id ps)) = no_odd_form
form_of_export (child (Node Kind.VariableDeclaration m span semantic_id ps)) = no_odd_form
form_of_export (child t) = exports_oddly
form_of_export p = no_odd_form

abbrev pub odd_form : Kind → Parts → OddForm
odd_form Kind.CallExpression ps = form_of_callee (at 0 ps)
odd_form Kind.TaggedTemplateExpression ps = form_of_callee (at 0 ps)
odd_form Kind.UnaryExpression ps = cond (bytes_eq (string_of (at 0 ps)) (codes "delete")) (form_of_deleted (at 1 ps)) no_odd_form
odd_form Kind.Property ps = form_of_property ps
odd_form Kind.MethodDefinition ps = form_of_accessor (string_of (at 2 ps)) (parameters_of (at 1 ps))
odd_form Kind.ForInStatement ps = head_or (form_of_head (at 0 ps)) (odd_if (is_odd_body (at 2 ps)))
odd_form Kind.ForOfStatement ps = head_or (form_of_head (at 0 ps)) (odd_if (is_odd_body (at 2 ps)))
odd_form Kind.ForStatement ps = odd_if (is_odd_body (at 3 ps))
odd_form Kind.WhileStatement ps = odd_if (is_odd_body (at 1 ps))
odd_form Kind.DoWhileStatement ps = odd_if (is_odd_body (at 0 ps))
odd_form Kind.IfStatement ps = odd_if (is_odd_branch (at 1 ps) || is_odd_branch (at 2 ps))
odd_form Kind.ExportNamedDeclaration ps = form_of_export (at 0 ps)
odd_form kind ps = no_odd_form

-- the second is none, or the first
abbrev pub keeps_form : OddForm → OddForm → Bool
keeps_form form no_odd_form = true
keeps_form calls_eval calls_eval = true
keeps_form calls_private calls_private = true
keeps_form deletes_private deletes_private = true
keeps_form deletes_name deletes_name = true
keeps_form takes_odd_parameters takes_odd_parameters = true
keeps_form declares_oddly declares_oddly = true
keeps_form gives_value gives_value = true
keeps_form has_odd_body has_odd_body = true
keeps_form gives_prototype gives_prototype = true
keeps_form is_shorthand is_shorthand = true
keeps_form exports_oddly exports_oddly = true
keeps_form form other = false

-- `?.`, of which a generated form has no event but `f?.call(o)`
abbrev pub is_call_of : Parts → Bool
is_call_of ps = bytes_eq (name_of_part (at 1 ps)) (codes "call") && not (is_true (at 2 ps))

abbrev pub may_question : Kind → Parts → Bool
may_question Kind.MemberExpression ps = not (is_true (at 3 ps)) || is_call_of ps
may_question Kind.PrivateField ps = not (is_true (at 3 ps))
may_question Kind.CallExpression ps = not (is_true (at 2 ps))
may_question kind ps = true

abbrev pub has_question : Kind → Parts → Bool
has_question Kind.MemberExpression ps = is_true (at 3 ps)
has_question Kind.PrivateField ps = is_true (at 3 ps)
has_question Kind.CallExpression ps = is_true (at 2 ps)
has_question kind ps = false

-- what writes anything but a private member or one of `super` is of its kind, and writes what it wrote: a write has no event of its
-- number behind that of the operation, and could stand in other code, as in that of a class
abbrev pub is_super_member : Part → Bool
is_super_member (child (Node Kind.MemberExpression m span semantic_id ps)) = is_super_part (at 0 ps)
is_super_member p = false

abbrev pub is_lowered_target : Part → Bool
is_lowered_target (child (Node Kind.PrivateField m span semantic_id ps)) = true
is_lowered_target p = is_super_member p

-- a lowering writes a member of `super` by a helper alone
abbrev pub assigns_super : Kind → Parts → Bool
assigns_super Kind.AssignmentExpression ps = is_super_member (at 1 ps)
assigns_super kind ps = false

abbrev pub same_node : Part → Part → Bool
same_node (child t) (child u) = nat_eq (number_of t) (number_of u)
same_node (child t) q = false
same_node p q = true

abbrev pub keeps_target : Kind → Parts → Kind → Parts → Bool
keeps_target Kind.AssignmentExpression ps other qs = is_lowered_target (at 1 ps) || (same_kind Kind.AssignmentExpression other && same_node (at 1 ps) (at 1 qs))
keeps_target Kind.UpdateExpression ps other qs = is_lowered_target (at 1 ps) || same_node (at 1 ps) (at 1 qs)
keeps_target kind ps other qs = true

abbrev pub carries : Kind → Parts → Kind → Parts → Bool
carries kind ps other qs = cond (is_reference other) (has_its_name kind (string_of (at 0 ps)) (string_of (at 0 qs))) (((same_kind kind other && keeps_words kind ps qs) || becomes kind other) && (keeps_target kind ps other qs && (keeps_form (odd_form kind ps) (odd_form other qs) && (has_question kind ps || may_question other qs))))

abbrev pub stands_for_node : Kind → ℕ → Parts → List Tree → Bool
stands_for_node kind n qs [] = false
stands_for_node kind n qs (Node other m span semantic_id ps ∷ ts) = (nat_eq n m && carries other ps kind qs) || stands_for_node kind n qs ts

-- ps are the nodes of the source
abbrev pub is_carried : ℕ → List Tree → Tree → Bool
is_carried first ps (Node kind n span semantic_id qs) = cond (is_new first n) ((is_made kind && not (assigns_super kind qs)) && (keeps_form no_odd_form (odd_form kind qs) && may_question kind qs)) (stands_for_node kind n qs ps)

abbrev pub all_carried : ℕ → List Tree → List Tree → Bool
all_carried first ps [] = true
all_carried first ps (t ∷ ts) = is_carried first ps t && all_carried first ps ts

abbrev pub numbers_carried : ℕ → Tree → Tree → Bool
numbers_carried first p q = all_carried first (preorder p) (preorder q) && bound_stay first p q
