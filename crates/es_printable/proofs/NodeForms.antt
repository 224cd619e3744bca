-- What a definition by the form of a node says of any node.
use Rattle.std.proofs.Common.{◌≡◌, refl, sym, ap, ◌∙◌, ℕ, suc, arith, List, [], ◌∷◌, length, Bool, true, false, cond, ◌&&◌, ◌||◌}
use Rattle.std.specs.Prelude.{nat_eq, nat_le, not}
use Rattle.es_base.specs.Conforms.{is_among}
use Rattle.es_base.specs.Tree.{Tree, Part, Parts, Node, end, more, child, absent, list, string, trees}
use Rattle.es_base.specs.declared.kind.Kind.{Kind}
use Rattle.es_node.specs.View.{kind_of, parts_in, parts_of}
use Rattle.es_node.specs.declared.node.Part as code
use Rattle.es_steps.specs.Context.{name_in}
use Rattle.es_steps.specs.KeptNodes.{statement_list}
use Rattle.es_steps.specs.Parts.{at, is_true, items, string_of}
use Rattle.es_steps.specs.Printable.{any_bare, any_optional, any_uncooked, are_behind_default, are_names, are_specifiers, count, ends_open, has_bad_prologue, has_late_directive, has_string_name, has_uncooked, is_bad_directive, is_bad_field, is_bad_form, is_bad_label, is_bad_label_name, is_bad_literal, is_bad_method, is_bad_name, is_bad_property, is_bad_template, is_bare_declaration, is_declaration_without_name, is_default, is_directive, is_directive_of, is_function_expression, is_identifier_name, is_kind_of, is_lexical_body, is_literal_part, is_name, is_raw, is_uncooked, lacks_cooked, lacks_initializer, name_of_part, only_named, reserved_words, shorthand_name, tails_fit}
use Rattle.es_steps.specs.Scopes.{is_binding_identifier, is_declaring}
use Rattle.es_steps.specs.Strict.{directives, makes_strict}
use Rattle.es_steps.specs.Values.{String}
use Rattle.es_printable.specs.Members.{has_body, is_bare_declarator, is_bare_part, is_chain_form, is_declaration_form, is_element_form, is_named, is_named_or_namespace, is_optional_part, is_string, is_uncooked_part}

-- ---- names

pub reference_name : (kind : Kind) (ps : Parts) → kind ≡ Kind.IdentifierReference → is_bad_name kind ps ≡ (not (is_name (string_of (at 0 ps))) || is_among (string_of (at 0 ps)) reserved_words)
reference_name Kind.IdentifierReference ps is = refl
reference_name kind ps is = absurd (cc)

pub binding_name : (kind : Kind) (ps : Parts) → kind ≡ Kind.BindingIdentifier → is_bad_name kind ps ≡ (not (is_name (string_of (at 0 ps))) || is_among (string_of (at 0 ps)) reserved_words)
binding_name Kind.BindingIdentifier ps is = refl
binding_name kind ps is = absurd (cc)

pub property_name : (kind : Kind) (ps : Parts) → kind ≡ Kind.IdentifierName → is_bad_name kind ps ≡ not (is_name (string_of (at 0 ps)))
property_name Kind.IdentifierName ps is = refl
property_name kind ps is = absurd (cc)

pub private_name : (kind : Kind) (ps : Parts) → kind ≡ Kind.PrivateIdentifier → is_bad_name kind ps ≡ not (is_name (string_of (at 0 ps)))
private_name Kind.PrivateIdentifier ps is = refl
private_name kind ps is = absurd (cc)

pub no_name : (kind : Kind) (ps : Parts) → (kind ≡ Kind.IdentifierReference → ⊥) → (kind ≡ Kind.BindingIdentifier → ⊥) → (kind ≡ Kind.IdentifierName → ⊥) → (kind ≡ Kind.PrivateIdentifier → ⊥) → is_bad_name kind ps ≡ false
no_name Kind.IdentifierReference ps a b c d = absurd (a refl)
no_name Kind.BindingIdentifier ps a b c d = absurd (b refl)
no_name Kind.IdentifierName ps a b c d = absurd (c refl)
no_name Kind.PrivateIdentifier ps a b c d = absurd (d refl)
no_name kind ps a b c d = refl

name_among : (p : Part) → is_bad_label_name p ≡ is_among (name_in p) reserved_words
name_among (child (Node kind m span semantic_id ps)) = refl
name_among p = refl

pub labelled_name : (kind : Kind) (ps : Parts) → kind ≡ Kind.LabeledStatement → is_bad_label kind ps ≡ is_among (name_in (at 0 ps)) reserved_words
labelled_name Kind.LabeledStatement ps is = name_among (at 0 ps)
labelled_name kind ps is = absurd (cc)

pub broken_name : (kind : Kind) (ps : Parts) → kind ≡ Kind.BreakStatement → is_bad_label kind ps ≡ is_among (name_in (at 0 ps)) reserved_words
broken_name Kind.BreakStatement ps is = name_among (at 0 ps)
broken_name kind ps is = absurd (cc)

pub continued_name : (kind : Kind) (ps : Parts) → kind ≡ Kind.ContinueStatement → is_bad_label kind ps ≡ is_among (name_in (at 0 ps)) reserved_words
continued_name Kind.ContinueStatement ps is = name_among (at 0 ps)
continued_name kind ps is = absurd (cc)

pub no_label : (kind : Kind) (ps : Parts) → (kind ≡ Kind.LabeledStatement → ⊥) → (kind ≡ Kind.BreakStatement → ⊥) → (kind ≡ Kind.ContinueStatement → ⊥) → is_bad_label kind ps ≡ false
no_label Kind.LabeledStatement ps a b c = absurd (a refl)
no_label Kind.BreakStatement ps a b c = absurd (b refl)
no_label Kind.ContinueStatement ps a b c = absurd (c refl)
no_label kind ps a b c = refl

-- ---- literals and templates

pub no_literal : (kind : Kind) (ps : Parts) → (kind ≡ Kind.Literal → ⊥) → is_bad_literal kind ps ≡ false
no_literal Kind.Literal ps a = absurd (a refl)
no_literal kind ps a = refl

pub template_string : (kind : Kind) (ps : Parts) → kind ≡ Kind.TemplateElement → is_bad_template kind ps ≡ not (is_raw false false (string_of (at 0 ps)))
template_string Kind.TemplateElement ps is = refl
template_string kind ps is = absurd (cc)

pub no_template : (kind : Kind) (ps : Parts) → (kind ≡ Kind.TemplateElement → ⊥) → (kind ≡ Kind.TemplateLiteral → ⊥) → is_bad_template kind ps ≡ false
no_template Kind.TemplateElement ps a b = absurd (a refl)
no_template Kind.TemplateLiteral ps a b = absurd (b refl)
no_template kind ps a b = refl

apart : (m n : ℕ) → (m ≡ n → ⊥) → nat_eq m n ≡ false
apart m n other = grind (arith, other)

suc_apart : (n : ℕ) → nat_eq (suc n) 0 ≡ false
suc_apart n = apart (suc n) 0 (λ e. absurd (omega (arith, e)))

and_true : (a : Bool) → a ≡ (a && true)
and_true true = refl
and_true false = refl

pub tails_more : (t : Tree) (ts : List Tree) → tails_fit (trees (t ∷ ts)) ≡ (cond (nat_eq (length ts) 0) (is_true (at 2 (parts_in t))) (not (is_true (at 2 (parts_in t)))) && tails_fit (trees ts))
tails_more (Node kind m span semantic_id ps) [] = and_true (is_true (at 2 ps))
tails_more (Node kind m span semantic_id ps) (u ∷ us) = ap (λ b. cond b (is_true (at 2 ps)) (not (is_true (at 2 ps))) && tails_fit (trees (u ∷ us))) (sym (suc_apart (length us)))

pub no_tag : (kind : Kind) (ps : Parts) → (kind ≡ Kind.TaggedTemplateExpression → ⊥) → has_uncooked kind ps ≡ any_uncooked ps
no_tag Kind.TaggedTemplateExpression ps a = absurd (a refl)
no_tag kind ps a = refl

pub no_uncooked : (t : Tree) → (kind_of t ≡ Kind.TemplateLiteral → ⊥) → is_uncooked (child t) ≡ false
no_uncooked (Node Kind.TemplateLiteral m span semantic_id ps) a = absurd (a refl)
no_uncooked (Node kind m span semantic_id ps) a = refl

pub lacks_more : (t : Tree) (ts : List Tree) → lacks_cooked (trees (t ∷ ts)) ≡ (lacks_cooked (more (child t) end) || lacks_cooked (trees ts))
lacks_more (Node kind m span semantic_id end) ts = refl
lacks_more (Node kind m span semantic_id (more raw end)) ts = refl
lacks_more (Node kind m span semantic_id (more raw (more (string s) ps))) ts = refl
lacks_more (Node kind m span semantic_id (more raw (more p ps))) ts = refl

pub raw_alone : (t : Tree) → lacks_cooked (more (child t) end) ≡ not (is_string (at 1 (parts_in t)))
raw_alone (Node kind m span semantic_id end) = refl
raw_alone (Node kind m span semantic_id (more raw end)) = refl
raw_alone (Node kind m span semantic_id (more raw (more (string s) ps))) = refl
raw_alone (Node kind m span semantic_id (more raw (more p ps))) = refl

-- ---- directives

pub no_directive_statement : (kind : Kind) (ps : Parts) → (kind ≡ Kind.ExpressionStatement → ⊥) → is_bad_directive kind ps ≡ false
no_directive_statement Kind.ExpressionStatement ps a = absurd (a refl)
no_directive_statement kind ps a = refl

pub no_literal_string : (s : String) (t : Tree) → (kind_of t ≡ Kind.Literal → ⊥) → is_directive_of s (child t) ≡ false
no_literal_string s (Node Kind.Literal m span semantic_id ps) a = absurd (a refl)
no_literal_string s (Node kind m span semantic_id ps) a = refl

pub no_function : (kind : Kind) (ps : Parts) → (kind ≡ Kind.FunctionDeclaration → ⊥) → (kind ≡ Kind.FunctionExpression → ⊥) → (kind ≡ Kind.ArrowFunctionExpression → ⊥) → has_bad_prologue kind ps ≡ has_late_directive false (statement_list kind ps)
no_function Kind.FunctionDeclaration ps a b c = absurd (a refl)
no_function Kind.FunctionExpression ps a b c = absurd (b refl)
no_function Kind.ArrowFunctionExpression ps a b c = absurd (c refl)
no_function kind ps a b c = refl

pub declaration_prologue : (t : Tree) → kind_of t ≡ Kind.FunctionDeclaration → has_bad_prologue (kind_of t) (parts_in t) ≡ (not (are_names (items (at 1 (parts_in t)))) && makes_strict (kind_of t) (parts_in t))
declaration_prologue (Node Kind.FunctionDeclaration m span semantic_id ps) is = refl
declaration_prologue (Node kind m span semantic_id ps) is = absurd (cc)

pub expression_prologue : (t : Tree) → kind_of t ≡ Kind.FunctionExpression → has_bad_prologue (kind_of t) (parts_in t) ≡ (not (are_names (items (at 1 (parts_in t)))) && makes_strict (kind_of t) (parts_in t))
expression_prologue (Node Kind.FunctionExpression m span semantic_id ps) is = refl
expression_prologue (Node kind m span semantic_id ps) is = absurd (cc)

pub arrow_prologue : (t : Tree) → kind_of t ≡ Kind.ArrowFunctionExpression → has_bad_prologue (kind_of t) (parts_in t) ≡ (not (are_names (items (at 0 (parts_in t)))) && makes_strict (kind_of t) (parts_in t))
arrow_prologue (Node Kind.ArrowFunctionExpression m span semantic_id ps) is = refl
arrow_prologue (Node kind m span semantic_id ps) is = absurd (cc)

pub declaring_kind : (t : Tree) → is_declaring (child t) ≡ is_binding_identifier (kind_of t)
declaring_kind (Node kind m span semantic_id ps) = refl

pub no_directive : (t : Tree) → (kind_of t ≡ Kind.ExpressionStatement → ⊥) → is_directive (child t) ≡ false
no_directive (Node Kind.ExpressionStatement m span semantic_id ps) a = absurd (a refl)
no_directive (Node kind m span semantic_id ps) a = refl

pub no_statements : (t : Tree) → (kind_of t ≡ Kind.BlockStatement → ⊥) → directives (child t) ≡ end
no_statements (Node Kind.BlockStatement m span semantic_id ps) a = absurd (a refl)
no_statements (Node kind m span semantic_id ps) a = refl

-- ---- properties and elements

pub name_kind : (t : Tree) → is_kind_of is_identifier_name (child t) ≡ is_identifier_name (kind_of t)
name_kind (Node kind m span semantic_id ps) = refl

pub function_kind : (t : Tree) → is_kind_of is_function_expression (child t) ≡ is_function_expression (kind_of t)
function_kind (Node kind m span semantic_id ps) = refl

pub default_kind : (t : Tree) → is_kind_of is_default (child t) ≡ is_default (kind_of t)
default_kind (Node kind m span semantic_id ps) = refl

pub no_default_name : (t : Tree) → (kind_of t ≡ Kind.AssignmentPattern → ⊥) → (kind_of t ≡ Kind.AssignmentTargetWithDefault → ⊥) → shorthand_name (child t) ≡ name_of_part (child t)
no_default_name (Node Kind.AssignmentPattern m span semantic_id ps) a b = absurd (a refl)
no_default_name (Node Kind.AssignmentTargetWithDefault m span semantic_id ps) a b = absurd (b refl)
no_default_name (Node kind m span semantic_id ps) a b = refl

pub property_element : (kind : Kind) (ps : Parts) → kind ≡ Kind.Property → (is_element_form kind && is_bad_form kind ps) ≡ is_bad_property ps
property_element Kind.Property ps is = refl
property_element kind ps is = absurd (cc)

pub binding_element : (kind : Kind) (ps : Parts) → kind ≡ Kind.BindingProperty → (is_element_form kind && is_bad_form kind ps) ≡ is_bad_property ps
binding_element Kind.BindingProperty ps is = refl
binding_element kind ps is = absurd (cc)

pub target_element : (kind : Kind) (ps : Parts) → kind ≡ Kind.AssignmentTargetProperty → (is_element_form kind && is_bad_form kind ps) ≡ is_bad_property ps
target_element Kind.AssignmentTargetProperty ps is = refl
target_element kind ps is = absurd (cc)

pub method_element : (kind : Kind) (ps : Parts) → kind ≡ Kind.MethodDefinition → (is_element_form kind && is_bad_form kind ps) ≡ is_bad_method ps
method_element Kind.MethodDefinition ps is = refl
method_element kind ps is = absurd (cc)

pub field_element : (kind : Kind) (ps : Parts) → kind ≡ Kind.PropertyDefinition → (is_element_form kind && is_bad_form kind ps) ≡ is_bad_field ps
field_element Kind.PropertyDefinition ps is = refl
field_element kind ps is = absurd (cc)

pub declarator_element : (kind : Kind) (ps : Parts) → kind ≡ Kind.VariableDeclarator → (is_element_form kind && is_bad_form kind ps) ≡ is_kind_of is_default (at 0 ps)
declarator_element Kind.VariableDeclarator ps is = refl
declarator_element kind ps is = absurd (cc)

pub pattern_element : (kind : Kind) (ps : Parts) → kind ≡ Kind.AssignmentPattern → (is_element_form kind && is_bad_form kind ps) ≡ is_kind_of is_default (at 0 ps)
pattern_element Kind.AssignmentPattern ps is = refl
pattern_element kind ps is = absurd (cc)

pub default_element : (kind : Kind) (ps : Parts) → kind ≡ Kind.AssignmentTargetWithDefault → (is_element_form kind && is_bad_form kind ps) ≡ is_kind_of is_default (at 0 ps)
default_element Kind.AssignmentTargetWithDefault ps is = refl
default_element kind ps is = absurd (cc)

pub rest_element : (kind : Kind) (ps : Parts) → kind ≡ Kind.RestElement → (is_element_form kind && is_bad_form kind ps) ≡ is_kind_of is_default (at 0 ps)
rest_element Kind.RestElement ps is = refl
rest_element kind ps is = absurd (cc)

pub target_rest_element : (kind : Kind) (ps : Parts) → kind ≡ Kind.AssignmentTargetRest → (is_element_form kind && is_bad_form kind ps) ≡ is_kind_of is_default (at 0 ps)
target_rest_element Kind.AssignmentTargetRest ps is = refl
target_rest_element kind ps is = absurd (cc)

pub caught_element : (kind : Kind) (ps : Parts) → kind ≡ Kind.CatchClause → (is_element_form kind && is_bad_form kind ps) ≡ is_kind_of is_default (at 0 ps)
caught_element Kind.CatchClause ps is = refl
caught_element kind ps is = absurd (cc)

pub no_element_form : (kind : Kind) (ps : Parts) → (kind ≡ Kind.Property → ⊥) → (kind ≡ Kind.BindingProperty → ⊥) → (kind ≡ Kind.AssignmentTargetProperty → ⊥) → (kind ≡ Kind.MethodDefinition → ⊥) → (kind ≡ Kind.PropertyDefinition → ⊥) → (kind ≡ Kind.VariableDeclarator → ⊥) → (kind ≡ Kind.AssignmentPattern → ⊥) → (kind ≡ Kind.AssignmentTargetWithDefault → ⊥) → (kind ≡ Kind.RestElement → ⊥) → (kind ≡ Kind.AssignmentTargetRest → ⊥) → (kind ≡ Kind.CatchClause → ⊥) → (is_element_form kind && is_bad_form kind ps) ≡ false
no_element_form Kind.Property ps a b c d e f g h i j k = absurd (a refl)
no_element_form Kind.BindingProperty ps a b c d e f g h i j k = absurd (b refl)
no_element_form Kind.AssignmentTargetProperty ps a b c d e f g h i j k = absurd (c refl)
no_element_form Kind.MethodDefinition ps a b c d e f g h i j k = absurd (d refl)
no_element_form Kind.PropertyDefinition ps a b c d e f g h i j k = absurd (e refl)
no_element_form Kind.VariableDeclarator ps a b c d e f g h i j k = absurd (f refl)
no_element_form Kind.AssignmentPattern ps a b c d e f g h i j k = absurd (g refl)
no_element_form Kind.AssignmentTargetWithDefault ps a b c d e f g h i j k = absurd (h refl)
no_element_form Kind.RestElement ps a b c d e f g h i j k = absurd (i refl)
no_element_form Kind.AssignmentTargetRest ps a b c d e f g h i j k = absurd (j refl)
no_element_form Kind.CatchClause ps a b c d e f g h i j k = absurd (k refl)
no_element_form kind ps a b c d e f g h i j k = refl

-- ---- expressions

pub foreign_form : (kind : Kind) (ps : Parts) → kind ≡ Kind.Foreign → (is_chain_form kind && is_bad_form kind ps) ≡ true
foreign_form Kind.Foreign ps is = refl
foreign_form kind ps is = absurd (cc)

pub no_chain_form : (kind : Kind) (ps : Parts) → (kind ≡ Kind.Foreign → ⊥) → (kind ≡ Kind.SequenceExpression → ⊥) → (kind ≡ Kind.MetaProperty → ⊥) → (kind ≡ Kind.MemberExpression → ⊥) → (kind ≡ Kind.PrivateField → ⊥) → (kind ≡ Kind.CallExpression → ⊥) → (kind ≡ Kind.ChainExpression → ⊥) → (is_chain_form kind && is_bad_form kind ps) ≡ false
no_chain_form Kind.Foreign ps a b c d e f g = absurd (a refl)
no_chain_form Kind.SequenceExpression ps a b c d e f g = absurd (b refl)
no_chain_form Kind.MetaProperty ps a b c d e f g = absurd (c refl)
no_chain_form Kind.MemberExpression ps a b c d e f g = absurd (d refl)
no_chain_form Kind.PrivateField ps a b c d e f g = absurd (e refl)
no_chain_form Kind.CallExpression ps a b c d e f g = absurd (f refl)
no_chain_form Kind.ChainExpression ps a b c d e f g = absurd (g refl)
no_chain_form kind ps a b c d e f g = refl

pub count_of : (ts : List Tree) → count (trees ts) ≡ length ts
count_of [] = refl
count_of (t ∷ ts) = ap (λ n. suc n) (count_of ts)

pub optional_more : (p : Part) (ps : Parts) → any_optional (more p ps) ≡ (is_optional_part p || any_optional ps)
optional_more (list qs) ps = refl
optional_more p ps = refl

pub uncooked_more : (p : Part) (ps : Parts) → any_uncooked (more p ps) ≡ (is_uncooked_part p || any_uncooked ps)
uncooked_more (list qs) ps = refl
uncooked_more p ps = refl

-- ---- statements

pub no_body : (kind : Kind) (ps : Parts) → (kind ≡ Kind.IfStatement → ⊥) → (kind ≡ Kind.LabeledStatement → ⊥) → (kind ≡ Kind.WhileStatement → ⊥) → (kind ≡ Kind.WithStatement → ⊥) → (kind ≡ Kind.DoWhileStatement → ⊥) → (kind ≡ Kind.ForStatement → ⊥) → (kind ≡ Kind.ForInStatement → ⊥) → (kind ≡ Kind.ForOfStatement → ⊥) → (has_body kind && is_bad_form kind ps) ≡ false
no_body Kind.IfStatement ps a b c d e f g h = absurd (a refl)
no_body Kind.LabeledStatement ps a b c d e f g h = absurd (b refl)
no_body Kind.WhileStatement ps a b c d e f g h = absurd (c refl)
no_body Kind.WithStatement ps a b c d e f g h = absurd (d refl)
no_body Kind.DoWhileStatement ps a b c d e f g h = absurd (e refl)
no_body Kind.ForStatement ps a b c d e f g h = absurd (f refl)
no_body Kind.ForInStatement ps a b c d e f g h = absurd (g refl)
no_body Kind.ForOfStatement ps a b c d e f g h = absurd (h refl)
no_body kind ps a b c d e f g h = refl

pub class_body : (t : Tree) → kind_of t ≡ Kind.ClassDeclaration → is_lexical_body (child t) ≡ true
class_body (Node Kind.ClassDeclaration m span semantic_id ps) is = refl
class_body (Node kind m span semantic_id ps) is = absurd (cc)

pub no_lexical_body : (t : Tree) → (kind_of t ≡ Kind.ClassDeclaration → ⊥) → (kind_of t ≡ Kind.VariableDeclaration → ⊥) → is_lexical_body (child t) ≡ false
no_lexical_body (Node Kind.ClassDeclaration m span semantic_id ps) a b = absurd (a refl)
no_lexical_body (Node Kind.VariableDeclaration m span semantic_id ps) a b = absurd (b refl)
no_lexical_body (Node kind m span semantic_id ps) a b = refl

pub no_open_end : (t : Tree) → (kind_of t ≡ Kind.IfStatement → ⊥) → (kind_of t ≡ Kind.LabeledStatement → ⊥) → (kind_of t ≡ Kind.WhileStatement → ⊥) → (kind_of t ≡ Kind.WithStatement → ⊥) → (kind_of t ≡ Kind.ForStatement → ⊥) → (kind_of t ≡ Kind.ForInStatement → ⊥) → (kind_of t ≡ Kind.ForOfStatement → ⊥) → ends_open t ≡ false
no_open_end (Node Kind.IfStatement m span semantic_id ps) a b c d e f g = absurd (a refl)
no_open_end (Node Kind.LabeledStatement m span semantic_id ps) a b c d e f g = absurd (b refl)
no_open_end (Node Kind.WhileStatement m span semantic_id ps) a b c d e f g = absurd (c refl)
no_open_end (Node Kind.WithStatement m span semantic_id ps) a b c d e f g = absurd (d refl)
no_open_end (Node Kind.ForStatement m span semantic_id ps) a b c d e f g = absurd (e refl)
no_open_end (Node Kind.ForInStatement m span semantic_id ps) a b c d e f g = absurd (f refl)
no_open_end (Node Kind.ForOfStatement m span semantic_id ps) a b c d e f g = absurd (g refl)
no_open_end (Node kind m span semantic_id ps) a b c d e f g = refl

-- ---- declarations

pub no_declaration_form : (kind : Kind) (ps : Parts) → (kind ≡ Kind.VariableDeclaration → ⊥) → (kind ≡ Kind.ExportNamedDeclaration → ⊥) → (kind ≡ Kind.ImportDeclaration → ⊥) → (is_declaration_form kind && is_bad_form kind ps) ≡ false
no_declaration_form Kind.VariableDeclaration ps a b c = absurd (a refl)
no_declaration_form Kind.ExportNamedDeclaration ps a b c = absurd (b refl)
no_declaration_form Kind.ImportDeclaration ps a b c = absurd (c refl)
no_declaration_form kind ps a b c = refl

pub no_named_declaration : (kind : Kind) (ps : Parts) → (kind ≡ Kind.FunctionDeclaration → ⊥) → (kind ≡ Kind.ClassDeclaration → ⊥) → is_declaration_without_name kind ps ≡ false
no_named_declaration Kind.FunctionDeclaration ps a b = absurd (a refl)
no_named_declaration Kind.ClassDeclaration ps a b = absurd (b refl)
no_named_declaration kind ps a b = refl

pub none_listed : (ts : List Tree) → nat_le 1 (count (trees ts)) ≡ nat_le 1 (length ts)
none_listed ts = ap (λ n. nat_le 1 n) (count_of ts)

pub none_declared : (ts : List Tree) → nat_eq (count (trees ts)) 0 ≡ nat_eq (length ts) 0
none_declared ts = ap (λ n. nat_eq n 0) (count_of ts)

default_one : (t : Tree) (qs : Parts) → kind_of t ≡ Kind.ImportDefaultSpecifier → are_specifiers (more (child t) qs) ≡ are_behind_default qs
default_one (Node Kind.ImportDefaultSpecifier m span semantic_id ps) qs is = refl
default_one (Node kind m span semantic_id ps) qs is = absurd (cc)

no_default_one : (t : Tree) (qs : Parts) → (kind_of t ≡ Kind.ImportDefaultSpecifier → ⊥) → are_specifiers (more (child t) qs) ≡ are_behind_default (more (child t) qs)
no_default_one (Node Kind.ImportDefaultSpecifier m span semantic_id ps) qs other = absurd (other refl)
no_default_one (Node kind m span semantic_id ps) qs other = refl

pub default_first : (ps qs : Parts) (t : Tree) → ps ≡ more (child t) qs → kind_of t ≡ Kind.ImportDefaultSpecifier → are_specifiers ps ≡ are_behind_default qs
default_first ps qs t are is = ap are_specifiers are ∙ default_one t qs is

pub no_default_first : (ps qs : Parts) (t : Tree) → ps ≡ more (child t) qs → (kind_of t ≡ Kind.ImportDefaultSpecifier → ⊥) → are_specifiers ps ≡ are_behind_default ps
no_default_first ps qs t are other = ap are_specifiers are ∙ no_default_one t qs other ∙ ap are_behind_default (sym are)

pub not_one : (ts : List Tree) → (length ts ≡ 1 → ⊥) → are_behind_default (trees ts) ≡ only_named (trees ts)
not_one [] other = refl
not_one (t ∷ []) other = absurd (other refl)
not_one (Node Kind.ImportNamespaceSpecifier m span semantic_id ps ∷ u ∷ us) other = refl
not_one (Node kind m span semantic_id ps ∷ u ∷ us) other = refl

pub one_specifier : (t : Tree) → are_behind_default (more (child t) end) ≡ is_named_or_namespace (kind_of t)
one_specifier (Node Kind.ImportNamespaceSpecifier m span semantic_id ps) = refl
one_specifier (Node Kind.ImportSpecifier m span semantic_id ps) = refl
one_specifier (Node kind m span semantic_id ps) = refl

pub named_more : (t : Tree) (ts : List Tree) → only_named (trees (t ∷ ts)) ≡ (is_named (kind_of t) && only_named (trees ts))
named_more (Node Kind.ImportSpecifier m span semantic_id ps) ts = refl
named_more (Node kind m span semantic_id ps) ts = refl

pub string_name_more : (t : Tree) (ts : List Tree) → has_string_name (trees (t ∷ ts)) ≡ (is_literal_part (at 0 (parts_in t)) || has_string_name (trees ts))
string_name_more (Node kind m span semantic_id end) ts = refl
string_name_more (Node kind m span semantic_id (more local rest)) ts = refl

pub literal_node : (t : Tree) → kind_of t ≡ Kind.Literal → is_literal_part (child t) ≡ true
literal_node (Node Kind.Literal m span semantic_id ps) is = refl
literal_node (Node kind m span semantic_id ps) is = absurd (cc)

pub no_literal_node : (t : Tree) → (kind_of t ≡ Kind.Literal → ⊥) → is_literal_part (child t) ≡ false
no_literal_node (Node Kind.Literal m span semantic_id ps) a = absurd (a refl)
no_literal_node (Node kind m span semantic_id ps) a = refl

-- ---- declarations without an initializer

pub bare_more : (p : Part) (ps : Parts) → any_bare (more p ps) ≡ (is_bare_part p || any_bare ps)
bare_more (list qs) ps = refl
bare_more p ps = refl

pub no_bare_declaration : (t : Tree) → (kind_of t ≡ Kind.VariableDeclaration → ⊥) → is_bare_declaration (child t) ≡ false
no_bare_declaration (Node Kind.VariableDeclaration m span semantic_id ps) a = absurd (a refl)
no_bare_declaration (Node kind m span semantic_id ps) a = refl

pub initializer_more : (is_const : Bool) (t : Tree) (ts : List Tree) → lacks_initializer is_const (trees (t ∷ ts)) ≡ (is_bare_declarator is_const (parts_in t) || lacks_initializer is_const (trees ts))
initializer_more is_const (Node kind m span semantic_id end) ts = refl
initializer_more is_const (Node kind m span semantic_id (more id end)) ts = refl
initializer_more is_const (Node kind m span semantic_id (more id (more absent end))) ts = refl
initializer_more is_const (Node kind m span semantic_id (more id (more absent (more p ps)))) ts = refl
initializer_more is_const (Node kind m span semantic_id (more id (more init end))) ts = refl
initializer_more is_const (Node kind m span semantic_id (more id (more init (more p ps)))) ts = refl

pub not_two_members : (is_const : Bool) (ps : List code.Part) → (length ps ≡ 2 → ⊥) → is_bare_declarator is_const (parts_of ps) ≡ false
not_two_members is_const [] other = refl
not_two_members is_const (p ∷ []) other = refl
not_two_members is_const (p ∷ q ∷ []) other = absurd (other refl)
not_two_members is_const (p ∷ q ∷ r ∷ rs) other = refl
