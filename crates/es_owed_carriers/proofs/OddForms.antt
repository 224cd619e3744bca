-- What the kind of a node says of its form.
use Rattle.std.proofs.Common.{◌≡◌, refl, ℕ, ◌≤◌, List, [], ◌∷◌, length, Bool, Option, true, false, cond, arith}
use Rattle.std.specs.Prelude.{bytes_eq, codes}
use Rattle.es_base.specs.Tree.{Tree, Parts, Node, end, more, absent, child, trees}
use Rattle.es_base.specs.declared.kind.Kind.{Kind}
use Rattle.es_binding_faults.specs.WholeProgram.{is_function_declaration}
use Rattle.es_lowered.specs.Carriers.{OddForm, calls_eval, calls_private, declares_oddly, deletes_name, deletes_private, form_of_callee, form_of_deleted, form_of_export, form_of_getter, form_of_head, form_of_names, gives_value, head_or, is_function_statement, is_labelled_function, is_loose_base, is_one_parameter, is_proto, no_odd_form, odd_form, parameters_of, takes_odd_parameters}
use Rattle.es_node.specs.View.{kind_of}
use Rattle.es_steps.specs.Printable.{name_of_part}
use Rattle.es_owed_carriers.specs.Forms.{form_in, form_of_chain, form_of_declared, form_of_statement, form_of_value, is_loose_member}
use Rattle.es_owed_carriers.specs.declared.forms.OddForm as code

pub no_form : (kind : Kind) (ps : Parts) → (kind ≡ Kind.ForInStatement → ⊥) → (kind ≡ Kind.ForOfStatement → ⊥) → (kind ≡ Kind.ForStatement → ⊥) → (kind ≡ Kind.WhileStatement → ⊥) → (kind ≡ Kind.DoWhileStatement → ⊥) → (kind ≡ Kind.IfStatement → ⊥) → (kind ≡ Kind.ExportNamedDeclaration → ⊥) → form_of_statement kind ps ≡ no_odd_form
no_form Kind.ForInStatement ps a b c d e f g = absurd (a refl)
no_form Kind.ForOfStatement ps a b c d e f g = absurd (b refl)
no_form Kind.ForStatement ps a b c d e f g = absurd (c refl)
no_form Kind.WhileStatement ps a b c d e f g = absurd (d refl)
no_form Kind.DoWhileStatement ps a b c d e f g = absurd (e refl)
no_form Kind.IfStatement ps a b c d e f g = absurd (f refl)
no_form Kind.ExportNamedDeclaration ps a b c d e f g = absurd (g refl)
no_form kind ps a b c d e f g = refl

pub statement_form : (kind : Kind) (ps : Parts) → (kind ≡ Kind.CallExpression → ⊥) → (kind ≡ Kind.TaggedTemplateExpression → ⊥) → (kind ≡ Kind.UnaryExpression → ⊥) → (kind ≡ Kind.Property → ⊥) → (kind ≡ Kind.MethodDefinition → ⊥) → odd_form kind ps ≡ form_of_statement kind ps
statement_form Kind.CallExpression ps a b c d e = absurd (a refl)
statement_form Kind.TaggedTemplateExpression ps a b c d e = absurd (b refl)
statement_form Kind.UnaryExpression ps a b c d e = absurd (c refl)
statement_form Kind.Property ps a b c d e = absurd (d refl)
statement_form Kind.MethodDefinition ps a b c d e = absurd (e refl)
statement_form Kind.ForInStatement ps a b c d e = refl
statement_form Kind.ForOfStatement ps a b c d e = refl
statement_form Kind.ForStatement ps a b c d e = refl
statement_form Kind.WhileStatement ps a b c d e = refl
statement_form Kind.DoWhileStatement ps a b c d e = refl
statement_form Kind.IfStatement ps a b c d e = refl
statement_form Kind.ExportNamedDeclaration ps a b c d e = refl
statement_form kind ps a b c d e = refl

-- ---- calls

pub callee_name : (t : Tree) → kind_of t ≡ Kind.IdentifierReference → form_of_callee (child t) ≡ cond (bytes_eq (codes "eval") (name_of_part (child t))) calls_eval no_odd_form
callee_name (Node Kind.IdentifierReference m span semantic_id ps) is = refl
callee_name (Node kind m span semantic_id ps) is = absurd (cc)

pub callee_private : (t : Tree) → kind_of t ≡ Kind.PrivateField → form_of_callee (child t) ≡ calls_private
callee_private (Node Kind.PrivateField m span semantic_id ps) is = refl
callee_private (Node kind m span semantic_id ps) is = absurd (cc)

pub callee_other : (t : Tree) → (kind_of t ≡ Kind.IdentifierReference → ⊥) → (kind_of t ≡ Kind.PrivateField → ⊥) → form_of_callee (child t) ≡ no_odd_form
callee_other (Node Kind.IdentifierReference m span semantic_id ps) a b = absurd (a refl)
callee_other (Node Kind.PrivateField m span semantic_id ps) a b = absurd (b refl)
callee_other (Node kind m span semantic_id ps) a b = refl

-- ---- `delete`

pub deleted_name : (t : Tree) → kind_of t ≡ Kind.IdentifierReference → form_of_deleted (child t) ≡ deletes_name
deleted_name (Node Kind.IdentifierReference m span semantic_id ps) is = refl
deleted_name (Node kind m span semantic_id ps) is = absurd (cc)

pub deleted_private : (t : Tree) → kind_of t ≡ Kind.PrivateField → form_of_deleted (child t) ≡ deletes_private
deleted_private (Node Kind.PrivateField m span semantic_id ps) is = refl
deleted_private (Node kind m span semantic_id ps) is = absurd (cc)

pub deleted_chain : (m : ℕ) (span : Option (ℕ × ℕ)) (semantic_id : Option ℕ) (e : Tree) → form_of_deleted (child (Node Kind.ChainExpression m span semantic_id (more (child e) end))) ≡ form_of_chain e
deleted_chain m span semantic_id (Node Kind.PrivateField k kspan k_semantic_id ps) = refl
deleted_chain m span semantic_id (Node kind k kspan k_semantic_id ps) = refl

pub deleted_other : (t : Tree) → (kind_of t ≡ Kind.IdentifierReference → ⊥) → (kind_of t ≡ Kind.PrivateField → ⊥) → (kind_of t ≡ Kind.ChainExpression → ⊥) → (kind_of t ≡ Kind.MemberExpression → ⊥) → form_of_deleted (child t) ≡ no_odd_form
deleted_other (Node Kind.IdentifierReference m span semantic_id ps) a b c d = absurd (a refl)
deleted_other (Node Kind.PrivateField m span semantic_id ps) a b c d = absurd (b refl)
deleted_other (Node Kind.ChainExpression m span semantic_id ps) a b c d = absurd (c refl)
deleted_other (Node Kind.MemberExpression m span semantic_id ps) a b c d = absurd (d refl)
deleted_other (Node kind m span semantic_id ps) a b c d = refl

pub no_private : (t : Tree) → (kind_of t ≡ Kind.PrivateField → ⊥) → form_of_chain t ≡ no_odd_form
no_private (Node Kind.PrivateField m span semantic_id ps) other = absurd (other refl)
no_private (Node kind m span semantic_id ps) other = refl

pub base_call : (m : ℕ) (span : Option (ℕ × ℕ)) (semantic_id : Option ℕ) (f : Tree) (rest : Parts) → is_loose_base (child (Node Kind.CallExpression m span semantic_id (more (child f) rest))) ≡ is_loose_member f
base_call m span semantic_id (Node Kind.MemberExpression k kspan k_semantic_id ps) rest = refl
base_call m span semantic_id (Node kind k kspan k_semantic_id ps) rest = refl

pub no_base : (t : Tree) → (kind_of t ≡ Kind.CallExpression → ⊥) → is_loose_base (child t) ≡ false
no_base (Node Kind.CallExpression m span semantic_id ps) other = absurd (other refl)
no_base (Node kind m span semantic_id ps) other = refl

pub no_member : (t : Tree) → (kind_of t ≡ Kind.MemberExpression → ⊥) → is_loose_member t ≡ false
no_member (Node Kind.MemberExpression m span semantic_id ps) other = absurd (other refl)
no_member (Node kind m span semantic_id ps) other = refl

-- ---- getters and setters

pub no_function : (t : Tree) → (kind_of t ≡ Kind.FunctionExpression → ⊥) → parameters_of (child t) ≡ end
no_function (Node Kind.FunctionExpression m span semantic_id ps) other = absurd (other refl)
no_function (Node kind m span semantic_id ps) other = refl

pub some_parameters : (ts : List Tree) → 1 ≤ length ts → form_of_getter (trees ts) ≡ takes_odd_parameters
some_parameters [] h = absurd (omega arith)
some_parameters (t ∷ ts) h = refl

pub more_parameters : (ts : List Tree) → 2 ≤ length ts → is_one_parameter (trees ts) ≡ false
more_parameters [] h = absurd (omega arith)
more_parameters (t ∷ []) h = absurd (omega arith)
more_parameters (t ∷ (u ∷ ts)) h = refl

-- ---- prototypes

pub proto_name : (t : Tree) → kind_of t ≡ Kind.IdentifierName → is_proto (child t) ≡ bytes_eq (name_of_part (child t)) (codes "__proto__")
proto_name (Node Kind.IdentifierName m span semantic_id ps) is = refl
proto_name (Node kind m span semantic_id ps) is = absurd (cc)

pub no_proto : (t : Tree) → (kind_of t ≡ Kind.IdentifierName → ⊥) → (kind_of t ≡ Kind.Literal → ⊥) → is_proto (child t) ≡ false
no_proto (Node Kind.IdentifierName m span semantic_id ps) a b = absurd (a refl)
no_proto (Node Kind.Literal m span semantic_id ps) a b = absurd (b refl)
no_proto (Node kind m span semantic_id ps) a b = refl

-- ---- heads of loops

pub odd_head : (form : code.OddForm) (body : OddForm) → (form ≡ code.OddForm.None → ⊥) → head_or (form_in form) body ≡ form_in form
odd_head code.OddForm.None body other = absurd (other refl)
odd_head code.OddForm.CallsEval body other = refl
odd_head code.OddForm.CallsPrivate body other = refl
odd_head code.OddForm.DeletesPrivate body other = refl
odd_head code.OddForm.DeletesName body other = refl
odd_head code.OddForm.TakesOddParameters body other = refl
odd_head code.OddForm.DeclaresOddly body other = refl
odd_head code.OddForm.GivesValue body other = refl
odd_head code.OddForm.HasOddBody body other = refl
odd_head code.OddForm.GivesPrototype body other = refl
odd_head code.OddForm.IsShorthand body other = refl
odd_head code.OddForm.ExportsOddly body other = refl

pub no_head : (t : Tree) → (kind_of t ≡ Kind.VariableDeclaration → ⊥) → form_of_head (child t) ≡ no_odd_form
no_head (Node Kind.VariableDeclaration m span semantic_id ps) other = absurd (other refl)
no_head (Node kind m span semantic_id ps) other = refl

pub more_names : (is_var : Bool) (ts : List Tree) → 2 ≤ length ts → form_of_names is_var (trees ts) ≡ declares_oddly
more_names is_var [] h = absurd (omega arith)
more_names is_var (t ∷ []) h = absurd (omega arith)
more_names true (Node Kind.VariableDeclarator m span semantic_id (more id (more absent end)) ∷ (u ∷ ts)) h = refl
more_names true (Node Kind.VariableDeclarator m span semantic_id (more (child (Node Kind.BindingIdentifier k kspan k_semantic_id ks)) rest) ∷ (u ∷ ts)) h = refl
more_names false (Node Kind.VariableDeclarator m span semantic_id (more id (more absent end)) ∷ (u ∷ ts)) h = refl
more_names is_var (t ∷ (u ∷ ts)) h = refl

pub declared_value : (is_var : Bool) (m : ℕ) (span : Option (ℕ × ℕ)) (semantic_id : Option ℕ) (id init : Tree) → form_of_names is_var (more (child (Node Kind.VariableDeclarator m span semantic_id (more (child id) (more (child init) end)))) end) ≡ form_of_value is_var id
declared_value true m span semantic_id (Node Kind.BindingIdentifier k kspan k_semantic_id ks) init = refl
declared_value true m span semantic_id (Node kind k kspan k_semantic_id ks) init = refl
declared_value false m span semantic_id id init = refl

pub no_declarator : (is_var : Bool) (t : Tree) → (kind_of t ≡ Kind.VariableDeclarator → ⊥) → form_of_names is_var (more (child t) end) ≡ declares_oddly
no_declarator is_var (Node Kind.VariableDeclarator m span semantic_id ps) other = absurd (other refl)
no_declarator true (Node kind m span semantic_id ps) other = refl
no_declarator false (Node kind m span semantic_id ps) other = refl

pub var_value : (t : Tree) → kind_of t ≡ Kind.BindingIdentifier → form_of_value true t ≡ gives_value
var_value (Node Kind.BindingIdentifier m span semantic_id ps) is = refl
var_value (Node kind m span semantic_id ps) is = absurd (cc)

pub pattern_value : (is_var : Bool) (t : Tree) → (kind_of t ≡ Kind.BindingIdentifier → ⊥) → form_of_value is_var t ≡ declares_oddly
pattern_value is_var (Node Kind.BindingIdentifier m span semantic_id ps) other = absurd (other refl)
pattern_value true (Node kind m span semantic_id ps) other = refl
pattern_value false (Node kind m span semantic_id ps) other = refl

-- ---- bodies and branches

pub no_label : (t : Tree) → (kind_of t ≡ Kind.LabeledStatement → ⊥) → is_labelled_function t ≡ false
no_label (Node Kind.LabeledStatement m span semantic_id ps) other = absurd (other refl)
no_label (Node kind m span semantic_id ps) other = refl

pub function_by_kind : (t : Tree) → is_function_statement t ≡ is_function_declaration (kind_of t)
function_by_kind (Node Kind.FunctionDeclaration m span semantic_id ps) = refl
function_by_kind (Node kind m span semantic_id ps) = refl

-- ---- exports

pub export_by_kind : (t : Tree) → form_of_export (child t) ≡ form_of_declared (kind_of t)
export_by_kind (Node Kind.FunctionDeclaration m span semantic_id ps) = refl
export_by_kind (Node Kind.ClassDeclaration m span semantic_id ps) = refl
export_by_kind (Node Kind.VariableDeclaration m span semantic_id ps) = refl
export_by_kind (Node kind m span semantic_id ps) = refl
