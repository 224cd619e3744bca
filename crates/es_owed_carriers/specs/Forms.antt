-- Forms in code, as definitions see them.
use Rattle.std.specs.Prelude.{Bool, true, false, bytes_eq, codes, ◌&&◌}
use Rattle.es_base.specs.Tree.{Tree, Parts, Node}
use Rattle.es_base.specs.declared.kind.Kind.{Kind}
use Rattle.es_lowered.specs.Carriers as spec
use Rattle.es_steps.specs.Parts.{at}
use Rattle.es_steps.specs.Printable.{name_of_part}
use Rattle.es_owed_carriers.specs.declared.forms.OddForm.{OddForm}

abbrev pub form_in : OddForm → spec.OddForm
form_in OddForm.CallsEval = spec.calls_eval
form_in OddForm.CallsPrivate = spec.calls_private
form_in OddForm.DeletesPrivate = spec.deletes_private
form_in OddForm.DeletesName = spec.deletes_name
form_in OddForm.TakesOddParameters = spec.takes_odd_parameters
form_in OddForm.DeclaresOddly = spec.declares_oddly
form_in OddForm.GivesValue = spec.gives_value
form_in OddForm.HasOddBody = spec.has_odd_body
form_in OddForm.GivesPrototype = spec.gives_prototype
form_in OddForm.IsShorthand = spec.is_shorthand
form_in OddForm.ExportsOddly = spec.exports_oddly
form_in OddForm.None = spec.no_odd_form

-- of `delete` of a chain
abbrev pub form_of_chain : Tree → spec.OddForm
form_of_chain (Node Kind.PrivateField m span semantic_id ps) = spec.deletes_private
form_of_chain t = spec.no_odd_form

abbrev pub is_loose_member : Tree → Bool
is_loose_member (Node Kind.MemberExpression m span semantic_id ps) = bytes_eq (name_of_part (at 0 ps)) (codes "babelHelpers") && bytes_eq (name_of_part (at 1 ps)) (codes "classPrivateFieldLooseBase")
is_loose_member t = false

-- of a head of a for-in or for-of that gives this name or pattern a value, by `var` or not
abbrev pub form_of_value : Bool → Tree → spec.OddForm
form_of_value true (Node Kind.BindingIdentifier m span semantic_id ps) = spec.gives_value
form_of_value is_var t = spec.declares_oddly

-- of an export of a node of this kind
abbrev pub form_of_declared : Kind → spec.OddForm
form_of_declared Kind.FunctionDeclaration = spec.no_odd_form
form_of_declared Kind.ClassDeclaration = spec.no_odd_form
form_of_declared Kind.VariableDeclaration = spec.no_odd_form
form_of_declared kind = spec.exports_oddly

-- of a statement
abbrev pub form_of_statement : Kind → Parts → spec.OddForm
form_of_statement Kind.ForInStatement ps = spec.odd_form Kind.ForInStatement ps
form_of_statement Kind.ForOfStatement ps = spec.odd_form Kind.ForOfStatement ps
form_of_statement Kind.ForStatement ps = spec.odd_form Kind.ForStatement ps
form_of_statement Kind.WhileStatement ps = spec.odd_form Kind.WhileStatement ps
form_of_statement Kind.DoWhileStatement ps = spec.odd_form Kind.DoWhileStatement ps
form_of_statement Kind.IfStatement ps = spec.odd_form Kind.IfStatement ps
form_of_statement Kind.ExportNamedDeclaration ps = spec.odd_form Kind.ExportNamedDeclaration ps
form_of_statement kind ps = spec.no_odd_form
