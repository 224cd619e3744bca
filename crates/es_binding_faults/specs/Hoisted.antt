-- The names that statements declare, without the classes that these may name, and how code tells statements apart.
use Rattle.std.specs.Prelude.{List, [], Bool, true, false, cond, Option, Some, None}
use Rattle.es_base.specs.Tree.{Tree, Part, Parts, Node, end, more, child, absent, list}
use Rattle.es_base.specs.declared.kind.Kind.{Kind}
use Rattle.es_steps.specs.Parts.{at, items}
use Rattle.es_steps.specs.Scopes as spec
use Rattle.es_steps.specs.Scopes.{Declaration, no_class, declaration, bound_part, lexical_names, lexical_items, var_names, var_items, is_var}
use Rattle.es_binding_faults.specs.Named.{plain}
use Rattle.es_binding_faults.specs.declared.hoisted.Hoist.{Hoist}
use Rattle.es_binding_faults.specs.declared.hoisted.StatementForm.{StatementForm}

abbrev pub form_of : StatementForm → spec.StatementForm
form_of StatementForm.Variables = spec.variables
form_of StatementForm.Function = spec.function_declaration
form_of StatementForm.Class = spec.class_declaration
form_of StatementForm.Imports = spec.imports
form_of StatementForm.PassesOn = spec.passes_on
form_of StatementForm.Nests = spec.nests
form_of StatementForm.Other = spec.other_statement

-- ---- declarators

abbrev pub first_of_two : Parts → Part
first_of_two (more p (more q end)) = p
first_of_two ps = absent

abbrev pub identifier_in : Part → Option Tree
identifier_in (child (Node Kind.BindingIdentifier b span semantic_id ps)) = Some (Node Kind.BindingIdentifier b span semantic_id ps)
identifier_in p = None

abbrev pub declarator : Tree → List Declaration
declarator t = plain (spec.declarator_names 0 false (child t))

abbrev pub declarators : Parts → List Declaration
declarators ps = plain (spec.declarators_names 0 false ps)

-- ---- statements

abbrev pub hoisted : Hoist → Tree → List Declaration
hoisted Hoist.Lexical t = plain (lexical_names t)
hoisted Hoist.Var t = plain (var_names t)

abbrev pub hoisted_items : Hoist → Parts → List Declaration
hoisted_items Hoist.Lexical ps = plain (lexical_items ps)
hoisted_items Hoist.Var ps = plain (var_items ps)

abbrev pub hoisted_part : Hoist → Part → List Declaration
hoisted_part h (child t) = hoisted h t
hoisted_part h (list ps) = hoisted_items h ps
hoisted_part h p = []

-- of a variable declaration
abbrev pub variables : Hoist → Parts → List Declaration
variables Hoist.Lexical ps = cond (is_var ps) [] (declarators (items (at 1 ps)))
variables Hoist.Var ps = cond (is_var ps) (bound_part no_class (at 1 ps)) []

-- what it declares by itself
abbrev pub own : Hoist → StatementForm → Parts → List Declaration
own h StatementForm.Variables ps = variables h ps
own Hoist.Lexical StatementForm.Function ps = bound_part no_class (at 0 ps)
own Hoist.Lexical StatementForm.Class ps = bound_part no_class (at 0 ps)
own Hoist.Lexical StatementForm.Imports ps = bound_part no_class (at 0 ps)
own h form ps = []

-- whether it declares what its parts declare
abbrev pub descends : Hoist → StatementForm → Bool
descends h StatementForm.PassesOn = true
descends Hoist.Var StatementForm.Nests = true
descends h form = false
