-- The members of functions in code, and what the names of functions do.
use Rattle.std.specs.Prelude.{ℕ, List, Option}
use Rattle.es_base.specs.declared.ledger.GeneratedKind.{GeneratedKind}
use Rattle.es_steps.specs.Code.{Code, FunctionForm, give_function, no_rule}
use Rattle.es_steps.specs.Context.{Context, NameKind, Generated, new_here}
use Rattle.es_steps.specs.Expressions.{the_code}
use Rattle.es_steps.specs.Members.{Member, Members, end, more, codes_of}
use Rattle.es_steps.specs.Scopes.{Declaration}
use Rattle.es_steps.specs.Statements.{function_or_new, hoisted_function}
use Rattle.es_steps.specs.Values.{String}
use Rattle.es_code_members.specs.MembersView.{member_of}
use Rattle.es_code_classes.specs.declared.function.FunctionMembers.{FunctionMembers}

abbrev pub function_members : FunctionMembers → Members
function_members f = more (member_of f.name) (more (member_of f.parameters) (more (member_of f.body) (more (member_of f.is_async) (more (member_of f.is_generator) end))))

-- a function of this form with these parameters and this body
abbrev pub written_function : Context → ℕ → Option ℕ → FunctionForm → Member → Member → Code
written_function c f own_name form parameters body = function_or_new (new_here c f) f form own_name (codes_of parameters) (the_code body)

-- the declaration of a generated name, which is that of the function of a private method
abbrev pub generated_function : ℕ → String → GeneratedKind → Code → Code
generated_function f s (GeneratedKind.Method d) e = give_function f s (GeneratedKind.Method d) e
generated_function f s g e = no_rule

-- the declaration of a name of this kind
abbrev pub named_function : Option (List Declaration) → ℕ → String → NameKind → Code → Code
named_function around f s (Generated g) e = generated_function f s g e
named_function around f s kind e = hoisted_function around f s e
