-- The names of functions in blocks, by the kind of a node.
use Rattle.std.proofs.Common.{◌≡◌, refl, ap, List, [], ◌∷◌, ◌++◌, Bool, true, false, ◌||◌}
use Rattle.es_base.specs.Conforms.{is_among}
use Rattle.es_base.specs.Tree.{Tree, Parts, Node, end, more, child, absent, list, string, no_string, boolean, literal}
use Rattle.es_base.specs.declared.kind.Kind.{Kind}
use Rattle.es_node.specs.View.{kind_of}
use Rattle.es_steps.specs.Parts.{at, items}
use Rattle.es_steps.specs.References.{bound_spelling, function_name, function_names, case_functions, inner_functions, gives_inside}
use Rattle.es_steps.specs.Values.{String}
use Rattle.es_outside.specs.InnerFunctions.{give_name}

pub in_block : (ps : Parts) → inner_functions false Kind.BlockStatement ps ≡ function_names (items (at 0 ps))
in_block ps = refl

pub in_body : (ps : Parts) → inner_functions true Kind.BlockStatement ps ≡ []
in_body ps = refl

pub in_switch : (is_body : Bool) (ps : Parts) → inner_functions is_body Kind.SwitchStatement ps ≡ case_functions (items (at 1 ps))
in_switch true ps = refl
in_switch false ps = refl

pub in_if : (is_body : Bool) (ps : Parts) → inner_functions is_body Kind.IfStatement ps ≡ function_name (at 1 ps) ++ function_name (at 2 ps)
in_if true ps = refl
in_if false ps = refl

pub in_none : (is_body : Bool) (kind : Kind) (ps : Parts) → (kind ≡ Kind.BlockStatement → ⊥) → (kind ≡ Kind.SwitchStatement → ⊥) → (kind ≡ Kind.IfStatement → ⊥) → inner_functions is_body kind ps ≡ []
in_none true Kind.BlockStatement ps block switch if = refl
in_none false Kind.BlockStatement ps block switch if = absurd (block refl)
in_none is_body Kind.SwitchStatement ps block switch if = absurd (switch refl)
in_none is_body Kind.IfStatement ps block switch if = absurd (if refl)
in_none true kind ps block switch if = refl
in_none false kind ps block switch if = refl

pub no_spelling : (t : Tree) → (kind_of t ≡ Kind.BindingIdentifier → ⊥) → bound_spelling (child t) ≡ []
no_spelling (Node Kind.BindingIdentifier b span semantic_id ps) other = absurd (other refl)
no_spelling (Node kind b span semantic_id ps) other = refl

pub no_function : (t : Tree) → (kind_of t ≡ Kind.FunctionDeclaration → ⊥) → (kind_of t ≡ Kind.LabeledStatement → ⊥) → (kind_of t ≡ Kind.IfStatement → ⊥) → function_name (child t) ≡ []
no_function (Node Kind.FunctionDeclaration m span semantic_id ps) function label if = absurd (function refl)
no_function (Node Kind.LabeledStatement m span semantic_id ps) function label if = absurd (label refl)
no_function (Node Kind.IfStatement m span semantic_id ps) function label if = absurd (if refl)
no_function (Node kind m span semantic_id ps) function label if = refl

pub gives_alike : (s : String) (ts : List Tree) → give_name s ts ≡ gives_inside s ts
gives_alike s [] = refl
gives_alike s (Node kind m span semantic_id ps ∷ ts) = ap (λ b. is_among s (inner_functions false kind ps) || b) (gives_alike s ts)
