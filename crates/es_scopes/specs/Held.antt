-- What scopes get of what is declared in a tree, where each identifier that declares weighs something as what it is
-- declared, by its number and its spelling: by the entries of the tree, and by the definitions of `es_steps`. Equal weights, whatever they are, mean the same
-- identifiers, each as often.
use Rattle.std.specs.Prelude.{◌≡◌, ℕ, ◌+◌, List, [], ◌∷◌, cond, nat_eq, Option, Some, None}
use Rattle.es_base.specs.Tree.{Tree, Part, Parts, Node}
use Rattle.es_base.specs.declared.ids.ScopeId.{ScopeId}
use Rattle.es_base.specs.declared.kind.Kind.{Kind}
use Rattle.es_scopes.specs.Agreement.{own_name}
use Rattle.es_scopes.specs.declared.entry.Entry.{Entry}
use Rattle.es_scopes.specs.declared.entry.Entry.TheVariants as entry
use Rattle.es_scopes.specs.declared.surroundings.Declarer.{Declarer}
use Rattle.es_scopes.specs.declared.surroundings.Declarer.TheVariants as declarer
use Rattle.es_scopes.specs.declared.surroundings.Declares.{Declares}
use Rattle.es_scopes.specs.declared.surroundings.Declares.TheVariants as declares
use Rattle.es_steps.specs.Parts.{at, block_items}
use Rattle.es_steps.specs.Scopes.{Declaration, no_class, bound_part, lexical_part, var_part, body_names, scope_form, scope_names}

-- of declarations
abbrev pub weight : (ℕ → List ℕ → ℕ) → List Declaration → ℕ
weight w [] = 0
weight w (d ∷ ds) = w d.number d.spelling + weight w ds

-- scope n gets it, if it is this scope
abbrev pub scope_gets : ℕ → Option ScopeId → ℕ → ℕ
scope_gets n None x = 0
scope_gets n (Some s) x = cond (nat_eq s.0 n) x 0

-- what scope n gets of entries
abbrev pub held_weight : (Declarer → ℕ → List ℕ → ℕ) → ℕ → List Entry → ℕ
held_weight w n [] = 0
held_weight w n (entry.Binding node holder who name flags head ∷ es) = scope_gets n holder (w who node.0 name) + held_weight w n es
held_weight w n (e ∷ es) = held_weight w n es

-- the parameters among the names of a node, and all that are neither parameters nor the own name of a function expression
abbrev pub parameter_names : Kind → Parts → List Declaration
parameter_names Kind.FunctionDeclaration ps = bound_part no_class (at 1 ps)
parameter_names Kind.FunctionExpression ps = bound_part no_class (at 1 ps)
parameter_names Kind.ArrowFunctionExpression ps = bound_part no_class (at 0 ps)
parameter_names kind ps = []

abbrev pub other_names : Kind → ℕ → Parts → List Declaration
other_names Kind.FunctionDeclaration m ps = body_names (block_items (at 2 ps))
other_names Kind.FunctionExpression m ps = body_names (block_items (at 2 ps))
other_names Kind.ArrowFunctionExpression m ps = body_names (block_items (at 1 ps))
other_names kind m ps = scope_names (scope_form kind) m ps

-- of the names of a node
abbrev pub node_weight : (Declarer → ℕ → List ℕ → ℕ) → Tree → ℕ
node_weight w (Node kind m span id ps) = (weight (w declarer.Parameter) (parameter_names kind ps) + weight (w declarer.Other) (other_names kind m ps)) + weight (w declarer.OwnName) (own_name kind ps)

-- what scope n gets of a part where this is declared: the lexical names and the `var` of a statement, the names of the body of
-- a function, those of a pattern
abbrev pub given_weight : (Declarer → ℕ → List ℕ → ℕ) → ℕ → Declares → Part → ℕ
given_weight w n declares.Nothing p = 0
given_weight w n (declares.Statement lexical var) p = scope_gets n lexical (weight (w declarer.Other) (lexical_part p)) + scope_gets n var (weight (w declarer.Other) (var_part p))
given_weight w n (declares.Body s) p = scope_gets n (Some s) (weight (w declarer.Other) (body_names (block_items p)))
given_weight w n (declares.Pattern holder who) p = scope_gets n holder (weight (w who) (bound_part no_class p))

-- nothing is declared for scope n there
abbrev pub IsElsewhere : ℕ → Declares → Type 0
IsElsewhere n declares.Nothing = Unit
IsElsewhere n (declares.Statement lexical var) = ((x : ℕ) → scope_gets n lexical x ≡ 0) × ((x : ℕ) → scope_gets n var x ≡ 0)
IsElsewhere n (declares.Body s) = (x : ℕ) → scope_gets n (Some s) x ≡ 0
IsElsewhere n (declares.Pattern holder who) = (x : ℕ) → scope_gets n holder x ≡ 0

-- it is not the place of the body of a function
abbrev pub IsNoBody : Declares → Type 0
IsNoBody (declares.Body s) = ⊥
IsNoBody d = Unit
