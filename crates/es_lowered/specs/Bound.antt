-- A node of the source that one sort of node alone may hold, or one alone of some, stays in the node that it is in: a property (B.3.1),
-- a case (14.12.1), a handler (14.15), a rest and what it holds (14.3.3), the head of a loop (14.7.5.1); and `yield`, `await`,
-- `for await` and labels that are reserved words elsewhere stay in the bodies of their functions (13.1.1, 15.5.1, 15.8.1). So what no step looks at, as what is behind an access that always throws, is read by an engine.
use Rattle.std.specs.Prelude.{ℕ, suc, List, [], ◌∷◌, ◌++◌, Bool, true, false, cond, nat_eq, codes}
use Rattle.es_base.specs.Conforms.{is_among}
use Rattle.es_base.specs.Numbered.{is_new}
use Rattle.es_base.specs.Preorder.{number_of}
use Rattle.es_base.specs.Tree.{Tree, Part, Parts, Node, end, more, child, list}
use Rattle.es_base.specs.declared.kind.Kind.{Kind}
use Rattle.es_steps.specs.Context.{is_function}
use Rattle.es_steps.specs.KeptNodes.{function_around, all_pairs_stand}
use Rattle.es_steps.specs.Parts.{at, is_true}
use Rattle.es_steps.specs.Printable.{name_of_part, is_module_item}
use Rattle.es_steps.specs.Repeated.{is_loop}
use Rattle.es_steps.specs.Reserved.{strict_words}
use Rattle.es_steps.specs.Values.{String}

-- by the kind of the node around
abbrev pub is_bound : Kind → Kind → Bool
is_bound Kind.RestElement kind = true
is_bound around Kind.Property = true
is_bound around Kind.BindingProperty = true
is_bound around Kind.AssignmentTargetProperty = true
is_bound around Kind.SwitchCase = true
is_bound around Kind.CatchClause = true
is_bound around Kind.RestElement = true
is_bound around Kind.AssignmentTargetRest = true
is_bound around Kind.TemplateElement = true
is_bound around Kind.ExportSpecifier = true
is_bound around Kind.VariableDeclaration = is_loop around
is_bound Kind.AssignmentTargetRest Kind.ObjectAssignmentTarget = true
is_bound Kind.AssignmentTargetRest Kind.ArrayAssignmentTarget = true
is_bound around kind = false

-- and a label that is a reserved word elsewhere (13.1.1)
abbrev pub is_word_elsewhere : String → Bool
is_word_elsewhere s = is_among s (codes "await" ∷ strict_words)

abbrev pub depends_on_function : Kind → Parts → Bool
depends_on_function Kind.LabeledStatement ps = is_word_elsewhere (name_of_part (at 0 ps))
depends_on_function Kind.AwaitExpression ps = true
depends_on_function Kind.YieldExpression ps = true
depends_on_function Kind.ForOfStatement ps = is_true (at 3 ps)
depends_on_function kind ps = false

-- imports and exports stand in the list of the program (16.2)
abbrev pub is_nested_item : Kind → Kind → Bool
is_nested_item Kind.Program kind = false
is_nested_item around kind = is_module_item kind

-- the value of a field is a function of its own (15.7.10)
abbrev pub body_around : ℕ → Kind → ℕ → ℕ → ℕ
body_around home Kind.PropertyDefinition m i = cond (nat_eq i 1) m home
body_around home kind m i = function_around home kind m i

-- whether the i-th part has the parameters of a function, or stands in such
abbrev pub parameters_around : Bool → Kind → ℕ → Bool
parameters_around b Kind.FunctionDeclaration i = nat_eq i 1
parameters_around b Kind.FunctionExpression i = nat_eq i 1
parameters_around b Kind.ArrowFunctionExpression i = nat_eq i 0
parameters_around b kind i = b

abbrev pub has_body : Kind → Bool
has_body Kind.ArrowFunctionExpression = true
has_body kind = is_function kind

-- the node and the function around a part
pub record BoundPlace : Type 0 where
  pub kind : Kind
  pub number : ℕ
  pub of_function : ℕ
  pub in_parameters : Bool

abbrev pub place_inside : BoundPlace → Kind → ℕ → ℕ → BoundPlace
place_inside x kind m i = record { kind = kind; number = m; of_function = body_around x.of_function kind m i; in_parameters = parameters_around x.in_parameters kind i }

module _ (first : ℕ) where
  -- a node of the source with what it stays in
  abbrev pub bound_to : ℕ → ℕ → List (ℕ × ℕ)
  bound_to m n = cond (is_new first m) [] ((m, n) ∷ [])

  -- a block is the body of its function, or of none: what shares a binding in a body may not share one in a block (14.2.1)
  abbrev pub bound_block : BoundPlace → Kind → ℕ → List (ℕ × ℕ)
  bound_block x Kind.BlockStatement m = bound_to m (cond (has_body x.kind) x.number m)
  bound_block x kind m = []

  -- what depends on its function stands in no parameters, and what a module imports and exports in no other list; they are said to stay in themselves
  -- there, which no node does
  abbrev pub bound_node : BoundPlace → Kind → ℕ → Parts → List (ℕ × ℕ)
  bound_node x kind m ps = cond (is_nested_item x.kind kind) ((m, m) ∷ []) (cond (is_bound x.kind kind) (bound_to m x.number) (cond (depends_on_function kind ps) (bound_to m (cond x.in_parameters m x.of_function)) []))

  abbrev mutual
    pub bound_nodes : BoundPlace → Tree → List (ℕ × ℕ)
    bound_nodes x (Node kind m span semantic_id ps) = bound_node x kind m ps ++ (bound_block x kind m ++ bound_in (place_inside x kind m) ps)

    pub bound_in : (ℕ → BoundPlace) → Parts → List (ℕ × ℕ)
    bound_in x end = []
    bound_in x (more p ps) = bound_at (x 0) p ++ bound_in (λ i. x (suc i)) ps

    pub bound_at : BoundPlace → Part → List (ℕ × ℕ)
    bound_at x (child t) = bound_nodes x t
    bound_at x (list ps) = bound_of x ps
    bound_at x p = []

    pub bound_of : BoundPlace → Parts → List (ℕ × ℕ)
    bound_of x end = []
    bound_of x (more p ps) = bound_at x p ++ bound_of x ps

  abbrev pub all_bound : Tree → List (ℕ × ℕ)
  all_bound t = bound_nodes (record { kind = Kind.Program; number = number_of t; of_function = number_of t; in_parameters = false }) t

  -- of a program and what it was lowered to
  abbrev pub bound_stay : Tree → Tree → Bool
  bound_stay p q = all_pairs_stand (all_bound q) (all_bound p)
