-- Where the functions, classes and declaring identifiers of the source stand: in which part that is evaluated again. Each
-- time a function, a class or a declaration is evaluated, another object or another binding is there. (ECMA-262, 10.2.1,
-- 10.2.2, 14.7, 15.7.10. That a new arrow is transparent is our own: it is called where it stands.)
use Rattle.std.specs.Prelude.{ℕ, suc, List, [], ◌∷◌, ◌++◌, Bool, true, false, cond, not, ◌&&◌, ◌||◌, nat_eq, Option, Some, None}
use Rattle.es_base.specs.Numbered.{is_new}
use Rattle.es_base.specs.Preorder.{number_of}
use Rattle.es_base.specs.Tree.{Tree, Part, Parts, Node, end, more, child, list}
use Rattle.es_base.specs.declared.kind.Kind.{Kind}
use Rattle.es_base.specs.declared.ledger.GeneratedKind.{GeneratedKind}
use Rattle.es_base.specs.declared.ledger.LedgerEntry.{LedgerEntry}
use Rattle.es_steps.specs.Context.{generated_as, is_constructor, is_function, name_in}
use Rattle.es_steps.specs.Parts.{at, items, string_of, is_true, has_pattern}
use Rattle.es_steps.specs.PrivateNames.{is_class}
use Rattle.es_steps.specs.References.{has_number, takes_vars}
use Rattle.es_steps.specs.Scopes.{is_binding_identifier, is_var}

-- around a part: the nearest function or loop, the class whose construction it is, or the parameters; the place of what a `var`
-- here is hoisted to, a function or static block, and whether a `var` declares here; the nearest class whose body is around;
-- and the class whose construction a function here belongs to
pub record Surroundings : Type 0 where
  pub place : ℕ
  pub hoisted : ℕ
  pub in_var : Bool
  pub class : ℕ
  pub constructs : Option ℕ

abbrev pub is_loop : Kind → Bool
is_loop Kind.WhileStatement = true
is_loop Kind.DoWhileStatement = true
is_loop Kind.ForStatement = true
is_loop Kind.ForInStatement = true
is_loop Kind.ForOfStatement = true
is_loop kind = false

abbrev pub is_arrow : Kind → Bool
is_arrow Kind.ArrowFunctionExpression = true
is_arrow kind = false

abbrev pub super_function : Option GeneratedKind → Option ℕ
super_function (Some (GeneratedKind.SuperFn n)) = Some n.0
super_function g = None

abbrev pub if_here : Bool → Option ℕ → Option ℕ
if_here true n = n
if_here false n = None

-- a constructor, and what a generated name of a `super` function is assigned
abbrev pub constructs_at : List LedgerEntry → ℕ → Kind → Parts → ℕ → Option ℕ
constructs_at ledger n Kind.MethodDefinition ps i = if_here (nat_eq i 1 && is_constructor (string_of (at 2 ps))) (Some n)
constructs_at ledger n Kind.AssignmentExpression ps i = if_here (nat_eq i 2) (super_function (generated_as (name_in (at 1 ps)) ledger))
constructs_at ledger n Kind.VariableDeclarator ps i = if_here (nat_eq i 1) (super_function (generated_as (name_in (at 0 ps)) ledger))
constructs_at ledger n kind ps i = None

abbrev pub function_place : Bool → Option ℕ → ℕ → ℕ → ℕ
function_place new (Some n) m place = n
function_place true None m place = place
function_place false None m place = m

-- parameters that are not all identifiers have an environment beside that of the body (10.2.11): they are known by the
-- number of the first
abbrev pub is_parameters_part : Kind → ℕ → Bool
is_parameters_part Kind.FunctionDeclaration i = nat_eq i 1
is_parameters_part Kind.FunctionExpression i = nat_eq i 1
is_parameters_part Kind.ArrowFunctionExpression i = nat_eq i 0
is_parameters_part kind i = false

abbrev pub first_number : Parts → ℕ → ℕ
first_number (more (child t) ps) place = number_of t
first_number ps place = place

abbrev pub parameters_place : Bool → Parts → ℕ → ℕ
parameters_place here ps place = cond (here && has_pattern ps) (first_number ps place) place

-- what the head of a loop evaluates once: a declaration that a `for` begins with, known by its number, since what it declares is
-- copied from round to round (14.7.4.4); or what stands in the place around
abbrev pub once_place : Part → ℕ → ℕ
once_place (child (Node Kind.VariableDeclaration m span semantic_id ps)) place = m
once_place p place = place

abbrev pub loop_place : Kind → ℕ → Parts → ℕ → ℕ → ℕ
loop_place Kind.ForStatement m ps i place = cond (nat_eq i 0) (once_place (at 0 ps) place) m
loop_place Kind.ForInStatement m ps i place = cond (nat_eq i 1) place m
loop_place Kind.ForOfStatement m ps i place = cond (nat_eq i 1) place m
loop_place kind m ps i place = m

-- where the i-th part of a node stands
abbrev pub place_in : ℕ → Surroundings → Kind → ℕ → Parts → ℕ → ℕ
place_in first s Kind.PropertyDefinition m ps i = cond (nat_eq i 1 && not (is_true (at 3 ps))) s.class s.place
place_in first s kind m ps i = cond (is_function kind || is_arrow kind) (parameters_place (is_parameters_part kind i) (items (at i ps)) (function_place (is_new first m) s.constructs m s.place)) (cond (is_loop kind) (loop_place kind m ps i s.place) s.place)

-- where a `var` in the i-th part is hoisted to
abbrev pub hoisted_in : ℕ → Surroundings → Kind → ℕ → Parts → ℕ → ℕ
hoisted_in first s kind m ps i = cond (takes_vars kind) (place_in first s kind m ps i) s.hoisted

abbrev pub in_var_at : Bool → Kind → Parts → Bool
in_var_at in_var Kind.VariableDeclaration ps = is_var ps
in_var_at in_var kind ps = in_var && not (is_function kind || (is_arrow kind || is_class kind))

abbrev pub surroundings_in : ℕ → List LedgerEntry → Surroundings → Kind → ℕ → Parts → ℕ → Surroundings
surroundings_in first ledger s kind m ps i = record { place = place_in first s kind m ps i; hoisted = hoisted_in first s kind m ps i; in_var = in_var_at s.in_var kind ps; class = cond (is_class kind && nat_eq i 2) m s.class; constructs = constructs_at ledger s.class kind ps i }

abbrev pub is_placed : Kind → Bool
is_placed kind = is_function kind || (is_arrow kind || (is_class kind || is_binding_identifier kind))

-- the identifier of a `var` stands where the `var` is hoisted to
abbrev pub own_place : Surroundings → Kind → ℕ
own_place s kind = cond (is_binding_identifier kind && s.in_var) s.hoisted s.place

-- around a program
abbrev pub around_program : Tree → Surroundings
around_program t = record { place = number_of t; hoisted = number_of t; in_var = false; class = number_of t; constructs = None }

-- old functions, classes and declaring identifiers, but the functions of private methods, each with its place
module _ (first : ℕ) (ledger : List LedgerEntry) (private_functions : List ℕ) where
  abbrev pub place_of : Surroundings → Kind → ℕ → List (ℕ × ℕ)
  place_of s kind m = cond (is_placed kind && not (is_new first m || has_number m private_functions)) ((m, own_place s kind) ∷ []) []

  -- an old declaration that a `for` begins with, which is a place of its own
  abbrev pub declaration_place : Surroundings → Part → List (ℕ × ℕ)
  declaration_place s (child (Node Kind.VariableDeclaration m span semantic_id ps)) = cond (is_new first m) [] ((m, s.place) ∷ [])
  declaration_place s p = []

  abbrev pub head_place : Surroundings → Kind → Parts → List (ℕ × ℕ)
  head_place s Kind.ForStatement ps = declaration_place s (at 0 ps)
  head_place s kind ps = []

  abbrev mutual
    pub places : Surroundings → Tree → List (ℕ × ℕ)
    places s (Node kind m span semantic_id ps) = place_of s kind m ++ (head_place s kind ps ++ places_in (surroundings_in first ledger s kind m ps) ps)

    pub places_in : (ℕ → Surroundings) → Parts → List (ℕ × ℕ)
    places_in s end = []
    places_in s (more p ps) = places_at (s 0) p ++ places_in (λ i. s (suc i)) ps

    pub places_at : Surroundings → Part → List (ℕ × ℕ)
    places_at s (child t) = places s t
    places_at s (list ps) = places_of s ps
    places_at s p = []

    pub places_of : Surroundings → Parts → List (ℕ × ℕ)
    places_of s end = []
    places_of s (more p ps) = places_at s p ++ places_of s ps

  abbrev pub all_places : Tree → List (ℕ × ℕ)
  all_places t = places (around_program t) t
