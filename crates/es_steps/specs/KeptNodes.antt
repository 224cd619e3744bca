-- Which nodes of the source stand in a lowered program. (Our own.)
use Rattle.std.specs.Prelude.{ℕ, suc, List, map, [], ◌∷◌, ◌++◌, Bool, true, false, cond, not, ◌&&◌, ◌||◌, nat_eq, bytes_eq, Option, Some, None}
use Rattle.es_base.specs.Numbered.{is_new}
use Rattle.es_base.specs.Preorder.{preorder, preorder_of_part, number_of}
use Rattle.es_base.specs.Table.{is_statement}
use Rattle.es_base.specs.Tree.{Tree, Part, Parts, Node, end, more, child, list}
use Rattle.es_base.specs.declared.kind.Kind.{Kind}
use Rattle.es_steps.specs.Context.{is_constructor}
use Rattle.es_steps.specs.LoweredClasses.{is_lowered_class, has_lowered_class}
use Rattle.es_steps.specs.Options.{lowers_blocks}
use Rattle.es_steps.specs.Parts.{at, items, string_of}
use Rattle.es_steps.specs.PrivateNames.{is_class}
use Rattle.es_steps.specs.References.{has_number}
use Rattle.es_steps.specs.SameTrees.{same_tree}
use Rattle.es_steps.specs.Scopes.{class_in}
use Rattle.es_steps.specs.declared.options.Options.{Options}

-- ---- classes, functions, calls and `new` stand once, each on a node of its sort

pub data NodeSort : Type 0 where
  a_class : NodeSort
  a_function : NodeSort
  a_call : NodeSort
  a_construction : NodeSort
  another : NodeSort

abbrev pub sort_of : Kind → NodeSort
sort_of Kind.ClassDeclaration = a_class
sort_of Kind.ClassExpression = a_class
sort_of Kind.FunctionDeclaration = a_function
sort_of Kind.FunctionExpression = a_function
sort_of Kind.ArrowFunctionExpression = a_function
sort_of Kind.CallExpression = a_call
sort_of Kind.NewExpression = a_construction
sort_of kind = another

abbrev pub is_kept_sort : NodeSort → Bool
is_kept_sort another = false
is_kept_sort sort = true

abbrev pub same_sort : NodeSort → NodeSort → Bool
same_sort a_class a_class = true
same_sort a_function a_function = true
same_sort a_call a_call = true
same_sort a_construction a_construction = true
same_sort sort other = false

-- whether a node of this number and sort stands among these
abbrev pub stands_as : ℕ → NodeSort → List Tree → Bool
stands_as m sort [] = false
stands_as m sort (Node kind k span semantic_id ps ∷ ts) = (nat_eq m k && same_sort sort (sort_of kind)) || stands_as m sort ts

abbrev pub all_stand : List Tree → List Tree → Bool
all_stand [] qs = true
all_stand (Node kind m span semantic_id ps ∷ ts) qs = (not (is_kept_sort (sort_of kind)) || stands_as m (sort_of kind) qs) && all_stand ts qs

abbrev pub nodes_kept : Tree → Tree → Bool
nodes_kept p q = all_stand (preorder p) (preorder q)

-- ---- no node gets into the body of a class

abbrev pub are_new_or_among : ℕ → List ℕ → List ℕ → Bool
are_new_or_among first there [] = true
are_new_or_among first there (n ∷ ns) = (is_new first n || has_number n there) && are_new_or_among first there ns

abbrev pub numbers_in_class : ℕ → List Tree → List ℕ
numbers_in_class n [] = []
numbers_in_class n (Node kind m span semantic_id ps ∷ ts) = cond (is_class kind && nat_eq n m) (map number_of (preorder_of_part (at 2 ps))) (numbers_in_class n ts)

-- ps are the nodes of the source
abbrev pub none_enters : ℕ → List Tree → List Tree → Bool
none_enters first ps [] = true
none_enters first ps (Node kind n span semantic_id qs ∷ ts) = (not (is_class kind) || are_new_or_among first (numbers_in_class n ps) (map number_of (preorder_of_part (at 2 qs)))) && none_enters first ps ts

abbrev pub classes_kept : ℕ → Tree → Tree → Bool
classes_kept first p q = none_enters first (preorder p) (preorder q)

-- ---- statements that are no lowered class, hold none and stand in none stand as they are

abbrev pub is_free_statement : Options → Tree → Bool
is_free_statement o (Node kind m span semantic_id ps) = is_statement kind && not (has_lowered_class o (Node kind m span semantic_id ps))

-- the outermost such statements
abbrev mutual
  pub free_statements : Options → Tree → List Tree
  free_statements o (Node kind m span semantic_id ps) = cond (is_free_statement o (Node kind m span semantic_id ps)) (Node kind m span semantic_id ps ∷ []) (cond (is_lowered_class o kind ps) [] (free_in o ps))

  pub free_at : Options → Part → List Tree
  free_at o (child t) = free_statements o t
  free_at o (list ps) = free_in o ps
  free_at o p = []

  pub free_in : Options → Parts → List Tree
  free_in o end = []
  free_in o (more p ps) = free_at o p ++ free_in o ps

abbrev pub stands_equal : Tree → List Tree → Bool
stands_equal t [] = false
stands_equal t (q ∷ qs) = same_tree t q || stands_equal t qs

abbrev pub all_equal : List Tree → List Tree → Bool
all_equal [] qs = true
all_equal (t ∷ ts) qs = stands_equal t qs && all_equal ts qs

abbrev pub statements_kept : Options → Tree → Tree → Bool
statements_kept o p q = all_equal (free_statements o p) (preorder q)

-- ---- the statements and classes of one list stand in the list of the same node, in order

abbrev pub statement_list : Kind → Parts → Parts
statement_list Kind.Program ps = items (at 1 ps)
statement_list Kind.BlockStatement ps = items (at 0 ps)
statement_list Kind.StaticBlock ps = items (at 0 ps)
statement_list Kind.SwitchCase ps = items (at 1 ps)
statement_list kind ps = end

-- the class that a declaration declares, and the class that gives an export or a variable its value
abbrev pub declared_classes : Part → List ℕ
declared_classes (child (Node Kind.ClassDeclaration n span semantic_id ps)) = n ∷ []
declared_classes (child (Node Kind.ExportNamedDeclaration m span semantic_id (more (child (Node Kind.ClassDeclaration n nspan n_semantic_id ps)) rest))) = n ∷ []
declared_classes (child (Node Kind.ExportDefaultDeclaration m span semantic_id (more (child (Node Kind.ClassDeclaration n nspan n_semantic_id ps)) rest))) = n ∷ []
declared_classes p = []

abbrev pub class_or_none : Option ℕ → List ℕ
class_or_none None = []
class_or_none (Some n) = n ∷ []

abbrev pub given_classes : Parts → List ℕ
given_classes end = []
given_classes (more (child (Node Kind.VariableDeclarator m span semantic_id ps)) rest) = class_or_none (class_in (at 1 ps)) ++ given_classes rest
given_classes (more p rest) = given_classes rest

abbrev pub carried_classes : Part → List ℕ
carried_classes (child (Node Kind.VariableDeclaration m span semantic_id ps)) = given_classes (items (at 1 ps))
carried_classes (child (Node Kind.ExportNamedDeclaration m span semantic_id (more (child (Node Kind.VariableDeclaration k kspan k_semantic_id ps)) rest))) = given_classes (items (at 1 ps))
carried_classes (child (Node Kind.ExportDefaultDeclaration m span semantic_id (more (child (Node Kind.ClassDeclaration n nspan n_semantic_id ps)) rest))) = n ∷ []
carried_classes (child (Node Kind.ExportDefaultDeclaration m span semantic_id (more e rest))) = class_or_none (class_in e)
carried_classes p = declared_classes p

abbrev pub item_number : Part → List ℕ
item_number (child t) = number_of t ∷ carried_classes (child t)
item_number p = []

abbrev pub item_numbers : Parts → List ℕ
item_numbers end = []
item_numbers (more p ps) = item_number p ++ item_numbers ps

-- a function declaration stays where it is also where it holds a lowered class
abbrev pub is_function_declaration : Tree → Bool
is_function_declaration (Node Kind.FunctionDeclaration m span semantic_id ps) = true
is_function_declaration t = false

-- .. and one of variables, past whose scope a `var` of its names may be hoisted
abbrev pub stays_in_list : Tree → Bool
stays_in_list (Node Kind.VariableDeclaration m span semantic_id ps) = true
stays_in_list t = is_function_declaration t

abbrev pub free_number : Options → Part → List ℕ
free_number o (child t) = cond (is_free_statement o t || stays_in_list t) (number_of t ∷ []) [] ++ declared_classes (child t)
free_number o p = []

abbrev pub free_numbers : Options → Parts → List ℕ
free_numbers o end = []
free_numbers o (more p ps) = free_number o p ++ free_numbers o ps

-- the list of a static block may become an expression
abbrev pub is_static_block : Kind → Bool
is_static_block Kind.StaticBlock = true
is_static_block kind = false

-- their numbers, list by list, each list with the number of its node
abbrev mutual
  pub free_lists : Options → Tree → List (ℕ × List ℕ)
  free_lists o (Node kind m span semantic_id ps) = cond (is_static_block kind) [] ((m, free_numbers o (statement_list kind ps)) ∷ []) ++ free_lists_in o ps

  pub free_lists_at : Options → Part → List (ℕ × List ℕ)
  free_lists_at o (child t) = free_lists o t
  free_lists_at o (list ps) = free_lists_in o ps
  free_lists_at o p = []

  pub free_lists_in : Options → Parts → List (ℕ × List ℕ)
  free_lists_in o end = []
  free_lists_in o (more p ps) = free_lists_at o p ++ free_lists_in o ps

-- the numbers in the list of node m
abbrev pub list_of : ℕ → List Tree → List ℕ
list_of m [] = []
list_of m (Node kind k span semantic_id ps ∷ ts) = cond (nat_eq m k) (item_numbers (statement_list kind ps)) (list_of m ts)

-- whether the first list is the second without some of its members
abbrev pub is_within : List ℕ → List ℕ → Bool
is_within [] ys = true
is_within (x ∷ xs) [] = false
is_within (x ∷ xs) (y ∷ ys) = cond (nat_eq x y) (is_within xs ys) (is_within (x ∷ xs) ys)

abbrev pub all_within : List (ℕ × List ℕ) → List Tree → Bool
all_within [] qs = true
all_within (l ∷ ls) qs = is_within l.1 (list_of l.0 qs) && all_within ls qs

abbrev pub lists_kept : Options → Tree → Tree → Bool
lists_kept o p q = all_within (free_lists o p) (preorder q)

-- ---- pairs of numbers

abbrev pub pair_stands : ℕ × ℕ → List (ℕ × ℕ) → Bool
pair_stands p [] = false
pair_stands p (q ∷ qs) = (nat_eq p.0 q.0 && nat_eq p.1 q.1) || pair_stands p qs

abbrev pub all_pairs_stand : List (ℕ × ℕ) → List (ℕ × ℕ) → Bool
all_pairs_stand [] qs = true
all_pairs_stand (p ∷ ps) qs = pair_stands p qs && all_pairs_stand ps qs

-- ---- declaring identifiers and lists of statements stay in their function, also where a new one would be transparent to
-- the meaning: a `var`, and a function in a block of sloppy code (ECMA-262, B.3.2), are seen in all of it. What stands in a
-- static block that is lowered gets a new function. And declaring identifiers keep their spelling; in a constructor, where
-- names may clash with those of fields, they may also get one that begins with `_`.

abbrev pub is_underscored : List ℕ → Bool
is_underscored [] = false
is_underscored (c ∷ cs) = nat_eq c 95

-- a declaring identifier or a list of statements: the function or static block around it, its spelling, whether it is the own
-- name of a class expression, which the class may take with it, and whether it stands in a constructor
pub record Homed : Type 0 where
  pub number : ℕ
  pub home : ℕ
  pub spelling : List ℕ
  pub is_own_name : Bool
  pub in_constructor : Bool

-- what is around a part
pub record HomeHere : Type 0 where
  pub of_function : ℕ
  pub is_own_name : Bool
  pub in_constructor : Bool

-- the function around the i-th part of a node, or its static block
abbrev pub function_around : ℕ → Kind → ℕ → ℕ → ℕ
function_around home Kind.FunctionDeclaration m i = cond (nat_eq i 0) home m
function_around home Kind.FunctionExpression m i = m
function_around home Kind.ArrowFunctionExpression m i = m
function_around home Kind.StaticBlock m i = m
function_around home kind m i = home

abbrev pub is_own_name_part : Kind → ℕ → Bool
is_own_name_part Kind.ClassExpression i = nat_eq i 0
is_own_name_part kind i = false

abbrev pub is_constructor_part : Kind → Parts → ℕ → Bool
is_constructor_part Kind.MethodDefinition ps i = nat_eq i 1 && is_constructor (string_of (at 2 ps))
is_constructor_part kind ps i = false

abbrev pub home_in : HomeHere → Kind → ℕ → Parts → ℕ → HomeHere
home_in x kind m ps i = record { of_function = function_around x.of_function kind m i; is_own_name = is_own_name_part kind i; in_constructor = x.in_constructor || is_constructor_part kind ps i }

abbrev pub has_home : Kind → Bool
has_home Kind.BindingIdentifier = true
has_home Kind.BlockStatement = true
has_home Kind.SwitchCase = true
has_home kind = false

abbrev pub name_of : Kind → Parts → List ℕ
name_of Kind.BindingIdentifier ps = string_of (at 0 ps)
name_of kind ps = []

abbrev pub homed : HomeHere → Kind → ℕ → Parts → List Homed
homed x kind m ps = cond (has_home kind) (record { number = m; home = x.of_function; spelling = name_of kind ps; is_own_name = x.is_own_name; in_constructor = x.in_constructor } ∷ []) []

abbrev mutual
  pub homes : HomeHere → Tree → List Homed
  homes x (Node kind m span semantic_id ps) = homed x kind m ps ++ homes_in (home_in x kind m ps) ps

  pub homes_in : (ℕ → HomeHere) → Parts → List Homed
  homes_in x end = []
  homes_in x (more p ps) = homes_at (x 0) p ++ homes_in (λ i. x (suc i)) ps

  pub homes_at : HomeHere → Part → List Homed
  homes_at x (child t) = homes x t
  homes_at x (list ps) = homes_of x ps
  homes_at x p = []

  pub homes_of : HomeHere → Parts → List Homed
  homes_of x end = []
  homes_of x (more p ps) = homes_at x p ++ homes_of x ps

abbrev pub all_homes : Tree → List Homed
all_homes t = homes (record { of_function = number_of t; is_own_name = false; in_constructor = false }) t

-- the static blocks that are lowered
abbrev pub block_numbers : List Tree → List ℕ
block_numbers [] = []
block_numbers (Node kind m span semantic_id ps ∷ ts) = cond (is_static_block kind) (m ∷ []) [] ++ block_numbers ts

abbrev pub lowered_blocks : Options → Tree → List ℕ
lowered_blocks o p = cond (lowers_blocks o) (block_numbers (preorder p)) []

module _ (first : ℕ) (blocks : List ℕ) where
  abbrev pub home_fits : Homed → Homed → Bool
  home_fits x y = x.is_own_name || (nat_eq x.home y.home || (has_number x.home blocks && is_new first y.home))

  abbrev pub name_fits : Homed → Homed → Bool
  name_fits x y = bytes_eq x.spelling y.spelling || (x.in_constructor && is_underscored y.spelling)

  abbrev pub stands_at_home : Homed → List Homed → Bool
  stands_at_home x [] = false
  stands_at_home x (y ∷ ys) = (nat_eq x.number y.number && (home_fits x y && name_fits x y)) || stands_at_home x ys

  abbrev pub stands_nowhere : Homed → List Homed → Bool
  stands_nowhere x [] = true
  stands_nowhere x (y ∷ ys) = not (nat_eq x.number y.number) && stands_nowhere x ys

  abbrev pub all_at_home : List Homed → List Homed → Bool
  all_at_home [] ys = true
  all_at_home (x ∷ xs) ys = (stands_at_home x ys || (x.is_own_name && stands_nowhere x ys)) && all_at_home xs ys

abbrev pub homes_kept : ℕ → Options → Tree → Tree → Bool
homes_kept first o p q = all_at_home first (lowered_blocks o p) (all_homes p) (all_homes q)
