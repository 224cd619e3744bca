-- What a class is named by is read behind it, or in its elements: a name that the lowering gave it, one of its own that it had
-- around and that is read outside of it now, and the function of a generated name that reads such a name. (Our own.)
use Rattle.std.specs.Prelude.{ℕ, List, [], ◌∷◌, ◌++◌, map, Bool, true, false, cond, not, ◌&&◌, ◌||◌, nat_eq, Option, Some, None}
use Rattle.es_base.specs.Conforms.{is_among}
use Rattle.es_base.specs.Preorder.{number_of, preorder, preorder_of, preorder_of_part}
use Rattle.es_base.specs.Tree.{Tree, Part, Parts, Node, end, more, child}
use Rattle.es_base.specs.declared.kind.Kind.{Kind}
use Rattle.es_base.specs.declared.ledger.GeneratedKind.{GeneratedKind}
use Rattle.es_base.specs.declared.ledger.LedgerEntry.{LedgerEntry}
use Rattle.es_steps.specs.Context.{generated_as}
use Rattle.es_lowered.specs.Definitions.{spelling, class_identifiers, names_class}
use Rattle.es_lowered.specs.FunctionsAround.{PlacedReference, placed_references, all_stand_where}
use Rattle.es_lowered.specs.HelperCalls.{body_runs}
use Rattle.es_steps.specs.KeptNodes.{all_pairs_stand}
use Rattle.es_steps.specs.NameScopes.{is_any_function}
use Rattle.es_steps.specs.Parts.{at, items, string_of}
use Rattle.es_steps.specs.PrivateNames.{is_class, is_element}
use Rattle.es_steps.specs.References.{Reference, resolve, has_number}
use Rattle.es_lowered.specs.Timely.{MarkForm, initializes, Mark, marks, nowhere}
use Rattle.es_steps.specs.Values.{String}

-- ---- what stands in the elements of a class, but for its keys

abbrev pub numbers_of : List Tree → List ℕ
numbers_of ts = map number_of ts

abbrev pub numbers_of_key : Bool → Part → List ℕ
numbers_of_key true k = []
numbers_of_key false k = numbers_of (preorder_of_part k)

abbrev pub element_numbers : Parts → List ℕ
element_numbers end = []
element_numbers (more (child (Node kind m span semantic_id (more k ps))) es) = (numbers_of_key (is_element kind) k ++ numbers_of (preorder_of ps)) ++ element_numbers es
element_numbers (more p es) = element_numbers es

abbrev pub body_numbers : Part → List ℕ
body_numbers (child (Node Kind.ClassBody m span semantic_id ps)) = element_numbers (items (at 0 ps))
body_numbers p = []

abbrev pub numbers_inside : ℕ → List Tree → List ℕ
numbers_inside n [] = []
numbers_inside n (Node kind m span semantic_id ps ∷ ts) = cond (is_class kind && nat_eq n m) (body_numbers (at 2 ps)) [] ++ numbers_inside n ts

abbrev pub class_numbers : List Tree → List ℕ
class_numbers [] = []
class_numbers (Node kind m span semantic_id ps ∷ ts) = cond (is_class kind) (m ∷ []) [] ++ class_numbers ts

-- ---- the references that are asked for

abbrev pub is_written_at : ℕ → List Reference → Bool
is_written_at m [] = false
is_written_at m (r ∷ rs) = (nat_eq m r.number && r.writes) || is_written_at m rs

-- those to a name of class n, its identifiers being these
abbrev pub naming : ℕ → List LedgerEntry → List Reference → List ℕ → List Tree → List ℕ
naming n ledger rs ids [] = []
naming n ledger rs ids (t ∷ ts) = cond (names_class n ledger rs ids (child t) && not (is_written_at (number_of t) rs)) (number_of t ∷ []) [] ++ naming n ledger rs ids ts

abbrev pub without : List ℕ → List ℕ → List ℕ
without ns [] = []
without ns (m ∷ ms) = cond (has_number m ns) [] (m ∷ []) ++ without ns ms

-- its heritage and keys, and what stands in its elements
abbrev pub numbers_of_class : ℕ → List Tree → List ℕ
numbers_of_class n [] = []
numbers_of_class n (Node kind m span semantic_id ps ∷ ts) = cond (is_class kind && nat_eq n m) (numbers_of (preorder_of ps)) [] ++ numbers_of_class n ts

abbrev pub head_numbers : ℕ → List Tree → List ℕ
head_numbers n ts = without (numbers_inside n ts) (numbers_of_class n ts)

abbrev pub common : List ℕ → List ℕ → List ℕ
common ns [] = []
common ns (m ∷ ms) = cond (has_number m ns) (m ∷ []) [] ++ common ns ms

-- those that may stand where they stand: outside of the class in the source; or in its heritage and keys, where they stay there, or
-- no element runs with the class, before which these are evaluated
abbrev pub free_naming : Bool → ℕ → List Tree → List Tree → List ℕ → List ℕ
free_naming runs n ps qs names = without (numbers_of_class n ps) names ++ common (cond runs (head_numbers n qs) names) (common (head_numbers n ps) names)

abbrev pub naming_in_source : ℕ → ℕ → Tree → List ℕ
naming_in_source first n p = naming n [] (resolve p) (class_identifiers first n (preorder p)) (preorder p)

-- ---- functions of generated names

pub record MovedFunction : Type 0 where
  pub name : String
  pub numbers : List ℕ

abbrev pub function_numbers : Part → List ℕ
function_numbers (child (Node kind m span semantic_id ps)) = cond (is_any_function kind) (numbers_of (preorder (Node kind m span semantic_id ps))) []
function_numbers p = []

-- a name by which a function is called, and which is no value
abbrev pub names_function : Option GeneratedKind → Bool
names_function (Some (GeneratedKind.Method d)) = true
names_function (Some (GeneratedKind.SuperFn n)) = true
names_function (Some GeneratedKind.Closure) = true
names_function g = false

abbrev pub moved_function : List LedgerEntry → String → Part → List MovedFunction
moved_function ledger s p = cond (names_function (generated_as s ledger)) (record { name = s; numbers = function_numbers p } ∷ []) []

abbrev pub moved_at : List LedgerEntry → Tree → List MovedFunction
moved_at ledger (Node Kind.FunctionDeclaration m span semantic_id ps) = moved_function ledger (spelling (at 0 ps)) (child (Node Kind.FunctionDeclaration m span semantic_id ps))
moved_at ledger (Node Kind.AssignmentExpression m span semantic_id ps) = moved_function ledger (spelling (at 1 ps)) (at 2 ps)
moved_at ledger (Node Kind.VariableDeclarator m span semantic_id ps) = moved_function ledger (spelling (at 0 ps)) (at 1 ps)
moved_at ledger t = []

abbrev pub moved_functions : List LedgerEntry → List Tree → List MovedFunction
moved_functions ledger [] = []
moved_functions ledger (t ∷ ts) = moved_at ledger t ++ moved_functions ledger ts

abbrev pub any_among : List ℕ → List ℕ → Bool
any_among ns [] = false
any_among ns (m ∷ ms) = has_number m ns || any_among ns ms

-- those outside of the class, of which none holds it
abbrev pub outside_class : List ℕ → List MovedFunction → List MovedFunction
outside_class inside [] = []
outside_class inside (f ∷ fs) = cond (any_among inside f.numbers) [] (f ∷ []) ++ outside_class inside fs

-- the names of those that hold one of these nodes
abbrev pub names_holding : List ℕ → List MovedFunction → List String
names_holding ns [] = []
names_holding ns (f ∷ fs) = cond (any_among ns f.numbers) (f.name ∷ []) [] ++ names_holding ns fs

abbrev pub is_reference_to : List String → Tree → Bool
is_reference_to ss (Node Kind.IdentifierReference m span semantic_id ps) = is_among (string_of (at 0 ps)) ss
is_reference_to ss t = false

abbrev pub reading : List String → List Reference → List Tree → List ℕ
reading ss rs [] = []
reading ss rs (t ∷ ts) = cond (is_reference_to ss t && not (is_written_at (number_of t) rs)) (number_of t ∷ []) [] ++ reading ss rs ts

-- with the references to functions that hold one of them, and so on, as often as there are names
abbrev pub reaching : List LedgerEntry → List MovedFunction → List Reference → List Tree → List ℕ → List ℕ
reaching [] fs rs ts ns = ns
reaching (e ∷ es) fs rs ts ns = ns ++ reading (names_holding (reaching es fs rs ts ns) fs) rs ts

abbrev pub without_functions : List MovedFunction → List ℕ → List ℕ
without_functions [] ns = ns
without_functions (f ∷ fs) ns = without_functions fs (without f.numbers ns)

-- ---- they stand behind the class, and where it may not have run, with it

abbrev pub is_behind : Mark → List Mark → Bool
is_behind m [] = false
is_behind m (i ∷ is) = all_pairs_stand i.around.held m.around.held || is_behind m is

abbrev pub is_class_mark : MarkForm → Bool
is_class_mark initializes = true
is_class_mark form = false

-- the marks of the class in front, and the marks from here on
abbrev pub stand_behind : List Mark → List Mark → Bool
stand_behind front [] = true
stand_behind front (m ∷ ms) = cond (is_class_mark m.form) (stand_behind (m ∷ front) ms) (is_behind m front && stand_behind front ms)

abbrev pub is_asked : List ℕ → String → List ℕ → Bool
is_asked asked s ns = any_among asked ns

abbrev pub is_none : List ℕ → Bool
is_none [] = true
is_none (n ∷ ns) = false

-- nor does such a function read a name of the class where elements run with it, which may call it before the name is given
abbrev pub class_runs : ℕ → List Tree → Bool
class_runs n [] = false
class_runs n (Node kind m span semantic_id ps ∷ ts) = ((is_class kind && nat_eq n m) && body_runs (at 2 ps)) || class_runs n ts

abbrev pub any_name : List String → Bool
any_name [] = false
any_name (s ∷ ss) = true

-- ---- what may stand where it stands has to stand where it stood: in the functions of the source, and behind the class

abbrev pub behind_class : List Mark → List Mark → List ℕ
behind_class front [] = []
behind_class front (m ∷ ms) = cond (is_class_mark m.form) (behind_class (m ∷ front) ms) (cond (is_behind m front) m.node [] ++ behind_class front ms)

abbrev pub numbered : ℕ → List PlacedReference → List PlacedReference
numbered m [] = []
numbered m (r ∷ rs) = cond (nat_eq m r.number) (r ∷ []) [] ++ numbered m rs

-- names are the references to names of class n in the source p
module _ (first n : ℕ) (p q : Tree) (names : List ℕ) where
  abbrev pub placed : Tree → List PlacedReference
  placed t = placed_references first (λ m s. has_number m names) false [] t

  abbrev pub behind : Tree → List ℕ
  behind t = behind_class [] (marks first [] [] (is_asked (n ∷ names)) [] nowhere None t)

  abbrev pub is_kept_place : ℕ → Bool
  is_kept_place m = all_stand_where first (numbered m (placed q)) (placed p) && (not (has_number m (behind p)) || has_number m (behind q))

  abbrev pub kept_places : List ℕ → List ℕ
  kept_places [] = []
  kept_places (m ∷ ms) = cond (is_kept_place m) (m ∷ []) [] ++ kept_places ms

-- the references to names of the class that are asked for
abbrev pub asked_names : ℕ → List LedgerEntry → Tree → Tree → ℕ → List ℕ
asked_names first ledger p q n =
    let names : List ℕ = naming_in_source first n p in
    without (kept_places first n p q names (free_naming (class_runs n (preorder q)) n (preorder p) (preorder q) names)) (naming n ledger (resolve q) (class_identifiers first n (preorder q)) (preorder q))

abbrev pub functions_outside : List LedgerEntry → Tree → ℕ → List MovedFunction
functions_outside ledger q n = outside_class (n ∷ numbers_inside n (preorder q)) (moved_functions ledger (preorder q))

-- with those to functions that read them, but what stands in such a function, or in an element of the class
abbrev pub asked_references : List LedgerEntry → Tree → ℕ → List MovedFunction → List ℕ → List ℕ
asked_references ledger q n fs names = without (numbers_inside n (preorder q)) (without_functions fs (reaching ledger fs (resolve q) (preorder q) names))

abbrev pub stand_in_time : ℕ → Tree → ℕ → List ℕ → Bool
stand_in_time first q n asked = is_none asked || stand_behind [] (marks first [] [] (is_asked (n ∷ asked)) [] nowhere None q)

-- a function of the source around a new reference to a name of the class, constructors aside, is one of the class or around it: any
-- other may be called in front of the class
abbrev pub holds_class : ℕ → ℕ → List Tree → Bool
holds_class k n [] = false
holds_class k n (t ∷ ts) = (nat_eq k (number_of t) && has_number n (numbers_of (preorder t))) || holds_class k n ts

abbrev pub are_of_class : ℕ → List ℕ → List Tree → List (ℕ × ℕ) → Bool
are_of_class n inside qs [] = true
are_of_class n inside qs (x ∷ xs) = (has_number x.0 inside || holds_class x.0 n qs) && are_of_class n inside qs xs

abbrev pub all_stand_with_class : ℕ → List ℕ → List Tree → List PlacedReference → Bool
all_stand_with_class n inside qs [] = true
all_stand_with_class n inside qs (r ∷ rs) = are_of_class n inside qs r.around && all_stand_with_class n inside qs rs

-- the references to names of the class that are none in the source
abbrev pub new_names_fit : ℕ → Tree → Tree → ℕ → List ℕ → Bool
new_names_fit first p q n names = is_none names || all_stand_with_class n (numbers_of_class n (preorder p)) (preorder q) (placed_references first (λ m s. has_number m names) false [] q)

abbrev pub class_timely : ℕ → List LedgerEntry → Tree → Tree → ℕ → Bool
class_timely first ledger p q n =
    let fs : List MovedFunction = functions_outside ledger q n in
    let names : List ℕ = asked_names first ledger p q n in
    new_names_fit first p q n (without (naming_in_source first n p) names)
    && (not (class_runs n (preorder q) && any_name (names_holding names fs)) && stand_in_time first q n (asked_references ledger q n fs names))

abbrev pub all_classes_timely : ℕ → List LedgerEntry → Tree → Tree → List ℕ → Bool
all_classes_timely first ledger p q [] = true
all_classes_timely first ledger p q (n ∷ ns) = class_timely first ledger p q n && all_classes_timely first ledger p q ns

abbrev pub classes_timely : ℕ → List LedgerEntry → Tree → Tree → Bool
classes_timely first ledger p q = all_classes_timely first ledger p q (class_numbers (preorder p))
