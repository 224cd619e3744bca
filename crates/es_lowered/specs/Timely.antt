-- Generated names are declared and initialized in front of where they are used. (Our own. Temporaries and parameters are
-- left to the environment of specs/Evaluation.antt.)
use Rattle.std.specs.Prelude.{ℕ, suc, List, [], ◌∷◌, ◌++◌, map, Bool, true, false, cond, not, ◌&&◌, ◌||◌, nat_eq, nat_le, bytes_eq, codes, Option, Some, None}
use Rattle.es_base.specs.Conforms.{is_among}
use Rattle.es_base.specs.Numbered.{is_new}
use Rattle.es_base.specs.Preorder.{preorder, number_of}
use Rattle.es_base.specs.Tree.{Tree, Part, Parts, Node, end, more, child, list, string}
use Rattle.es_base.specs.declared.kind.Kind.{Kind}
use Rattle.es_base.specs.declared.ledger.GeneratedKind.{GeneratedKind}
use Rattle.es_base.specs.declared.ledger.LedgerEntry.{LedgerEntry}
use Rattle.es_steps.specs.Context.{generated_as, is_generated, is_function}
use Rattle.es_lowered.specs.Definitions.{spelling}
use Rattle.es_steps.specs.Expressions.{is_logical}
use Rattle.es_lowered.specs.HelperCalls.{is_class_body, runs_with_class, body_runs}
use Rattle.es_steps.specs.KeptNodes.{all_pairs_stand, statement_list}
use Rattle.es_steps.specs.Parts.{at, items, string_of, is_true, is_present}
use Rattle.es_steps.specs.References.{has_number}
use Rattle.es_steps.specs.PrivateNames.{PrivateMember, member_at, is_class, is_element}
use Rattle.es_steps.specs.Repeated.{is_loop, is_arrow}
use Rattle.es_steps.specs.Scopes.{is_let}
use Rattle.es_steps.specs.Values.{String}

pub data MarkForm : Type 0 where
  -- by `let`
  declares : MarkForm
  -- by `let` at the head of a list, in front of which nothing there runs
  leads : MarkForm
  initializes : MarkForm
  -- a function declaration, which is there from the head of its list on
  hoists : MarkForm
  uses : MarkForm
  -- what a class uses where it stands, or what is given in front of each use
  needs : MarkForm

-- Around a place: the parts that may run or not, or again, each by its node and which part of it it is; the functions that
-- run later, a new arrow aside, each with whether it may be called in front of where it stands; and whether what stands here is
-- called.
pub record Around : Type 0 where
  pub held : List (ℕ × ℕ)
  pub later : List (ℕ × Bool)
  -- the same, where each function declaration may be called in front of where it stands
  pub called : List (ℕ × Bool)
  pub is_called : Bool
  -- classes whose body is around, and has elements that run with the class, each with its own name, which is there
  pub running : List (ℕ × String)
  -- the own name of the nearest class
  pub class_name : String

-- at an identifier with this name, and, for references and classes, of this node
pub record Mark : Type 0 where
  pub name : String
  pub node : List ℕ
  pub form : MarkForm
  pub around : Around

abbrev pub is_same : Bool → Bool → Bool
is_same true b = b
is_same false b = not b

-- ---- the marks of a program in the order of evaluation: an initialization stands behind its value

-- the parts of a node that may run or not, or again
abbrev pub is_held : Kind → Parts → ℕ → Bool
is_held Kind.LogicalExpression ps i = nat_eq i 2
is_held Kind.AssignmentExpression ps i = nat_eq i 2 && is_logical (string_of (at 0 ps))
is_held Kind.ConditionalExpression ps i = nat_le 1 i
is_held Kind.IfStatement ps i = nat_le 1 i
is_held Kind.SwitchStatement ps i = nat_eq i 1
is_held Kind.SwitchCase ps i = true
is_held Kind.TryStatement ps i = true
is_held Kind.LabeledStatement ps i = true
is_held Kind.ForStatement ps i = nat_le 1 i
is_held Kind.ForInStatement ps i = not (nat_eq i 1)
is_held Kind.ForOfStatement ps i = not (nat_eq i 1)
is_held Kind.AssignmentPattern ps i = nat_eq i 1
is_held Kind.AssignmentTargetWithDefault ps i = nat_eq i 1
is_held Kind.ChainExpression ps i = true
is_held Kind.ObjectPattern ps i = true
is_held Kind.ArrayPattern ps i = true
is_held Kind.ObjectAssignmentTarget ps i = true
is_held Kind.ArrayAssignmentTarget ps i = true
is_held kind ps i = is_loop kind || is_function kind

-- an arrow, unless it is new and called where it stands
abbrev pub is_held_arrow : ℕ → Around → Kind → ℕ → Bool
is_held_arrow first x kind m = is_arrow kind && not (is_new first m && x.is_called)

abbrev pub is_callee_of_call : Kind → ℕ → Bool
is_callee_of_call Kind.CallExpression i = nat_eq i 0
is_callee_of_call kind i = false

abbrev pub is_instance_value : Kind → Parts → ℕ → Bool
is_instance_value Kind.PropertyDefinition ps i = nat_eq i 1 && not (is_true (at 3 ps))
is_instance_value kind ps i = false

-- a function, an old arrow, the value of an instance field
abbrev pub runs_later : ℕ → Kind → ℕ → Parts → ℕ → Bool
runs_later first kind m ps i = is_function kind || ((is_arrow kind && not (is_new first m)) || is_instance_value kind ps i)

-- a function declaration may, but that of a generated name, which its class alone calls
abbrev pub is_hoisted : List LedgerEntry → Kind → Parts → Bool
is_hoisted ledger Kind.FunctionDeclaration ps = not (is_generated (spelling (at 0 ps)) ledger)
is_hoisted ledger kind ps = false

abbrev pub is_declared : Kind → Bool
is_declared Kind.FunctionDeclaration = true
is_declared kind = false

abbrev pub around_in : ℕ → List LedgerEntry → Around → Kind → ℕ → Parts → ℕ → Around
around_in first ledger x kind m ps i = record { class_name = cond (is_class kind) (spelling (at 0 ps)) x.class_name; running = cond (is_class kind && body_runs (at 2 ps)) ((m, spelling (at 0 ps)) ∷ x.running) x.running; is_called = is_callee_of_call kind i; held = cond (is_held kind ps i || (is_held_arrow first x kind m || is_instance_value kind ps i)) ((m, i) ∷ x.held) x.held; later = cond (runs_later first kind m ps i) ((m, is_hoisted ledger kind ps) ∷ x.later) x.later; called = cond (runs_later first kind m ps i) ((m, is_declared kind) ∷ x.called) x.called }

abbrev pub is_spelled : String → Bool
is_spelled [] = false
is_spelled (c ∷ cs) = true

-- the names that have to be given in front of class n
abbrev pub is_of_class : ℕ → Option PrivateMember → Bool
is_of_class n None = false
is_of_class n (Some x) = nat_eq n x.class

abbrev pub is_needed_by : ℕ → List PrivateMember → GeneratedKind → Bool
is_needed_by n members (GeneratedKind.WeakMap d) = is_of_class n (member_at d.0 members)
is_needed_by n members (GeneratedKind.Method d) = is_of_class n (member_at d.0 members)
is_needed_by n members (GeneratedKind.LooseKey d) = is_of_class n (member_at d.0 members)
is_needed_by n members (GeneratedKind.Brand k) = nat_eq n k.0
is_needed_by n members g = false

abbrev pub needed_names : ℕ → List PrivateMember → List LedgerEntry → List String
needed_names n members [] = []
needed_names n members (e ∷ es) = cond (is_needed_by n members e.kind) (e.name ∷ []) [] ++ needed_names n members es

-- what a class needs is given where it stands: also a function of a generated name may be called in front of it
abbrev pub uses_of : Around → List String → List Mark
uses_of x [] = []
uses_of x (s ∷ ss) = record { name = s; node = []; form = needs; around = record x { later = x.called } } ∷ uses_of x ss

-- such a name is given in front of each use, also of those that run later: what its class needs, and what is called
abbrev pub comes_first : Option GeneratedKind → Bool
comes_first (Some (GeneratedKind.WeakMap d)) = true
comes_first (Some (GeneratedKind.Brand n)) = true
comes_first (Some (GeneratedKind.LooseKey d)) = true
comes_first (Some (GeneratedKind.Method d)) = true
comes_first (Some (GeneratedKind.SuperFn n)) = true
comes_first (Some GeneratedKind.Closure) = true
comes_first g = false

abbrev pub use_form : Option GeneratedKind → MarkForm
use_form g = cond (comes_first g) needs uses

-- of these, what is called: also the function of a private method may be called in front of it
abbrev pub is_called_first : Option GeneratedKind → Bool
is_called_first (Some (GeneratedKind.SuperFn n)) = true
is_called_first (Some GeneratedKind.Closure) = true
is_called_first g = false

abbrev pub use_around : Option GeneratedKind → Around → Around
use_around g x = cond (is_called_first g) (record x { later = x.called }) x

-- the `let` declarations at the head of a list of statements
abbrev pub are_bare : Parts → Bool
are_bare end = true
are_bare (more (child (Node Kind.VariableDeclarator m span semantic_id ps)) rest) = not (is_present (at 1 ps)) && are_bare rest
are_bare (more p rest) = false

abbrev pub runs_nothing : Part → Bool
runs_nothing (child (Node Kind.FunctionDeclaration m span semantic_id ps)) = true
runs_nothing (child (Node Kind.ImportDeclaration m span semantic_id ps)) = true
runs_nothing (child (Node Kind.ExpressionStatement m span semantic_id (more e (more (string s) end)))) = true
runs_nothing (child (Node Kind.VariableDeclaration m span semantic_id ps)) = are_bare (items (at 1 ps))
runs_nothing p = false

abbrev pub let_number : Part → List ℕ
let_number (child (Node Kind.VariableDeclaration m span semantic_id ps)) = cond (is_let ps) (m ∷ []) []
let_number p = []

abbrev pub leading_in : Parts → List ℕ
leading_in end = []
leading_in (more p ps) = let_number p ++ cond (runs_nothing p) (leading_in ps) []

abbrev pub whole_list : Kind → Parts → Parts
whole_list Kind.SwitchCase ps = end
whole_list kind ps = statement_list kind ps

abbrev pub leading_lets : List Tree → List ℕ
leading_lets [] = []
leading_lets (Node kind m span semantic_id ps ∷ ts) = leading_in (whole_list kind ps) ++ leading_lets ts

-- an arrow that is called where it stands runs behind the arguments
abbrev pub is_called_arrow : Kind → Parts → Bool
is_called_arrow Kind.CallExpression (more (child (Node Kind.ArrowFunctionExpression m span semantic_id ps)) rest) = true
is_called_arrow kind ps = false

-- of the names and nodes that are asked for
module _ (first : ℕ) (ledger : List LedgerEntry) (members : List PrivateMember) (asked : String → List ℕ → Bool) (leading : List ℕ) where
  abbrev pub mark : Around → MarkForm → String → List ℕ → List Mark
  mark x form s ns = cond (asked s ns) (record { name = s; node = ns; form = form; around = x } ∷ []) []

  abbrev pub declared_mark : Around → Option MarkForm → Part → List Mark
  declared_mark x (Some form) id = mark x form (spelling id) []
  declared_mark x None id = []

  abbrev pub initialized_mark : Around → Part → Part → List Mark
  initialized_mark x id (child t) = mark x initializes (spelling id) []
  initialized_mark x id p = []

  -- in front of the marks of its parts, and behind them
  abbrev pub marks_before : Around → Kind → ℕ → Parts → List Mark
  marks_before x Kind.IdentifierReference m ps = mark (use_around (generated_as (string_of (at 0 ps)) ledger) x) (use_form (generated_as (string_of (at 0 ps)) ledger)) (string_of (at 0 ps)) (m ∷ [])
  marks_before x Kind.ClassDeclaration m ps = uses_of x (needed_names m members ledger)
  marks_before x Kind.ClassExpression m ps = uses_of x (needed_names m members ledger)
  marks_before x Kind.FunctionDeclaration m ps = mark x hoists (spelling (at 0 ps)) []
  marks_before x kind m ps = []

  abbrev pub marks_behind : Around → Option MarkForm → Kind → ℕ → Parts → List Mark
  marks_behind x in_let Kind.AssignmentExpression m ps = mark x initializes (spelling (at 1 ps)) []
  marks_behind x in_let Kind.VariableDeclarator m ps = declared_mark x in_let (at 0 ps) ++ initialized_mark x (at 0 ps) (at 1 ps)
  marks_behind x in_let Kind.ClassDeclaration m ps = mark x initializes [] (m ∷ [])
  marks_behind x in_let Kind.ClassExpression m ps = mark x initializes [] (m ∷ [])
  marks_behind x in_let kind m ps = []

  -- the name that an assignment gives a value is no use of it
  abbrev pub is_given : Kind → Parts → ℕ → Bool
  is_given Kind.AssignmentExpression ps i = nat_eq i 1 && (bytes_eq (string_of (at 0 ps)) (codes "=") && is_spelled (spelling (at 1 ps)))
  is_given kind ps i = false

  abbrev pub let_form : Kind → ℕ → Parts → Option MarkForm
  let_form Kind.VariableDeclaration m ps = cond (is_let ps) (Some (cond (has_number m leading) leads declares)) None
  let_form kind m ps = None

  -- an arrow that is called where it stands behind its arguments, and the keys of a class in front of its own name and its static elements
  abbrev mutual
    pub marks : Around → Option MarkForm → Tree → List Mark
    marks x in_let (Node kind m span semantic_id ps) = marks_before x kind m ps ++ marks_in (is_called_arrow kind ps) (is_class_body kind) (around_in first ledger x kind m ps) (is_given kind ps) (let_form kind m ps) ps ++ marks_behind x in_let kind m ps

    pub marks_in : Bool → Bool → (ℕ → Around) → (ℕ → Bool) → Option MarkForm → Parts → List Mark
    marks_in last is_body x given in_let end = []
    marks_in last is_body x given in_let (more p ps) =
        let own : List Mark = cond (given 0) [] (marks_at is_body (x 0) in_let p) in
        let rest : List Mark = marks_in false is_body (λ i. x (suc i)) (λ i. given (suc i)) in_let ps in
        cond last (rest ++ own) (own ++ rest)

    pub marks_at : Bool → Around → Option MarkForm → Part → List Mark
    marks_at is_body x in_let (child t) = marks x in_let t
    marks_at false x in_let (list ps) = marks_of x in_let ps
    marks_at true x in_let (list ps) = key_marks x ps ++ (mark x initializes x.class_name [] ++ (value_marks false x ps ++ value_marks true x ps))
    marks_at is_body x in_let p = []

    pub marks_of : Around → Option MarkForm → Parts → List Mark
    marks_of x in_let end = []
    marks_of x in_let (more p ps) = marks_at false x in_let p ++ marks_of x in_let ps

    pub key_marks : Around → Parts → List Mark
    key_marks x end = []
    key_marks x (more (child (Node kind m span semantic_id (more k ps))) es) = cond (is_element kind) (marks_at false (around_in first ledger x kind m (more k ps) 0) None k) [] ++ key_marks x es
    key_marks x (more p es) = key_marks x es

    -- of the elements that run with the class, or of the others, which those may call
    pub value_marks : Bool → Around → Parts → List Mark
    value_marks runs x end = []
    value_marks runs x (more (child (Node kind m span semantic_id (more k ps))) es) =
        cond (is_same runs (runs_with_class (child (Node kind m span semantic_id (more k ps)))))
        (cond (is_element kind) [] (marks_at false (around_in first ledger x kind m (more k ps) 0) None k) ++ marks_in false false (λ i. around_in first ledger x kind m (more k ps) (suc i)) (λ i. false) None ps)
        [] ++ value_marks runs x es
    value_marks runs x (more p es) = value_marks runs x es

-- ---- each stands in time

-- a function is around the one that is not around the other
abbrev pub is_around : ℕ → List (ℕ × Bool) → Bool
is_around f [] = false
is_around f (g ∷ gs) = nat_eq f g.0 || is_around f gs

abbrev pub is_later : List (ℕ × Bool) → List (ℕ × Bool) → Bool
is_later [] there = false
is_later (f ∷ fs) there = not (is_around f.0 there) || is_later fs there

-- whether the outermost such function is one that may be called in front of where it stands
abbrev pub is_called_early : List (ℕ × Bool) → List (ℕ × Bool) → Bool
is_called_early [] there = false
is_called_early (f ∷ fs) there = cond (is_later fs there) (is_called_early fs there) (not (is_around f.0 there) && f.1)

-- whether i is an initialization that m may rely on: what may run or not around it is around m too, and it stands in front,
-- or m runs later and does not need it in front, or it is hoisted
abbrev pub gives_by : MarkForm → Bool → Bool → Bool → Bool
gives_by initializes in_front later early = (in_front || later) && not early
gives_by hoists in_front later early = true
gives_by form in_front later early = false

abbrev pub is_needed : MarkForm → Bool
is_needed needs = true
is_needed form = false

abbrev pub gives_in_time : Bool → Mark → Mark → Bool
gives_in_time in_front m i = bytes_eq m.name i.name && (all_pairs_stand i.around.held m.around.held && gives_by i.form in_front (not (is_needed m.form) && is_later m.around.later i.around.later) (is_called_early m.around.later i.around.later))

abbrev pub any_gives : Bool → Mark → List Mark → Bool
any_gives in_front m [] = false
any_gives in_front m (i ∷ is) = gives_in_time in_front m i || any_gives in_front m is

-- a `let` behind: what stands in front may run, or be called, before it is there
abbrev pub is_declaration : MarkForm → Bool
is_declaration declares = true
is_declaration leads = true
is_declaration form = false

abbrev pub is_called_past : MarkForm → Bool
is_called_past declares = true
is_called_past form = false

abbrev pub is_dead : Mark → List Mark → Bool
is_dead m [] = false
is_dead m (d ∷ ds) = (bytes_eq m.name d.name && is_declaration d.form) || is_dead m ds

-- a `let` in front that may not have run, as in another case, or one in front of which the function around m may be called
abbrev pub is_skipped_by : Mark → Mark → Bool
is_skipped_by m d = (is_declaration d.form && not (all_pairs_stand d.around.held m.around.held)) || (is_called_past d.form && is_called_early m.around.called d.around.called)

abbrev pub is_skipped : Mark → List Mark → Bool
is_skipped m [] = false
is_skipped m (d ∷ ds) = (bytes_eq m.name d.name && is_skipped_by m d) || is_skipped m ds

abbrev pub is_followed : Option GeneratedKind → Bool
is_followed (Some GeneratedKind.Temp) = false
is_followed (Some GeneratedKind.Param) = false
is_followed (Some GeneratedKind.Args) = false
is_followed g = true

abbrev pub is_use : MarkForm → Bool
is_use uses = true
is_use needs = true
is_use form = false

module _ (ledger : List LedgerEntry) where
  -- a name of a class in the body of it that runs with the class, where it is not given yet
  abbrev pub is_running : ℕ → String → List (ℕ × String) → Bool
  is_running n s [] = false
  is_running n s (p ∷ ps) = (nat_eq n p.0 && not (bytes_eq s p.1)) || is_running n s ps

  abbrev pub is_early_by : List (ℕ × String) → String → Option GeneratedKind → Bool
  is_early_by running s (Some (GeneratedKind.ClassTemp n)) = is_running n.0 s running
  is_early_by running s g = false

  abbrev pub is_early : Mark → Bool
  is_early m = is_use m.form && is_early_by m.around.running m.name (generated_as m.name ledger)

  abbrev pub asks : Mark → Bool
  asks m = is_use m.form && is_followed (generated_as m.name ledger)

  -- the marks in front, the nearest first, and those from here on
  abbrev pub in_time : List Mark → List Mark → Bool
  in_time front [] = true
  in_time front (m ∷ ms) = not (is_early m || (is_dead m ms || is_skipped m front)) && ((not (asks m) || (any_gives true m front || any_gives false m ms)) && in_time (m ∷ front) ms)

abbrev pub nowhere : Around
nowhere = record { held = []; later = []; called = []; is_called = false; running = []; class_name = [] }

abbrev pub is_named : List LedgerEntry → String → List ℕ → Bool
is_named ledger s ns = is_generated s ledger

-- ---- the function of a private method, which stands behind the statement of its class, is called by its class alone: what may run
-- or not around the class is around what stands in it, too

abbrev pub method_name : ℕ → String → Option GeneratedKind → List (ℕ × String)
method_name m s (Some (GeneratedKind.Method d)) = (m, s) ∷ []
method_name m s g = []

abbrev pub declared_methods : List LedgerEntry → List Tree → List (ℕ × String)
declared_methods ledger [] = []
declared_methods ledger (Node Kind.FunctionDeclaration m span semantic_id ps ∷ ts) = method_name m (spelling (at 0 ps)) (generated_as (spelling (at 0 ps)) ledger) ++ declared_methods ledger ts
declared_methods ledger (t ∷ ts) = declared_methods ledger ts

abbrev pub is_of_no_node : List ℕ → Bool
is_of_no_node [] = true
is_of_no_node (n ∷ ns) = false

-- around the class that needs this name
abbrev pub held_of : String → List Mark → List (ℕ × ℕ)
held_of s [] = []
held_of s (m ∷ ms) = cond (bytes_eq s m.name && (is_needed m.form && is_of_no_node m.node)) m.around.held (held_of s ms)

abbrev pub held_by : List Mark → List (ℕ × Bool) → List (ℕ × String) → List (ℕ × ℕ)
held_by ms later [] = []
held_by ms later (f ∷ fs) = cond (is_around f.0 later) (held_of f.1 ms) [] ++ held_by ms later fs

abbrev pub with_class : List (ℕ × String) → List Mark → Mark → Mark
with_class fs ms m = record m { around = record m.around { held = held_by ms m.around.later fs ++ m.around.held } }

-- ---- a function for `super(..)` is called by the constructor of its class alone, in front of which stands what the class needs

abbrev pub super_function : Option GeneratedKind → Part → List (ℕ × ℕ)
super_function (Some (GeneratedKind.SuperFn n)) (child t) = (number_of t, n.0) ∷ []
super_function g p = []

abbrev pub super_functions : List LedgerEntry → List Tree → List (ℕ × ℕ)
super_functions ledger [] = []
super_functions ledger (Node Kind.VariableDeclarator m span semantic_id ps ∷ ts) = super_function (generated_as (spelling (at 0 ps)) ledger) (at 1 ps) ++ super_functions ledger ts
super_functions ledger (Node Kind.AssignmentExpression m span semantic_id ps ∷ ts) = super_function (generated_as (spelling (at 1 ps)) ledger) (at 2 ps) ++ super_functions ledger ts
super_functions ledger (t ∷ ts) = super_functions ledger ts

abbrev pub is_given_with : List LedgerEntry → List PrivateMember → Mark → List (ℕ × ℕ) → Bool
is_given_with ledger members m [] = false
is_given_with ledger members m (f ∷ fs) = (is_around f.0 m.around.later && is_among m.name (needed_names f.1 members ledger)) || is_given_with ledger members m fs

abbrev pub with_super : List LedgerEntry → List PrivateMember → List (ℕ × ℕ) → Mark → Mark
with_super ledger members fs m = cond (is_needed m.form && is_given_with ledger members m fs) (record m { form = uses }) m

abbrev pub names_timely : ℕ → List LedgerEntry → List PrivateMember → Tree → Bool
names_timely first ledger members q =
    let ms : List Mark = marks first ledger members (is_named ledger) (leading_lets (preorder q)) nowhere None q in
    in_time ledger [] (map (λ m. with_super ledger members (super_functions ledger (preorder q)) (with_class (declared_methods ledger (preorder q)) ms m)) ms)
