-- A temporary holds one value wherever it is read. (Our own. That no other evaluation of the same class, function or
-- construction comes between, where a temporary stands outside of it, is a premise: docs/MEANING.md.)
use Rattle.std.specs.Prelude.{ℕ, suc, List, [], ◌∷◌, ◌++◌, Bool, true, false, cond, not, ◌&&◌, ◌||◌, nat_eq, bytes_eq, Option, Some, None}
use Rattle.es_base.specs.Numbered.{is_new}
use Rattle.es_base.specs.Preorder.{number_of, preorder, preorder_of}
use Rattle.es_base.specs.Table.{Field, members_of}
use Rattle.es_base.specs.Tree.{Tree, Part, Parts, Node, end, more, child, list}
use Rattle.es_base.specs.declared.kind.Kind.{Kind}
use Rattle.es_base.specs.declared.ledger.GeneratedKind.{GeneratedKind}
use Rattle.es_base.specs.declared.ledger.LedgerEntry.{LedgerEntry}
use Rattle.es_steps.specs.Parts.{at, string_of, is_present}
use Rattle.es_steps.specs.References.{is_target}
use Rattle.es_steps.specs.KeptNodes.{pair_stands}
use Rattle.es_steps.specs.Printable.{name_of_part}
use Rattle.es_steps.specs.PrivateNames.{PrivateMember, member_at, is_class}
use Rattle.es_steps.specs.Repeated.{Surroundings, surroundings_in, around_program, all_places}
use Rattle.es_steps.specs.Scopes.{binds, is_body_part}
use Rattle.es_steps.specs.Values.{String}

-- Where a name is declared, given a value, or read: in which part that is evaluated again (specs/Repeated.antt); in which
-- function declaration, which may be called in front of where it stands; and in which body.
pub record Touch : Type 0 where
  pub name : String
  pub declares : Bool
  pub gives : Bool
  -- as the name of a function declaration
  pub hoists : Bool
  pub place : ℕ
  pub declaration : ℕ
  pub home : ℕ

pub record Spot : Type 0 where
  pub around : Surroundings
  pub is_function_name : Bool
  pub declaration : ℕ
  pub home : ℕ

abbrev pub touch : String → Bool → Bool → Spot → List Touch
touch s declares gives x = record { name = s; declares = declares; gives = gives; hoists = x.is_function_name; place = x.around.place; declaration = x.declaration; home = x.home } ∷ []

-- a reference reads, but where something is assigned to; an identifier that declares is given a value, but that of a
-- declarator without one
abbrev pub touch_of : Bool → Spot → Kind → Parts → List Touch
touch_of gives x Kind.IdentifierReference ps = touch (string_of (at 0 ps)) false gives x
touch_of gives x Kind.BindingIdentifier ps = touch (string_of (at 0 ps)) true gives x
touch_of gives x kind ps = []

abbrev pub is_bare : Kind → Parts → Bool
is_bare Kind.VariableDeclarator ps = not (is_present (at 1 ps))
is_bare kind ps = false

abbrev pub is_name_of_function : Kind → ℕ → Bool
is_name_of_function Kind.FunctionDeclaration i = nat_eq i 0
is_name_of_function kind i = false

abbrev pub declaration_in : Kind → ℕ → ℕ → ℕ
declaration_in Kind.FunctionDeclaration m declaration = m
declaration_in kind m declaration = declaration

-- A body is one of statements, of a function of the source that is no constructor. What stands in parameters, in a field, or
-- in the expression that is a body may have its names declared around, where a list of statements is.
abbrev pub is_block : Part → Bool
is_block (child (Node Kind.BlockStatement m span semantic_id ps)) = true
is_block p = false

abbrev pub is_of_class : Option ℕ → Bool
is_of_class None = false
is_of_class (Some n) = true

abbrev pub home_in : ℕ → Spot → Kind → ℕ → Parts → ℕ → ℕ
home_in first x kind m ps i = cond (is_body_part kind i && (is_block (at i ps) && not (is_new first m || is_of_class x.around.constructs))) m x.home

module _ (first : ℕ) (ledger : List LedgerEntry) where
  abbrev pub spot_in : Spot → Kind → ℕ → Parts → ℕ → Spot
  spot_in x kind m ps i = record { around = surroundings_in first ledger x.around kind m ps i; is_function_name = is_name_of_function kind i; declaration = declaration_in kind m x.declaration; home = home_in first x kind m ps i }

  abbrev mutual
    pub touches : Spot → Bool → Tree → List Touch
    touches x gives (Node kind m span semantic_id ps) = touch_of gives x kind ps ++ touches_in (spot_in x kind m ps) (is_bare kind ps) (members_of kind) ps

    pub touches_in : (ℕ → Spot) → Bool → List Field → Parts → List Touch
    touches_in x bare fs end = []
    touches_in x bare [] (more p ps) = []
    touches_in x bare (f ∷ fs) (more p ps) = touches_at (x 0) (is_target f.sort || (binds f.sort && not bare)) p ++ touches_in (λ i. x (suc i)) bare fs ps

    pub touches_at : Spot → Bool → Part → List Touch
    touches_at x gives (child t) = touches x gives t
    touches_at x gives (list ps) = touches_of x gives ps
    touches_at x gives p = []

    pub touches_of : Spot → Bool → Parts → List Touch
    touches_of x gives end = []
    touches_of x gives (more p ps) = touches_at x gives p ++ touches_of x gives ps

  abbrev pub all_touches : Tree → List Touch
  all_touches t = touches (record { around = around_program t; is_function_name = false; declaration = number_of t; home = number_of t }) false t

-- ---- those of one name

abbrev pub chosen : (Touch → Bool) → String → List Touch → List Touch
chosen test s [] = []
chosen test s (t ∷ ts) = cond (test t && bytes_eq s t.name) (t ∷ []) [] ++ chosen test s ts

abbrev pub all_touched : (Touch → Bool) → List Touch → Bool
all_touched test [] = true
all_touched test (t ∷ ts) = test t && all_touched test ts

abbrev pub is_none : List Touch → Bool
is_none [] = true
is_none (t ∷ ts) = false

abbrev pub declarations_of : String → List Touch → List Touch
declarations_of s ts = chosen (λ t. t.declares) s ts

abbrev pub gifts_of : String → List Touch → List Touch
gifts_of s ts = chosen (λ t. t.gives) s ts

abbrev pub reads_of : String → List Touch → List Touch
reads_of s ts = chosen (λ t. not (t.declares || t.gives)) s ts

-- a temporary is given at one place, and read there; or it is given once, and read in no function declaration around
abbrev pub is_steady : List Touch → List Touch → Bool
is_steady [] reads = true
is_steady (g ∷ gs) reads = all_touched (λ t. nat_eq g.place t.place) gs && (all_touched (λ t. nat_eq g.place t.place) reads || (is_none gs && all_touched (λ t. nat_eq g.declaration t.declaration) reads))

abbrev pub is_at_most_one : List Touch → Bool
is_at_most_one [] = true
is_at_most_one (t ∷ ts) = is_none ts

-- a parameter that stands for an argument is read where its arrow is called, and once at most
abbrev pub is_at_call : List Touch → List Touch → Bool
is_at_call [] reads = true
is_at_call (g ∷ gs) reads = is_none gs && (all_touched (λ t. nat_eq g.place t.place) reads && is_at_most_one reads)

-- a name is declared in the body in which it is given
abbrev pub is_near : List Touch → List Touch → Bool
is_near [] gifts = true
is_near (d ∷ ds) gifts = all_touched (λ t. nat_eq d.home t.home) gifts && is_near ds gifts

-- ---- what a class needs is given as often as the class is evaluated

abbrev pub class_of_member : Option PrivateMember → List ℕ
class_of_member None = []
class_of_member (Some x) = x.class ∷ []

-- the class in front of which a name of this kind is initialized, but for a function that is declared, which is there from
-- the head of its list on
abbrev pub class_before : GeneratedKind → List PrivateMember → List ℕ
class_before (GeneratedKind.WeakMap d) members = class_of_member (member_at d.0 members)
class_before (GeneratedKind.Method d) members = class_of_member (member_at d.0 members)
class_before (GeneratedKind.LooseKey d) members = class_of_member (member_at d.0 members)
class_before (GeneratedKind.Brand n) members = n.0 ∷ []
class_before g members = []

abbrev pub stands_with : List (ℕ × ℕ) → List ℕ → Touch → Bool
stands_with places [] t = true
stands_with places (n ∷ ns) t = t.hoists || pair_stands (n, t.place) places

-- in the construction of its class, or with the class
abbrev pub constructs_with : List (ℕ × ℕ) → ℕ → Touch → Bool
constructs_with places n t = nat_eq n t.place || pair_stands (n, t.place) places

abbrev pub is_given_with : List Touch → List Touch → Bool
is_given_with [] reads = true
is_given_with (g ∷ gs) reads = all_touched (λ t. nat_eq g.place t.place) reads

abbrev pub is_steady_name : List (ℕ × ℕ) → List PrivateMember → GeneratedKind → String → List Touch → Bool
is_steady_name places members GeneratedKind.Temp s ts = is_steady (gifts_of s ts) (reads_of s ts)
is_steady_name places members GeneratedKind.Param s ts = is_at_call (gifts_of s ts) (reads_of s ts)
-- a closure is called once: nothing says what stands in one that nothing calls, and what has no event, as a new `WeakMap`, would be
-- made again
is_steady_name places members GeneratedKind.Closure s ts = is_given_with (gifts_of s ts) (reads_of s ts) && (not (is_none (reads_of s ts)) && is_at_most_one (reads_of s ts))
is_steady_name places members (GeneratedKind.SuperFn n) s ts = all_touched (constructs_with places n.0) (gifts_of s ts)
is_steady_name places members kind s ts = all_touched (stands_with places (class_before kind members)) (gifts_of s ts)

abbrev pub all_steady : List (ℕ × ℕ) → List PrivateMember → List LedgerEntry → List Touch → Bool
all_steady places members [] ts = true
all_steady places members (e ∷ es) ts = (is_steady_name places members e.kind e.name ts && is_near (declarations_of e.name ts) (gifts_of e.name ts)) && all_steady places members es ts

-- ---- a private element that was generated is not read in its class where a class around has one of its name: it may not be there
-- yet, and what that of the class around holds is no value of it

abbrev pub nodes_of_class : ℕ → List Tree → List Tree
nodes_of_class n [] = []
nodes_of_class n (Node kind m span semantic_id ps ∷ ts) = cond (is_class kind && nat_eq n m) (preorder_of ps) [] ++ nodes_of_class n ts

abbrev pub holds_class : ℕ → List Tree → Bool
holds_class n [] = false
holds_class n (Node kind m span semantic_id ps ∷ ts) = (is_class kind && nat_eq n m) || holds_class n ts

abbrev pub reads_private : String → List Tree → Bool
reads_private s [] = false
reads_private s (Node Kind.PrivateField m span semantic_id ps ∷ ts) = bytes_eq s (name_of_part (at 1 ps)) || reads_private s ts
reads_private s (t ∷ ts) = reads_private s ts

-- qs are the nodes of the lowered program
module _ (qs : List Tree) where
  abbrev pub is_around : ℕ → GeneratedKind → Bool
  is_around n (GeneratedKind.Private k) = holds_class n (nodes_of_class k.0 qs)
  is_around n g = false

  abbrev pub has_name_around : ℕ → String → List LedgerEntry → Bool
  has_name_around n s [] = false
  has_name_around n s (e ∷ es) = (bytes_eq s e.name && is_around n e.kind) || has_name_around n s es

  abbrev pub is_apart : List LedgerEntry → String → GeneratedKind → Bool
  is_apart ledger s (GeneratedKind.Private n) = not (has_name_around n.0 s ledger && reads_private s (nodes_of_class n.0 qs))
  is_apart ledger s g = true

  abbrev pub all_apart : List LedgerEntry → List LedgerEntry → Bool
  all_apart ledger [] = true
  all_apart ledger (e ∷ es) = is_apart ledger e.name e.kind && all_apart ledger es

-- places are those of the classes
abbrev pub temporaries_steady : ℕ → List LedgerEntry → List PrivateMember → Tree → Bool
temporaries_steady first ledger members q = all_steady (all_places first ledger [] q) members ledger (all_touches first ledger q) && all_apart (preorder q) ledger ledger
