-- Private names: those that a class body declares again, but for one getter and one setter, and those that no class body
-- around declares. (ECMA-262, 15.7.1, 16.1.1)
use Rattle.std.specs.Prelude.{ℕ, ◌+◌, List, [], ◌∷◌, ◌++◌, map, Bool, true, false, cond, not, ◌&&◌, ◌||◌, nat_eq}
use Rattle.es_base.specs.Conforms.{is_among}
use Rattle.es_base.specs.Tree.{Tree, Part, Parts, Node, end, more, child, list}
use Rattle.es_base.specs.declared.kind.Kind.{Kind}
use Rattle.es_steps.specs.Parts.{at, string_of}
use Rattle.es_steps.specs.PrivateNames.{PrivateKind, a_getter, a_setter, PrivateMember, body_members, is_class, is_private_identifier, is_element}
use Rattle.es_steps.specs.Values.{String}
use Rattle.es_validity.specs.Faults.{FaultAt, fault_at}
use Rattle.es_validity.specs.declared.fault.Cause.{Cause}

-- ---- what a class declares: which class it is does not matter here

abbrev pub members_in : Kind → Parts → List PrivateMember
members_in kind ps = cond (is_class kind) (body_members 0 (at 2 ps)) []

abbrev pub spellings : List PrivateMember → List String
spellings [] = []
spellings (x ∷ xs) = x.spelling ∷ spellings xs

-- ---- what it declares again

abbrev pub is_pair : PrivateKind → PrivateKind → Bool
is_pair a_getter a_setter = true
is_pair a_setter a_getter = true
is_pair kind other = false

abbrev pub same : Bool → Bool → Bool
same true b = b
same false b = not b

-- whether a member of this kind, static or not, completes this one to a getter and a setter
abbrev pub completes : PrivateKind → Bool → PrivateMember → Bool
completes kind is_static y = is_pair kind y.kind && same is_static y.is_static

-- the names that a member of this kind, static or not, may not have beside these
abbrev pub taken_for : PrivateKind → Bool → List PrivateMember → List String
taken_for kind is_static [] = []
taken_for kind is_static (y ∷ ys) = cond (completes kind is_static y) [] (y.spelling ∷ []) ++ taken_for kind is_static ys

abbrev pub is_duplicate : List PrivateMember → PrivateMember → Bool
is_duplicate earlier x = is_among x.spelling (taken_for x.kind x.is_static earlier)

-- the keys of members behind these
abbrev pub duplicates : List PrivateMember → List PrivateMember → List ℕ
duplicates earlier [] = []
duplicates earlier (x ∷ xs) = cond (is_duplicate earlier x) (x.number ∷ []) [] ++ duplicates (x ∷ earlier) xs

-- ---- all faults of private names in a tree, where these names are declared around

-- the names that are declared around the i-th part of a node: those of a class in its body alone
abbrev pub names_inside : List String → Kind → Parts → ℕ → List String
names_inside names kind ps i = cond (nat_eq i 2) (spellings (members_in kind ps)) [] ++ names

-- the same, where it is known which names are seen in the body
abbrev pub seen_by : List String → List String → ℕ → List String
seen_by inner names i = cond (nat_eq i 2) inner names

-- the key of an element declares, and is no use
abbrev pub declares_at : Kind → ℕ → Bool
declares_at kind i = is_element kind && nat_eq i 0

abbrev pub undeclared : List String → Bool → Kind → ℕ → Parts → List FaultAt
undeclared names declares kind m ps = cond (is_private_identifier kind && not (declares || is_among (string_of (at 0 ps)) names)) (fault_at Cause.UndeclaredPrivate m ∷ []) []

abbrev mutual
  pub private_faults : List String → Bool → Tree → List FaultAt
  private_faults names declares (Node kind m span semantic_id ps) =
      undeclared names declares kind m ps
      ++ (map (fault_at Cause.DuplicatePrivate) (duplicates [] (members_in kind ps)) ++ private_faults_from (names_inside names kind ps) (declares_at kind) 0 ps)

  -- of the parts from the i-th on
  pub private_faults_from : (ℕ → List String) → (ℕ → Bool) → ℕ → Parts → List FaultAt
  private_faults_from names declares i end = []
  private_faults_from names declares i (more p ps) = private_part_faults (names i) (declares i) p ++ private_faults_from names declares (i + 1) ps

  pub private_part_faults : List String → Bool → Part → List FaultAt
  private_part_faults names declares (child t) = private_faults names declares t
  private_part_faults names declares (list ps) = private_item_faults names ps
  private_part_faults names declares p = []

  pub private_item_faults : List String → Parts → List FaultAt
  private_item_faults names end = []
  private_item_faults names (more p ps) = private_part_faults names false p ++ private_item_faults names ps
