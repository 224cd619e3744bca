-- Private names: what the classes of a program declare, and which class each use of one means. (ECMA-262, 9.2:
-- private environments; a use means the nearest class body around it that declares its spelling.)
use Rattle.std.specs.Prelude.{ℕ, suc, List, [], ◌∷◌, ◌++◌, Bool, true, false, cond, bytes_eq, nat_eq, ◌&&◌, codes, Option, Some, None}
use Rattle.es_base.specs.Preorder.{preorder}
use Rattle.es_base.specs.Tree.{Tree, Part, Parts, Node, end, more, child, list}
use Rattle.es_base.specs.declared.kind.Kind.{Kind}
use Rattle.es_steps.specs.Parts.{at, items, string_of, is_true}
use Rattle.es_steps.specs.Values.{String, PrivateTest, HasField, HasBrand, IsClass}

-- ---- the private members of a program

pub data PrivateKind : Type 0 where
  a_field : PrivateKind
  a_method : PrivateKind
  a_getter : PrivateKind
  a_setter : PrivateKind

-- the number is that of the key, which declares it
pub record PrivateMember : Type 0 where
  pub number : ℕ
  pub spelling : String
  pub class : ℕ
  pub is_static : Bool
  pub kind : PrivateKind

abbrev pub member : ℕ → String → ℕ → Bool → PrivateKind → PrivateMember
member d s n is_static kind = record { number = d; spelling = s; class = n; is_static = is_static; kind = kind }

abbrev pub method_kind : String → PrivateKind
method_kind s = cond (bytes_eq s (codes "get")) a_getter (cond (bytes_eq s (codes "set")) a_setter a_method)

-- an element of class n whose key is a private name declares a member
abbrev pub keyed_member : ℕ → Bool → PrivateKind → Part → List PrivateMember
keyed_member n is_static kind (child (Node Kind.PrivateIdentifier d span semantic_id ps)) = member d (string_of (at 0 ps)) n is_static kind ∷ []
keyed_member n is_static kind p = []

abbrev pub element_members : ℕ → Part → List PrivateMember
element_members n (child (Node Kind.PropertyDefinition m span semantic_id ps)) = keyed_member n (is_true (at 3 ps)) a_field (at 0 ps)
element_members n (child (Node Kind.MethodDefinition m span semantic_id ps)) = keyed_member n (is_true (at 4 ps)) (method_kind (string_of (at 2 ps))) (at 0 ps)
element_members n p = []

abbrev pub elements_members : ℕ → Parts → List PrivateMember
elements_members n end = []
elements_members n (more p ps) = element_members n p ++ elements_members n ps

-- those of the body of class n
abbrev pub body_members : ℕ → Part → List PrivateMember
body_members n (child (Node Kind.ClassBody m span semantic_id ps)) = elements_members n (items (at 0 ps))
body_members n p = []

abbrev pub is_class : Kind → Bool
is_class Kind.ClassDeclaration = true
is_class Kind.ClassExpression = true
is_class kind = false

-- those that a node declares for what is in it, and those that are seen in its i-th part: in the body of a class alone
abbrev pub members_at : Kind → ℕ → Parts → List PrivateMember
members_at kind m ps = cond (is_class kind) (body_members m (at 2 ps)) []

abbrev pub seen_members : Kind → ℕ → Parts → ℕ → List PrivateMember
seen_members kind m ps i = cond (nat_eq i 2) (members_at kind m ps) []

abbrev pub members_of_all : List Tree → List PrivateMember
members_of_all [] = []
members_of_all (Node kind m span semantic_id ps ∷ ts) = members_at kind m ps ++ members_of_all ts

abbrev pub private_members : Tree → List PrivateMember
private_members t = members_of_all (preorder t)

-- the member that the key d declares
abbrev pub member_at : ℕ → List PrivateMember → Option PrivateMember
member_at d [] = None
member_at d (x ∷ xs) = cond (nat_eq d x.number) (Some x) (member_at d xs)

-- ---- what a private name means: the keys that declare what reading and writing it do, if anything does

pub record PrivateReference : Type 0 where
  pub class : ℕ
  pub is_static : Bool
  pub is_field : Bool
  pub reads : Option ℕ
  pub writes : Option ℕ

abbrev pub is_read : PrivateKind → Bool
is_read a_setter = false
is_read kind = true

abbrev pub is_written : PrivateKind → Bool
is_written a_field = true
is_written a_setter = true
is_written kind = false

abbrev pub is_a_field : PrivateKind → Bool
is_a_field a_field = true
is_a_field kind = false

abbrev pub first_number : (PrivateKind → Bool) → String → ℕ → List PrivateMember → Option ℕ
first_number side s n [] = None
first_number side s n (x ∷ xs) = cond (side x.kind && (nat_eq n x.class && bytes_eq s x.spelling)) (Some x.number) (first_number side s n xs)

-- the nearest member of this spelling
abbrev pub declared_member : String → List PrivateMember → Option PrivateMember
declared_member s [] = None
declared_member s (x ∷ xs) = cond (bytes_eq s x.spelling) (Some x) (declared_member s xs)

abbrev pub reference_to : String → List PrivateMember → Option PrivateMember → Option PrivateReference
reference_to s seen None = None
reference_to s seen (Some x) = Some (record { class = x.class; is_static = x.is_static; is_field = is_a_field x.kind; reads = first_number is_read s x.class seen; writes = first_number is_written s x.class seen })

-- what a private name means where these members are seen, the nearest first
abbrev pub private_reference : String → List PrivateMember → Option PrivateReference
private_reference s seen = reference_to s seen (declared_member s seen)

abbrev pub one_side : Bool → ℕ → Option ℕ
one_side true d = Some d
one_side false d = None

-- the reading and the writing of one member by itself
abbrev pub reference_of : PrivateMember → PrivateReference
reference_of x = record { class = x.class; is_static = x.is_static; is_field = is_a_field x.kind; reads = one_side (is_read x.kind) x.number; writes = one_side (is_written x.kind) x.number }

abbrev pub field_test : PrivateReference → Option ℕ → PrivateTest
field_test r (Some d) = HasField d
field_test r None = HasBrand r.class

-- what `#x in o` asks
abbrev pub test_of : PrivateReference → PrivateTest
test_of r = cond r.is_static (IsClass r.class) (cond r.is_field (field_test r r.reads) (HasBrand r.class))

-- ---- which class each use of a private name means

pub record PrivateUse : Type 0 where
  pub number : ℕ
  pub spelling : String
  -- none where no class around declares it
  pub class : Option ℕ

abbrev pub used : ℕ → String → Option ℕ → PrivateUse
used m s class = record { number = m; spelling = s; class = class }

abbrev pub class_of : Option PrivateMember → Option ℕ
class_of None = None
class_of (Some x) = Some x.class

abbrev pub is_private_identifier : Kind → Bool
is_private_identifier Kind.PrivateIdentifier = true
is_private_identifier kind = false

-- the key of an element declares, and is no use
abbrev pub is_element : Kind → Bool
is_element Kind.MethodDefinition = true
is_element Kind.PropertyDefinition = true
is_element kind = false

-- the uses in a tree in preorder, where these private members are seen, the nearest first
abbrev mutual
  pub private_uses : List PrivateMember → Bool → Tree → List PrivateUse
  private_uses seen declares (Node kind m span semantic_id ps) = cond (is_private_identifier kind) (cond declares [] (used m (string_of (at 0 ps)) (class_of (declared_member (string_of (at 0 ps)) seen)) ∷ [])) (uses_in (λ i. seen_members kind m ps i ++ seen) (is_element kind) ps)

  -- of parts, the first of which declares or not
  pub uses_in : (ℕ → List PrivateMember) → Bool → Parts → List PrivateUse
  uses_in seen declares end = []
  uses_in seen declares (more p ps) = part_uses (seen 0) declares p ++ uses_in (λ i. seen (suc i)) false ps

  pub part_uses : List PrivateMember → Bool → Part → List PrivateUse
  part_uses seen declares (child t) = private_uses seen declares t
  part_uses seen declares (list ps) = item_uses seen ps
  part_uses seen declares p = []

  pub item_uses : List PrivateMember → Parts → List PrivateUse
  item_uses seen end = []
  item_uses seen (more p ps) = part_uses seen false p ++ item_uses seen ps

abbrev pub resolve_privates : Tree → List PrivateUse
resolve_privates t = private_uses [] false t
