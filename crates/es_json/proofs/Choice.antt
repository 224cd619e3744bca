-- Reading takes a written node for its own kind.
use Rattle.std.proofs.Common.{◌≡◌, refl, sym, ap, ap₂, ◌∙◌, subst, ℕ, List, [], ◌∷◌, Bool, true, false, not, Option, Some, None, Result, Ok, if◌then◌else◌}
use Rattle.std.specs.Prelude.{◌&&◌, ◌||◌, codes, option_and_then}
use Rattle.std.specs.Str.{encode_utf8_all}
use Rattle.std.proofs.lemmas.Bool.{and_parts, and_from, and_left, and_right, true≢false}
use Rattle.serde_json.specs.Data.{Data, string as json_string}
use Rattle.serde_json.specs.Find.{get, as_str}
use Rattle.es_base.specs.Tree.{Parts, end, more, string, literal}
use Rattle.es_base.specs.Conforms.{parts_conform, place_rule, is_foreign_name, is_target_place, boolean_at, is_key_literal}
use Rattle.es_base.specs.Table.{members_of, name_of, stands_in, kinds}
use Rattle.es_base.specs.declared.kind.Kind.{Kind}
use Rattle.es_base.specs.declared.table.Place.{Place}
use Rattle.es_base.specs.declared.table.Sort.{Sort}
use Rattle.es_base.specs.declared.table.Words.{Words}
use Rattle.es_reading.specs.Kinds.{is_named, suits, may_stand, may_be_target, may_be_literal, may_be_reference, may_be_name, has_private_property, is_private_in, kind_among, kind_in}
use Rattle.es_reading.specs.Literals.{form_in, may_be_key}
use Rattle.es_reading.specs.Look.{is_node_at, is_string_at}
use Rattle.es_reading.specs.Reading.{kind_by, kind_of, told}
use Rattle.es_reading.specs.declared.fault.What.{What}
use Rattle.es_reading.specs.declared.spot.Spot.{Spot}
use Rattle.es_writing.specs.Writing.{type_of}
use Rattle.es_writing.specs.Kept.{IsString, AreKept}
use Rattle.es_json.specs.Suits.{kind_suits}
use Rattle.es_json.proofs.Parts.{member_at, boolean_found, never_found, private_child, expression_child, property_child, in_word}
use Rattle.es_json.proofs.Stands.{AllStand, key_form}
use Rattle.es_json.proofs.Strings.{is_foreign, foreign_apart}
use Rattle.es_json.proofs.Tests.{not_first}

-- ---- the first kind of a name that may stand at the spot

abbrev if_named : Bool → Kind → Option Kind → Option Kind
if_named true j rest = Some j
if_named false j rest = rest

abbrev first_of : List ℕ → List Kind → Option Kind
first_of name [] = None
first_of name (j ∷ ks) = if_named (is_named name j) j (first_of name ks)

abbrev step : Bool → Bool → Kind → Result Kind What → Result Kind What → Result Kind What
step named stands j other rest = if named then (if stands then Ok j else other) else rest

first_step : (named : Bool) (spot : Spot) (d : Data) (j k : Kind) (found : Option Kind) (other rest : Result Kind What) → if_named named j found ≡ Some k → may_stand spot d k ≡ true → (found ≡ Some k → rest ≡ Ok k) → step named (may_stand spot d j) j other rest ≡ Ok k
first_step true spot d j k found other rest first m later = let same : j ≡ k = cc in ap (λ b. if b then Ok j else other) (ap (may_stand spot d) same ∙ m) ∙ ap Ok same
first_step false spot d j k found other rest first m later = later first

first_among : (name : List ℕ) (spot : Spot) (d : Data) (known : Bool) (k : Kind) (ks : List Kind) → first_of name ks ≡ Some k → may_stand spot d k ≡ true → kind_among name spot d known ks ≡ Ok k
first_among name spot d known k [] first m = cc
first_among name spot d known k (j ∷ ks) first m =
    first_step (is_named name j) spot d j k (first_of name ks) (kind_among name spot d true ks) (kind_among name spot d known ks) first m (λ later. first_among name spot d known k ks later m)

-- the kinds whose name no earlier kind has
abbrev is_first : Kind → Bool
is_first Kind.BindingIdentifier = false
is_first Kind.IdentifierName = false
is_first Kind.PrivateField = false
is_first Kind.PrivateIn = false
is_first Kind.BindingProperty = false
is_first Kind.AssignmentTargetProperty = false
is_first Kind.ObjectAssignmentTarget = false
is_first Kind.ArrayAssignmentTarget = false
is_first Kind.AssignmentTargetWithDefault = false
is_first Kind.AssignmentTargetRest = false
is_first Kind.Foreign = false
is_first kind = true

first_kind : (k : Kind) → is_first k ≡ true → first_of (name_of k) kinds ≡ Some k
first_kind Kind.BindingIdentifier f = cc
first_kind Kind.IdentifierName f = cc
first_kind Kind.PrivateField f = cc
first_kind Kind.PrivateIn f = cc
first_kind Kind.BindingProperty f = cc
first_kind Kind.AssignmentTargetProperty f = cc
first_kind Kind.ObjectAssignmentTarget f = cc
first_kind Kind.ArrayAssignmentTarget f = cc
first_kind Kind.AssignmentTargetWithDefault f = cc
first_kind Kind.AssignmentTargetRest f = cc
first_kind Kind.Foreign f = cc
first_kind _ f = refl

-- ---- kinds of one name

second : {X : Type 0} (a b : Bool) (x y z : X) → a ≡ false → b ≡ true → (if a then x else (if b then y else z)) ≡ y
second true b x y z e f = cc
second false true x y z e f = refl
second false false x y z e f = cc

third : {X : Type 0} (a b c : Bool) (w x y z : X) → a ≡ false → b ≡ false → c ≡ true → (if a then w else (if b then x else (if c then y else z))) ≡ y
third true b c w x y z e f g = cc
third false b c w x y z e f g = second b c x y z f g

binding_apart : (p : Place) → (stands_in p Kind.IdentifierReference && stands_in p Kind.BindingIdentifier) ≡ false
binding_apart Place.Program = refl
binding_apart _ = refl

name_apart : (p : Place) → (stands_in p Kind.BindingIdentifier && stands_in p Kind.IdentifierName) ≡ false
name_apart Place.Program = refl
name_apart _ = refl

property_apart : (p : Place) → (stands_in p Kind.Property && stands_in p Kind.BindingProperty) ≡ false
property_apart Place.Program = refl
property_apart _ = refl

target_property_apart : (p : Place) → (stands_in p Kind.Property && stands_in p Kind.AssignmentTargetProperty) ≡ false
target_property_apart Place.Program = refl
target_property_apart _ = refl

binding_property_apart : (p : Place) → (stands_in p Kind.BindingProperty && stands_in p Kind.AssignmentTargetProperty) ≡ false
binding_property_apart Place.Program = refl
binding_property_apart _ = refl

object_apart : (p : Place) → (stands_in p Kind.ObjectPattern && stands_in p Kind.ObjectAssignmentTarget) ≡ false
object_apart Place.Program = refl
object_apart _ = refl

array_apart : (p : Place) → (stands_in p Kind.ArrayPattern && stands_in p Kind.ArrayAssignmentTarget) ≡ false
array_apart Place.Program = refl
array_apart _ = refl

default_apart : (p : Place) → (stands_in p Kind.AssignmentPattern && stands_in p Kind.AssignmentTargetWithDefault) ≡ false
default_apart Place.Program = refl
default_apart _ = refl

rest_apart : (p : Place) → (stands_in p Kind.RestElement && stands_in p Kind.AssignmentTargetRest) ≡ false
rest_apart Place.Program = refl
rest_apart _ = refl

-- ---- the kind suits

target_rule : (p : Place) (ps : Parts) → place_rule p Kind.MemberExpression ps ≡ not (is_target_place p && boolean_at (codes "optional") (members_of Kind.MemberExpression) ps)
target_rule Place.Program ps = refl
target_rule _ ps = refl

private_target_rule : (p : Place) (ps : Parts) → place_rule p Kind.PrivateField ps ≡ not (is_target_place p && boolean_at (codes "optional") (members_of Kind.PrivateField) ps)
private_target_rule Place.Program ps = refl
private_target_rule _ ps = refl

key_literal : (d : Data) (ps : Parts) (computed : Bool) → is_key_literal ps ≡ true → parts_conform computed (members_of Kind.Literal) ps ≡ true → AllStand d (members_of Kind.Literal) ps → may_be_key (form_in d) ≡ true
key_literal d end computed key c stands = cc
key_literal d (more (literal v) rest) computed key c stands = key_form d (codes "value") v rest stands.0 key
key_literal d (more _ rest) computed key c stands = cc

literal_suits : (p : Place) (d : Data) (ps : Parts) (computed : Bool) → place_rule p Kind.Literal ps ≡ true → parts_conform computed (members_of Kind.Literal) ps ≡ true → AllStand d (members_of Kind.Literal) ps → may_be_literal p d ≡ true
literal_suits Place.PropertyKey d ps computed rule c stands = key_literal d ps computed rule c stands
literal_suits Place.ClassKey d ps computed rule c stands = key_literal d ps computed rule c stands
literal_suits _ d ps computed rule c stands = refl

private_property : (d : Data) (ps : Parts) (computed : Bool) → parts_conform computed (members_of Kind.PrivateField) ps ≡ true → AreKept ps → AllStand d (members_of Kind.PrivateField) ps → has_private_property d ≡ true
private_property d ps computed c kept stands =
    ap₂ (λ a b. a && not b) (private_child d (codes "property") computed (member_at (codes "property") (members_of Kind.PrivateField) ps computed d (Sort.Child Place.PrivateIdentifier) refl c kept stands))
    (never_found d (codes "computed") computed (member_at (codes "computed") (members_of Kind.PrivateField) ps computed d Sort.False refl c kept stands))

no_private_property : (d : Data) (ps : Parts) → parts_conform (boolean_at (codes "computed") (members_of Kind.MemberExpression) ps) (members_of Kind.MemberExpression) ps ≡ true → AreKept ps → AllStand d (members_of Kind.MemberExpression) ps → has_private_property d ≡ false
no_private_property d ps c kept stands =
    let computed = boolean_at (codes "computed") (members_of Kind.MemberExpression) ps in
    ap (λ b. is_node_at (codes "property") (codes "PrivateIdentifier") d && not b) (boolean_found (codes "computed") [] (members_of Kind.MemberExpression) ps computed d refl refl c stands)
    ∙ property_child d (codes "property") computed (member_at (codes "property") (members_of Kind.MemberExpression) ps computed d (Sort.Key Place.MemberProperty) refl c kept stands)

private_in : (d : Data) (ps : Parts) (computed : Bool) → parts_conform computed (members_of Kind.PrivateIn) ps ≡ true → AreKept ps → AllStand d (members_of Kind.PrivateIn) ps → is_private_in d ≡ true
private_in d ps computed c kept stands =
    and_from _ _ (private_child d (codes "left") computed (member_at (codes "left") (members_of Kind.PrivateIn) ps computed d (Sort.Child Place.PrivateIdentifier) refl c kept stands))
    (in_word d (codes "operator") computed (member_at (codes "operator") (members_of Kind.PrivateIn) ps computed d (Sort.Word Words.In) refl c kept stands))

no_private_in : (d : Data) (ps : Parts) (computed : Bool) → parts_conform computed (members_of Kind.BinaryExpression) ps ≡ true → AreKept ps → AllStand d (members_of Kind.BinaryExpression) ps → is_private_in d ≡ false
no_private_in d ps computed c kept stands =
    and_left _ (is_string_at (codes "operator") (codes "in") d) (expression_child d (codes "left") computed (member_at (codes "left") (members_of Kind.BinaryExpression) ps computed d (Sort.Child Place.Expression) refl c kept stands))

suits_kind : (kind : Kind) (spot : Spot) (d : Data) (ps : Parts) → place_rule spot.place kind ps ≡ true → parts_conform (boolean_at (codes "computed") (members_of kind) ps) (members_of kind) ps ≡ true → AreKept ps → AllStand d (members_of kind) ps → kind_suits spot kind ≡ true
    → suits spot d kind ≡ true
suits_kind Kind.PrivateField spot d ps rule c kept stands s =
    and_from _ _ (private_property d ps (boolean_at (codes "computed") (members_of Kind.PrivateField) ps) c kept stands)
    (ap (λ b. not (is_target_place spot.place && b)) (boolean_found (codes "optional") [] (members_of Kind.PrivateField) ps (boolean_at (codes "computed") (members_of Kind.PrivateField) ps) d refl refl c stands) ∙ sym (private_target_rule spot.place ps) ∙ rule)
suits_kind Kind.MemberExpression spot d ps rule c kept stands s =
    and_from _ _ (ap not (no_private_property d ps c kept stands))
    (ap (λ b. not (is_target_place spot.place && b)) (boolean_found (codes "optional") [] (members_of Kind.MemberExpression) ps (boolean_at (codes "computed") (members_of Kind.MemberExpression) ps) d refl refl c stands) ∙ sym (target_rule spot.place ps) ∙ rule)
suits_kind Kind.PrivateIn spot d ps rule c kept stands s = private_in d ps (boolean_at (codes "computed") (members_of Kind.PrivateIn) ps) c kept stands
suits_kind Kind.BinaryExpression spot d ps rule c kept stands s = ap not (no_private_in d ps (boolean_at (codes "computed") (members_of Kind.BinaryExpression) ps) c kept stands)
suits_kind Kind.IdentifierReference spot d ps rule c kept stands s = s
suits_kind Kind.IdentifierName spot d ps rule c kept stands s = s
suits_kind Kind.Literal spot d ps rule c kept stands s = literal_suits spot.place d ps (boolean_at (codes "computed") (members_of Kind.Literal) ps) rule c stands
suits_kind Kind.RestElement spot d ps rule c kept stands s = s
suits_kind Kind.AssignmentTargetRest spot d ps rule c kept stands s = s
suits_kind _ spot d ps rule c kept stands s = refl

-- ---- the kind is chosen

reference_apart : (p : Place) (sourced : Bool) → stands_in p Kind.IdentifierName ≡ true → may_be_name p sourced ≡ true → (stands_in p Kind.IdentifierReference && may_be_reference p sourced) ≡ false
reference_apart Place.ExportLocal sourced stands named = ap not named
reference_apart Place.Program sourced stands named = refl
reference_apart Place.PropertyKey sourced stands named = refl
reference_apart Place.ClassKey sourced stands named = refl
reference_apart Place.MemberProperty sourced stands named = refl
reference_apart Place.IdentifierName sourced stands named = refl
reference_apart Place.ModuleName sourced stands named = refl
reference_apart _ sourced stands named = cc

module _ (spot : Spot) (d : Data) where
  stands_only : (k : Kind) → stands_in spot.place k ≡ true → suits spot d k ≡ true → may_stand spot d k ≡ true
  stands_only k stands s = and_from _ _ stands s

  earlier : (j k : Kind) → (stands_in spot.place j && stands_in spot.place k) ≡ false → stands_in spot.place k ≡ true → may_stand spot d j ≡ false
  earlier j k none stands = and_left _ (suits spot d j) (not_first (stands_in spot.place j) (stands_in spot.place k) none stands)

  later_kind : (k : Kind) → is_first k ≡ false → is_foreign k ≡ false → stands_in spot.place k ≡ true → suits spot d k ≡ true → kind_in (name_of k) spot d ≡ Ok k
  later_kind Kind.BindingIdentifier f o stands s =
      second (may_stand spot d Kind.IdentifierReference) (may_stand spot d Kind.BindingIdentifier) _ _ _ (earlier Kind.IdentifierReference Kind.BindingIdentifier (binding_apart spot.place) stands) (stands_only Kind.BindingIdentifier stands s)
  later_kind Kind.IdentifierName f o stands s =
      third (may_stand spot d Kind.IdentifierReference) (may_stand spot d Kind.BindingIdentifier) (may_stand spot d Kind.IdentifierName) _ _ _ _ (reference_apart spot.place spot.sourced stands s)
      (earlier Kind.BindingIdentifier Kind.IdentifierName (name_apart spot.place) stands) (stands_only Kind.IdentifierName stands s)
  later_kind Kind.PrivateField f o stands s =
      second (may_stand spot d Kind.MemberExpression) (may_stand spot d Kind.PrivateField) _ _ _
      (and_right (stands_in spot.place Kind.MemberExpression) _ (and_left _ (may_be_target spot.place d) (ap not (and_parts (has_private_property d) (may_be_target spot.place d) s).0))) (stands_only Kind.PrivateField stands s)
  later_kind Kind.PrivateIn f o stands s = second (may_stand spot d Kind.BinaryExpression) (may_stand spot d Kind.PrivateIn) _ _ _ (and_right (stands_in spot.place Kind.BinaryExpression) _ (ap not s)) (stands_only Kind.PrivateIn stands s)
  later_kind Kind.BindingProperty f o stands s =
      second (may_stand spot d Kind.Property) (may_stand spot d Kind.BindingProperty) _ _ _ (earlier Kind.Property Kind.BindingProperty (property_apart spot.place) stands) (stands_only Kind.BindingProperty stands s)
  later_kind Kind.AssignmentTargetProperty f o stands s =
      third (may_stand spot d Kind.Property) (may_stand spot d Kind.BindingProperty) (may_stand spot d Kind.AssignmentTargetProperty) _ _ _ _ (earlier Kind.Property Kind.AssignmentTargetProperty (target_property_apart spot.place) stands)
      (earlier Kind.BindingProperty Kind.AssignmentTargetProperty (binding_property_apart spot.place) stands) (stands_only Kind.AssignmentTargetProperty stands s)
  later_kind Kind.ObjectAssignmentTarget f o stands s =
      second (may_stand spot d Kind.ObjectPattern) (may_stand spot d Kind.ObjectAssignmentTarget) _ _ _ (earlier Kind.ObjectPattern Kind.ObjectAssignmentTarget (object_apart spot.place) stands) (stands_only Kind.ObjectAssignmentTarget stands s)
  later_kind Kind.ArrayAssignmentTarget f o stands s =
      second (may_stand spot d Kind.ArrayPattern) (may_stand spot d Kind.ArrayAssignmentTarget) _ _ _ (earlier Kind.ArrayPattern Kind.ArrayAssignmentTarget (array_apart spot.place) stands) (stands_only Kind.ArrayAssignmentTarget stands s)
  later_kind Kind.AssignmentTargetWithDefault f o stands s =
      second (may_stand spot d Kind.AssignmentPattern) (may_stand spot d Kind.AssignmentTargetWithDefault) _ _ _ (earlier Kind.AssignmentPattern Kind.AssignmentTargetWithDefault (default_apart spot.place) stands) (stands_only Kind.AssignmentTargetWithDefault stands s)
  later_kind Kind.AssignmentTargetRest f o stands s =
      second (may_stand spot d Kind.RestElement) (may_stand spot d Kind.AssignmentTargetRest) _ _ _ (earlier Kind.RestElement Kind.AssignmentTargetRest (rest_apart spot.place) stands) (stands_only Kind.AssignmentTargetRest stands s)
  later_kind Kind.Foreign f o stands s = absurd (true≢false o)
  later_kind _ f o stands s = absurd (true≢false f)

  named_kind : (k : Kind) → is_foreign k ≡ false → stands_in spot.place k ≡ true → suits spot d k ≡ true → kind_in (name_of k) spot d ≡ Ok k
  named_kind k o stands s = by_first (is_first k) refl where
    by_first : (first : Bool) → is_first k ≡ first → kind_in (name_of k) spot d ≡ Ok k
    by_first true f = first_among (name_of k) spot d false k kinds (first_kind k f) (stands_only k stands s)
    by_first false f = later_kind k f o stands s

-- ---- leaves of nodes outside the table

foreign_named : (k : Kind) (s : List ℕ) → IsString s → is_foreign_name s ≡ true → is_named (encode_utf8_all s) k ≡ is_foreign k
foreign_named Kind.Foreign s kept foreign = ap is_foreign_name kept ∙ foreign
foreign_named Kind.Program s kept foreign = foreign_apart Kind.Program s kept foreign
foreign_named k s kept foreign = foreign_apart k s kept foreign

abbrev has_foreign : List Kind → Bool
has_foreign [] = false
has_foreign (k ∷ ks) = is_foreign k || has_foreign ks

foreign_step : (k : Kind) (spot : Spot) (d : Data) (other rest : Result Kind What) → stands_in spot.place Kind.Foreign ≡ true → (is_foreign k ≡ false → rest ≡ Ok Kind.Foreign) → step (is_foreign k) (may_stand spot d k) k other rest ≡ Ok Kind.Foreign
foreign_step Kind.Foreign spot d other rest stands later = ap (λ b. if b && true then Ok Kind.Foreign else other) stands
foreign_step _ spot d other rest stands later = later refl

foreign_among_kinds : (s : List ℕ) (spot : Spot) (d : Data) (known : Bool) (ks : List Kind) → IsString s → is_foreign_name s ≡ true → stands_in spot.place Kind.Foreign ≡ true → has_foreign ks ≡ true → kind_among (encode_utf8_all s) spot d known ks ≡ Ok Kind.Foreign
foreign_among_kinds s spot d known [] kept foreign stands has = absurd (true≢false (sym has))
foreign_among_kinds s spot d known (k ∷ ks) kept foreign stands has =
    ap (λ b. step b (may_stand spot d k) k (kind_among (encode_utf8_all s) spot d true ks) (kind_among (encode_utf8_all s) spot d known ks)) (foreign_named k s kept foreign)
    ∙ foreign_step k spot d (kind_among (encode_utf8_all s) spot d true ks) (kind_among (encode_utf8_all s) spot d known ks) stands (λ no. foreign_among_kinds s spot d known ks kept foreign stands (sym (ap (λ b. b || has_foreign ks) no) ∙ has))

foreign_in : (s : List ℕ) (spot : Spot) (d : Data) → IsString s → is_foreign_name s ≡ true → stands_in spot.place Kind.Foreign ≡ true → kind_in (encode_utf8_all s) spot d ≡ Ok Kind.Foreign
foreign_in s spot d kept foreign stands = foreign_among_kinds s spot d false kinds kept foreign stands refl

-- ---- the kind of a written node

type_named : (k : Kind) (ps : Parts) → is_foreign k ≡ false → type_of k ps ≡ json_string (name_of k)
type_named Kind.Foreign ps o = cc
type_named _ ps o = refl

foreign_leaf : (spot : Spot) (d : Data) (ps : Parts) (computed : Bool) (n : ℕ) → stands_in spot.place Kind.Foreign ≡ true → parts_conform computed (members_of Kind.Foreign) ps ≡ true → AreKept ps → kind_by (as_str (type_of Kind.Foreign ps)) d spot n ≡ Ok Kind.Foreign
foreign_leaf spot d end computed n stands c kept = cc
foreign_leaf spot d (more (string s) ps) computed n stands c kept = ap (told n) (foreign_in s spot d kept.0 (and_parts (is_foreign_name s) (parts_conform computed [] ps) c).0 stands)
foreign_leaf spot d (more _ ps) computed n stands c kept = cc

foreign_is : (k : Kind) → is_foreign k ≡ true → k ≡ Kind.Foreign
foreign_is Kind.Foreign o = refl
foreign_is _ o = absurd (true≢false (sym o))

foreign_kind : (k : Kind) (spot : Spot) (d : Data) (ps : Parts) (computed : Bool) (n : ℕ) → is_foreign k ≡ true → stands_in spot.place k ≡ true → parts_conform computed (members_of k) ps ≡ true → AreKept ps → kind_by (as_str (type_of k ps)) d spot n ≡ Ok k
foreign_kind k spot d ps computed n o stands c kept =
    subst (λ (j : Kind). stands_in spot.place j ≡ true → parts_conform computed (members_of j) ps ≡ true → kind_by (as_str (type_of j ps)) d spot n ≡ Ok j) (sym (foreign_is k o)) (λ a b. foreign_leaf spot d ps computed n a b kept) stands c

pub kind_chosen : (k : Kind) (spot : Spot) (d : Data) (ps : Parts) (n : ℕ) → get (codes "type") d ≡ Some (type_of k ps) → stands_in spot.place k ≡ true → place_rule spot.place k ps ≡ true
    → parts_conform (boolean_at (codes "computed") (members_of k) ps) (members_of k) ps ≡ true → AreKept ps → AllStand d (members_of k) ps → kind_suits spot k ≡ true → kind_of d spot n ≡ Ok k
kind_chosen k spot d ps n type stands rule c kept all s = ap (λ o. kind_by (option_and_then as_str o) d spot n) type ∙ by_foreign (is_foreign k) refl where
  by_foreign : (foreign : Bool) → is_foreign k ≡ foreign → kind_by (as_str (type_of k ps)) d spot n ≡ Ok k
  by_foreign true o = foreign_kind k spot d ps (boolean_at (codes "computed") (members_of k) ps) n o stands c kept
  by_foreign false o = ap (λ t. kind_by (as_str t) d spot n) (type_named k ps o) ∙ ap (told n) (named_kind spot d k o stands (suits_kind k spot d ps rule c kept all s))
