-- The part of a row at a name, and what reading finds of it.
use Rattle.std.proofs.Common.{◌≡◌, refl, sym, ap, ap₂, ◌∙◌, subst, ℕ, List, [], ◌∷◌, Bool, true, false, not, Option, Some, None}
use Rattle.std.specs.Prelude.{◌&&◌, ◌||◌, bytes_eq, codes, option_and_then}
use Rattle.std.specs.Str.{encode_utf8_all}
use Rattle.std.proofs.lemmas.Bool.{and_parts, or_parts, or_from, and_left, and_right}
use Rattle.std.proofs.lemmas.Slice.Eq.{bytes_eq-Decides}
use Rattle.serde_json.specs.Data.{Data}
use Rattle.serde_json.specs.Find.{get, as_str, as_bool}
use Rattle.es_base.specs.Tree.{Tree, Part, Parts, Node, end, more, child, string, boolean}
use Rattle.es_base.specs.Conforms.{conforms, parts_conform, part_conforms, is_among, is_foreign_name, boolean_at, place_rule, kind_rule}
use Rattle.es_base.specs.Table.{Field, members_of, stands_in}
use Rattle.es_base.specs.declared.kind.Kind.{Kind}
use Rattle.es_base.specs.declared.table.Place.{Place}
use Rattle.es_base.specs.declared.table.Sort.{Sort}
use Rattle.es_base.specs.declared.table.Words.{Words}
use Rattle.es_reading.specs.Look.{string_at, is_true, is_true_at, is_this, is_string_at, is_node_at}
use Rattle.es_writing.specs.Writing.{type_of, write}
use Rattle.es_writing.specs.Kept.{IsKept, PartIsKept, AreKept}
use Rattle.es_json.proofs.Looks.{type_found}
use Rattle.es_json.proofs.Rows.{names, is_apart}
use Rattle.es_json.proofs.Stands.{there, Stands, AllStand, apart_parts}
use Rattle.es_json.proofs.Strings.{foreign_apart, word_kept}
use Rattle.es_json.proofs.Tests.{not_true, not_second}

-- ---- the part at a name

pub record Member (d : Data) (name : List ℕ) (computed : Bool) (sort : Sort) : Type 0 where
  pub part : Part
  pub conform : part_conforms computed sort part ≡ true
  pub kept : PartIsKept part
  pub stands : Stands d name sort part

-- the field of this name
abbrev if_here : Bool → Sort → Option Sort → Option Sort
if_here true here rest = Some here
if_here false here rest = rest

abbrev pub sort_at : List ℕ → List Field → Option Sort
sort_at name [] = None
sort_at name (f ∷ fs) = if_here (bytes_eq f.name name) f.sort (sort_at name fs)

by_name : (b : Bool) (name : List ℕ) (f : Field) (p : Part) (computed : Bool) (d : Data) (sort : Sort) (rest : Option Sort) → bytes_eq f.name name ≡ b → if_here b f.sort rest ≡ Some sort → part_conforms computed f.sort p ≡ true → PartIsKept p → Stands d f.name f.sort p
    → (rest ≡ Some sort → Member d name computed sort) → Member d name computed sort
by_name true name f p computed d sort rest same at c kept stands later =
    let sorts : f.sort ≡ sort = cc in
    let is : f.name ≡ name = (bytes_eq-Decides f.name name).0 same in
    record {
      part = p;
      conform = sym (ap (λ s. part_conforms computed s p) sorts) ∙ c;
      kept = kept;
      stands = subst (λ (s : Sort). Stands d name s p) sorts (subst (λ (n : List ℕ). Stands d n f.sort p) is stands);
    }
by_name false name f p computed d sort rest other at c kept stands later = later at

pub member_at : (name : List ℕ) (fs : List Field) (ps : Parts) (computed : Bool) (d : Data) (sort : Sort) → sort_at name fs ≡ Some sort → parts_conform computed fs ps ≡ true → AreKept ps → AllStand d fs ps → Member d name computed sort
member_at name [] ps computed d sort at c kept stands = cc
member_at name (f ∷ fs) end computed d sort at c kept stands = cc
member_at name (f ∷ fs) (more p ps) computed d sort at c kept stands =
    let conform = and_parts (part_conforms computed f.sort p) (parts_conform computed fs ps) c in
    by_name (bytes_eq f.name name) name f p computed d sort (sort_at name fs) refl at conform.0 kept.0 stands.0 (λ later. member_at name fs ps computed d sort later conform.1 kept.1 stands.1)

-- ---- booleans

abbrev is_boolean : Sort → Bool
is_boolean Sort.Boolean = true
is_boolean Sort.False = true
is_boolean sort = false

abbrev pub has_boolean : List ℕ → List Field → Bool
has_boolean name [] = false
has_boolean name (f ∷ fs) = (bytes_eq f.name name && is_boolean f.sort) || has_boolean name fs

no_boolean : (name : List ℕ) (fs : List Field) (ps : Parts) → is_among name (names fs) ≡ false → boolean_at name fs ps ≡ false
no_boolean name [] ps other = refl
no_boolean name (f ∷ fs) end other = refl
no_boolean name (f ∷ fs) (more (boolean b) ps) other =
    let both = or_parts (bytes_eq f.name name) (is_among name (names fs)) other in
    or_from _ _ (and_left (bytes_eq f.name name) b both.0) (no_boolean name fs ps both.1)
no_boolean name (f ∷ fs) (more (child t) ps) other = no_boolean name fs ps (or_parts (bytes_eq f.name name) (is_among name (names fs)) other).1
no_boolean name (f ∷ fs) (more _ ps) other = no_boolean name fs ps (or_parts (bytes_eq f.name name) (is_among name (names fs)) other).1

or_none : (b : Bool) → (b || false) ≡ b
or_none true = refl
or_none false = refl

boolean_part : (computed : Bool) (d : Data) (name : List ℕ) (sort : Sort) (p : Part) (ps : Parts) (f : Field) (fs : List Field) → f.name ≡ name → f.sort ≡ sort → is_boolean sort ≡ true → part_conforms computed sort p ≡ true → Stands d name sort p → boolean_at name fs ps ≡ false → bytes_eq f.name name ≡ true
    → is_true_at name d ≡ boolean_at name (f ∷ fs) (more p ps)
boolean_part computed d name Sort.Boolean (boolean b) ps f fs is sorts t c stands none same = ap (λ o. is_true (option_and_then as_bool o)) stands ∙ sym (ap₂ (λ x y. (x && b) || y) same none ∙ or_none b)
boolean_part computed d name Sort.False (boolean b) ps f fs is sorts t c stands none same = ap (λ o. is_true (option_and_then as_bool o)) stands ∙ sym (ap₂ (λ x y. (x && b) || y) same none ∙ or_none b)
boolean_part computed d name Sort.Boolean _ ps f fs is sorts t c stands none same = cc
boolean_part computed d name Sort.False _ ps f fs is sorts t c stands none same = cc
boolean_part computed d name _ p ps f fs is sorts t c stands none same = cc

past_part : (name : List ℕ) (f : Field) (fs : List Field) (p : Part) (ps : Parts) → bytes_eq f.name name ≡ false → boolean_at name (f ∷ fs) (more p ps) ≡ boolean_at name fs ps
past_part name f fs (boolean b) ps other = ap (λ x. (x && b) || boolean_at name fs ps) other
past_part name f fs (child t) ps other = refl
past_part name f fs _ ps other = refl

-- the boolean of a row is what reading finds
pub boolean_found : (name : List ℕ) (ws : List (List ℕ)) (fs : List Field) (ps : Parts) (computed : Bool) (d : Data) → has_boolean name fs ≡ true → is_apart ws fs ≡ true → parts_conform computed fs ps ≡ true → AllStand d fs ps → is_true_at name d ≡ boolean_at name fs ps
boolean_found name ws [] ps computed d has a c stands = cc
boolean_found name ws (f ∷ fs) end computed d has a c stands = cc
boolean_found name ws (f ∷ fs) (more p ps) computed d has a c stands = by_test (bytes_eq f.name name) refl (boolean_found name ws fs ps computed d) where
  by_test : (b : Bool) → bytes_eq f.name name ≡ b → (has_boolean name fs ≡ true → is_apart ws fs ≡ true → parts_conform computed fs ps ≡ true → AllStand d fs ps → is_true_at name d ≡ boolean_at name fs ps) → is_true_at name d ≡ boolean_at name (f ∷ fs) (more p ps)
  by_test true same later =
      let apart = apart_parts ws f fs a in
      let conform = and_parts (part_conforms computed f.sort p) (parts_conform computed fs ps) c in
      let is : f.name ≡ name = (bytes_eq-Decides f.name name).0 same in
      let none : is_among name (names fs) ≡ false = sym (ap (λ z. is_among z (names fs)) is) ∙ apart.1.1.0 in
      let no : has_boolean name fs ≡ false = not_there fs none in
      let kind : is_boolean f.sort ≡ true = sym (ap₂ (λ x y. (x && is_boolean f.sort) || y) same no ∙ or_none (is_boolean f.sort)) ∙ has in
      boolean_part computed d name f.sort p ps f fs is refl kind conform.0 (subst (λ (n : List ℕ). Stands d n f.sort p) is stands.0) (no_boolean name fs ps none) same
    where
      not_there : (gs : List Field) → is_among name (names gs) ≡ false → has_boolean name gs ≡ false
      not_there [] other = refl
      not_there (g ∷ gs) other = let both = or_parts (bytes_eq g.name name) (is_among name (names gs)) other in or_from _ _ (and_left (bytes_eq g.name name) (is_boolean g.sort) both.0) (not_there gs both.1)
  by_test false other later =
      let apart = apart_parts ws f fs a in
      let conform = and_parts (part_conforms computed f.sort p) (parts_conform computed fs ps) c in
      later (sym (ap (λ x. (x && is_boolean f.sort) || has_boolean name fs) other) ∙ has) apart.1.1.1 conform.1 stands.1 ∙ sym (past_part name f fs p ps other)

pub never_found : (d : Data) (name : List ℕ) (computed : Bool) → Member d name computed Sort.False → is_true_at name d ≡ false
never_found d name computed m = by_part m.part m.conform m.stands where
  by_part : (p : Part) → part_conforms computed Sort.False p ≡ true → get name d ≡ there p → is_true_at name d ≡ false
  by_part (boolean b) c at = ap (λ o. is_true (option_and_then as_bool o)) at ∙ not_true b c
  by_part _ c at = cc

-- ---- private names

abbrev pub is_private : Kind → Bool
is_private Kind.PrivateIdentifier = true
is_private kind = false

abbrev private_tree : Tree → Bool
private_tree (Node kind id span semantic_id ps) = is_private kind

named_private : (kind : Kind) (ps : Parts) (computed : Bool) → parts_conform computed (members_of kind) ps ≡ true → AreKept ps → is_this (codes "PrivateIdentifier") (as_str (type_of kind ps)) ≡ is_private kind
named_private Kind.Foreign end computed c kept = cc
named_private Kind.Foreign (more (string s) ps) computed c kept = foreign_apart Kind.PrivateIdentifier s kept.0 (and_parts (is_foreign_name s) (parts_conform computed [] ps) c).0
named_private Kind.Foreign (more _ ps) computed c kept = cc
named_private _ ps computed c kept = refl

-- the parts of a tree that conforms do
pub parts_of : (place : Place) (kind : Kind) (id : ℕ) (span : Option (ℕ × ℕ)) (semantic_id : Option ℕ) (ps : Parts) → conforms place (Node kind id span semantic_id ps) ≡ true
    → (stands_in place kind ≡ true) × ((place_rule place kind ps ≡ true) × ((kind_rule kind ps ≡ true) × (parts_conform (boolean_at (codes "computed") (members_of kind) ps) (members_of kind) ps ≡ true)))
parts_of place kind id span semantic_id ps c =
    let last = parts_conform (boolean_at (codes "computed") (members_of kind) ps) (members_of kind) ps in
    let one = and_parts (stands_in place kind) (place_rule place kind ps && (kind_rule kind ps && last)) c in
    let two = and_parts (place_rule place kind ps) (kind_rule kind ps && last) one.1 in
    let three = and_parts (kind_rule kind ps) last two.1 in
    (one.0, (two.0, (three.0, three.1)))

tree_named : (place : Place) (t : Tree) → conforms place t ≡ true → IsKept t → is_this (codes "PrivateIdentifier") (string_at (codes "type") (write t)) ≡ private_tree t
tree_named place (Node kind id span semantic_id ps) c kept =
    let conform = (parts_of place kind id span semantic_id ps c).1.1.1 in
    let computed = boolean_at (codes "computed") (members_of kind) ps in
    ap (λ o. is_this (codes "PrivateIdentifier") (option_and_then as_str o)) (type_found kind id span ps computed conform) ∙ named_private kind ps computed conform kept.2

private_place : (kind : Kind) → stands_in Place.PrivateIdentifier kind ≡ is_private kind
private_place Kind.Program = refl
private_place _ = refl

expression_open : (kind : Kind) → (stands_in Place.Expression kind && is_private kind) ≡ false
expression_open Kind.Program = refl
expression_open _ = refl

property_open : (kind : Kind) → (stands_in Place.MemberProperty kind && is_private kind) ≡ false
property_open Kind.Program = refl
property_open _ = refl

private_is : (t : Tree) → conforms Place.PrivateIdentifier t ≡ true → private_tree t ≡ true
private_is (Node kind id span semantic_id ps) c = sym (private_place kind) ∙ (parts_of Place.PrivateIdentifier kind id span semantic_id ps c).0

expression_is : (t : Tree) → conforms Place.Expression t ≡ true → private_tree t ≡ false
expression_is (Node kind id span semantic_id ps) c = not_second (stands_in Place.Expression kind) (is_private kind) (expression_open kind) (parts_of Place.Expression kind id span semantic_id ps c).0

property_is : (t : Tree) → conforms Place.MemberProperty t ≡ true → private_tree t ≡ false
property_is (Node kind id span semantic_id ps) c = not_second (stands_in Place.MemberProperty kind) (is_private kind) (property_open kind) (parts_of Place.MemberProperty kind id span semantic_id ps c).0

child_at : (d : Data) (name : List ℕ) (place : Place) (t : Tree) → get name d ≡ Some (write t) → conforms place t ≡ true → IsKept t → is_node_at name (codes "PrivateIdentifier") d ≡ private_tree t
child_at d name place t at c kept = ap (λ o. is_this (codes "PrivateIdentifier") (option_and_then (string_at (codes "type")) o)) at ∙ tree_named place t c kept

pub private_child : (d : Data) (name : List ℕ) (computed : Bool) → Member d name computed (Sort.Child Place.PrivateIdentifier) → is_node_at name (codes "PrivateIdentifier") d ≡ true
private_child d name computed m = by_part m.part m.conform m.kept m.stands where
  by_part : (p : Part) → part_conforms computed (Sort.Child Place.PrivateIdentifier) p ≡ true → PartIsKept p → get name d ≡ there p → is_node_at name (codes "PrivateIdentifier") d ≡ true
  by_part (child t) c kept at = child_at d name Place.PrivateIdentifier t at c kept ∙ private_is t c
  by_part _ c kept at = cc

pub expression_child : (d : Data) (name : List ℕ) (computed : Bool) → Member d name computed (Sort.Child Place.Expression) → is_node_at name (codes "PrivateIdentifier") d ≡ false
expression_child d name computed m = by_part m.part m.conform m.kept m.stands where
  by_part : (p : Part) → part_conforms computed (Sort.Child Place.Expression) p ≡ true → PartIsKept p → get name d ≡ there p → is_node_at name (codes "PrivateIdentifier") d ≡ false
  by_part (child t) c kept at = child_at d name Place.Expression t at c kept ∙ expression_is t c
  by_part _ c kept at = cc

pub property_child : (d : Data) (name : List ℕ) (computed : Bool) → Member d name computed (Sort.Key Place.MemberProperty) → (is_node_at name (codes "PrivateIdentifier") d && not computed) ≡ false
property_child d name true m = and_right (is_node_at name (codes "PrivateIdentifier") d) false refl
property_child d name false m = and_left (is_node_at name (codes "PrivateIdentifier") d) true (by_part m.part m.conform m.kept m.stands) where
  by_part : (p : Part) → part_conforms false (Sort.Key Place.MemberProperty) p ≡ true → PartIsKept p → get name d ≡ there p → is_node_at name (codes "PrivateIdentifier") d ≡ false
  by_part (child t) c kept at = child_at d name Place.MemberProperty t at c kept ∙ property_is t c
  by_part _ c kept at = cc

pub in_word : (d : Data) (name : List ℕ) (computed : Bool) → Member d name computed (Sort.Word Words.In) → is_string_at name (codes "in") d ≡ true
in_word d name computed m = by_part m.part m.conform m.stands where
  by_part : (p : Part) → part_conforms computed (Sort.Word Words.In) p ≡ true → get name d ≡ there p → is_string_at name (codes "in") d ≡ true
  by_part (string s) c at = ap (λ o. is_this (codes "in") (option_and_then as_str o)) at ∙ sym (or_none (bytes_eq (codes "in") (encode_utf8_all s))) ∙ word_kept Words.In s c
  by_part _ c at = cc
