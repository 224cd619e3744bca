-- What is known of the parts of a node that is read, and what follows for them.
use Rattle.std.proofs.Common.{◌≡◌, refl, sym, ap, ap₂, ◌∙◌, subst, ℕ, List, [], ◌∷◌, Bool, true, false, not, ◌&&◌, ◌||◌, Option, Some, None, option_map, option_and_then, if◌then◌else◌}
use Rattle.std.specs.Prelude.{codes, bytes_eq, is_some}
use Rattle.std.specs.Str.{chars}
use Rattle.std.proofs.lemmas.Bool.{or_left, or_right}
use Rattle.serde_json.specs.Data.{Data, Items}
use Rattle.serde_json.specs.Find.{get}
use Rattle.es_base.specs.Tree.{Tree, Part, Parts, Node, end, more, child, absent, list, boolean, nullable_string}
use Rattle.es_base.specs.Table.{Field, words_of, stands_in}
use Rattle.es_base.specs.Conforms.{conforms, parts_conform, part_conforms, place_rule, key_place, boolean_at, is_foreign_name, is_end, item_count}
use Rattle.es_base.specs.declared.kind.Kind.{Kind}
use Rattle.es_base.specs.declared.literal.LiteralValue.{LiteralValue}
use Rattle.es_base.specs.declared.table.Place.{Place}
use Rattle.es_base.specs.declared.table.Sort.{Sort}
use Rattle.es_base.specs.declared.table.Words.{Words}
use Rattle.es_reading.proofs.And.{left_of, right_of, both, wrong}
use Rattle.es_reading.specs.Literals.{Form, form_in, value_of}
use Rattle.es_reading.specs.Look.{string_at, chars_at, array_at, is_true_at, is_string_at, is_there}
use Rattle.es_reading.specs.Members.{is_of_sort, is_name, is_word, item_count as data_count}
use Rattle.es_reading.specs.Reading.{below, slots_below, place_below, leaf_of, literal_part}
use Rattle.es_reading.specs.declared.spot.Parent.{Parent}
use Rattle.es_reading.proofs.Standing.{NodeStands, ListStands}
use Rattle.es_reading.proofs.Wording.{word_chars, literal_good}

-- a member that holds no nodes
pub record LeafRead (d : Data) (name : List ℕ) (sort : Sort) (p : Part) : Type 0 where
  pub good : is_of_sort d name sort ≡ true
  pub is : leaf_of d name sort ≡ p

-- a list has as many parts as items
pub record ListRead (d : Data) (name : List ℕ) (ps : Parts) : Type 0 where
  pub items : Items
  pub there : array_at name d ≡ Some items
  pub count : data_count items ≡ item_count ps

abbrev pub PartRead : Data → Parent → List ℕ → Sort → Part → Type 0
PartRead d parent name (Sort.Child place) (child t) = NodeStands (below parent (place_below parent.kind d place)) t
PartRead d parent name (Sort.Child place) p = ⊥
PartRead d parent name (Sort.Key place) (child t) = NodeStands (below parent (key_place (is_true_at (codes "computed") d) place)) t
PartRead d parent name (Sort.Key place) p = ⊥
PartRead d parent name (Sort.Nullable place) (child t) = NodeStands (below parent place) t × (is_there (get name d) ≡ true)
PartRead d parent name (Sort.Nullable place) absent = is_there (get name d) ≡ false
PartRead d parent name (Sort.Nullable place) p = ⊥
PartRead d parent name (Sort.List place) (list ps) = ListStands (slots_below parent false place) ps × ListRead d name ps
PartRead d parent name (Sort.List place) p = ⊥
PartRead d parent name (Sort.NonEmptyList place) (list ps) = ListStands (slots_below parent false place) ps × ListRead d name ps × (is_end ps ≡ false)
PartRead d parent name (Sort.NonEmptyList place) p = ⊥
PartRead d parent name (Sort.ListWithHoles place) (list ps) = ListStands (slots_below parent true place) ps × ListRead d name ps
PartRead d parent name (Sort.ListWithHoles place) p = ⊥
PartRead d parent name sort p = LeafRead d name sort p

abbrev pub PartsRead : Data → Parent → List Field → Parts → Type 0
PartsRead d parent [] end = Unit
PartsRead d parent [] (more p ps) = ⊥
PartsRead d parent (f ∷ fs) end = ⊥
PartsRead d parent (f ∷ fs) (more p ps) = PartRead d parent f.name f.sort p × PartsRead d parent fs ps

-- ---- booleans

abbrev pub holds_true : Part → Bool
holds_true (boolean b) = b
holds_true p = false

abbrev pub true_in : Data → List ℕ → Sort → Bool
true_in d name Sort.Boolean = is_true_at name d
true_in d name sort = false

abbrev pub reads_true : List ℕ → List Field → Data → Bool
reads_true name [] d = false
reads_true name (f ∷ fs) d = (bytes_eq f.name name && true_in d f.name f.sort) || reads_true name fs d

no_boolean : (b c : Bool) → c ≡ ((b && false) || c)
no_boolean true c = refl
no_boolean false c = refl

boolean_step : (name : List ℕ) (f : Field) (fs : List Field) (p : Part) (ps : Parts) → boolean_at name (f ∷ fs) (more p ps) ≡ ((bytes_eq f.name name && holds_true p) || boolean_at name fs ps)
boolean_step name f fs (boolean b) ps = refl
boolean_step name f fs _ ps = no_boolean (bytes_eq f.name name) (boolean_at name fs ps)

no_true_string : (o : Option (List ℕ)) → holds_true (nullable_string o) ≡ false
no_true_string None = refl
no_true_string (Some s) = refl

no_true_literal : (o : Option LiteralValue) → holds_true (literal_part o) ≡ false
no_true_literal None = refl
no_true_literal (Some v) = refl

leaf_true : (d : Data) (name : List ℕ) (sort : Sort) → holds_true (leaf_of d name sort) ≡ true_in d name sort
leaf_true d name Sort.Boolean = refl
leaf_true d name Sort.False = refl
leaf_true d name Sort.Literal = no_true_literal _
leaf_true d name Sort.Raw = no_true_string _
leaf_true d name Sort.Cooked = no_true_string _
leaf_true d name _ = no_true_string _

true_leaf : (d : Data) (name : List ℕ) (sort : Sort) (p : Part) → LeafRead d name sort p → holds_true p ≡ true_in d name sort
true_leaf d name sort p h = subst (λ (z : Part). holds_true z ≡ true_in d name sort) h.is (leaf_true d name sort)

true_part : (d : Data) (parent : Parent) (name : List ℕ) (sort : Sort) (p : Part) → PartRead d parent name sort p → holds_true p ≡ true_in d name sort
true_part d parent name (Sort.Child place) (child t) h = refl
true_part d parent name (Sort.Child place) _ h = absurd h
true_part d parent name (Sort.Key place) (child t) h = refl
true_part d parent name (Sort.Key place) _ h = absurd h
true_part d parent name (Sort.Nullable place) (child t) h = refl
true_part d parent name (Sort.Nullable place) absent h = refl
true_part d parent name (Sort.Nullable place) _ h = absurd h
true_part d parent name (Sort.List place) (list ps) h = refl
true_part d parent name (Sort.List place) _ h = absurd h
true_part d parent name (Sort.NonEmptyList place) (list ps) h = refl
true_part d parent name (Sort.NonEmptyList place) _ h = absurd h
true_part d parent name (Sort.ListWithHoles place) (list ps) h = refl
true_part d parent name (Sort.ListWithHoles place) _ h = absurd h
true_part d parent name _ p h = true_leaf d name _ p h

-- the booleans of a node are those of the value
pub boolean_read : (name : List ℕ) (d : Data) (parent : Parent) (fs : List Field) (ps : Parts) → PartsRead d parent fs ps → boolean_at name fs ps ≡ reads_true name fs d
boolean_read name d parent [] end h = refl
boolean_read name d parent [] (more p ps) h = absurd h
boolean_read name d parent (f ∷ fs) end h = absurd h
boolean_read name d parent (f ∷ fs) (more p ps) h =
    boolean_step name f fs p ps
    ∙ ap₂ (λ a b. (bytes_eq f.name name && a) || b) (true_part d parent f.name f.sort p h.0) (boolean_read name d parent fs ps h.1)

-- ---- sorts

-- what passes at the narrower place of a target passes at the wider one
simple_kind : (k : Kind) → stands_in Place.SimpleAssignmentTarget k ≡ true → stands_in Place.AssignmentTarget k ≡ true
simple_kind Kind.IdentifierReference h = refl
simple_kind Kind.MemberExpression h = refl
simple_kind Kind.PrivateField h = refl
simple_kind _ h = wrong h

simple_rule : (k : Kind) (ps : Parts) → place_rule Place.SimpleAssignmentTarget k ps ≡ true → place_rule Place.AssignmentTarget k ps ≡ true
simple_rule k ps h = h

simple_stands : (t : Tree) → conforms Place.SimpleAssignmentTarget t ≡ true → conforms Place.AssignmentTarget t ≡ true
simple_stands (Node k id span semantic_id ps) h =
    let rules = right_of (stands_in Place.SimpleAssignmentTarget k) _ h in
    both _ _ (simple_kind k (left_of _ _ h)) (both _ _ (simple_rule k ps (left_of _ _ rules)) (right_of (place_rule Place.SimpleAssignmentTarget k ps) _ rules))

abbrev pub target_place : Bool → Place
target_place true = Place.AssignmentTarget
target_place false = Place.SimpleAssignmentTarget

either_target : (b : Bool) (t : Tree) → conforms (target_place b) t ≡ true → conforms Place.AssignmentTarget t ≡ true
either_target true t h = h
either_target false t h = simple_stands t h

pub by_target : (b : Bool) → target_place b ≡ (if b then Place.AssignmentTarget else Place.SimpleAssignmentTarget)
by_target true = refl
by_target false = refl

widened : (kind : Kind) (d : Data) (place : Place) (t : Tree) → conforms (place_below kind d place) t ≡ true → conforms place t ≡ true
widened Kind.AssignmentExpression d Place.AssignmentTarget t h = either_target (is_string_at (codes "operator") (codes "=") d) t (ap (λ p. conforms p t) (by_target (is_string_at (codes "operator") (codes "=") d)) ∙ h)
widened _ d place t h = h

-- what the parts ask beside their sorts
abbrev pub is_foreign_string : Option (List ℕ) → Bool
is_foreign_string None = false
is_foreign_string (Some s) = is_foreign_name s

abbrev pub type_good : Data → List ℕ → Sort → Bool
type_good d name Sort.Type = is_foreign_string (chars_at name d)
type_good d name sort = true

abbrev pub types_good : Data → List Field → Bool
types_good d [] = true
types_good d (f ∷ fs) = type_good d f.name f.sort && types_good d fs

abbrev pub is_key : Sort → Bool
is_key (Sort.Key place) = true
is_key sort = false

abbrev pub has_key : List Field → Bool
has_key [] = false
has_key (f ∷ fs) = is_key f.sort || has_key fs

good_name : (o : Option (List ℕ)) (computed : Bool) → is_name o ≡ true → part_conforms computed Sort.Name (nullable_string (option_map chars o)) ≡ true
good_name None computed h = wrong h
good_name (Some s) computed h = h

good_nullable : (o : Option (List ℕ)) (computed : Bool) → part_conforms computed Sort.NullableString (nullable_string o) ≡ true
good_nullable None computed = refl
good_nullable (Some s) computed = refl

good_word : (words : Words) (o : Option (List ℕ)) (computed : Bool) → is_word (words_of words) o ≡ true → part_conforms computed (Sort.Word words) (nullable_string (option_map chars o)) ≡ true
good_word words None computed h = wrong h
good_word words (Some s) computed h = word_chars s words h

good_literal : (d : Data) (o : Option Form) (computed : Bool) → form_in d ≡ o → is_some o ≡ true → part_conforms computed Sort.Literal (literal_part (option_map value_of o)) ≡ true
good_literal d None computed is h = wrong h
good_literal d (Some f) computed is h = literal_good d f is

good_raw : (o : Option Data) (computed : Bool) → is_some (option_and_then (string_at (codes "raw")) o) ≡ true → part_conforms computed Sort.Raw (nullable_string (option_and_then (chars_at (codes "raw")) o)) ≡ true
good_raw None computed h = wrong h
good_raw (Some e) computed h = by_string (string_at (codes "raw") e) h where
  by_string : (o : Option (List ℕ)) → is_some o ≡ true → part_conforms computed Sort.Raw (nullable_string (option_map chars o)) ≡ true
  by_string None h = wrong h
  by_string (Some s) h = refl

good_cooked : (o : Option (List ℕ)) (computed : Bool) → part_conforms computed Sort.Cooked (nullable_string o) ≡ true
good_cooked None computed = refl
good_cooked (Some s) computed = refl

good_type : (o : Option (List ℕ)) (computed : Bool) → is_foreign_string o ≡ true → part_conforms computed Sort.Type (nullable_string o) ≡ true
good_type None computed h = wrong h
good_type (Some s) computed h = h

leaf_conforms : (computed : Bool) (d : Data) (name : List ℕ) (sort : Sort) (p : Part) → LeafRead d name sort p → part_conforms computed sort (leaf_of d name sort) ≡ true → part_conforms computed sort p ≡ true
leaf_conforms computed d name sort p h g = subst (λ (z : Part). part_conforms computed sort z ≡ true) h.is g

good_part : (computed : Bool) (d : Data) (parent : Parent) (name : List ℕ) (sort : Sort) (p : Part) → PartRead d parent name sort p → (is_key sort ≡ true → computed ≡ is_true_at (codes "computed") d) → type_good d name sort ≡ true → part_conforms computed sort p ≡ true
good_part computed d parent name (Sort.Child place) (child t) h key type = widened parent.kind d place t h.conforming
good_part computed d parent name (Sort.Child place) _ h key type = absurd h
good_part computed d parent name (Sort.Key place) (child t) h key type = subst (λ (b : Bool). conforms (key_place b place) t ≡ true) (sym (key refl)) h.conforming
good_part computed d parent name (Sort.Key place) _ h key type = absurd h
good_part computed d parent name (Sort.Nullable place) (child t) h key type = h.0.conforming
good_part computed d parent name (Sort.Nullable place) absent h key type = refl
good_part computed d parent name (Sort.Nullable place) _ h key type = absurd h
good_part computed d parent name (Sort.List place) (list ps) h key type = h.0.conforming
good_part computed d parent name (Sort.List place) _ h key type = absurd h
good_part computed d parent name (Sort.NonEmptyList place) (list ps) h key type = both _ _ (ap not h.2) h.0.conforming
good_part computed d parent name (Sort.NonEmptyList place) _ h key type = absurd h
good_part computed d parent name (Sort.ListWithHoles place) (list ps) h key type = h.0.conforming
good_part computed d parent name (Sort.ListWithHoles place) _ h key type = absurd h
good_part computed d parent name Sort.Name p h key type = leaf_conforms computed d name Sort.Name p h (good_name (string_at name d) computed h.good)
good_part computed d parent name Sort.NullableString p h key type = leaf_conforms computed d name Sort.NullableString p h (good_nullable _ computed)
good_part computed d parent name Sort.Boolean p h key type = leaf_conforms computed d name Sort.Boolean p h refl
good_part computed d parent name Sort.False p h key type = leaf_conforms computed d name Sort.False p h refl
good_part computed d parent name (Sort.Word words) p h key type = leaf_conforms computed d name (Sort.Word words) p h (good_word words (string_at name d) computed h.good)
good_part computed d parent name Sort.Literal p h key type = leaf_conforms computed d name Sort.Literal p h (good_literal d (form_in d) computed refl h.good)
good_part computed d parent name Sort.Raw p h key type = leaf_conforms computed d name Sort.Raw p h (good_raw (get (codes "value") d) computed h.good)
good_part computed d parent name Sort.Cooked p h key type = leaf_conforms computed d name Sort.Cooked p h (good_cooked _ computed)
good_part computed d parent name Sort.Type p h key type = leaf_conforms computed d name Sort.Type p h (good_type (chars_at name d) computed type)

-- the parts are of the sorts of their members
pub good_parts : (computed : Bool) (d : Data) (parent : Parent) (fs : List Field) (ps : Parts) → PartsRead d parent fs ps → (has_key fs ≡ true → computed ≡ is_true_at (codes "computed") d) → types_good d fs ≡ true → parts_conform computed fs ps ≡ true
good_parts computed d parent [] end h key types = refl
good_parts computed d parent [] (more p ps) h key types = absurd h
good_parts computed d parent (f ∷ fs) end h key types = absurd h
good_parts computed d parent (f ∷ fs) (more p ps) h key types =
    both _ _
    (good_part computed d parent f.name f.sort p h.0 (λ k. key (or_left (is_key f.sort) (has_key fs) k)) (left_of _ _ types))
    (good_parts computed d parent fs ps h.1 (λ k. key (or_right (is_key f.sort) (has_key fs) k)) (right_of (type_good d f.name f.sort) _ types))
