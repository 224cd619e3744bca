-- The tree that a node stands for, and the shape of its parts.
use Rattle.std.specs.Prelude.{◌≡◌, ℕ, zero, suc, List, [], ◌∷◌, Bool, true, false, ◌&&◌, Option}
use Rattle.es_base.specs.Tree.{Tree, Part, Parts, Node, end, more, child, absent, list, string, no_string, boolean, literal, trees, nullable_trees}
use Rattle.es_base.specs.Table.{Field, members_of}
use Rattle.es_base.specs.Words.{is_of_set, word_string}
use Rattle.es_base.specs.declared.kind.Kind.{Kind}
use Rattle.es_base.specs.declared.table.Sort.{Sort}
use Rattle.es_base.specs.declared.table.Words.{Words}
use Rattle.es_node.specs.Bearing.{semantic_id_fits}
use Rattle.es_node.specs.declared.node.Part as code
use Rattle.es_node.specs.declared.node.Part.TheVariants as part

-- a part of a node in code, as the tree has it: a word stands as the string that it is written as
abbrev pub part_of : code.Part → Part
part_of (part.Child t) = child t
part_of part.Absent = absent
part_of (part.List ts) = list (trees ts)
part_of (part.Holes ts) = list (nullable_trees ts)
part_of (part.String s) = string s
part_of part.NoString = no_string
part_of (part.Word w) = string (word_string w)
part_of (part.Boolean b) = boolean b
part_of (part.Literal v) = literal v

abbrev pub parts_of : List code.Part → Parts
parts_of [] = end
parts_of (p ∷ ps) = more (part_of p) (parts_of ps)

-- ---- shapes

abbrev pub is_child : code.Part → Bool
is_child (part.Child t) = true
is_child p = false

abbrev pub is_nullable : code.Part → Bool
is_nullable (part.Child t) = true
is_nullable part.Absent = true
is_nullable p = false

abbrev pub is_list : code.Part → Bool
is_list (part.List ts) = true
is_list p = false

abbrev pub is_list_with_holes : code.Part → Bool
is_list_with_holes (part.Holes ts) = true
is_list_with_holes p = false

abbrev pub is_string : code.Part → Bool
is_string (part.String s) = true
is_string p = false

abbrev pub is_nullable_string : code.Part → Bool
is_nullable_string (part.String s) = true
is_nullable_string part.NoString = true
is_nullable_string p = false

abbrev pub is_word : Words → code.Part → Bool
is_word set (part.Word w) = is_of_set set w
is_word set p = false

abbrev pub is_boolean : code.Part → Bool
is_boolean (part.Boolean b) = true
is_boolean p = false

abbrev pub is_false : code.Part → Bool
is_false (part.Boolean false) = true
is_false p = false

abbrev pub is_literal : code.Part → Bool
is_literal (part.Literal v) = true
is_literal p = false

-- whether a part has the shape of a member of this sort
abbrev pub has_shape : Sort → code.Part → Bool
has_shape (Sort.Child place) = is_child
has_shape (Sort.Nullable place) = is_nullable
has_shape (Sort.Key place) = is_child
has_shape (Sort.List place) = is_list
has_shape (Sort.NonEmptyList place) = is_list
has_shape (Sort.ListWithHoles place) = is_list_with_holes
has_shape Sort.Name = is_string
has_shape Sort.NullableString = is_nullable_string
has_shape Sort.Boolean = is_boolean
has_shape Sort.False = is_false
has_shape (Sort.Word set) = is_word set
has_shape Sort.Literal = is_literal
has_shape Sort.Raw = is_string
has_shape Sort.Cooked = is_nullable_string
has_shape Sort.Type = is_string

-- the parts have the shapes of these members, one for one
abbrev pub have_shapes : List Field → List code.Part → Bool
have_shapes [] [] = true
have_shapes (f ∷ fs) (p ∷ ps) = has_shape f.sort p && have_shapes fs ps
have_shapes fs ps = false

-- the part at a place has the shape of the member there, if there is one
abbrev pub has_shape_at : ℕ → List Field → List code.Part → Bool
has_shape_at zero (f ∷ fs) (p ∷ ps) = has_shape f.sort p
has_shape_at (suc place) (f ∷ fs) (p ∷ ps) = has_shape_at place fs ps
has_shape_at place fs ps = true

-- each part has its shape; no kind has more than six members
pub record EachHasShape (fields : List Field) (parts : List code.Part) : Type 0 where
  pub first : has_shape_at 0 fields parts ≡ true
  pub second : has_shape_at 1 fields parts ≡ true
  pub third : has_shape_at 2 fields parts ≡ true
  pub fourth : has_shape_at 3 fields parts ≡ true
  pub fifth : has_shape_at 4 fields parts ≡ true
  pub sixth : has_shape_at 5 fields parts ≡ true

-- what holds of each node in code
abbrev pub is_shaped : Kind → Option ℕ → List code.Part → Bool
is_shaped kind semantic_id ps = semantic_id_fits kind semantic_id && have_shapes (members_of kind) ps

-- ---- a tree

abbrev pub node_of : Kind → ℕ → Option (ℕ × ℕ) → Option ℕ → List code.Part → Tree
node_of kind id span semantic_id ps = Node kind id span semantic_id (parts_of ps)

abbrev pub kind_of : Tree → Kind
kind_of (Node kind id span semantic_id ps) = kind

abbrev pub number_in : Tree → ℕ
number_in (Node kind id span semantic_id ps) = id

abbrev pub span_in : Tree → Option (ℕ × ℕ)
span_in (Node kind id span semantic_id ps) = span

abbrev pub semantic_id_in : Tree → Option ℕ
semantic_id_in (Node kind id span semantic_id ps) = semantic_id

abbrev pub parts_in : Tree → Parts
parts_in (Node kind id span semantic_id ps) = ps
