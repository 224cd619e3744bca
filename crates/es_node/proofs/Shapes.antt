-- What the invariant of a node says: as many parts as members, each of its member's shape.
use Rattle.std.proofs.Common.{◌≡◌, suc, Option, refl, ap, List, [], ◌∷◌, Bool, true, false, ◌&&◌, length, ℕ, zero, ◌<◌, get_or, map, arith}
use Rattle.es_base.specs.Table.{Field, field_of, members_of}
use Rattle.es_base.specs.declared.kind.Kind.{Kind}
use Rattle.es_base.specs.declared.table.Member.{Member}
use Rattle.es_node.specs.Bearing.{semantic_id_fits}
use Rattle.es_node.specs.declared.node.Part as code
use Rattle.es_node.specs.View.{have_shapes, has_shape, has_shape_at, EachHasShape, is_shaped}

pub left_of : (a b : Bool) → (a && b) ≡ true → a ≡ true
left_of true b h = refl
left_of false b h = h

pub right_of : (a b : Bool) → (a && b) ≡ true → b ≡ true
right_of true b h = h
right_of false b h = absurd (cc)

length-have_shapes : (fs : List Field) (ps : List code.Part) → have_shapes fs ps ≡ true → length ps ≡ length fs
length-have_shapes [] [] h = refl
length-have_shapes [] (p ∷ ps) h = absurd (cc)
length-have_shapes (f ∷ fs) [] h = absurd (cc)
length-have_shapes (f ∷ fs) (p ∷ ps) h =
    let below : length ps ≡ length fs = length-have_shapes fs ps (right_of (has_shape f.sort p) _ h) in
    ap suc below

pub borne : (kind : Kind) (semantic_id : Option ℕ) (ps : List code.Part) → is_shaped kind semantic_id ps ≡ true → semantic_id_fits kind semantic_id ≡ true
borne kind semantic_id ps h = left_of (semantic_id_fits kind semantic_id) _ h

pub shaped : (kind : Kind) (semantic_id : Option ℕ) (ps : List code.Part) → is_shaped kind semantic_id ps ≡ true → have_shapes (members_of kind) ps ≡ true
shaped kind semantic_id ps h = right_of (semantic_id_fits kind semantic_id) _ h

pub counted : (kind : Kind) (semantic_id : Option ℕ) (ps : List code.Part) → is_shaped kind semantic_id ps ≡ true → length ps ≡ length (members_of kind)
counted kind semantic_id ps h = length-have_shapes (members_of kind) ps (shaped kind semantic_id ps h)

-- each part has the shape of its member
pub shape_at : (fs : List Field) (ps : List code.Part) (i : ℕ) (f : Field) (p : code.Part) → i < length ps → have_shapes fs ps ≡ true → has_shape (get_or fs i f).sort (get_or ps i p) ≡ true
shape_at fs [] i f p l h = absurd (omega arith)
shape_at [] (q ∷ ps) i f p l h = absurd (cc)
shape_at (g ∷ fs) (q ∷ ps) zero f p l h = left_of (has_shape g.sort q) _ h
shape_at (g ∷ fs) (q ∷ ps) (suc i) f p l h = let e : i < length ps = omega arith in shape_at fs ps i f p e (right_of (has_shape g.sort q) _ h)

-- the same of the members in code
pub members_length : (ms : List Member) (ps : List code.Part) → have_shapes (map field_of ms) ps ≡ true → length ms ≡ length ps
members_length [] [] h = refl
members_length [] (p ∷ ps) h = absurd (cc)
members_length (m ∷ ms) [] h = absurd (cc)
members_length (m ∷ ms) (p ∷ ps) h = ap suc (members_length ms ps (right_of (has_shape m.sort p) _ h))

pub member_shape : (ms : List Member) (ps : List code.Part) (i : ℕ) (m : Member) (p : code.Part) → i < length ps → have_shapes (map field_of ms) ps ≡ true → has_shape (get_or ms i m).sort (get_or ps i p) ≡ true
member_shape ms [] i m p l h = absurd (omega arith)
member_shape [] (q ∷ ps) i m p l h = absurd (cc)
member_shape (n ∷ ms) (q ∷ ps) zero m p l h = left_of (has_shape n.sort q) _ h
member_shape (n ∷ ms) (q ∷ ps) (suc i) m p l h = let e : i < length ps = omega arith in member_shape ms ps i m p e (right_of (has_shape n.sort q) _ h)

has_shape_at-have_shapes : (place : ℕ) (fs : List Field) (ps : List code.Part) → have_shapes fs ps ≡ true → has_shape_at place fs ps ≡ true
has_shape_at-have_shapes zero [] ps h = refl
has_shape_at-have_shapes zero (f ∷ fs) [] h = refl
has_shape_at-have_shapes zero (f ∷ fs) (p ∷ ps) h = left_of (has_shape f.sort p) _ h
has_shape_at-have_shapes (suc place) [] ps h = refl
has_shape_at-have_shapes (suc place) (f ∷ fs) [] h = refl
has_shape_at-have_shapes (suc place) (f ∷ fs) (p ∷ ps) h = has_shape_at-have_shapes place fs ps (right_of (has_shape f.sort p) _ h)

pub each_shaped : (kind : Kind) (semantic_id : Option ℕ) (ps : List code.Part) → is_shaped kind semantic_id ps ≡ true → EachHasShape (members_of kind) ps
each_shaped kind semantic_id ps h =
    let at = λ (place : ℕ). has_shape_at-have_shapes place (members_of kind) ps (shaped kind semantic_id ps h) in
    record { first = at 0; second = at 1; third = at 2; fourth = at 3; fifth = at 4; sixth = at 5 }
