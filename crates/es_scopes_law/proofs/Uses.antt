-- A name that stands where something is assigned to is used so, and no other.
use Rattle.std.proofs.Common.{◌≡◌, refl, sym, ap, ◌∙◌, ℕ, suc, List, [], ◌∷◌, Bool, true, false, true≢false, cond, ◌&&◌, not}
use Rattle.std.specs.Prelude.{◌==◌, codes, bytes_eq}
use Rattle.std.specs.Int.RustNames.{bit_and}
use Rattle.es_base.specs.Conforms.{is_target_place}
use Rattle.es_base.specs.Table.{Field, members_of, stands_in}
use Rattle.es_base.specs.Tree.{Parts}
use Rattle.es_base.specs.declared.kind.Kind.{Kind}
use Rattle.es_base.specs.declared.table.Place.{Place}
use Rattle.es_base.specs.declared.table.Sort.{Sort}
use Rattle.es_scopes.specs.NodeReferences.{use_in, assignment_flags}
use Rattle.es_scopes.specs.NodeScopes.{is_body_place}
use Rattle.es_steps.specs.Parts.{at, string_of}
use Rattle.es_steps.specs.Scopes.{is_body_part}

abbrev pub has_write : ℕ → Bool
has_write flags = bit_and flags 2 == 2

-- the places of what is assigned to, the properties of a pattern among them
abbrev pub is_write_place : Place → Bool
is_write_place Place.TargetMember = true
is_write_place place = is_target_place place

pub write-target : (place : Place) → stands_in place Kind.IdentifierReference ≡ true → is_write_place place ≡ is_target_place place
write-target Place.TargetMember h = absurd (true≢false (sym h))
write-target place h = refl

-- a use fits what may stand there
abbrev pub fits_place : Place → Bool → Bool
fits_place place true = is_write_place place
fits_place place false = not (is_write_place place)

abbrev pub fits_use : Sort → Bool → Bool
fits_use (Sort.Child place) b = fits_place place b
fits_use (Sort.Nullable place) b = fits_place place b
fits_use (Sort.Key place) b = not b && not (is_write_place place)
fits_use (Sort.List place) b = fits_place place b
fits_use (Sort.NonEmptyList place) b = fits_place place b
fits_use (Sort.ListWithHoles place) b = fits_place place b
fits_use sort b = true

abbrev pub fits_uses : (ℕ → ℕ) → List Field → Bool
fits_uses uses [] = true
fits_uses uses (f ∷ fs) = fits_use f.sort (has_write (uses 0)) && fits_uses (λ j. uses (suc j)) fs

pub use-place : (place : Place) (b : Bool) → fits_place place b ≡ true → b ≡ is_write_place place
use-place place true h = sym h
use-place place false h = by (is_write_place place) h
  where
    by : (b : Bool) → not b ≡ true → false ≡ b
    by true h = h
    by false h = refl

-- patterns that are assigned to stand where something is assigned to
abbrev implies : Bool → Bool → Bool
implies true b = b
implies false b = true

by_implies : (a b : Bool) → implies a b ≡ true → a ≡ true → b ≡ true
by_implies true b h k = h
by_implies false b h k = absurd (true≢false (sym k))

object-place : (place : Place) → implies (stands_in place Kind.ObjectAssignmentTarget) (is_write_place place) ≡ true
object-place Place.Program = refl
object-place place = refl

array-place : (place : Place) → implies (stands_in place Kind.ArrayAssignmentTarget) (is_write_place place) ≡ true
array-place Place.Program = refl
array-place place = refl

property-place : (place : Place) → implies (stands_in place Kind.AssignmentTargetProperty) (is_write_place place) ≡ true
property-place Place.Program = refl
property-place place = refl

default-place : (place : Place) → implies (stands_in place Kind.AssignmentTargetWithDefault) (is_write_place place) ≡ true
default-place Place.Program = refl
default-place place = refl

rest-place : (place : Place) → implies (stands_in place Kind.AssignmentTargetRest) (is_write_place place) ≡ true
rest-place Place.Program = refl
rest-place place = refl

assigned : (s : List ℕ) → has_write (assignment_flags s) ≡ true
assigned s = by (bytes_eq s (codes "="))
  where
    by : (b : Bool) → has_write (cond b 2 3) ≡ true
    by true = refl
    by false = refl

-- how the parts of a node are used fits what may stand there
pub uses-fit : (kind : Kind) (ps : Parts) (around : ℕ) (place : Place) → stands_in place kind ≡ true → has_write around ≡ is_write_place place → fits_uses (use_in kind ps around) (members_of kind) ≡ true
uses-fit Kind.AssignmentExpression ps around place stands is = ap (λ b. fits_place Place.AssignmentTarget b && true) (assigned (string_of (at 0 ps)))
uses-fit Kind.ObjectAssignmentTarget ps around place stands is = ap (λ b. fits_place Place.TargetMember b && true) (is ∙ by_implies _ _ (object-place place) stands)
uses-fit Kind.ArrayAssignmentTarget ps around place stands is = ap (λ b. fits_place Place.TargetOrRest b && true) (is ∙ by_implies _ _ (array-place place) stands)
uses-fit Kind.AssignmentTargetProperty ps around place stands is = ap (λ b. fits_place Place.AssignmentTargetMaybeDefault b && true) (is ∙ by_implies _ _ (property-place place) stands)
uses-fit Kind.AssignmentTargetWithDefault ps around place stands is = ap (λ b. fits_place Place.AssignmentTargetMaybeDefault b && true) (is ∙ by_implies _ _ (default-place place) stands)
uses-fit Kind.AssignmentTargetRest ps around place stands is = ap (λ b. fits_place Place.AssignmentTargetMaybeDefault b && true) (is ∙ by_implies _ _ (rest-place place) stands)
uses-fit kind ps around place stands is = refl

-- ---- bodies of functions are no lists

abbrev pub is_list : Sort → Bool
is_list (Sort.List place) = true
is_list (Sort.NonEmptyList place) = true
is_list (Sort.ListWithHoles place) = true
is_list sort = false

abbrev pub no_list_bodies : (ℕ → Bool) → List Field → Bool
no_list_bodies bodies [] = true
no_list_bodies bodies (f ∷ fs) = not (is_list f.sort && bodies 0) && no_list_bodies (λ j. bodies (suc j)) fs

pub bodies-fit : (kind : Kind) → no_list_bodies (is_body_place kind) (members_of kind) ≡ true
bodies-fit Kind.Program = refl
bodies-fit kind = refl

pub body-same : (kind : Kind) (i : ℕ) → is_body_part kind i ≡ is_body_place kind i
body-same Kind.Program i = refl
body-same kind i = refl
