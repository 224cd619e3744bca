-- What a name means, scope by scope.
use Rattle.std.proofs.Common.{◌≡◌, refl, ap, ◌∙◌, sym, ℕ, List, [], ◌∷◌, ◌++◌, Bool, true, false, cond, bytes_eq, Option, Some, None}
use Rattle.std.specs.Prelude.{◌&&◌, nat_eq}
use Rattle.es_steps.specs.References.{declared}
use Rattle.es_steps.specs.PrivateNames.{PrivateKind, PrivateMember, declared_member, first_number}
use Rattle.es_steps.specs.Scopes.{Declaration}
use Rattle.es_steps.specs.Values.{String}

abbrev or_outer : {A : Type 0} → Option A → Option A → Option A
or_outer None o = o
or_outer (Some b) o = Some b

step : {A : Type 0} (b : Bool) (x : A) (o p q : Option A) → q ≡ or_outer o p → cond b (Some x) q ≡ or_outer (cond b (Some x) o) p
step true x o p q e = refl
step false x o p q e = e

declared-append : (s : String) (xs ys : List Declaration) → declared s (xs ++ ys) ≡ or_outer (declared s xs) (declared s ys)
declared-append s [] ys = refl
declared-append s (d ∷ xs) ys = step (bytes_eq s d.spelling) d (declared s xs) (declared s ys) (declared s (xs ++ ys)) (declared-append s xs ys)

pub declared_here : (s : String) (xs ys : List Declaration) (d : Declaration) → Some d ≡ declared s xs → declared s (xs ++ ys) ≡ Some d
declared_here s xs ys d e = declared-append s xs ys ∙ ap (λ o. or_outer o (declared s ys)) (sym e)

pub declared_outside : (s : String) (xs ys : List Declaration) → None ≡ declared s xs → declared s (xs ++ ys) ≡ declared s ys
declared_outside s xs ys e = declared-append s xs ys ∙ ap (λ o. or_outer o (declared s ys)) (sym e)

-- ---- private members

member-append : (s : String) (xs ys : List PrivateMember) → declared_member s (xs ++ ys) ≡ or_outer (declared_member s xs) (declared_member s ys)
member-append s [] ys = refl
member-append s (x ∷ xs) ys = step (bytes_eq s x.spelling) x (declared_member s xs) (declared_member s ys) (declared_member s (xs ++ ys)) (member-append s xs ys)

pub member_here : (s : String) (xs ys : List PrivateMember) (x : PrivateMember) → Some x ≡ declared_member s xs → declared_member s (xs ++ ys) ≡ Some x
member_here s xs ys x e = member-append s xs ys ∙ ap (λ o. or_outer o (declared_member s ys)) (sym e)

pub member_outside : (s : String) (xs ys : List PrivateMember) → None ≡ declared_member s xs → declared_member s (xs ++ ys) ≡ declared_member s ys
member_outside s xs ys e = member-append s xs ys ∙ ap (λ o. or_outer o (declared_member s ys)) (sym e)

module _ (side : PrivateKind → Bool) (s : String) (n : ℕ) where
  number-append : (xs ys : List PrivateMember) → first_number side s n (xs ++ ys) ≡ or_outer (first_number side s n xs) (first_number side s n ys)
  number-append [] ys = refl
  number-append (x ∷ xs) ys = step (side x.kind && (nat_eq n x.class && bytes_eq s x.spelling)) x.number (first_number side s n xs) (first_number side s n ys) (first_number side s n (xs ++ ys)) (number-append xs ys)

  pub number_here : (xs ys : List PrivateMember) (d : ℕ) → Some d ≡ first_number side s n xs → first_number side s n (xs ++ ys) ≡ Some d
  number_here xs ys d e = number-append xs ys ∙ ap (λ o. or_outer o (first_number side s n ys)) (sym e)

  pub number_outside : (xs ys : List PrivateMember) → None ≡ first_number side s n xs → first_number side s n (xs ++ ys) ≡ first_number side s n ys
  number_outside xs ys e = number-append xs ys ∙ ap (λ o. or_outer o (first_number side s n ys)) (sym e)
