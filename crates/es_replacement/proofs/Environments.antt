-- Environments without some names.
use Rattle.std.specs.Prelude.{◌≡◌, refl, List, [], ◌∷◌, ◌++◌, ◌-◌, ◌+◌, length, Bool, true, false, cond, not, ◌&&◌, ◌||◌, bytes_eq, Some}
use Rattle.std.proofs.Common.{◌∙◌, ap, sym, subst, append_assoc, length-append, arith}
use Rattle.std.proofs.lemmas.Slice.Eq.{bytes_eq-Decides}
use Rattle.es_steps.specs.Entries.{is_string_among, without}
use Rattle.es_steps.specs.Evaluation.{Environment, added, found, is_private_key, without_private, only_private}
use Rattle.es_steps.specs.Values.{String, Value}
use Rattle.es_replacement.specs.Replacing.{Extends}

-- ---- tests

pub left : (a b : Bool) → (a && b) ≡ true → a ≡ true
left true b h = refl
left false b h = h

pub right : (a b : Bool) → (a && b) ≡ true → b ≡ true
right true b h = h
right false true h = refl
right false false h = h

pub untrue : (a : Bool) → not a ≡ true → a ≡ false
untrue true h = sym h
untrue false h = refl

pub neither : (a b : Bool) → not (a || b) ≡ true → (a ≡ false) × (b ≡ false)
neither true b h = absurd (cc)
neither false b h = (refl, untrue b h)

pub cond-ap : {A B : Type 0} (g : A → B) (b : Bool) (x y : A) → cond b (g x) (g y) ≡ g (cond b x y)
cond-ap g true x y = refl
cond-ap g false x y = refl

-- ---- what an environment has in front

pub nothing_added : (s : Environment) → Extends s s
nothing_added s = record { more = []; whole = refl }

pub added_behind : (s t u : Environment) → Extends s t → Extends t u → Extends s u
added_behind s t u first last = record { more = last.more ++ first.more; whole = last.whole ∙ ap (λ (r : Environment). last.more ++ r) first.whole ∙ sym (append_assoc last.more first.more s) }

added_length : (a s : Environment) → added a s ≡ length a - length s
added_length [] s = omega arith
added_length (p ∷ a) [] = omega arith
added_length (p ∷ a) (q ∷ s) = let e : added a s ≡ length a - length s = added_length a s in omega (arith, e)

pub added_front : (more s : Environment) → added (more ++ s) s ≡ length more
added_front more s =
    let e : length (more ++ s) ≡ length more + length s = length-append more s in
    let a : added (more ++ s) s ≡ length (more ++ s) - length s = added_length (more ++ s) s in
    omega (arith, e, a)

front_or : (b : Bool) (p : String × Value) (all rest s : Environment) → all ≡ rest ++ s → cond b all (p ∷ all) ≡ cond b rest (p ∷ rest) ++ s
front_or true p all rest s e = e
front_or false p all rest s e = ap (λ (r : Environment). p ∷ r) e

pub without_front : (more s : Environment) → without_private (length more) (more ++ s) ≡ without_private (length more) more ++ s
without_front [] s = refl
without_front (p ∷ more) s = front_or (is_private_key p.0) p (without_private (length more) (more ++ s)) (without_private (length more) more) s (without_front more s)

only_or : (b : Bool) (p : String × Value) (all rest : Environment) → all ≡ rest → cond b (p ∷ all) all ≡ cond b (p ∷ rest) rest
only_or b p all rest e = ap (λ (r : Environment). cond b (p ∷ r) r) e

only_front : (more s : Environment) → only_private (length more) (more ++ s) ≡ only_private (length more) more
only_front [] s = refl
only_front (p ∷ more) s = only_or (is_private_key p.0) p (only_private (length more) (more ++ s)) (only_private (length more) more) (only_front more s)

-- ---- without some names

module _ (names : List String) where
  kept_or : (b : Bool) (p : String × Value) (all rest s : Environment) → all ≡ rest ++ s → cond b all (p ∷ all) ≡ cond b rest (p ∷ rest) ++ s
  kept_or true p all rest s e = e
  kept_or false p all rest s e = ap (λ (r : Environment). p ∷ r) e

  pub without-append : (a s : Environment) → without names (a ++ s) ≡ without names a ++ without names s
  without-append [] s = refl
  without-append (p ∷ a) s = kept_or (is_string_among p.0 names) p (without names (a ++ s)) (without names a) (without names s) (without-append a s)

  other : (t x : String) → is_string_among t names ≡ false → is_string_among x names ≡ true → bytes_eq t x ≡ false
  other t x out within = by (bytes_eq t x) refl
    where
      by : (b : Bool) → bytes_eq t x ≡ b → b ≡ false
      by true e = sym within ∙ ap (λ y. is_string_among y names) (sym ((bytes_eq-Decides t x).0 e)) ∙ out
      by false e = refl

  pub found-without : (t : String) (s : Environment) → is_string_among t names ≡ false → found t (without names s) ≡ found t s
  found-without t [] out = refl
  found-without t (p ∷ s) out = by (found-without t s out) (is_string_among p.0 names) refl
    where
      by : found t (without names s) ≡ found t s → (b : Bool) → is_string_among p.0 names ≡ b → found t (cond b (without names s) (p ∷ without names s)) ≡ cond (bytes_eq t p.0) (Some p.1) (found t s)
      by rest true within = rest ∙ ap (λ c. cond c (Some p.1) (found t s)) (sym (other t p.0 out within))
      by rest false within = ap (cond (bytes_eq t p.0) (Some p.1)) rest

  -- private names are told apart in what was added
  pub private_commutes : (a : Environment) → without_private (length (without names a)) (without names a) ≡ without names (without_private (length a) a)
  private_commutes [] = refl
  private_commutes (p ∷ a) = by (private_commutes a) (is_string_among p.0 names) (is_private_key p.0) refl refl
    where
      by : without_private (length (without names a)) (without names a) ≡ without names (without_private (length a) a) → (b d : Bool) → is_string_among p.0 names ≡ b → is_private_key p.0 ≡ d → without_private (length (cond b (without names a) (p ∷ without names a))) (cond b (without names a) (p ∷ without names a)) ≡ without names (cond d (without_private (length a) a) (p ∷ without_private (length a) a))
      by rest true true within private = rest
      by rest true false within private = rest ∙ ap (λ c. cond c (without names (without_private (length a) a)) (p ∷ without names (without_private (length a) a))) (sym within)
      by rest false true within private = ap (λ c. cond c (without_private (length (without names a)) (without names a)) (p ∷ without_private (length (without names a)) (without names a))) private ∙ rest
      by rest false false within private = ap (λ c. cond c (without_private (length (without names a)) (without names a)) (p ∷ without_private (length (without names a)) (without names a))) private ∙ ap (λ (r : Environment). p ∷ r) rest ∙ ap (λ c. cond c (without names (without_private (length a) a)) (p ∷ without names (without_private (length a) a))) (sym within)

  pub only_commutes : (a : Environment) → only_private (length (without names a)) (without names a) ≡ without names (only_private (length a) a)
  only_commutes [] = refl
  only_commutes (p ∷ a) = by (only_commutes a) (is_string_among p.0 names) (is_private_key p.0) refl refl
    where
      by : only_private (length (without names a)) (without names a) ≡ without names (only_private (length a) a) → (b d : Bool) → is_string_among p.0 names ≡ b → is_private_key p.0 ≡ d → only_private (length (cond b (without names a) (p ∷ without names a))) (cond b (without names a) (p ∷ without names a)) ≡ without names (cond d (p ∷ only_private (length a) a) (only_private (length a) a))
      by rest true true within private = rest ∙ ap (λ c. cond c (without names (only_private (length a) a)) (p ∷ without names (only_private (length a) a))) (sym within)
      by rest true false within private = rest
      by rest false true within private = ap (λ c. cond c (p ∷ only_private (length (without names a)) (without names a)) (only_private (length (without names a)) (without names a))) private ∙ ap (λ (r : Environment). p ∷ r) rest ∙ ap (λ c. cond c (without names (only_private (length a) a)) (p ∷ without names (only_private (length a) a))) (sym within)
      by rest false false within private = ap (λ c. cond c (p ∷ only_private (length (without names a)) (without names a)) (only_private (length (without names a)) (without names a))) private ∙ rest

  pub outside_commutes : (s a : Environment) → Extends s a → without_private (added (without names a) (without names s)) (without names a) ≡ without names (without_private (added a s) a)
  outside_commutes s a e =
      subst (λ (a : Environment). without_private (added (without names a) (without names s)) (without names a) ≡ without names (without_private (added a s) a)) (sym e.whole) (at e.more)
    where
      at : (more : Environment) → without_private (added (without names (more ++ s)) (without names s)) (without names (more ++ s)) ≡ without names (without_private (added (more ++ s) s) (more ++ s))
      at more =
          ap (λ (r : Environment). without_private (added r (without names s)) r) (without-append more s)
          ∙ ap (λ k. without_private k (without names more ++ without names s)) (added_front (without names more) (without names s))
          ∙ without_front (without names more) (without names s)
          ∙ ap (λ (r : Environment). r ++ without names s) (private_commutes more)
          ∙ sym (without-append (without_private (length more) more) s)
          ∙ ap (without names) (sym (without_front more s))
          ∙ ap (λ k. without names (without_private k (more ++ s))) (sym (added_front more s))

  pub within_commutes : (s a : Environment) → Extends s a → only_private (added (without names a) (without names s)) (without names a) ≡ without names (only_private (added a s) a)
  within_commutes s a e =
      subst (λ (a : Environment). only_private (added (without names a) (without names s)) (without names a) ≡ without names (only_private (added a s) a)) (sym e.whole) (at e.more)
    where
      at : (more : Environment) → only_private (added (without names (more ++ s)) (without names s)) (without names (more ++ s)) ≡ without names (only_private (added (more ++ s) s) (more ++ s))
      at more =
          ap (λ (r : Environment). only_private (added r (without names s)) r) (without-append more s)
          ∙ ap (λ k. only_private k (without names more ++ without names s)) (added_front (without names more) (without names s))
          ∙ only_front (without names more) (without names s)
          ∙ only_commutes more
          ∙ ap (without names) (sym (only_front more s))
          ∙ ap (λ k. without names (only_private k (more ++ s))) (sym (added_front more s))

-- what is left behind a class only adds
pub outside_adds : (s a : Environment) → Extends s a → Extends s (without_private (added a s) a)
outside_adds s a e = record {
  more = without_private (length e.more) e.more;
  whole = ap (λ (r : Environment). without_private (added r s) r) e.whole ∙ ap (λ k. without_private k (e.more ++ s)) (added_front e.more s) ∙ without_front e.more s;
}
