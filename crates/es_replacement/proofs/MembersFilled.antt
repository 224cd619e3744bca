-- Members of nodes whose codes have holes.
use Rattle.std.specs.Prelude.{◌≡◌, refl, ℕ, zero, suc, [], ◌∷◌, ◌++◌, Bool, true, false, not, ◌&&◌}
use Rattle.std.proofs.Common.{◌∙◌, ap, ap₂}
use Rattle.es_steps.specs.Code.{Code, Codes, piece, spelled, nothing, initializers, done, and, joined}
use Rattle.es_steps.specs.Events.{Operand, Opens, Closes}
use Rattle.es_steps.specs.Expressions.{the_code}
use Rattle.es_steps.specs.Members.{Member, Members, code, list, string, boolean, end, more, at, from, before, inner_operands, inner_details, operands, operands_of, details, details_of, codes_in, codes_of, word_of, flag_of}
use Rattle.es_replacement.proofs.Environments.{left, right, untrue}
use Rattle.es_replacement.specs.Holes.{filled, filled_all}
use Rattle.es_replacement.specs.Unasked.{is_unasked, ends_open, none_open, are_closed, is_closed}

module _ (fill : ℕ → Code) where
  abbrev mutual
    pub filled_member : Member → Member
    filled_member (code c) = code (filled fill c)
    filled_member (list ps) = list (filled_members ps)
    filled_member p = p

    pub filled_members : Members → Members
    filled_members end = end
    filled_members (more p ps) = more (filled_member p) (filled_members ps)

  -- ---- members by their places

  pub at-filled : (i : ℕ) (ps : Members) → at i (filled_members ps) ≡ filled_member (at i ps)
  at-filled i end = refl
  at-filled zero (more p ps) = refl
  at-filled (suc i) (more p ps) = at-filled i ps

  pub from-filled : (i : ℕ) (ps : Members) → from i (filled_members ps) ≡ filled_members (from i ps)
  from-filled zero ps = refl
  from-filled (suc i) end = refl
  from-filled (suc i) (more p ps) = from-filled i ps

  pub before-filled : (i : ℕ) (ps : Members) → before i (filled_members ps) ≡ filled_members (before i ps)
  before-filled zero ps = refl
  before-filled (suc i) end = refl
  before-filled (suc i) (more p ps) = ap (more (filled_member p)) (before-filled i ps)

  pub joined-filled : (cs ds : Codes) → joined (filled_all fill cs) (filled_all fill ds) ≡ filled_all fill (joined cs ds)
  joined-filled done ds = refl
  joined-filled (and c cs) ds = ap (and (filled fill c)) (joined-filled cs ds)

  -- ---- all codes

  mutual
    pub codes_in-filled : (ps : Members) → codes_in (filled_members ps) ≡ filled_all fill (codes_in ps)
    codes_in-filled end = refl
    codes_in-filled (more p ps) = ap₂ joined (codes_of-filled p) (codes_in-filled ps) ∙ joined-filled (codes_of p) (codes_in ps)

    pub codes_of-filled : (p : Member) → codes_of (filled_member p) ≡ filled_all fill (codes_of p)
    codes_of-filled (code c) = refl
    codes_of-filled (list ps) = codes_in-filled ps
    codes_of-filled p = refl

  -- ---- strings, booleans, a code

  word_of-filled : (p : Member) → word_of (filled_member p) ≡ word_of p
  word_of-filled (string s) = refl
  word_of-filled p = refl

  flag_of-filled : (p : Member) → flag_of (filled_member p) ≡ flag_of p
  flag_of-filled (boolean b) = refl
  flag_of-filled p = refl

  the_code-filled : (p : Member) → the_code (filled_member p) ≡ filled fill (the_code p)
  the_code-filled (code c) = refl
  the_code-filled p = refl

  pub word_at-filled : (i : ℕ) (ps : Members) → word_of (at i (filled_members ps)) ≡ word_of (at i ps)
  word_at-filled i ps = ap word_of (at-filled i ps) ∙ word_of-filled (at i ps)

  pub flag_at-filled : (i : ℕ) (ps : Members) → flag_of (at i (filled_members ps)) ≡ flag_of (at i ps)
  flag_at-filled i ps = ap flag_of (at-filled i ps) ∙ flag_of-filled (at i ps)

  pub codes_at-filled : (i : ℕ) (ps : Members) → codes_of (at i (filled_members ps)) ≡ filled_all fill (codes_of (at i ps))
  codes_at-filled i ps = ap codes_of (at-filled i ps) ∙ codes_of-filled (at i ps)

  pub the_code_at-filled : (i : ℕ) (ps : Members) → the_code (at i (filled_members ps)) ≡ filled fill (the_code (at i ps))
  the_code_at-filled i ps = ap the_code (at-filled i ps) ∙ the_code-filled (at i ps)

-- ---- operands

module _ (first : ℕ) (fill : ℕ → Code) (unasked : (n : ℕ) → is_unasked first (fill n) ≡ true) where
  operands-unasked : (q : Code) → is_unasked first q ≡ true → inner_operands q ≡ and q done
  operands-unasked (piece ds es) h = absurd (cc)
  operands-unasked (spelled s) h = absurd (cc)
  operands-unasked q h = refl

  details-unasked : (q : Code) → is_unasked first q ≡ true → inner_details q ≡ Operand ∷ []
  details-unasked (piece ds es) h = absurd (cc)
  details-unasked (spelled s) h = absurd (cc)
  details-unasked q h = refl

  inner_operands-filled : (c : Code) → inner_operands (filled fill c) ≡ filled_all fill (inner_operands c)
  inner_operands-filled nothing = refl
  inner_operands-filled (initializers n) = operands-unasked (fill n) (unasked n)
  inner_operands-filled c = refl

  inner_details-filled : (c : Code) → inner_details (filled fill c) ≡ inner_details c
  inner_details-filled nothing = refl
  inner_details-filled (initializers n) = details-unasked (fill n) (unasked n)
  inner_details-filled c = refl

  mutual
    pub operands-filled : (ps : Members) → operands (filled_members fill ps) ≡ filled_all fill (operands ps)
    operands-filled end = refl
    operands-filled (more p ps) = ap₂ joined (operands_of-filled p) (operands-filled ps) ∙ joined-filled fill (operands_of p) (operands ps)

    operands_of-filled : (p : Member) → operands_of (filled_member fill p) ≡ filled_all fill (operands_of p)
    operands_of-filled (code c) = inner_operands-filled c
    operands_of-filled (list ps) = operands-filled ps
    operands_of-filled p = refl

  mutual
    pub details-filled : (ps : Members) → details (filled_members fill ps) ≡ details ps
    details-filled end = refl
    details-filled (more p ps) = ap₂ (λ a b. a ++ b) (details_of-filled p) (details-filled ps)

    details_of-filled : (p : Member) → details_of (filled_member fill p) ≡ details_of p
    details_of-filled (code c) = inner_details-filled c
    details_of-filled (list ps) = ap (λ ms. Opens ∷ ms ++ Closes ∷ []) (details-filled ps)
    details_of-filled p = refl

-- ---- members without a hole at their end

pub closed_part : (i : ℕ) (ps : Members) → are_closed ps ≡ true → is_closed (at i ps) ≡ true
closed_part i end h = refl
closed_part zero (more p ps) h = left _ _ h
closed_part (suc i) (more p ps) h = closed_part i ps (right (is_closed p) _ h)

pub closed_code : (p : Member) → is_closed p ≡ true → ends_open (the_code p) ≡ false
closed_code (code c) h = untrue _ h
closed_code p h = refl

pub closed_at : (i : ℕ) (ps : Members) → are_closed ps ≡ true → ends_open (the_code (at i ps)) ≡ false
closed_at i ps h = closed_code (at i ps) (closed_part i ps h)

none_open-joined : (cs ds : Codes) → none_open cs ≡ true → none_open ds ≡ true → none_open (joined cs ds) ≡ true
none_open-joined done ds p q = q
none_open-joined (and c cs) ds p q = by (ends_open c) (none_open cs) p (none_open-joined cs ds (right (not (ends_open c)) (none_open cs) p) q)
  where
    by : (b d : Bool) → (not b && d) ≡ true → none_open (joined cs ds) ≡ true → (not b && none_open (joined cs ds)) ≡ true
    by true d p all = absurd (cc)
    by false d p all = all

mutual
  pub none_open-in : (ps : Members) → are_closed ps ≡ true → none_open (codes_in ps) ≡ true
  none_open-in end h = refl
  none_open-in (more p ps) h = none_open-joined (codes_of p) (codes_in ps) (none_open-of p (left _ _ h)) (none_open-in ps (right (is_closed p) _ h))

  pub none_open-of : (p : Member) → is_closed p ≡ true → none_open (codes_of p) ≡ true
  none_open-of (code c) h = by (ends_open c) h
    where
      by : (b : Bool) → not b ≡ true → (not b && true) ≡ true
      by true h = h
      by false h = refl
  none_open-of (list ps) h = none_open-in ps h
  none_open-of p h = refl

pub closed_codes : (i : ℕ) (ps : Members) → are_closed ps ≡ true → none_open (codes_of (at i ps)) ≡ true
closed_codes i ps h = none_open-of (at i ps) (closed_part i ps h)
