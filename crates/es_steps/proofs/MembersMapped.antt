-- What is read of members follows a change of node numbers; strings, booleans and details stay.
use Rattle.std.specs.Prelude.{◌≡◌, ℕ, zero, suc, [], ◌∷◌, ◌++◌}
use Rattle.std.proofs.Common.{refl, ap, ap₂, ◌∙◌}
use Rattle.es_steps.specs.Code.{Code, Codes, nothing, done, and, joined}
use Rattle.es_steps.specs.Events.{Opens, Closes}
use Rattle.es_steps.specs.Members.{Member, Members, code, list, string, boolean, end, more, at, from, before, inner_operands, inner_details, operands, operands_of, details, details_of, codes_in, codes_of, word_of, flag_of}
use Rattle.es_steps.proofs.Mapped.{mapped_code, mapped_codes, mapped_member, mapped_members}

module _ (f : ℕ → ℕ) where
  -- ---- members by their places

  pub at-mapped : (i : ℕ) (ps : Members) → at i (mapped_members f ps) ≡ mapped_member f (at i ps)
  at-mapped i end = refl
  at-mapped zero (more p ps) = refl
  at-mapped (suc i) (more p ps) = at-mapped i ps

  pub from-mapped : (i : ℕ) (ps : Members) → from i (mapped_members f ps) ≡ mapped_members f (from i ps)
  from-mapped zero ps = refl
  from-mapped (suc i) end = refl
  from-mapped (suc i) (more p ps) = from-mapped i ps

  pub before-mapped : (i : ℕ) (ps : Members) → before i (mapped_members f ps) ≡ mapped_members f (before i ps)
  before-mapped zero ps = refl
  before-mapped (suc i) end = refl
  before-mapped (suc i) (more p ps) = ap (more (mapped_member f p)) (before-mapped i ps)

  -- ---- operands

  pub joined-mapped : (cs ds : Codes) → joined (mapped_codes f cs) (mapped_codes f ds) ≡ mapped_codes f (joined cs ds)
  joined-mapped done ds = refl
  joined-mapped (and c cs) ds = ap (and (mapped_code f c)) (joined-mapped cs ds)

  pub inner_operands-mapped : (c : Code) → inner_operands (mapped_code f c) ≡ mapped_codes f (inner_operands c)
  inner_operands-mapped nothing = refl
  inner_operands-mapped c = refl

  mutual
    pub operands-mapped : (ps : Members) → operands (mapped_members f ps) ≡ mapped_codes f (operands ps)
    operands-mapped end = refl
    operands-mapped (more p ps) = ap₂ joined (operands_of-mapped p) (operands-mapped ps) ∙ joined-mapped (operands_of p) (operands ps)

    pub operands_of-mapped : (p : Member) → operands_of (mapped_member f p) ≡ mapped_codes f (operands_of p)
    operands_of-mapped (code c) = inner_operands-mapped c
    operands_of-mapped (list ps) = operands-mapped ps
    operands_of-mapped p = refl

  -- ---- details

  pub inner_details-mapped : (c : Code) → inner_details (mapped_code f c) ≡ inner_details c
  inner_details-mapped nothing = refl
  inner_details-mapped c = refl

  mutual
    pub details-mapped : (ps : Members) → details (mapped_members f ps) ≡ details ps
    details-mapped end = refl
    details-mapped (more p ps) = ap₂ (λ a b. a ++ b) (details_of-mapped p) (details-mapped ps)

    pub details_of-mapped : (p : Member) → details_of (mapped_member f p) ≡ details_of p
    details_of-mapped (code c) = inner_details-mapped c
    details_of-mapped (list ps) = ap (λ ms. Opens ∷ ms ++ Closes ∷ []) (details-mapped ps)
    details_of-mapped p = refl

  -- ---- all codes

  mutual
    pub codes_in-mapped : (ps : Members) → codes_in (mapped_members f ps) ≡ mapped_codes f (codes_in ps)
    codes_in-mapped end = refl
    codes_in-mapped (more p ps) = ap₂ joined (codes_of-mapped p) (codes_in-mapped ps) ∙ joined-mapped (codes_of p) (codes_in ps)

    pub codes_of-mapped : (p : Member) → codes_of (mapped_member f p) ≡ mapped_codes f (codes_of p)
    codes_of-mapped (code c) = refl
    codes_of-mapped (list ps) = codes_in-mapped ps
    codes_of-mapped p = refl

  -- ---- strings and booleans

  word_of-mapped : (p : Member) → word_of (mapped_member f p) ≡ word_of p
  word_of-mapped (string s) = refl
  word_of-mapped p = refl

  flag_of-mapped : (p : Member) → flag_of (mapped_member f p) ≡ flag_of p
  flag_of-mapped (boolean b) = refl
  flag_of-mapped p = refl

  -- ---- the same at a place

  pub word_at-mapped : (i : ℕ) (ps : Members) → word_of (at i (mapped_members f ps)) ≡ word_of (at i ps)
  word_at-mapped i ps = ap word_of (at-mapped i ps) ∙ word_of-mapped (at i ps)

  pub flag_at-mapped : (i : ℕ) (ps : Members) → flag_of (at i (mapped_members f ps)) ≡ flag_of (at i ps)
  flag_at-mapped i ps = ap flag_of (at-mapped i ps) ∙ flag_of-mapped (at i ps)

  pub codes_at-mapped : (i : ℕ) (ps : Members) → codes_of (at i (mapped_members f ps)) ≡ mapped_codes f (codes_of (at i ps))
  codes_at-mapped i ps = ap codes_of (at-mapped i ps) ∙ codes_of-mapped (at i ps)

  pub operands_at-mapped : (i : ℕ) (ps : Members) → operands_of (at i (mapped_members f ps)) ≡ mapped_codes f (operands_of (at i ps))
  operands_at-mapped i ps = ap operands_of (at-mapped i ps) ∙ operands_of-mapped (at i ps)
