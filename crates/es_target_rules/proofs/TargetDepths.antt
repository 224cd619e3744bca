-- How deep a target stands in patterns.
use Rattle.std.proofs.Common.{ℕ, zero, suc, ◌+◌, ◌<◌, ◌≤◌, List, [], ◌∷◌, length, get_or, arith}
use Rattle.es_steps.specs.Code as of
use Rattle.es_codes.specs.declared.code.Code.{Code}
use Rattle.es_codes.specs.CodeView.{code_of, codes_of}

abbrev mutual
  pub target_depth : of.Target → ℕ
  target_depth (of.to_pattern m kind cs) = members_depth cs + 4
  target_depth (of.to_default m to e) = target_depth to + 2
  target_depth to = 0

  pub members_depth : of.Codes → ℕ
  members_depth of.done = 0
  members_depth (of.and c cs) = member_depth c + members_depth cs

  pub member_depth : of.Code → ℕ
  member_depth (of.takes m ds k to) = target_depth to + 1
  member_depth c = 0

pub member_in : (cs : List Code) (i : ℕ) (d : Code) → i < length cs → member_depth (code_of (get_or cs i d)) ≤ members_depth (codes_of cs)
member_in [] i d h = absurd (omega arith)
member_in (c ∷ cs) zero d h = omega arith
member_in (c ∷ cs) (suc i) d h = let e : member_depth (code_of (get_or cs i d)) ≤ members_depth (codes_of cs) = member_in cs i d (omega arith) in omega (arith, e)
