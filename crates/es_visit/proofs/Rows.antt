-- The members of a row by their places.
use Rattle.std.proofs.Common.{◌≡◌, refl, ℕ, zero, suc, ◌<◌, ◌≤◌, List, [], ◌∷◌, map, length, get_or, Bool, arith}
use Rattle.es_base.specs.Table.{field_of}
use Rattle.es_base.specs.declared.table.Member.{Member}
use Rattle.es_visit.specs.Roles.{role_of, role_at}
use Rattle.es_visit.specs.declared.roles.Role.{Role}

pub role_found : (computed : Bool) (ms : List Member) (at : ℕ) (d : Member) → at < length ms → role_at computed (map field_of ms) at ≡ role_of computed (get_or ms at d).sort
role_found computed [] at d within = absurd (omega arith)
role_found computed (m ∷ ms) zero d within = refl
role_found computed (m ∷ ms) (suc at) d within = let below : at < length ms = omega arith in role_found computed ms at d below

pub role_past : (computed : Bool) (ms : List Member) (at : ℕ) → length ms ≤ at → role_at computed (map field_of ms) at ≡ Role.Other
role_past computed [] at past = refl
role_past computed (m ∷ ms) zero past = absurd (omega arith)
role_past computed (m ∷ ms) (suc at) past = let below : length ms ≤ at = omega arith in role_past computed ms at below
