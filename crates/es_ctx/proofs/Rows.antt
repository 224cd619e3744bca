-- The members of a row by their places.
use Rattle.std.proofs.Common.{◌≡◌, refl, ℕ, zero, suc, ◌<◌, ◌≤◌, List, [], ◌∷◌, map, length, get_or, false, arith}
use Rattle.es_base.specs.Table.{field_of}
use Rattle.es_base.specs.declared.table.Member.{Member}
use Rattle.es_ctx.specs.Ancestors.{is_statement_list, has_statements_in}

pub statements_found : (ms : List Member) (at : ℕ) (d : Member) → at < length ms → has_statements_in (map field_of ms) at ≡ is_statement_list (get_or ms at d).sort
statements_found [] at d within = absurd (omega arith)
statements_found (m ∷ ms) zero d within = refl
statements_found (m ∷ ms) (suc at) d within = let below : at < length ms = omega arith in statements_found ms at d below

pub statements_past : (ms : List Member) (at : ℕ) → length ms ≤ at → has_statements_in (map field_of ms) at ≡ false
statements_past [] at past = refl
statements_past (m ∷ ms) zero past = absurd (omega arith)
statements_past (m ∷ ms) (suc at) past = let below : length ms ≤ at = omega arith in statements_past ms at below
