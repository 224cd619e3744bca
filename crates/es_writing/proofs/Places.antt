-- Members and parts at a place, and lists of parts that are too short.
use Rattle.std.proofs.Common.{◌≡◌, refl, sym, ap, ◌∙◌, ◌<◌, ◌≤◌, ℕ, zero, suc, List, [], ◌∷◌, length, get_or, map, None, arith}
use Rattle.es_base.specs.Table.{field_of}
use Rattle.es_base.specs.declared.table.Member.{Member}
use Rattle.es_node.specs.View.{part_of, parts_of}
use Rattle.es_node.specs.declared.node.Part.{Part}
use Rattle.es_writing.specs.Slots.{data_at, data_of, field_at, last_of, strings_in, tail_in}

pub field_here : (ms : List Member) (n : ℕ) (m : Member) → n < length ms → field_at n (map field_of ms) ≡ (get_or ms n m).name.now
field_here [] n m within = absurd (omega arith)
field_here (k ∷ ms) zero m within = refl
field_here (k ∷ ms) (suc n) m within = field_here ms n m (omega arith)

pub field_past : (ms : List Member) (n : ℕ) → length ms ≤ n → field_at n (map field_of ms) ≡ []
field_past [] n past = refl
field_past (k ∷ ms) zero past = absurd (omega arith)
field_past (k ∷ ms) (suc n) past = field_past ms n (omega arith)

pub data_here : (ps : List Part) (n : ℕ) (p : Part) → n < length ps → p ≡ get_or ps n p → data_at n (parts_of ps) ≡ data_of (part_of p)
data_here ps n p within is = at ps n within ∙ ap (λ x. data_of (part_of x)) (sym is) where
  at : (qs : List Part) (k : ℕ) → k < length qs → data_at k (parts_of qs) ≡ data_of (part_of (get_or qs k p))
  at [] k within = absurd (omega arith)
  at (q ∷ qs) zero within = refl
  at (q ∷ qs) (suc k) within = at qs k (omega arith)

pub data_past : (ps : List Part) (n : ℕ) → length ps ≤ n → data_at n (parts_of ps) ≡ None
data_past [] n past = refl
data_past (p ∷ ps) zero past = absurd (omega arith)
data_past (p ∷ ps) (suc n) past = data_past ps n (omega arith)

pub strings_short : (ps : List Part) → length ps < 2 → strings_in (parts_of ps) ≡ None
strings_short [] short = refl
strings_short (p ∷ []) short = refl
strings_short (p ∷ q ∷ ps) short = absurd (omega arith)

pub tail_short : (ps : List Part) → length ps < 3 → tail_in (parts_of ps) ≡ None
tail_short [] short = refl
tail_short (p ∷ []) short = refl
tail_short (p ∷ q ∷ []) short = refl
tail_short (p ∷ q ∷ r ∷ ps) short = absurd (omega arith)

pub tail_long : (ps : List Part) (last : Part) → 3 ≤ length ps → last ≡ get_or ps 2 last → tail_in (parts_of ps) ≡ last_of (part_of last)
tail_long [] last long is = absurd (omega arith)
tail_long (p ∷ []) last long is = absurd (omega arith)
tail_long (p ∷ q ∷ []) last long is = absurd (omega arith)
tail_long (p ∷ q ∷ r ∷ ps) last long is = ap (λ x. last_of (part_of x)) (sym is)
