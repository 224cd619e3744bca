-- Entries with numbers are one where both are.
use Rattle.std.proofs.Common.{◌≡◌, sym, ap, ap₂, ◌∙◌, ℕ, Bool, true, arith}
use Rattle.std.specs.Prelude.{◌&&◌, ◌↔◌, IsTrue, nat_eq}
use Rattle.std.proofs.lemmas.Bool.{and_from, and_parts}
use Rattle.std.proofs.lemmas.Bool.Decides.{nat_tests}
use Rattle.es_entries.specs.Entered.{IsEntry}
use Rattle.es_entries.specs.declared.entry.Entry.{Entry}
use Rattle.es_sameness.proofs.Sameness.{one_number}
use Rattle.es_steps.specs.Entries as spec

number_same : (n k : ℕ) → n ≡ k → nat_eq n k ≡ true
number_same n k e = grind (arith, nat_tests, e)

pub entries_alike : (n k : ℕ) (x y : Entry) (values : Bool)
    → ((e g : spec.Entry) → IsEntry x e → IsEntry y g → IsTrue values ↔ (e ≡ g))
    → (e g : ℕ × spec.Entry) → n ≡ e.0 → IsEntry x e.1 → k ≡ g.0 → IsEntry y g.1
    → IsTrue (nat_eq n k && values) ↔ (e ≡ g)
entries_alike n k x y values same e g en ex gn gy = (
  (λ t. let p = and_parts (nat_eq n k) values t in
      ap₂ (λ (m : ℕ) (z : spec.Entry). (m, z)) (sym en ∙ one_number n k p.0 ∙ gn) ((same e.1 g.1 ex gy).0 p.1)),
  (λ q. and_from (nat_eq n k) values (number_same n k (en ∙ ap (λ z. z.0) q ∙ sym gn)) ((same e.1 g.1 ex gy).1 (ap (λ z. z.1) q))),
)
