-- Strings that a test finds equal are.
use Rattle.std.specs.Prelude.{bytes_eq, ◌↔◌, IsTrue}
use Rattle.std.proofs.Common.{◌≡◌, sym, ◌∙◌, ℕ, List, Bool}
use Rattle.std.proofs.lemmas.Slice.Eq.{bytes_eq-Decides}

pub same_string : (b : Bool) (xs ys : List ℕ) → b ≡ bytes_eq xs ys → IsTrue b ↔ (xs ≡ ys)
same_string b xs ys h = (λ t. (bytes_eq-Decides xs ys).0 (sym h ∙ t), λ e. h ∙ (bytes_eq-Decides xs ys).1 e)
