-- What is known of a tree that was read.
use Rattle.std.proofs.Common.{◌≡◌, sym, ap, ◌∙◌, ℕ, List, true}
use Rattle.serde_json.specs.Data.{Data}
use Rattle.es_base.specs.Conforms.{conforms}
use Rattle.es_base.specs.Preorder.{numbered_from}
use Rattle.es_base.specs.Tree.{Tree}
use Rattle.es_reading.proofs.Conforming.{read_conforms}
use Rattle.es_reading.proofs.Ordered.{read_in_order}
use Rattle.es_reading.specs.Reading.{read}
use Rattle.es_reading.specs.Told.{Gives}
use Rattle.es_reading.specs.declared.numbers.Numbers.{Numbers}
use Rattle.es_reading.specs.declared.spot.Spot.{Spot}

pub given_conforms : (numbers : Numbers) (d : Data) (spot : Spot) (n : ℕ) (t : Tree) (first last : List ℕ) → Gives (read numbers d spot n) t first last → conforms spot.place t ≡ true
given_conforms numbers d spot n t first last g = read_conforms numbers d spot n (record { value = t; foreign = g.added }) g.reads

pub given_in_order : (numbers : Numbers) (d : Data) (spot : Spot) (n : ℕ) (t : Tree) (first last : List ℕ) → Gives (read numbers d spot n) t first last → numbers ≡ Numbers.Preorder → t ≡ numbered_from n t
given_in_order numbers d spot n t first last g is = read_in_order d spot n (record { value = t; foreign = g.added }) (ap (λ m. read m d spot n) (sym is) ∙ g.reads)
