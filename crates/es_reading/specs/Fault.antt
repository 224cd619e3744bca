-- Why a value is no tree, and what was read of one that is (our own).
use Rattle.std.specs.Prelude.{ℕ, List, Result, Ok, Err}
use Rattle.es_reading.specs.declared.fault.What.{What}

-- The number is the one that the node has, or would have, in preorder.
pub data Fault : Type 0 where
  not_a_tree : (at : ℕ) (what : What) → Fault
  float_at : (at : ℕ) → Fault

-- what was read, and the numbers of the nodes with members of TypeScript, JSX or import attributes
pub record Read (T : Type 0) : Type 0 where
  pub value : T
  pub foreign : List ℕ

abbrev pub refused : {T : Type 0} → ℕ → What → Result T Fault
refused at what = Err (not_a_tree at what)

abbrev pub bind : {S T : Type 0} → Result S Fault → (S → Result T Fault) → Result T Fault
bind (Ok x) next = next x
bind (Err fault) next = Err fault
