-- What is known of the value of a tree.
use Rattle.std.proofs.Common.{◌≡◌, ap, ◌∙◌, List, [], Result, Ok, Err, IfOk, true, false}
use Rattle.serde_json.specs.View.{view}
use Rattle.serde_json.specs.Written.{has_float}
use Rattle.serde_json.specs.declared.value.Value.{Value}
use Rattle.es_base.specs.Conforms.{conforms}
use Rattle.es_base.specs.Tree.{Tree}
use Rattle.es_base.specs.declared.table.Place.{Place}
use Rattle.es_json.proofs.Floats.{no_floats}
use Rattle.es_json.proofs.RoundTrip.{program_law}
use Rattle.es_json.proofs.Lowered.{lowered_law, lowered_no_float}
use Rattle.es_base.specs.declared.diagnostic.Diagnostic.{Diagnostic}
use Rattle.es_base.specs.declared.ledger.LedgerEntry.{LedgerEntry}
use Rattle.es_base.specs.declared.shape.Shape.{Shape}
use Rattle.es_writing.specs.Lowered.{Writes}
use Rattle.es_reading.specs.Reading.{read, root}
use Rattle.es_reading.specs.declared.numbers.Numbers.{Numbers}
use Rattle.es_base.specs.Carried.{stripped}
use Rattle.es_writing.specs.Kept.{IsKept}
use Rattle.es_writing.specs.Writing.{write}

pub written_no_float : {E : Type 0} (r : Result Value E) (s : Tree) → IfOk r (λ v. view v ≡ write s) → IfOk r (λ v. has_float (view v) ≡ false)
written_no_float (Ok v) s is = ap has_float is ∙ no_floats s
written_no_float (Err e) s is = tt

pub written_back : {E : Type 0} (r : Result Value E) (t : Tree) → IfOk r (λ v. view v ≡ write t) → IfOk r (λ v. IsKept t)
    → IfOk r (λ v. conforms Place.Program t ≡ true → read Numbers.Given (view v) root 0 ≡ Ok (record { value = stripped t; foreign = [] }))
written_back (Ok v) t is kept = λ fits. ap (λ e. read Numbers.Given e root 0) is ∙ program_law t fits kept
written_back (Err e) t is kept = tt

pub lowered_float : {E : Type 0} (r : Result Value E) (t : Tree) (names : List LedgerEntry) (warnings : List Diagnostic) (shapes : List Shape) → IfOk r (λ v. Writes v t names warnings shapes) → IfOk r (λ v. has_float (view v) ≡ false)
lowered_float (Ok v) t names warnings shapes w = ap has_float w.written ∙ lowered_no_float t w.names w.ordered shapes
lowered_float (Err e) t names warnings shapes w = tt

pub lowered_back : {E : Type 0} (r : Result Value E) (t : Tree) (names : List LedgerEntry) (warnings : List Diagnostic) (shapes : List Shape) → IfOk r (λ v. Writes v t names warnings shapes) → IfOk r (λ v. IsKept t)
    → IfOk r (λ v. conforms Place.Program t ≡ true → read Numbers.Given (view v) root 0 ≡ Ok (record { value = stripped t; foreign = [] }))
lowered_back (Ok v) t names warnings shapes w kept = λ fits. ap (λ e. read Numbers.Given e root 0) w.written ∙ lowered_law t w.names w.ordered shapes fits kept
lowered_back (Err e) t names warnings shapes w kept = tt
