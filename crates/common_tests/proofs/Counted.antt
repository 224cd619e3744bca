-- How many references a scope table has once an expression is duplicated.
use Rattle.std.proofs.Common.{◌≡◌, ◌≤◌, ◌+◌, refl, ap, ℕ, List, Some, length, arith}
use Rattle.es_base.specs.Tree.{Tree}
use Rattle.es_base.specs.declared.ids.ScopeId.{ScopeId}
use Rattle.es_base.specs.declared.ledger.GeneratedKind.TheVariants as kinds
use Rattle.es_ctx.specs.declared.stores.OpenList.{OpenList}
use Rattle.es_duplicates.specs.Duplicated.{IsDuplicated, IsHeld}
use Rattle.es_duplicates.specs.declared.repetition.Repetition.{Repetition}
use Rattle.es_duplicates.proofs.Reading.{one_more, reads_count}
use Rattle.es_duplicates.proofs.Tables.{generated_references, name_references}
use Rattle.es_scopes.specs.Table.{with_created_reference}
use Rattle.es_scopes.specs.declared.flags.SymbolFlags.{SymbolFlags}
use Rattle.es_scopes.specs.declared.flags.TheConstants.ReferenceFlags as flag
use Rattle.es_uids.specs.declared.traverse_scoping.TraverseScoping.{TraverseScoping}

pub held_count : (declare : Tree → OpenList → OpenList) (flags : SymbolFlags) (base : List ℕ) (scope : ScopeId) (old new : TraverseScoping) (before after : List OpenList) (e : Tree) (n : ℕ) (first : Tree) (again : List Tree)
    → IsHeld declare flags base scope old new before after e n first again → length new.scoping.references ≡ length old.scoping.references + 1 + n
held_count declare flags base scope old new before after e n first again h =
    let y = h.temporary.symbol_id in
    let written = with_created_reference h.middle.scoping (Some y) flag.WRITE in
    let same = generated_references old h.middle base scope flags kinds.Temp h.temporary h.generated in
    let one = one_more h.middle.scoping written y flag.WRITE refl in
    let reads = reads_count written new.scoping y n h.table in
    omega (arith, same, one, reads)

-- at most one more than there are duplicates
pub duplicated_count : (r : Repetition) (scope : ScopeId) (old new : TraverseScoping) (before after : List OpenList) (e : Tree) (n : ℕ) (first : Tree) (again : List Tree)
    → IsDuplicated r scope old new before after e n first again → length new.scoping.references ≤ length old.scoping.references + 1 + n
duplicated_count Repetition.Copied scope old new before after e n first again d =
    let same = ap (λ t. length t.scoping.references) d.scoping in
    omega (arith, same)
duplicated_count (Repetition.Name y) scope old new before after e n first again d =
    let reads = reads_count old.scoping new.scoping y n (ap (λ t. t.scoping) d.scoping) in
    omega (arith, reads)
duplicated_count Repetition.Held scope old new before after e n first again d =
    let all = held_count _ _ _ scope _ new before after e n first again d in
    let same = name_references e old.scoping in
    omega (arith, all, same)
