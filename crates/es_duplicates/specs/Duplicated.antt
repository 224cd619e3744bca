-- What a duplicate of an expression is: the expression that is evaluated first, and those that stand for it again.
use Rattle.std.specs.Prelude.{◌≡◌, ℕ, ◌+◌, List, Option, Some, None, length, replicate}
use Rattle.es_base.specs.Tree.{Tree, Node}
use Rattle.es_base.specs.declared.ids.ScopeId.{ScopeId}
use Rattle.es_base.specs.declared.ids.SymbolId.{SymbolId}
use Rattle.es_base.specs.declared.kind.Kind.{Kind}
use Rattle.es_base.specs.declared.ledger.GeneratedKind.TheVariants as kinds
use Rattle.es_builders.specs.Builders as builder
use Rattle.es_builders.specs.declared.bound_identifier.BoundIdentifier.{BoundIdentifier}
use Rattle.es_common.specs.Declared.{declarator}
use Rattle.es_ctx.specs.Stores.{changed, innermost, with_var}
use Rattle.es_ctx.specs.declared.stores.OpenList.{OpenList}
use Rattle.es_duplicates.specs.Copies.{copy_of}
use Rattle.es_duplicates.specs.Reads.{names_read, with_reads}
use Rattle.es_duplicates.specs.declared.repetition.Repetition.{Repetition}
use Rattle.es_node.specs.View.{parts_in, span_in}
use Rattle.es_scopes.specs.Table.{Table, with_created_reference, with_reference_flags}
use Rattle.es_scopes.specs.declared.flags.SymbolFlags.{SymbolFlags}
use Rattle.es_scopes.specs.declared.flags.TheConstants.ReferenceFlags as reference_flag
use Rattle.es_scopes.specs.declared.flags.TheConstants.SymbolFlags as flag
use Rattle.es_steps.specs.Parts.{at, string_of}
use Rattle.es_uids.specs.Uids.{IsGenerated}
use Rattle.es_uids.specs.declared.traverse_scoping.TraverseScoping.{TraverseScoping}
use Rattle.program_names.specs.Suggested.{suggested}

-- ---- what is written again

-- e, and copies of it; nothing else changes
pub record IsCopied (old new : TraverseScoping) (before after : List OpenList) (e : Tree) (n : ℕ) (first : Tree) (again : List Tree) : Type 0 where
  pub evaluated : first ≡ e
  pub repeated : again ≡ replicate n (copy_of e)
  pub scoping : new ≡ old
  pub lists : after ≡ before

abbrev pub name_in : Tree → List ℕ
name_in e = string_of (at 0 (parts_in e))

-- e, which is a name, and new references to its symbol y, which read it where e stood; nothing else changes
pub record IsReadAgain (y : SymbolId) (old new : TraverseScoping) (before after : List OpenList) (e : Tree) (n : ℕ) (first : Tree) (again : List Tree) : Type 0 where
  pub evaluated : first ≡ e
  pub repeated : again ≡ names_read (span_in e) (name_in e) (length old.scoping.references) n
  pub scoping : new ≡ record old { scoping = with_reads y n old.scoping }
  pub lists : after ≡ before

-- ---- what is held

-- `t = e`, and `t` n times, for a temporary t with a new name, which a scope holds and the innermost open list declares
pub record IsHeld (declare : Tree → OpenList → OpenList) (flags : SymbolFlags) (base : List ℕ) (scope : ScopeId) (old new : TraverseScoping) (before after : List OpenList) (e : Tree) (n : ℕ) (first : Tree) (again : List Tree) : Type 0 where
  pub temporary : BoundIdentifier
  -- the table, the names that are taken and the generated names once there is the temporary
  pub middle : TraverseScoping
  pub generated : IsGenerated old middle base scope flags kinds.Temp temporary
  pub lists : after ≡ changed (innermost before) (declare (declarator temporary None)) before
  pub evaluated : first ≡ builder.assignment (length old.scoping.references) temporary.name e
  pub repeated : again ≡ names_read None temporary.name (length old.scoping.references + 1) n
  pub table : new.scoping ≡ with_reads temporary.symbol_id n (with_created_reference middle.scoping (Some temporary.symbol_id) reference_flag.WRITE)
  pub names : new.names ≡ middle.names
  pub ledger : new.ledger ≡ middle.ledger

-- what the name of a temporary is made from: a name itself, and otherwise what the expression suggests
abbrev pub temporary_base : Tree → List ℕ
temporary_base (Node Kind.IdentifierReference m span id ps) = string_of (at 0 ps)
temporary_base e = suggested e

-- a name that was read and written is only read by the assignment
abbrev pub with_read_alone : Option ℕ → Table → Table
with_read_alone None t = t
with_read_alone (Some r) t = with_reference_flags t (record { 0 = r }) reference_flag.READ

abbrev pub with_name_read : Tree → Table → Table
with_name_read (Node Kind.IdentifierReference m span id ps) t = with_read_alone id t
with_name_read e t = t

-- ---- duplicates

abbrev pub IsDuplicated : Repetition → ScopeId → TraverseScoping → TraverseScoping → List OpenList → List OpenList → Tree → ℕ → Tree → List Tree → Type 0
IsDuplicated Repetition.Copied scope old new before after e n first again = IsCopied old new before after e n first again
IsDuplicated (Repetition.Name y) scope old new before after e n first again = IsReadAgain y old new before after e n first again
IsDuplicated Repetition.Held scope old new before after e n first again = IsHeld with_var flag.VAR (temporary_base e) scope (record old { scoping = with_name_read e old.scoping }) new before after e n first again
