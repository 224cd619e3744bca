-- What the calls on a scope table leave as it is: scopes, and whose names are taken.
use Rattle.std.proofs.Common.{◌≡◌, refl, sym, ap, ◌∙◌, ℕ, zero, suc, List, [], ◌∷◌, false, true≢false, Option, Some, None, length}
use Rattle.std.specs.Prelude.{is_some, slice_get}
use Rattle.es_base.specs.Conforms.{is_among}
use Rattle.es_base.specs.Tree.{Tree, Node}
use Rattle.es_base.specs.declared.ids.ReferenceId.{ReferenceId}
use Rattle.es_base.specs.declared.ids.ScopeId.{ScopeId}
use Rattle.es_base.specs.declared.ids.SymbolId.{SymbolId}
use Rattle.es_base.specs.declared.kind.Kind.{Kind}
use Rattle.es_base.specs.declared.ledger.GeneratedKind.{GeneratedKind}
use Rattle.es_builders.specs.declared.bound_identifier.BoundIdentifier.{BoundIdentifier}
use Rattle.es_duplicates.specs.Duplicated.{temporary_base, with_name_read, with_read_alone}
use Rattle.es_duplicates.specs.Reads.{with_reads}
use Rattle.es_node.specs.View.{kind_of}
use Rattle.es_scopes.specs.Bindings as bindings
use Rattle.es_scopes.specs.Table.{Table, HasScope, changed_at, names_of_row, reference_at, row_at, reference_flagged, with_reference_flags}
use Rattle.es_scopes.specs.declared.flags.ReferenceFlags.{ReferenceFlags}
use Rattle.es_scopes.specs.declared.flags.SymbolFlags.{SymbolFlags}
use Rattle.es_scopes.specs.declared.flags.TheConstants.ReferenceFlags as flag
use Rattle.es_scopes.proofs.RowLemmas.{length-changed_at}
use Rattle.es_uids.specs.Uids.{AreTaken, IsGenerated}
use Rattle.es_uids.specs.declared.traverse_scoping.TraverseScoping.{TraverseScoping}
use Rattle.program_names.specs.Suggested.{suggested}

-- ---- a reference that reads alone

changed_nowhere : {X : Type 0} (f : X → X) (i : ℕ) (xs : List X) → is_some (slice_get xs i) ≡ false → changed_at f i xs ≡ xs
changed_nowhere f i [] none = refl
changed_nowhere f zero (x ∷ xs) none = absurd (true≢false none)
changed_nowhere f (suc i) (x ∷ xs) none = ap (λ l. x ∷ l) (changed_nowhere f i xs none)

pub none_to_read : (t : Table) (r : ReferenceId) (f : ReferenceFlags) → is_some (reference_at t r) ≡ false → t ≡ with_reference_flags t r f
none_to_read t r f none = ap (λ rows. record t { references = rows }) (sym (changed_nowhere (reference_flagged f) r.0 t.references none))

pub read_scopes : (o : Option ℕ) (t : Table) → (with_read_alone o t).scopes ≡ t.scopes
read_scopes None t = refl
read_scopes (Some r) t = refl

pub read_symbols : (o : Option ℕ) (t : Table) → (with_read_alone o t).symbols ≡ t.symbols
read_symbols None t = refl
read_symbols (Some r) t = refl

pub read_references : (o : Option ℕ) (t : Table) → length (with_read_alone o t).references ≡ length t.references
read_references None t = refl
read_references (Some r) t = length-changed_at (reference_flagged flag.READ) r t.references

pub name_references : (e : Tree) (t : Table) → length (with_name_read e t).references ≡ length t.references
name_references (Node Kind.IdentifierReference m span id ps) t = read_references id t
name_references (Node kind m span id ps) t = refl

pub other_read : (e : Tree) (t : Table) → (kind_of e ≡ Kind.IdentifierReference → ⊥) → with_name_read e t ≡ t
other_read (Node Kind.IdentifierReference m span id ps) t other = absurd (other refl)
other_read (Node kind m span id ps) t other = refl

pub other_base : (e : Tree) → (kind_of e ≡ Kind.IdentifierReference → ⊥) → temporary_base e ≡ suggested e
other_base (Node Kind.IdentifierReference m span id ps) other = absurd (other refl)
other_base (Node kind m span id ps) other = refl

-- ---- references that are added

pub reads_scopes : (y : SymbolId) (n : ℕ) (t : Table) → (with_reads y n t).scopes ≡ t.scopes
reads_scopes y zero t = refl
reads_scopes y (suc n) t = reads_scopes y n t

-- ---- scopes

pub scope_kept : (t u : Table) (s : ScopeId) → u.scopes ≡ t.scopes → HasScope t s → HasScope u s
scope_kept t u s same there = ap (λ rows. is_some (row_at rows s.0)) same ∙ there

pub taken_kept : (old new : TraverseScoping) → new.names ≡ old.names → new.scoping.scopes ≡ old.scoping.scopes → (other : ScopeId) → AreTaken old other → AreTaken new other
taken_kept old new names same other before name free = ap (λ rows. bindings.lookup name (names_of_row (row_at rows other.0))) same ∙ before name (sym (ap (is_among name) names) ∙ free)

-- ---- a temporary that is generated

pub generated_references : (old middle : TraverseScoping) (base : List ℕ) (scope : ScopeId) (flags : SymbolFlags) (kind : GeneratedKind) (b : BoundIdentifier) → IsGenerated old middle base scope flags kind b → length middle.scoping.references ≡ length old.scoping.references
generated_references old middle base scope flags kind b g = ap (λ t. length t.references) g.table
