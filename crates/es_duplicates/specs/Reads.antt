-- Names that are read more than once.
use Rattle.std.specs.Prelude.{ℕ, zero, suc, ◌+◌, List, [], ◌∷◌, ◌++◌, Option, Some}
use Rattle.es_base.specs.Numbered.{unnumbered}
use Rattle.es_base.specs.Tree.{Tree}
use Rattle.es_base.specs.declared.ids.SymbolId.{SymbolId}
use Rattle.es_expression.specs.Identifier.{identifier_reference}
use Rattle.es_scopes.specs.Table.{Table, with_created_reference}
use Rattle.es_scopes.specs.declared.flags.TheConstants.ReferenceFlags as flag

-- `name`, n times; the references are numbered from k on
abbrev pub names_read : Option (ℕ × ℕ) → List ℕ → ℕ → ℕ → List Tree
names_read span name k zero = []
names_read span name k (suc n) = names_read span name k n ++ identifier_reference unnumbered span (Some (k + n)) name ∷ []

-- the table with n new references that read the symbol
abbrev pub with_reads : SymbolId → ℕ → Table → Table
with_reads y zero t = t
with_reads y (suc n) t = with_created_reference (with_reads y n t) (Some y) flag.READ
