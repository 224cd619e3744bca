-- A built scope table has at most as many scopes, symbols and references as its program has nodes: each node makes at most one
-- entry, and each entry at most one row of each sort.
use Rattle.std.proofs.Common.{◌≡◌, refl, ap, ◌∙◌, ℕ, ◌+◌, ◌≤◌, List, [], ◌∷◌, length, Option, Some, None, arith}
use Rattle.es_base.specs.Preorder.{nodes}
use Rattle.es_base.specs.Tree.{Tree}
use Rattle.es_base.specs.declared.ids.SymbolId.{SymbolId}
use Rattle.es_scopes.specs.Built.{built_table}
use Rattle.es_scopes.specs.Entries.{entries_of, nothing_yet}
use Rattle.es_scopes.specs.Surroundings.{nowhere}
use Rattle.es_scopes.specs.Table.{Table, with_created_reference}
use Rattle.es_scopes.specs.Tables.{declare, declared, none_declared, meant, number, numbered, referred}
use Rattle.es_scopes.specs.declared.declare.Declarations.{Declarations}
use Rattle.es_scopes.specs.declared.entry.Entry.{Entry}
use Rattle.es_scopes.specs.declared.entry.Entry.TheVariants as entry
use Rattle.es_scopes.specs.declared.flags.ReferenceFlags.{ReferenceFlags}
use Rattle.es_scopes.specs.declared.refer.Numbering.{Numbering}
use Rattle.es_scopes.proofs.RowLemmas.{length-changed_at}
use Rattle.es_scopes.proofs.TableShown.{declared-references}
use Rattle.es_scopes.proofs.TableSteps.{at_most_one, scopes-declare, scopes-referred, symbols-declare, references-referred}
use Rattle.es_scopes_build.proofs.WalkLemmas.{entry_each, bearers-nodes}

-- at most so many of each
pub record HasAtMost (n : ℕ) (t : Table) : Type 0 where
  pub scopes : length t.scopes ≤ n
  pub symbols : length t.symbols ≤ n
  pub references : length t.references ≤ n

entries-few : (t : Tree) → length (entries_of t) ≤ nodes t
entries-few t = omega (arith, entry_each nowhere nothing_yet t, bearers-nodes t)

-- ---- scopes and names

declared-scopes : (d : Declarations) (es : List Entry) → length (declared d es).scoping.scopes ≤ length d.scoping.scopes + length es
declared-scopes d [] = omega arith
declared-scopes d (e ∷ es) = omega (arith, declared-scopes (declare d e) es, scopes-declare d e, at_most_one e)

declared-symbols : (d : Declarations) (es : List Entry) → length (declared d es).scoping.symbols ≤ length d.scoping.symbols + length es
declared-symbols d [] = omega arith
declared-symbols d (e ∷ es) = omega (arith, declared-symbols (declare d e) es, symbols-declare d e)

-- ---- references

created-symbols : (t : Table) (y : Option SymbolId) (f : ReferenceFlags) → length (with_created_reference t y f).symbols ≡ length t.symbols
created-symbols t None f = refl
created-symbols t (Some y) f = length-changed_at _ y.0 t.symbols

referred-symbols : (d : Declarations) (e : Entry) → length (referred d e).scoping.symbols ≡ length d.scoping.symbols
referred-symbols d (entry.Scope node parent in_parameters flags) = refl
referred-symbols d (entry.Body node) = refl
referred-symbols d (entry.Binding node holder who name flags head) = refl
referred-symbols d (entry.Reference node scope in_parameters name flags) = created-symbols d.scoping (meant d scope in_parameters name) flags

numbered-scopes : (n : Numbering) (es : List Entry) → length (numbered n es).declarations.scoping.scopes ≡ length n.declarations.scoping.scopes
numbered-scopes n [] = refl
numbered-scopes n (e ∷ es) = numbered-scopes (number n e) es ∙ ap length (scopes-referred n.declarations e)

numbered-symbols : (n : Numbering) (es : List Entry) → length (numbered n es).declarations.scoping.symbols ≡ length n.declarations.scoping.symbols
numbered-symbols n [] = refl
numbered-symbols n (e ∷ es) = numbered-symbols (number n e) es ∙ referred-symbols n.declarations e

numbered-references : (n : Numbering) (es : List Entry) → length (numbered n es).declarations.scoping.references ≤ length n.declarations.scoping.references + length es
numbered-references n [] = omega arith
numbered-references n (e ∷ es) = omega (arith, numbered-references (number n e) es, references-referred n.declarations e)

-- ---- the table of a program

pub few_rows : (t : Tree) → HasAtMost (nodes t) (built_table t)
few_rows t =
    let es : List Entry = entries_of t in
    let d : Declarations = declared none_declared es in
    let n : Numbering = record { declarations = d; ids = []; next_scope = 0 } in
    let few : length es ≤ nodes t = entries-few t in
    record {
      scopes = omega (arith, numbered-scopes n es, declared-scopes none_declared es, few);
      symbols = omega (arith, numbered-symbols n es, declared-symbols none_declared es, few);
      references = omega (arith, numbered-references n es, ap length (declared-references none_declared es), few);
    }
