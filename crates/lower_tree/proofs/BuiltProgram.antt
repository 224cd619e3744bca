-- The numbers of a scope table on the nodes of a program leave it what it was, and a lowered program is small enough to have one.
use Rattle.std.proofs.Common.{◌≡◌, ◌∙◌, sym, ap, subst, ℕ, List, ◌<◌, ◌≤◌, ◌*◌, ◌^◌, true, arith}
use Rattle.std.proofs.lemmas.Bool.{and_parts, leb-true}
use Rattle.std.specs.Prelude.{is_none, nat_le}
use Rattle.es_base.specs.Carried.{stripped}
use Rattle.es_base.specs.Conforms.{conforms}
use Rattle.es_base.specs.Numbered.{numbers, EachOnce}
use Rattle.es_base.specs.Preorder.{nodes}
use Rattle.es_base.specs.Tree.{Tree}
use Rattle.es_base.specs.declared.ledger.LedgerEntry.{LedgerEntry}
use Rattle.es_base.specs.declared.table.Place.{Place}
use Rattle.es2022.proofs.Counted.{built_nodes}
use Rattle.es_scopes_law.proofs.Same.{conforms-built, numbers-built}
use Rattle.es_scopes_law.specs.Build.{built_tree}
use Rattle.es_steps.specs.FirstForm.{most_nodes}
use Rattle.es_steps.specs.declared.options.Options.{Options}
use Rattle.es_validity.specs.Facts.{facts_of}
use Rattle.es_validity.specs.Validity.{first_fault_by, is_valid}
use Rattle.lower_es2022.specs.Own.{IsMade}

pub built_program : (q t : Tree) → conforms Place.Program q ≡ true → t ≡ built_tree q → conforms Place.Program t ≡ true
built_program q t h e = ap (conforms Place.Program) e ∙ conforms-built Place.Program q ∙ h

pub built_once : (q t : Tree) → EachOnce (numbers q) → t ≡ built_tree q → EachOnce (numbers t)
built_once q t h e = subst EachOnce (sym (ap numbers e ∙ numbers-built q)) h

pub built_few : (q t : Tree) → stripped t ≡ stripped q → nodes q < 2 ^ 32 → nodes t < 2 ^ 32
built_few q t e h = subst (λ n. n < 2 ^ 32) (sym (built_nodes q t e)) h

-- a valid program has few nodes, and what it is lowered to at most 64 times as many
pub made_few : (o : Options) (p q : Tree) (foreign : List ℕ) (names : List LedgerEntry) → is_valid o foreign p ≡ true → IsMade o p foreign names q → nodes q < 2 ^ 32
made_few o p q foreign names valid made =
    let small = (and_parts (nat_le (nodes p) most_nodes) (is_none (first_fault_by (facts_of p) o foreign p)) valid).0 in
    omega (arith, made.few, leb-true (nodes p) most_nodes small)
