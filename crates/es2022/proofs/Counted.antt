-- A tree has as many nodes whatever numbers they have, and whatever semantic ids.
use Rattle.std.proofs.Common.{◌≡◌, refl, sym, ap, ◌∙◌, ℕ, ◌+◌, ◌*◌, ◌<◌, ◌≤◌, ◌^◌, length, true, arith}
use Rattle.std.proofs.lemmas.Bool.{leb-true}
use Rattle.std.specs.Prelude.{nat_le}
use Rattle.es2022.proofs.Rows.{HasAtMost, few_rows}
use Rattle.es2022.specs.Paid.{one, total_one}
use Rattle.es_base.proofs.PreorderLemmas.{news-le}
use Rattle.es_base.specs.Carried.{stripped, stripped_part, stripped_parts}
use Rattle.es_base.specs.Preorder.{news, news_of_part, nodes, nodes_of, nodes_of_part, one_if, renumbered, renumbered_part, renumbered_parts}
use Rattle.es_base.specs.Tree.{Tree, Part, Parts, Node, end, more, child, absent, list, string, no_string, boolean, literal}
use Rattle.es_ctx.specs.Outcome.{BeginsAt}
use Rattle.es_ctx.specs.declared.ctx.TraverseCtx.{TraverseCtx}
use Rattle.es_scopes.specs.Built.{built_table}
use Rattle.es_scopes.specs.Table.{Table}
use Rattle.es_steps.specs.declared.options.CompilerAssumptions.{CompilerAssumptions}
use Rattle.es_walk.specs.Given.{Suffice, suffice_begun}
use Rattle.es_walk.specs.Weight.{total}

mutual
  nodes-stripped : (t : Tree) → nodes (stripped t) ≡ nodes t
  nodes-stripped (Node kind id span semantic_id ps) = omega (arith, nodes_of-stripped ps)

  nodes_of_part-stripped : (p : Part) → nodes_of_part (stripped_part p) ≡ nodes_of_part p
  nodes_of_part-stripped (child t) = nodes-stripped t
  nodes_of_part-stripped absent = refl
  nodes_of_part-stripped (list all) = nodes_of-stripped all
  nodes_of_part-stripped (string s) = refl
  nodes_of_part-stripped no_string = refl
  nodes_of_part-stripped (boolean b) = refl
  nodes_of_part-stripped (literal v) = refl

  nodes_of-stripped : (ps : Parts) → nodes_of (stripped_parts ps) ≡ nodes_of ps
  nodes_of-stripped end = refl
  nodes_of-stripped (more p ps) = omega (arith, nodes_of_part-stripped p, nodes_of-stripped ps)

mutual
  nodes-renumbered : (f n : ℕ) (t : Tree) → nodes (renumbered f n t) ≡ nodes t
  nodes-renumbered f n (Node kind id span semantic_id ps) = omega (arith, nodes_of-renumbered f (n + one_if (nat_le f id)) ps)

  nodes_of_part-renumbered : (f n : ℕ) (p : Part) → nodes_of_part (renumbered_part f n p) ≡ nodes_of_part p
  nodes_of_part-renumbered f n (child t) = nodes-renumbered f n t
  nodes_of_part-renumbered f n absent = refl
  nodes_of_part-renumbered f n (list all) = nodes_of-renumbered f n all
  nodes_of_part-renumbered f n (string s) = refl
  nodes_of_part-renumbered f n no_string = refl
  nodes_of_part-renumbered f n (boolean b) = refl
  nodes_of_part-renumbered f n (literal v) = refl

  nodes_of-renumbered : (f n : ℕ) (ps : Parts) → nodes_of (renumbered_parts f n ps) ≡ nodes_of ps
  nodes_of-renumbered f n end = refl
  nodes_of-renumbered f n (more p ps) = omega (arith, nodes_of_part-renumbered f n p, nodes_of-renumbered f (n + news_of_part f p) ps)

-- what a scope table is built from has the nodes that it had
pub built_nodes : (t u : Tree) → stripped u ≡ stripped t → nodes u ≡ nodes t
built_nodes t u e = sym (nodes-stripped u) ∙ ap nodes e ∙ nodes-stripped t

pub numbered_nodes : (f n : ℕ) (t u : Tree) → u ≡ renumbered f n t → nodes u ≡ nodes t
numbered_nodes f n t u e = ap nodes e ∙ nodes-renumbered f n t

-- no more nodes are new than there are
pub news_few : (first : ℕ) (t : Tree) → nodes t ≤ 64 * first → first ≤ 2 ^ 20 → first + news first t < 2 ^ 32
news_few first t many few = omega (arith, news-le first t, many, few)

-- the walk has room for what it makes: for nodes, scopes, symbols and references
pub walk_suffices : (source t : Tree) (first : ℕ) (table : Table) (a : CompilerAssumptions) (c : TraverseCtx) → nodes t ≡ nodes source → first ≡ nodes source → nat_le (nodes source) 1048576 ≡ true → table ≡ built_table source → BeginsAt t table a c → Suffice (λ (room : ℕ). room) (total one t) (63 * first, c)
walk_suffices source t first table a c same count few built begins =
    let least : nodes source ≤ 1048576 = leb-true (nodes source) 1048576 few in
    let rows : HasAtMost (nodes source) (built_table source) = few_rows source in
    suffice_begun (λ (room : ℕ). room) (total one t) (63 * first) c t table a begins
    (omega (arith, total_one t, same, count, least))
    (omega (arith, total_one t, same, count, least, rows.scopes, ap (λ (x : Table). length x.scopes) built))
    (omega (arith, total_one t, same, count, least, rows.symbols, ap (λ (x : Table). length x.symbols) built))
    (omega (arith, total_one t, same, count, least, rows.references, ap (λ (x : Table). length x.references) built))
