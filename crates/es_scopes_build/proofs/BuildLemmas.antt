-- The entries of a program, and their numbers, are as many as its nodes that may bear one.
use Rattle.std.proofs.Common.{◌≡◌, sym, ap, ◌∙◌, subst, true, ℕ, ◌+◌, ◌<◌, ◌≤◌, ◌^◌, List, [], ◌∷◌, length, Option, arith}
use Rattle.std.proofs.lemmas.List.{length-append}
use Rattle.es_base.specs.Conforms.{conforms}
use Rattle.es_base.specs.Numbered.{numbers, EachOnce}
use Rattle.es_base.specs.Preorder.{nodes}
use Rattle.es_base.specs.Tree.{Tree}
use Rattle.es_base.specs.declared.table.Place.{Place}
use Rattle.es_scopes.specs.Agreement.{Agrees}
use Rattle.es_scopes.specs.Entries.{entries_of, nothing_yet}
use Rattle.es_scopes.specs.Surroundings.{nowhere}
use Rattle.es_scopes.specs.Table.{Table}
use Rattle.es_scopes.specs.Tables.{AreOrdered, number, numbered, numbering_of, id_of, declared, none_declared}
use Rattle.es_scopes.specs.declared.entry.Entry.{Entry}
use Rattle.es_scopes.specs.declared.refer.Numbering.{Numbering}
use Rattle.es_scopes.proofs.OrderLemmas.{entries-ordered}
use Rattle.es_scopes_law.specs.Build.{built_tree}
use Rattle.es_scopes_law.specs.Written.{bearers, written}
use Rattle.es_scopes_law.proofs.Agreeing.{built-agrees}
use Rattle.es_scopes_build.proofs.WalkLemmas.{entry_each, bearers-nodes}

pub ordered : (t : Tree) (es : List Entry) → es ≡ entries_of t → AreOrdered 0 es
ordered t es is = subst (AreOrdered 0) (sym is) (entries-ordered t)

as_many : (t : Tree) → length (entries_of t) ≡ bearers t
as_many t = omega (arith, entry_each nowhere nothing_yet t)

pub few : (t : Tree) (es : List Entry) → es ≡ entries_of t → nodes t < 2 ^ 32 → length es < 2 ^ 32
few t es is l = subst (λ (fs : List Entry). length fs < 2 ^ 32) (sym is) (omega (arith, as_many t, bearers-nodes t, l))

each_number : (n : Numbering) (es : List Entry) → length (numbered n es).ids ≡ length n.ids + length es
each_number n [] = omega arith
each_number n (e ∷ es) = omega (arith, each_number (number n e) es, length-append n.ids (id_of n e ∷ []))

pub enough : (t : Tree) (es : List Entry) (n : Numbering) (ids : List (Option ℕ)) → es ≡ entries_of t → n ≡ numbering_of es → ids ≡ n.ids → 0 + bearers t ≤ length ids
enough t es n ids is_es is_n is_ids =
    let many : length n.ids ≡ length es = subst (λ (x : Numbering). length x.ids ≡ length es) (sym is_n) (omega (arith, each_number (record { declarations = declared none_declared es; ids = []; next_scope = 0 }) es)) in
    let all : length es ≡ bearers t = subst (λ (fs : List Entry). length fs ≡ bearers t) (sym is_es) (as_many t) in
    subst (λ (l : List (Option ℕ)). 0 + bearers t ≤ length l) (sym is_ids) (omega (arith, many, all))

-- the table agrees with the tree, as it is numbered and written
pub agreeing : (t new : Tree) (es : List Entry) (n : Numbering) (ids : List (Option ℕ)) → es ≡ entries_of t → n ≡ numbering_of es → ids ≡ n.ids → new ≡ written ids 0 t → conforms Place.Program t ≡ true → EachOnce (numbers t) → Agrees [] n.declarations.scoping new
agreeing t new es n ids is_es is_n is_ids is_new h once =
    let numbering : numbering_of (entries_of t) ≡ n = sym (is_n ∙ ap numbering_of is_es) in
    let tree : built_tree t ≡ new = sym (is_new ∙ ap (λ (l : List (Option ℕ)). written l 0 t) (is_ids ∙ ap (λ (x : Numbering). x.ids) (sym numbering))) in
    subst (λ (p : Table × Tree). Agrees [] p.0 p.1) (λ i. ((numbering i).declarations.scoping, tree i)) (built-agrees t h once)
