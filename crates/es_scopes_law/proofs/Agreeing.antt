-- A built table agrees with its tree.
use Rattle.std.proofs.Common.{◌≡◌, sym, subst, ◌∙◌, ℕ, List, [], true}
use Rattle.es_base.specs.Conforms.{conforms}
use Rattle.es_base.specs.Numbered.{numbers, EachOnce}
use Rattle.es_base.specs.Tree.{Tree}
use Rattle.es_base.specs.declared.table.Place.{Place}
use Rattle.es_scopes.specs.Agreement.{Agrees}
use Rattle.es_scopes.specs.Built.{built_table}
use Rattle.es_scopes.specs.NodeBindings.{bindings_of}
use Rattle.es_scopes.specs.NodeScopes.{scopes_of}
use Rattle.es_scopes.specs.Table.{Table}
use Rattle.es_scopes_law.specs.Build.{built_tree}
use Rattle.es_scopes_law.proofs.Borne.{given, bearing-built}
use Rattle.es_scopes_law.proofs.Lists.{in-Contains}
use Rattle.es_scopes_law.proofs.MutatedAgree.{mutated-is-written}
use Rattle.es_scopes_law.proofs.ReferencesAgree.{carries-reference_of}
use Rattle.es_scopes_law.proofs.Same.{entries-built, table-built, conforms-built, numbers-built}
use Rattle.es_scopes_law.proofs.ScopesAgree.{IsBuilt, carries-scope_of, scopes-apart, symbol-is-there}
use Rattle.es_steps.specs.References.{resolve}

-- a tree that carries the numbers of its table agrees with it, whatever names were generated
pub agrees : (t : Tree) (generated : List (List ℕ)) → IsBuilt t → Agrees generated (built_table t) t
agrees t generated h = record {
  scopes = λ x among. carries-scope_of t h x (in-Contains x (scopes_of t) among);
  apart = λ x y in-x in-y same. scopes-apart t h x y (in-Contains x (scopes_of t) in-x) (in-Contains y (scopes_of t) in-y) same;
  references = λ r among. carries-reference_of t h r (in-Contains r (resolve t) among);
  symbols = λ b y among carries. symbol-is-there t h b y (in-Contains b (bindings_of t) among) carries;
  mutated = λ b y among carries left. mutated-is-written t h b y (in-Contains b (bindings_of t) among) carries;
}

-- the tree that `build` leaves is such a tree
built : (t : Tree) → conforms Place.Program t ≡ true → EachOnce (numbers t) → IsBuilt (built_tree t)
built t h once = record {
  conforming = conforms-built Place.Program t ∙ h;
  once = subst EachOnce (sym (numbers-built t)) once;
  bears = bearing-built t ∙ (λ i. given (sym (table-built t) i) 0 0 (sym (entries-built t) i));
}

pub built-agrees : (t : Tree) → conforms Place.Program t ≡ true → EachOnce (numbers t) → Agrees [] (built_table t) (built_tree t)
built-agrees t h once = subst (λ (table : Table). Agrees [] table (built_tree t)) (table-built t) (agrees (built_tree t) [] (built t h once))
