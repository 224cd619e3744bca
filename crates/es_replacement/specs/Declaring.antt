-- What a meaning tells of a tree beside its code.
use Rattle.std.specs.Prelude.{◌≡◌, ℕ, List, [], false}
use Rattle.es_base.specs.Preorder.{preorder}
use Rattle.es_base.specs.Tree.{Tree}
use Rattle.es_steps.specs.Branches.{around_branches}
use Rattle.es_steps.specs.Evaluation.{Environment}
use Rattle.es_steps.specs.Meaning.{Terms, ClassDeclared, by_number, declared_functions, old_bindings, declaring, globals, second_numbers, source_type_of, body_of, in_body, start}
use Rattle.es_steps.specs.Modules.{links_in, exports_in}
use Rattle.es_steps.specs.Repeated.{all_places}
use Rattle.es_steps.specs.Shared.{shared}

-- the same names are declared, imported and exported, and the same stands in each part that is evaluated again; d are the
-- private members with their functions
pub record DeclaresAlike (o : Terms) (d : List (ℕ × ℕ)) (t u : Tree) : Type 0 where
  pub source_type : source_type_of t ≡ source_type_of u
  pub functions : by_number (declared_functions o.ledger (preorder t)) ≡ by_number (declared_functions o.ledger (preorder u))
  pub bindings : by_number (old_bindings o.first_new (declaring o.first_new ClassDeclared t)) ≡ by_number (old_bindings o.first_new (declaring o.first_new ClassDeclared u))
  pub globals : by_number (globals o.first_new t) ≡ by_number (globals o.first_new u)
  pub shared : by_number (shared false t) ≡ by_number (shared false u)
  pub places : by_number (all_places o.first_new o.ledger (second_numbers d) t) ≡ by_number (all_places o.first_new o.ledger (second_numbers d) u)
  pub branches : by_number (around_branches [] t) ≡ by_number (around_branches [] u)
  pub links : links_in (body_of t) ≡ links_in (body_of u)
  pub exports : (env : Environment) → exports_in (in_body (start o t) t) env (body_of t) ≡ exports_in (in_body (start o u) u) env (body_of u)
