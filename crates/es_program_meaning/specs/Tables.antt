-- What no evaluation finds of a program.
use Rattle.std.specs.Prelude.{◌≡◌, ℕ, List, [], false}
use Rattle.es_base.specs.Preorder.{preorder}
use Rattle.es_base.specs.Tree.{Tree}
use Rattle.es_by_number.specs.Numbered.{pairs}
use Rattle.es_declarations.specs.Kinds.{bindings_in}
use Rattle.es_declarations.specs.Globals.{names_in}
use Rattle.es_modules.specs.Links.{links_of}
use Rattle.es_program_meaning.specs.declared.tables.Tables.{Tables}
use Rattle.es_steps.specs.Branches.{around_branches}
use Rattle.es_steps.specs.Meaning as spec
use Rattle.es_steps.specs.Modules.{links_in}
use Rattle.es_steps.specs.Repeated.{all_places}
use Rattle.es_steps.specs.Shared.{shared}

-- d are the private members with their functions
pub record AreTables (x : Tables) (o : spec.Terms) (t : Tree) (d : List (ℕ × ℕ)) : Type 0 where
  pub functions : pairs x.functions.items ≡ spec.by_number (spec.declared_functions o.ledger (preorder t))
  pub bindings : bindings_in x.bindings.items ≡ spec.by_number (spec.old_bindings o.first_new (spec.declaring o.first_new spec.ClassDeclared t))
  pub globals : names_in x.globals.items ≡ spec.by_number (spec.globals o.first_new t)
  pub shared : pairs x.shared.items ≡ spec.by_number (shared false t)
  pub places : pairs x.places.items ≡ spec.by_number (all_places o.first_new o.ledger (spec.second_numbers d) t)
  pub branches : pairs x.branches.items ≡ spec.by_number (around_branches [] t)
  pub links : links_of x.links.items ≡ links_in (spec.body_of t)
