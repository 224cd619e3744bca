-- The nodes that are warned of.
use Rattle.std.specs.Prelude.{ℕ, List, [], ◌∷◌, ◌++◌, map, cond, Option}
use Rattle.es_base.specs.Carried.{span_of}
use Rattle.es_base.specs.Tree.{Tree, Part, Parts, Node, end, more, child, list}
use Rattle.es_base.specs.declared.diagnostic.Diagnostic.{Diagnostic}
use Rattle.es_base.specs.declared.kind.Kind.{Kind}
use Rattle.es_node.specs.View.{number_in, span_in}
use Rattle.es_steps.specs.Told.{is_hoist_scope}
use Rattle.es_steps.specs.declared.options.Options.{Options}

-- the await expressions whose nearest function, arrow or static block is none but the program
abbrev pub if_await : Kind → Tree → List Tree
if_await Kind.AwaitExpression t = t ∷ []
if_await kind t = []

abbrev mutual
  pub awaits : Tree → List Tree
  awaits (Node kind m span semantic_id ps) = if_await kind (Node kind m span semantic_id ps) ++ cond (is_hoist_scope kind) [] (awaits_in ps)

  pub awaits_in : Parts → List Tree
  awaits_in end = []
  awaits_in (more p ps) = awaits_of p ++ awaits_in ps

  pub awaits_of : Part → List Tree
  awaits_of (child t) = awaits t
  awaits_of (list ps) = awaits_in ps
  awaits_of p = []

abbrev pub awaits_if : Options → Tree → List Tree
awaits_if o t = cond o.es2022.top_level_await (awaits t) []

-- the number of a node, and where it stands in its source
abbrev pub place_of : Tree → ℕ × Option (ℕ × ℕ)
place_of t = (number_in t, span_in t)

abbrev pub place_in : Diagnostic → ℕ × Option (ℕ × ℕ)
place_in d = (d.node.0, span_of d.span)

-- of warnings of these nodes
abbrev pub places : List Diagnostic → List (ℕ × Option (ℕ × ℕ))
places ds = map place_in ds

abbrev pub numbers : List Diagnostic → List ℕ
numbers ds = map (λ d. d.node.0) ds
