-- What is told beside a lowered program: its warnings. (Its shapes are in specs/Shapes.antt.)
use Rattle.std.specs.Prelude.{ℕ, List, [], ◌∷◌, ◌++◌, Bool, true, false, cond}
use Rattle.es_base.specs.Tree.{Tree, Part, Parts, Node, end, more, child, list}
use Rattle.es_base.specs.declared.kind.Kind.{Kind}
use Rattle.es_steps.specs.declared.options.Options.{Options}

-- ---- await expressions whose nearest function, arrow or static block is none but the program

abbrev pub is_hoist_scope : Kind → Bool
is_hoist_scope Kind.FunctionDeclaration = true
is_hoist_scope Kind.FunctionExpression = true
is_hoist_scope Kind.ArrowFunctionExpression = true
is_hoist_scope Kind.StaticBlock = true
is_hoist_scope kind = false

abbrev pub await_here : Kind → ℕ → List ℕ
await_here Kind.AwaitExpression m = m ∷ []
await_here kind m = []

abbrev mutual
  pub top_awaits : Tree → List ℕ
  top_awaits (Node kind m span semantic_id ps) = await_here kind m ++ cond (is_hoist_scope kind) [] (top_awaits_in ps)

  pub top_awaits_in : Parts → List ℕ
  top_awaits_in end = []
  top_awaits_in (more p ps) = top_awaits_of p ++ top_awaits_in ps

  pub top_awaits_of : Part → List ℕ
  top_awaits_of (child t) = top_awaits t
  top_awaits_of (list ps) = top_awaits_in ps
  top_awaits_of p = []

-- the nodes to warn of, by number; none without the option
abbrev pub warnings : Bool → Tree → List ℕ
warnings with_warnings t = cond with_warnings (top_awaits t) []

abbrev pub warnings_of : Options → Tree → List ℕ
warnings_of o t = warnings o.es2022.top_level_await t
