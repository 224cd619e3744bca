-- What a module exports as default, which it can import itself, is there before what stood behind it runs (ECMA-262, 16.2.3.7). Where a
-- class declaration is exported under a name, its events tell. (Our own.)
use Rattle.std.specs.Prelude.{ℕ, List, [], ◌++◌, Bool, true, false, cond, not, ◌||◌}
use Rattle.es_base.specs.Preorder.{preorder_of_part}
use Rattle.es_base.specs.Tree.{Tree, Part, Parts, Node, end, more, child}
use Rattle.es_base.specs.declared.kind.Kind.{Kind}
use Rattle.es_lowered.specs.ClassNames.{numbers_of}
use Rattle.es_steps.specs.KeptNodes.{are_new_or_among}
use Rattle.es_steps.specs.Meaning.{body_of}

abbrev pub statement_numbers : Part → List ℕ
statement_numbers p = numbers_of (preorder_of_part p)

-- what runs where it stands: a function declaration does not
abbrev pub running_here : Part → List ℕ
running_here (child (Node Kind.FunctionDeclaration m span semantic_id ps)) = []
running_here p = statement_numbers p

abbrev pub is_default : Part → Bool
is_default (child (Node Kind.ExportDefaultDeclaration m span semantic_id ps)) = true
is_default p = false

abbrev pub declares_default : Part → Bool
declares_default (child (Node Kind.ExportDefaultDeclaration m span semantic_id (more (child (Node Kind.ClassDeclaration n nspan n_semantic_id ps)) rest))) = true
declares_default (child (Node Kind.ExportDefaultDeclaration m span semantic_id (more (child (Node Kind.FunctionDeclaration n nspan n_semantic_id ps)) rest))) = true
declares_default p = false

abbrev pub holds : (Part → Bool) → Parts → Bool
holds is_it end = false
holds is_it (more p ps) = is_it p || holds is_it ps

-- ---- up to the default export, with it

abbrev pub running_up_to : Parts → List ℕ
running_up_to end = []
running_up_to (more p ps) = running_here p ++ cond (is_default p) [] (running_up_to ps)

abbrev pub up_to : Parts → List ℕ
up_to end = []
up_to (more p ps) = statement_numbers p ++ cond (is_default p) [] (up_to ps)

abbrev pub default_stays : ℕ → Tree → Tree → Bool
default_stays first p q = cond (holds is_default (body_of q)) (are_new_or_among first (up_to (body_of p)) (running_up_to (body_of q))) (not (holds is_default (body_of p)) || holds declares_default (body_of p))
