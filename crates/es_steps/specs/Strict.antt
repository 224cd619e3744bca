-- Strict code (ECMA-262, 11.2.2). (That none becomes strict is our own.)
use Rattle.std.specs.Prelude.{ℕ, List, [], ◌∷◌, ◌++◌, Bool, true, false, ◌||◌, bytes_eq, codes}
use Rattle.es_base.specs.Tree.{Tree, Part, Parts, Node, end, more, child, list}
use Rattle.es_base.specs.declared.kind.Kind.{Kind}
use Rattle.es_steps.specs.Parts.{at, items, string_of}
use Rattle.es_steps.specs.KeptNodes.{are_new_or_among}

-- `"use strict";` as a directive
abbrev pub is_use_strict : Part → Bool
is_use_strict (child (Node Kind.ExpressionStatement m span semantic_id ps)) = bytes_eq (string_of (at 1 ps)) (codes "use strict")
is_use_strict p = false

abbrev pub has_use_strict : Parts → Bool
has_use_strict end = false
has_use_strict (more p ps) = is_use_strict p || has_use_strict ps

-- the statements of a function's body
abbrev pub directives : Part → Parts
directives (child (Node Kind.BlockStatement m span semantic_id ps)) = items (at 0 ps)
directives p = end

-- what makes the code of a node strict: a module, a class, and a program or function with the directive
abbrev pub makes_strict : Kind → Parts → Bool
makes_strict Kind.Program ps = bytes_eq (string_of (at 0 ps)) (codes "module") || has_use_strict (items (at 1 ps))
makes_strict Kind.ClassDeclaration ps = true
makes_strict Kind.ClassExpression ps = true
makes_strict Kind.FunctionDeclaration ps = has_use_strict (directives (at 2 ps))
makes_strict Kind.FunctionExpression ps = has_use_strict (directives (at 2 ps))
makes_strict Kind.ArrowFunctionExpression ps = has_use_strict (directives (at 1 ps))
makes_strict kind ps = false

-- ---- the numbers of the nodes in strict code

abbrev pub if_strict : Bool → ℕ → List ℕ
if_strict true m = m ∷ []
if_strict false m = []

abbrev mutual
  pub strict_numbers : Bool → Tree → List ℕ
  strict_numbers strict (Node kind m span semantic_id ps) = if_strict (strict || makes_strict kind ps) m ++ strict_in (strict || makes_strict kind ps) ps

  pub strict_in : Bool → Parts → List ℕ
  strict_in strict end = []
  strict_in strict (more p ps) = strict_at strict p ++ strict_in strict ps

  pub strict_at : Bool → Part → List ℕ
  strict_at strict (child t) = strict_numbers strict t
  strict_at strict (list ps) = strict_in strict ps
  strict_at strict p = []

-- ---- no code becomes strict

abbrev pub none_becomes_strict : ℕ → Tree → Tree → Bool
none_becomes_strict first p q = are_new_or_among first (strict_numbers false p) (strict_numbers false q)
