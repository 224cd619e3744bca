-- Faults of names: declarations that repeat a name, and calls of `eval`. They need the scopes of the whole program.
-- (ECMA-262, 14.2.1, 14.7.4.1, 14.12.1, 15.2.1, 16.1.1, 16.2.1.1)
use Rattle.std.specs.Prelude.{ℕ, List, [], ◌∷◌, ◌++◌, filter, Bool, false, cond, not, ◌&&◌, ◌||◌, nat_lt, bytes_eq, codes}
use Rattle.es_base.specs.Preorder.{preorder}
use Rattle.es_base.specs.Tree.{Tree, Part, Parts, Node, child}
use Rattle.es_base.specs.declared.kind.Kind.{Kind}
use Rattle.es_steps.specs.Parts.{at, items}
use Rattle.es_steps.specs.References.{Reference, resolve, is_free, has_number, numbers_of}
use Rattle.es_steps.specs.Scopes.{Declaration, no_class, ScopeForm, block_scope, loop_scope, switch_scope, catch_scope, scope_form, scope_names, bound_part, lexical_part, var_part, var_items, body_names, is_var}

-- ---- names that are declared again: one of both by `let`, `const`, `class` or `import`

-- the identifiers that a declaration of that sort declares
abbrev pub declared_by : Kind → Parts → List ℕ
declared_by Kind.VariableDeclaration ps = cond (is_var ps) [] (numbers_of (bound_part no_class (at 1 ps)))
declared_by Kind.ClassDeclaration ps = numbers_of (bound_part no_class (at 0 ps))
declared_by Kind.ImportDeclaration ps = numbers_of (bound_part no_class (at 0 ps))
declared_by kind ps = []

abbrev pub lexical_identifiers : List Tree → List ℕ
lexical_identifiers [] = []
lexical_identifiers (Node kind m span semantic_id ps ∷ ts) = declared_by kind ps ++ lexical_identifiers ts

-- a function that is a branch of an `if` stands there as in a block of its own (ECMA-262, B.3.3)
abbrev pub function_name : Part → List ℕ
function_name (child (Node Kind.FunctionDeclaration m span semantic_id ps)) = numbers_of (bound_part no_class (at 0 ps))
function_name p = []

abbrev pub branch_names : List Tree → List ℕ
branch_names [] = []
branch_names (Node Kind.IfStatement m span semantic_id ps ∷ ts) = (function_name (at 1 ps) ++ function_name (at 2 ps)) ++ branch_names ts
branch_names (t ∷ ts) = branch_names ts

-- the declarations that count in a scope: those of its own, and each `var` in it; the block of a function's body has no more
-- than the function
abbrev pub counted : ScopeForm → ℕ → Parts → List Declaration
counted block_scope m ps = body_names (items (at 0 ps))
counted loop_scope m ps = lexical_part (at 0 ps) ++ var_items ps
counted switch_scope m ps = body_names (items (at 1 ps))
counted catch_scope m ps = bound_part no_class (at 0 ps) ++ var_part (at 1 ps)
counted form m ps = scope_names form m ps

-- by the numbers of lexical identifiers, whether the first declaration is repeated by the second
abbrev pub is_repeated_by : List ℕ → Declaration → Declaration → Bool
is_repeated_by lexical e d = bytes_eq e.spelling d.spelling && (nat_lt e.number d.number && (has_number e.number lexical || has_number d.number lexical))

abbrev pub is_repeat : List ℕ → List Declaration → Declaration → Bool
is_repeat lexical [] d = false
is_repeat lexical (e ∷ es) d = is_repeated_by lexical e d || is_repeat lexical es d

abbrev pub repeats : List ℕ → List Declaration → List ℕ
repeats lexical ds = numbers_of (filter (is_repeat lexical ds) ds)

abbrev pub not_among : List ℕ → Declaration → Bool
not_among numbers d = not (has_number d.number numbers)

abbrev pub repeats_of_all : List ℕ → List ℕ → List Tree → List ℕ
repeats_of_all lexical branches [] = []
repeats_of_all lexical branches (Node kind m span semantic_id ps ∷ ts) = repeats lexical (filter (not_among branches) (counted (scope_form kind) m ps)) ++ repeats_of_all lexical branches ts

abbrev pub repeated_names : Tree → List ℕ
repeated_names t = let ts = preorder t in repeats_of_all (lexical_identifiers ts) (branch_names ts) ts

-- ---- `eval(..)`, where the name is free (ECMA-262, 13.3.6.1)

abbrev pub free_evals : List Reference → List ℕ
free_evals [] = []
free_evals (r ∷ rs) = cond (is_free (codes "eval") r.to) (r.number ∷ []) [] ++ free_evals rs

abbrev pub is_eval : List ℕ → Part → Bool
is_eval evals (child (Node Kind.IdentifierReference m span semantic_id ps)) = has_number m evals
is_eval evals p = false

abbrev pub eval_calls_of_all : List ℕ → List Tree → List ℕ
eval_calls_of_all evals [] = []
eval_calls_of_all evals (Node Kind.CallExpression m span semantic_id ps ∷ ts) = cond (is_eval evals (at 0 ps)) (m ∷ []) [] ++ eval_calls_of_all evals ts
eval_calls_of_all evals (t ∷ ts) = eval_calls_of_all evals ts

abbrev pub eval_calls : Tree → List ℕ
eval_calls t = eval_calls_of_all (free_evals (resolve t)) (preorder t)

-- ---- all of them, by the numbers of the nodes

pub record Facts : Type 0 where
  pub repeated_names : List ℕ
  pub eval_calls : List ℕ

abbrev pub facts_of : Tree → Facts
facts_of t = record { repeated_names = repeated_names t; eval_calls = eval_calls t }
