-- Printed by tools/tree.py from tools/kinds.py.
-- Statements: the tree of each kind by its members (ESTree; the order of members is our own).
use Rattle.std.specs.Prelude.{ℕ, List, Bool, Option, None}
use Rattle.es_base.specs.Tree.{Tree, Node, end, more, child, list, string, boolean, trees, nullable, nullable_string}
use Rattle.es_base.specs.Words.{variable_declaration_kind_string}
use Rattle.es_base.specs.declared.kind.Kind.{Kind}
use Rattle.es_base.specs.declared.operator.VariableDeclarationKind.{VariableDeclarationKind}

-- `expression;`, with the raw string of a directive (ECMA-262, 14.5 and 11.2.1).
abbrev pub expression_statement : ℕ → Option (ℕ × ℕ) → Tree → Option (List ℕ) → Tree
expression_statement node_id span expression directive =
    Node Kind.ExpressionStatement node_id span None (more (child expression)
    (more (nullable_string directive) end))

-- `{ body }`, a block or the body of a function (ECMA-262, 14.2).
abbrev pub block_statement : ℕ → Option (ℕ × ℕ) → Option ℕ → List Tree → Tree
block_statement node_id span scope_id body =
    Node Kind.BlockStatement node_id span scope_id (more (list (trees body)) end)

-- `;` (ECMA-262, 14.4).
abbrev pub empty_statement : ℕ → Option (ℕ × ℕ) → Tree
empty_statement node_id span =
    Node Kind.EmptyStatement node_id span None end

-- `debugger;` (ECMA-262, 14.16).
abbrev pub debugger_statement : ℕ → Option (ℕ × ℕ) → Tree
debugger_statement node_id span =
    Node Kind.DebuggerStatement node_id span None end

-- `with (object) body` (ECMA-262, 14.11).
abbrev pub with_statement : ℕ → Option (ℕ × ℕ) → Tree → Tree → Tree
with_statement node_id span object body =
    Node Kind.WithStatement node_id span None (more (child object) (more (child body) end))

-- `return argument;` (ECMA-262, 14.10).
abbrev pub return_statement : ℕ → Option (ℕ × ℕ) → Option Tree → Tree
return_statement node_id span argument =
    Node Kind.ReturnStatement node_id span None (more (nullable argument) end)

-- `throw argument;` (ECMA-262, 14.14).
abbrev pub throw_statement : ℕ → Option (ℕ × ℕ) → Tree → Tree
throw_statement node_id span argument =
    Node Kind.ThrowStatement node_id span None (more (child argument) end)

-- `label: body` (ECMA-262, 14.13).
abbrev pub labeled_statement : ℕ → Option (ℕ × ℕ) → Tree → Tree → Tree
labeled_statement node_id span label body =
    Node Kind.LabeledStatement node_id span None (more (child label) (more (child body) end))

-- `break label;` (ECMA-262, 14.9).
abbrev pub break_statement : ℕ → Option (ℕ × ℕ) → Option Tree → Tree
break_statement node_id span label =
    Node Kind.BreakStatement node_id span None (more (nullable label) end)

-- `continue label;` (ECMA-262, 14.8).
abbrev pub continue_statement : ℕ → Option (ℕ × ℕ) → Option Tree → Tree
continue_statement node_id span label =
    Node Kind.ContinueStatement node_id span None (more (nullable label) end)

-- `if (test) consequent else alternate` (ECMA-262, 14.6).
abbrev pub if_statement : ℕ → Option (ℕ × ℕ) → Tree → Tree → Option Tree → Tree
if_statement node_id span test consequent alternate =
    Node Kind.IfStatement node_id span None (more (child test) (more (child consequent)
    (more (nullable alternate) end)))

-- `switch (discriminant) { cases }` (ECMA-262, 14.12).
abbrev pub switch_statement : ℕ → Option (ℕ × ℕ) → Option ℕ → Tree → List Tree → Tree
switch_statement node_id span scope_id discriminant cases =
    Node Kind.SwitchStatement node_id span scope_id (more (child discriminant)
    (more (list (trees cases)) end))

-- `case test: consequent`, or `default: consequent` without a test (ECMA-262, 14.12).
abbrev pub switch_case : ℕ → Option (ℕ × ℕ) → Option Tree → List Tree → Tree
switch_case node_id span test consequent =
    Node Kind.SwitchCase node_id span None (more (nullable test) (more (list (trees consequent))
    end))

-- `try block catch .. finally finalizer` (ECMA-262, 14.15).
abbrev pub try_statement : ℕ → Option (ℕ × ℕ) → Tree → Option Tree → Option Tree → Tree
try_statement node_id span block handler finalizer =
    Node Kind.TryStatement node_id span None (more (child block) (more (nullable handler)
    (more (nullable finalizer) end)))

-- `catch (param) body` (ECMA-262, 14.15).
abbrev pub catch_clause : ℕ → Option (ℕ × ℕ) → Option ℕ → Option Tree → Tree → Tree
catch_clause node_id span scope_id param body =
    Node Kind.CatchClause node_id span scope_id (more (nullable param) (more (child body) end))

-- `while (test) body` (ECMA-262, 14.7.3).
abbrev pub while_statement : ℕ → Option (ℕ × ℕ) → Tree → Tree → Tree
while_statement node_id span test body =
    Node Kind.WhileStatement node_id span None (more (child test) (more (child body) end))

-- `do body while (test);` (ECMA-262, 14.7.2).
abbrev pub do_while_statement : ℕ → Option (ℕ × ℕ) → Tree → Tree → Tree
do_while_statement node_id span body test =
    Node Kind.DoWhileStatement node_id span None (more (child body) (more (child test) end))

-- `for (init; test; update) body` (ECMA-262, 14.7.4).
abbrev pub for_statement : ℕ → Option (ℕ × ℕ) → Option ℕ → Option Tree → Option Tree → Option Tree
    → Tree → Tree
for_statement node_id span scope_id init test update body =
    Node Kind.ForStatement node_id span scope_id (more (nullable init) (more (nullable test)
    (more (nullable update) (more (child body) end))))

-- `for (left in right) body` (ECMA-262, 14.7.5).
abbrev pub for_in_statement : ℕ → Option (ℕ × ℕ) → Option ℕ → Tree → Tree → Tree → Tree
for_in_statement node_id span scope_id left right body =
    Node Kind.ForInStatement node_id span scope_id (more (child left) (more (child right)
    (more (child body) end)))

-- `for (left of right) body` or `for await (left of right) body` (ECMA-262, 14.7.5).
abbrev pub for_of_statement : ℕ → Option (ℕ × ℕ) → Option ℕ → Tree → Tree → Tree → Bool → Tree
for_of_statement node_id span scope_id left right body is_await =
    Node Kind.ForOfStatement node_id span scope_id (more (child left) (more (child right)
    (more (child body) (more (boolean is_await) end))))

-- `var`, `let` or `const` with its declarators (ECMA-262, 14.3).
abbrev pub variable_declaration : ℕ → Option (ℕ × ℕ) → VariableDeclarationKind → List Tree → Tree
variable_declaration node_id span kind declarations =
    Node Kind.VariableDeclaration node_id span None
    (more (string (variable_declaration_kind_string kind)) (more (list (trees declarations)) end))

-- `id = init` in a variable declaration (ECMA-262, 14.3).
abbrev pub variable_declarator : ℕ → Option (ℕ × ℕ) → Tree → Option Tree → Tree
variable_declarator node_id span id init =
    Node Kind.VariableDeclarator node_id span None (more (child id) (more (nullable init) end))
