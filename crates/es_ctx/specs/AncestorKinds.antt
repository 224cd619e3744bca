-- At which place of the node around a node stands, by name (oxc_traverse, `Ancestor`; the members are those of
-- the table of kinds).
use Rattle.std.specs.Prelude.{ℕ, List, [], ◌∷◌, slice_get, unwrap_or}
use Rattle.es_base.specs.declared.kind.Kind.{Kind}
use Rattle.es_ctx.specs.declared.ancestor_kind.AncestorKind.{AncestorKind}

-- the places of the members of a node, as far as they have names
abbrev pub member_kinds : Kind → List AncestorKind
member_kinds Kind.Program = AncestorKind.Other ∷ AncestorKind.ProgramBody ∷ []
member_kinds Kind.BlockStatement = AncestorKind.BlockBody ∷ []
member_kinds Kind.StaticBlock = AncestorKind.StaticBlockBody ∷ []
member_kinds Kind.SwitchStatement = AncestorKind.Other ∷ AncestorKind.SwitchCases ∷ []
member_kinds Kind.SwitchCase = AncestorKind.Other ∷ AncestorKind.SwitchCaseConsequent ∷ []
member_kinds Kind.FunctionDeclaration = AncestorKind.Other ∷ AncestorKind.FunctionParams ∷ AncestorKind.FunctionBody ∷ []
member_kinds Kind.FunctionExpression = AncestorKind.Other ∷ AncestorKind.FunctionParams ∷ AncestorKind.FunctionBody ∷ []
member_kinds Kind.ArrowFunctionExpression = AncestorKind.ArrowParams ∷ AncestorKind.ArrowBody ∷ []
member_kinds Kind.ClassDeclaration = AncestorKind.Other ∷ AncestorKind.ClassHeritage ∷ AncestorKind.ClassBody ∷ []
member_kinds Kind.ClassExpression = AncestorKind.Other ∷ AncestorKind.ClassHeritage ∷ AncestorKind.ClassBody ∷ []
member_kinds Kind.PropertyDefinition = AncestorKind.PropertyDefinitionKey ∷ AncestorKind.PropertyDefinitionValue ∷ []
member_kinds Kind.MethodDefinition = AncestorKind.MethodDefinitionKey ∷ []
member_kinds Kind.VariableDeclarator = AncestorKind.Other ∷ AncestorKind.VariableDeclaratorInit ∷ []
member_kinds Kind.AssignmentPattern = AncestorKind.Other ∷ AncestorKind.AssignmentPatternRight ∷ []
member_kinds Kind.AssignmentExpression = AncestorKind.Other ∷ AncestorKind.Other ∷ AncestorKind.AssignmentExpressionRight ∷ []
member_kinds Kind.AssignmentTargetWithDefault = AncestorKind.Other ∷ AncestorKind.AssignmentTargetWithDefaultInit ∷ []
member_kinds Kind.ExportDefaultDeclaration = AncestorKind.ExportDefault ∷ []
member_kinds Kind.ExportNamedDeclaration = AncestorKind.ExportNamed ∷ []
member_kinds Kind.CallExpression = AncestorKind.CallCallee ∷ []
member_kinds Kind.TaggedTemplateExpression = AncestorKind.Tag ∷ []
member_kinds Kind.CatchClause = AncestorKind.CatchParam ∷ []
member_kinds Kind.ForStatement = AncestorKind.LoopHead ∷ AncestorKind.LoopHead ∷ AncestorKind.LoopHead ∷ []
member_kinds Kind.ForInStatement = AncestorKind.LoopHead ∷ AncestorKind.LoopHead ∷ []
member_kinds Kind.ForOfStatement = AncestorKind.LoopHead ∷ AncestorKind.LoopHead ∷ []
member_kinds kind = []

abbrev pub kind_of_member : Kind → ℕ → AncestorKind
kind_of_member kind at = unwrap_or (slice_get (member_kinds kind) at) AncestorKind.Other

-- in a parameter, which may have a default value
abbrev pub as_parameter : AncestorKind → AncestorKind
as_parameter AncestorKind.AssignmentPatternRight = AncestorKind.FormalParameterInitializer
as_parameter kind = kind

-- the place of a member of a node that itself stands at such a place
abbrev pub kind_inside : AncestorKind → Kind → ℕ → AncestorKind
kind_inside AncestorKind.FunctionParams kind at = as_parameter (kind_of_member kind at)
kind_inside AncestorKind.ArrowParams kind at = as_parameter (kind_of_member kind at)
kind_inside around kind at = kind_of_member kind at
