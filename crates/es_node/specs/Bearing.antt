-- Which nodes bear a semantic id, the number of a scope, a symbol or a reference.
use Rattle.std.specs.Prelude.{ℕ, Bool, true, false, Option, Some, None}
use Rattle.es_base.specs.declared.kind.Kind.{Kind}

-- the kinds whose nodes have a scope, a symbol or a reference
abbrev pub bears_semantic_id : Kind → Bool
bears_semantic_id Kind.Program = true
bears_semantic_id Kind.BlockStatement = true
bears_semantic_id Kind.CatchClause = true
bears_semantic_id Kind.ClassDeclaration = true
bears_semantic_id Kind.ClassExpression = true
bears_semantic_id Kind.FunctionDeclaration = true
bears_semantic_id Kind.FunctionExpression = true
bears_semantic_id Kind.ArrowFunctionExpression = true
bears_semantic_id Kind.ForStatement = true
bears_semantic_id Kind.ForInStatement = true
bears_semantic_id Kind.ForOfStatement = true
bears_semantic_id Kind.SwitchStatement = true
bears_semantic_id Kind.StaticBlock = true
bears_semantic_id Kind.IdentifierReference = true
bears_semantic_id Kind.BindingIdentifier = true
bears_semantic_id kind = false

abbrev pub semantic_id_fits : Kind → Option ℕ → Bool
semantic_id_fits kind None = true
semantic_id_fits kind (Some s) = bears_semantic_id kind
