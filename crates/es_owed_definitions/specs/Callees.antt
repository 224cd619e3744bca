-- Callees that are properties of names.
use Rattle.std.specs.Prelude.{ℕ, List, [], cond, ◌&&◌, bytes_eq, codes, Option, Some, None}
use Rattle.std.specs.Str.{chars}
use Rattle.es_base.specs.Numbered.{is_new}
use Rattle.es_base.specs.Tree.{Tree, Part, Parts, Node, end, more, child, string}
use Rattle.es_base.specs.declared.kind.Kind.{Kind}
use Rattle.es_base.specs.declared.ledger.LedgerEntry.{LedgerEntry}
use Rattle.es_lowered.specs.Definitions.{FieldDefinition, helper_definition, object_definition}
use Rattle.es_owed_definitions.specs.declared.callee.Callee as code
use Rattle.es_steps.specs.Values.{String}

-- `object.property`, with the number of the object
pub record Callee : Type 0 where
  pub number : ℕ
  pub object : String
  pub property : String

abbrev pub callee_view : code.Callee → Callee
callee_view c = record { number = c.number; object = chars c.object.now; property = chars c.property.now }

abbrev pub callee_on : ℕ → String → Tree → Option Callee
callee_on b s (Node Kind.IdentifierName k span semantic_id (more (string t) end)) = Some (record { number = b; object = s; property = t })
callee_on b s p = None

abbrev pub callee_by : Tree → Tree → Option Callee
callee_by (Node Kind.IdentifierReference b span semantic_id (more (string s) end)) p = callee_on b s p
callee_by o p = None

abbrev pub callee_of : Part → Option Callee
callee_of (child (Node Kind.MemberExpression m span semantic_id (more (child (Node Kind.IdentifierReference b bspan b_semantic_id (more (string s) end))) (more (child (Node Kind.IdentifierName k kspan k_semantic_id (more (string t) end))) rest)))) = Some (record { number = b; object = s; property = t })
callee_of f = None

-- the definition that a call of it is
abbrev pub definition_by : ℕ → List LedgerEntry → Callee → Parts → List FieldDefinition
definition_by first ledger c es = cond (is_new first c.number && bytes_eq c.object (codes "babelHelpers")) (helper_definition c.property es) (cond (is_new first c.number && (bytes_eq c.object (codes "Object") && bytes_eq c.property (codes "defineProperty"))) (object_definition ledger es) [])

abbrev pub called : ℕ → List LedgerEntry → Option Callee → Parts → List FieldDefinition
called first ledger None es = []
called first ledger (Some c) es = definition_by first ledger c es
