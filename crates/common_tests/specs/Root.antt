-- The only scope of a table.
use Rattle.std.specs.Prelude.{[], None}
use Rattle.es_base.specs.declared.ids.ScopeId.{ScopeId}
use Rattle.es_scopes.specs.Table.{Table, with_new_scope}
use Rattle.es_scopes.specs.declared.flags.TheConstants.ScopeFlags as flag

abbrev pub root : ScopeId
root = record { 0 = 0 }

-- a table of this scope, which holds no name
abbrev pub one_scope : Table
one_scope = with_new_scope (record { scopes = []; symbols = []; references = [] }) None flag.TOP
