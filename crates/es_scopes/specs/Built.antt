-- The scope table of a program.
use Rattle.es_base.specs.Tree.{Tree}
use Rattle.es_scopes.specs.Entries.{entries_of}
use Rattle.es_scopes.specs.Table.{Table}
use Rattle.es_scopes.specs.Tables.{numbering_of}

abbrev pub built_table : Tree → Table
built_table program = (numbering_of (entries_of program)).declarations.scoping
