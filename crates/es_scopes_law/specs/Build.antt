-- A program with the numbers of its scope table on the nodes.
use Rattle.es_base.specs.Tree.{Tree}
use Rattle.es_scopes.specs.Entries.{entries_of}
use Rattle.es_scopes.specs.Tables.{numbering_of}
use Rattle.es_scopes_law.specs.Written.{written}

abbrev pub built_tree : Tree → Tree
built_tree program = written (numbering_of (entries_of program)).ids 0 program
