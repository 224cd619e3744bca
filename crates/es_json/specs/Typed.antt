-- The tree of a program in the typed layer.
use Rattle.es_base.specs.Carried.{span_of, scope_number}
use Rattle.es_base.specs.Tree.{Tree}
use Rattle.es_tree.specs.Program.{program}
use Rattle.es_tree.specs.declared.program.Program.{Program}

abbrev pub program_tree : Program → Tree
program_tree p = program p.node_id.0 (span_of p.span) (scope_number p.scope_id) p.source_type p.body
