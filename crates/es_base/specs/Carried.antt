-- What nodes carry beside their parts, as the tree has it: spans as pairs, semantic ids as numbers.
use Rattle.std.specs.Prelude.{ℕ, Option, Some, None}
use Rattle.es_base.specs.Tree.{Tree, Part, Parts, Node, end, more, child, absent, list, string, no_string, boolean, literal}
use Rattle.es_base.specs.declared.ids.Span.{Span}
use Rattle.es_base.specs.declared.ids.ScopeId.{ScopeId}
use Rattle.es_base.specs.declared.ids.SymbolId.{SymbolId}
use Rattle.es_base.specs.declared.ids.ReferenceId.{ReferenceId}

abbrev pub span_of : Option Span → Option (ℕ × ℕ)
span_of None = None
span_of (Some s) = Some (s.start, s.end)

abbrev pub scope_number : Option ScopeId → Option ℕ
scope_number None = None
scope_number (Some s) = Some s.0

abbrev pub symbol_number : Option SymbolId → Option ℕ
symbol_number None = None
symbol_number (Some s) = Some s.0

abbrev pub reference_number : Option ReferenceId → Option ℕ
reference_number None = None
reference_number (Some r) = Some r.0

-- the tree without its semantic ids
abbrev mutual
  pub stripped : Tree → Tree
  stripped (Node kind id span semantic_id ps) = Node kind id span None (stripped_parts ps)

  pub stripped_part : Part → Part
  stripped_part (child t) = child (stripped t)
  stripped_part absent = absent
  stripped_part (list ps) = list (stripped_parts ps)
  stripped_part (string s) = string s
  stripped_part no_string = no_string
  stripped_part (boolean b) = boolean b
  stripped_part (literal v) = literal v

  pub stripped_parts : Parts → Parts
  stripped_parts end = end
  stripped_parts (more p ps) = more (stripped_part p) (stripped_parts ps)
