-- What a reference shows.
use Rattle.std.specs.Prelude.{Option}
use Rattle.es_base.specs.declared.ids.SymbolId.{SymbolId}
use Rattle.es_scopes.specs.declared.flags.ReferenceFlags.{ReferenceFlags}
use Rattle.es_scopes.specs.declared.table.Reference.{Reference}

abbrev pub target_of : Reference → Option SymbolId
target_of r = r.symbol_id

abbrev pub reference_flags_of : Reference → ReferenceFlags
reference_flags_of r = r.flags
