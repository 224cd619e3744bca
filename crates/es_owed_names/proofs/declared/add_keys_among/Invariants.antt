use Rattle.std.proofs.Common.{◌≡◌, ◌++◌, drop}
use Rattle.std.specs.Str.{chars}
use Rattle.es_base.specs.Tree.{trees}
use Rattle.es_lowered.specs.Lowered.{private_keys}
use Rattle.es_owed_names.proofs.declared.add_keys_among.Given as goal

abbrev pub invariant-loop-element : goal.invariant-loop-element
invariant-loop-element l = l.keys.items ++ private_keys l.first (chars l.name) (trees (drop l.element-index l.elements)) ≡ l.fn.keys.items ++ private_keys l.first (chars l.name) (trees l.elements)
