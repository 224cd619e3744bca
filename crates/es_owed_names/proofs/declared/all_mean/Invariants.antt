use Rattle.std.proofs.Common.{◌≡◌, drop}
use Rattle.std.specs.Str.{chars}
use Rattle.es_lowered.specs.Lowered.{all_mean}
use Rattle.es_references.specs.References.{references_of}
use Rattle.es_owed_names.proofs.declared.all_mean.Given as goal

abbrev pub invariant-loop-reference : goal.invariant-loop-reference
invariant-loop-reference l = all_mean (chars l.name) l.number (references_of (drop l.reference-index l.references)) ≡ all_mean (chars l.name) l.number (references_of l.references)
