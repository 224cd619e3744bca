use Rattle.std.proofs.Common.{◌≡◌, drop}
use Rattle.es_touches.specs.Comparison as compared
use Rattle.es_touches.specs.Touches.{classes_of, form_of}
use Rattle.es_touches.proofs.fits.reads_key.Given as goal

abbrev pub invariant-loop-class : goal.invariant-loop-class
invariant-loop-class l = compared.reads_key l.source l.of_class (form_of l.form) (classes_of (drop l.class-index l.source.classes.now)) ≡ compared.reads_key l.source l.of_class (form_of l.form) (classes_of l.source.classes.now)
