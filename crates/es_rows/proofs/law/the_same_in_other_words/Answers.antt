use Rattle.std.specs.Prelude.{refl}
use Rattle.es_rows.proofs.law.the_same_in_other_words.Goals as goal

pub returns-clause-class_named_otherwise : goal.returns-clause-class_named_otherwise
returns-clause-class_named_otherwise c = refl

pub returns-clause-key_of_a_method : goal.returns-clause-key_of_a_method
returns-clause-key_of_a_method c = refl
