use Rattle.es_steps.proofs.Renumbering.{semantic_ids_law, source_semantic_ids_law, private_semantic_ids_law}
use Rattle.es_steps.proofs.law.semantic_ids_mean_nothing.Goals as goal

pub returns : goal.returns
returns c = record { meaning = semantic_ids_law; source = source_semantic_ids_law; private_names = private_semantic_ids_law }
