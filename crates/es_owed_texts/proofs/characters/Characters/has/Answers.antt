use Rattle.std.proofs.Common.{◌∙◌, ap}
use Rattle.es_steps.specs.References.{has_number}
use Rattle.es_binding_faults.proofs.HasNumbers.{contained}
use Rattle.es_owed_texts.proofs.characters.Characters.has.Goals as goal

pub returns : goal.returns
returns c = c.contains.ensures ∙ contained c.args.character c.self.inside.characters.keys ∙ ap (has_number c.args.character) c.self.view_is
