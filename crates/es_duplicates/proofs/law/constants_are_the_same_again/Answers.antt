use Rattle.es_duplicates.proofs.Constants.{literal_law, template_law}
use Rattle.es_duplicates.proofs.law.constants_are_the_same_again.Goals as goal

pub returns-clause-literal : goal.returns-clause-literal
returns-clause-literal c = literal_law

pub returns-clause-template : goal.returns-clause-template
returns-clause-template c = template_law
