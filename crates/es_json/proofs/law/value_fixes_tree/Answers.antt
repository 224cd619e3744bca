use Rattle.es_json.proofs.JsonText.{value_fixes_tree}
use Rattle.es_json.proofs.law.value_fixes_tree.Goals as goal

pub returns : goal.returns
returns c = value_fixes_tree
