use Rattle.es_json.proofs.JsonText.{text_fixes_tree}
use Rattle.es_json.proofs.law.text_fixes_tree.Goals as goal

pub returns : goal.returns
returns c = text_fixes_tree
