use Rattle.es_json.proofs.LoweredText.{lowered_text_fixes_value}
use Rattle.es_json.proofs.law.lowered_text_fixes_value.Goals as goal

pub returns : goal.returns
returns c = lowered_text_fixes_value
