-- What a form of a literal in code stands for.
use Rattle.std.specs.Prelude.{option_map}
use Rattle.es_reading.specs.Literals.{Form, regexp, bigint, string, boolean, null_form, numeral, whole}
use Rattle.es_reading.specs.declared.literal.Form as code

abbrev pub form_of : code.Form → Form
form_of (code.Form.RegExp pattern flags) = regexp pattern.now flags.now
form_of (code.Form.BigInt digits) = bigint digits.now
form_of (code.Form.String s raw) = string s.now (option_map (λ r. r.now) raw)
form_of (code.Form.Bool b) = boolean b
form_of code.Form.Null = null_form
form_of (code.Form.Number raw) = numeral raw.now
form_of (code.Form.Whole n) = whole n
