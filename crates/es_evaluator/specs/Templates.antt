-- The strings of a template.
use Rattle.std.specs.Prelude.{cond, Option, Some, None}
use Rattle.es_steps.specs.Code.{TemplateString}
use Rattle.es_steps.specs.Evaluation.{template_constant}
use Rattle.es_steps.specs.Events.{Detail, Spelled, Empty}
use Rattle.es_steps.specs.Values.{String, Constant, TagString}

-- what a string stands for, as a detail
abbrev pub cooked_detail : Option String → Detail
cooked_detail None = Empty
cooked_detail (Some s) = Spelled s

-- a template of this string alone
abbrev pub string_constant : TemplateString → Constant
string_constant t = cond t.is_tail (template_constant t.raw t.cooked) (TagString t.raw t.cooked)
