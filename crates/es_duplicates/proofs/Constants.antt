-- What gives one value wherever it is written.
use Rattle.std.proofs.Common.{refl, true, false, true≢false, Some, None}
use Rattle.es_base.specs.declared.literal.LiteralValue.TheVariants as literal_value
use Rattle.es_steps.specs.Values.{ConstantOf, StringOf, NumberOf, BigIntOf, BooleanOf, Null, TagString}
use Rattle.es_steps.specs.Evaluation.{template_constant}
use Rattle.es_duplicates.specs.Law.{LiteralLaw, TemplateLaw}

pub literal_law : LiteralLaw
literal_law (literal_value.String s raw) h = (ConstantOf (StringOf s), λ opens c n span. refl)
literal_law (literal_value.Number raw) h = (ConstantOf (NumberOf raw), λ opens c n span. refl)
literal_law (literal_value.BigInt s) h = (ConstantOf (BigIntOf s), λ opens c n span. refl)
literal_law (literal_value.RegExp source flags) h = absurd (true≢false h)
literal_law (literal_value.Boolean b) h = (ConstantOf (BooleanOf b), λ opens c n span. refl)
literal_law literal_value.Null h = (ConstantOf Null, λ opens c n span. refl)

pub template_law : TemplateLaw
template_law raw (Some s) true = (ConstantOf (StringOf s), λ opens c n k span string_span. refl)
template_law raw None true = (ConstantOf (template_constant raw None), λ opens c n k span string_span. refl)
template_law raw (Some s) false = (ConstantOf (TagString raw (Some s)), λ opens c n k span string_span. refl)
template_law raw None false = (ConstantOf (TagString raw None), λ opens c n k span string_span. refl)
