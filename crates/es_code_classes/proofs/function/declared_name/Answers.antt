use Rattle.std.proofs.Common.{sym, ap, ◌∙◌}
use Rattle.std.proofs.lemmas.Result.{IfOk-weaker}
use Rattle.es_codes.specs.CodeView.{code_of}
use Rattle.es_code_reading.specs.Contexts.{context_of}
use Rattle.es_code_classes.proofs.FunctionNames.{declared_name, no_declared_name}
use Rattle.es_code_classes.proofs.function.declared_name.Goals as goal

pub returns-in-Binding : goal.returns-in-Binding
returns-in-Binding c = IfOk-weaker c.named_function.result _ _ (λ e h. h ∙ sym (declared_name (context_of c.args.c.now).around c.args.function (code_of c.args.declaration) c.args.name.now c.in-Binding.node c.in-Binding.spelling c.in-Binding.kind c.in-Binding.is)) c.named_function.ensures

pub returns-in_default : goal.returns-in_default
returns-in_default c = ap code_of c.into_inner.ensures ∙ sym (no_declared_name (context_of c.args.c.now).around c.args.function (code_of c.args.declaration) c.args.name.now c.in_default.not-Binding)
