use Rattle.std.proofs.Common.{◌∙◌, sym, ap}
use Rattle.std.proofs.lemmas.Result.{IfOk-weaker}
use Rattle.es_codes.specs.CodeView.{codes_of, helper_of}
use Rattle.es_steps.specs.GeneratedForms.{helper_code}
use Rattle.es_code_reading.specs.Contexts.{context_of}
use Rattle.es_code_helpers.proofs.call.helper_code.Goals as goal

pub returns-in-DefineProperty : goal.returns-in-DefineProperty
returns-in-DefineProperty c =
    let context = context_of c.args.c.now in
    IfOk-weaker c.property_defined.result _ _ (λ e h. h ∙ ap (λ k. helper_code context c.args.node (helper_of k) (codes_of c.args.arguments)) (sym c.in-DefineProperty.is)) (c.property_defined.ensures context)

pub returns-in-ClassPrivateMethodInitSpec : goal.returns-in-ClassPrivateMethodInitSpec
returns-in-ClassPrivateMethodInitSpec c =
    let context = context_of c.args.c.now in
    c.methods_initialized.ensures context ∙ ap (λ k. helper_code context c.args.node (helper_of k) (codes_of c.args.arguments)) (sym c.in-ClassPrivateMethodInitSpec.is)

pub returns-in-ReadOnlyError : goal.returns-in-ReadOnlyError
returns-in-ReadOnlyError c =
    let context = context_of c.args.c.now in
    c.read_only_error.ensures context ∙ ap (λ k. helper_code context c.args.node (helper_of k) (codes_of c.args.arguments)) (sym c.in-ReadOnlyError.is)

pub returns-in-WriteOnlyError : goal.returns-in-WriteOnlyError
returns-in-WriteOnlyError c =
    let context = context_of c.args.c.now in
    c.write_only_error.ensures context ∙ ap (λ k. helper_code context c.args.node (helper_of k) (codes_of c.args.arguments)) (sym c.in-WriteOnlyError.is)

pub returns-in-SuperPropGet : goal.returns-in-SuperPropGet
returns-in-SuperPropGet c =
    let context = context_of c.args.c.now in
    IfOk-weaker c.super_read.result _ _ (λ e h. h ∙ ap (λ k. helper_code context c.args.node (helper_of k) (codes_of c.args.arguments)) (sym c.in-SuperPropGet.is)) (c.super_read.ensures context)

pub returns-in-SetFunctionName : goal.returns-in-SetFunctionName
returns-in-SetFunctionName c =
    let context = context_of c.args.c.now in
    IfOk-weaker c.function_named.result _ _ (λ e h. h ∙ ap (λ k. helper_code context c.args.node (helper_of k) (codes_of c.args.arguments)) (sym c.in-SetFunctionName.is)) (c.function_named.ensures context)

pub returns-in-ToPropertyKey : goal.returns-in-ToPropertyKey
returns-in-ToPropertyKey c =
    let context = context_of c.args.c.now in
    IfOk-weaker c.key_made.result _ _ (λ e h. h ∙ ap (λ k. helper_code context c.args.node (helper_of k) (codes_of c.args.arguments)) (sym c.in-ToPropertyKey.is)) (c.key_made.ensures context)
