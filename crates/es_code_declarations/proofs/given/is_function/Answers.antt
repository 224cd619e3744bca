use Rattle.std.proofs.Common.{sym}
use Rattle.es_code_declarations.proofs.GivenForms.{a_function, a_new_function}
use Rattle.es_code_declarations.proofs.given.is_function.Goals as goal

pub returns-in-Function : goal.returns-in-Function
returns-in-Function c = sym (a_function c.args.code.now c.in-Function.node c.in-Function.form c.in-Function.own_name c.in-Function.parameters c.in-Function.body c.in-Function.is)

pub returns-in-NewFunction : goal.returns-in-NewFunction
returns-in-NewFunction c = sym (a_new_function c.args.code.now c.in-NewFunction.node c.in-NewFunction.form c.in-NewFunction.parameters c.in-NewFunction.body c.in-NewFunction.is)
