use Rattle.std.proofs.Common.{◌∙◌, sym}
use Rattle.es_code_reading.proofs.QuietForms.{named_name, named_function, named_class}
use Rattle.es_code_reading.proofs.quiet.is_named.Goals as goal

pub returns-in-Name : goal.returns-in-Name
returns-in-Name c = c.means_class.ensures ∙ sym (named_name c.args.code.now c.in-Name.node c.in-Name.spelling c.in-Name.kind c.in-Name.is)

pub returns-in-Function : goal.returns-in-Function
returns-in-Function c = sym (named_function c.args.code.now c.in-Function.node c.in-Function.form c.in-Function.own_name c.in-Function.parameters c.in-Function.body c.in-Function.is)

pub returns-in-Class : goal.returns-in-Class
returns-in-Class c = sym (named_class c.args.code.now c.in-Class.node c.in-Class.declared c.in-Class.heritage c.in-Class.elements c.in-Class.is)
