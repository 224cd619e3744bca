use Rattle.std.proofs.Common.{sym}
use Rattle.es_code_classes.proofs.Methods.{of_private_name}
use Rattle.es_code_classes.proofs.method.private_name_in.Goals as goal

pub returns-in-PrivateName : goal.returns-in-PrivateName
returns-in-PrivateName c = sym (of_private_name c.args.key.now c.in-PrivateName.node c.in-PrivateName.spelling c.in-PrivateName.means c.in-PrivateName.is)
