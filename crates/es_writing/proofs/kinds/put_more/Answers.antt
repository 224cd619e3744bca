use Rattle.std.proofs.Common.{◌≡◌, OnOk, List, subst}
use Rattle.serde_json.specs.View.{members_view}
use Rattle.es_node.specs.View.{parts_of}
use Rattle.es_writing.specs.Writing.{Entry, put_all}
use Rattle.es_writing.proofs.Parts.{arrow_entries}
use Rattle.es_writing.proofs.kinds.put_more.Goals as goal

pub returns-in-ArrowFunctionExpression : goal.returns-in-ArrowFunctionExpression
returns-in-ArrowFunctionExpression c =
    subst (λ (es : List Entry). OnOk c.put_boolean-in-ArrowFunctionExpression.result (members_view c.put_boolean-in-ArrowFunctionExpression.new.object.entries ≡ put_all (members_view c.args.object.now.entries) es))
    (arrow_entries c.args.kind (parts_of c.args.parts.now) c.is_block.result c.in-ArrowFunctionExpression.is c.is_block.ensures) c.put_boolean-in-ArrowFunctionExpression.ensures
