use Rattle.std.proofs.Common.{◌≡◌, false, sym, ap, ◌∙◌, ◌&&◌, codes}
use Rattle.es_base.specs.Tree.{child, trees}
use Rattle.es_lowered.specs.HelperCalls.{first_has_key, is_helper_callee, part_has_key, third_has_key}
use Rattle.es_owed_calls.proofs.KeyFormNodes.{call_converts, call_writes, first_has, sequence_has, third_has}
use Rattle.es_owed_calls.proofs.key_forms.+key_forms.Goals as goal
use Rattle.es_owed_calls.proofs.key_forms.+key_forms.Goals.{form_has_key-then-is_helper, form_has_key-else-is_helper}

pub form_has_key-returns-else-ends_with_key : goal.form_has_key-returns-else-ends_with_key
form_has_key-returns-else-ends_with_key t c =
    let first = c.args.terms.now.first in
    let ledger = c.args.terms.now.ledger.now in
    let keys = c.args.terms.now.keys.now in
    sequence_has first ledger keys c.args.node.now _ _ (trees c.from_node.result.expressions.now) c.part_has_key.result c.from_node.ensures (sym c.ends_with_key.ensures ∙ c.if-ends_with_key.false) (c.part_has_key.ensures ∙ ap (part_has_key first ledger keys) c.last_of.ensures.part)

pub form_has_key-returns-then-part_has_key : goal.form_has_key-returns-then-part_has_key
form_has_key-returns-then-part_has_key t c =
    let first = c.args.terms.now.first in
    let ledger = c.args.terms.now.ledger.now in
    let keys = c.args.terms.now.keys.now in
    let call = c.from_node-call.result in
    let es = trees call.arguments.now in
    let converts : c.if-is_helper.value ≡ (is_helper_callee first (codes "toPropertyKey") (child call.callee.now) && first_has_key first ledger keys es) =
    elim c.if-is_helper.branch [
      | form_has_key-then-is_helper w ↦ w.value-is ∙ w.part_has_key-then-is_helper.ensures ∙ ap (part_has_key first ledger keys) w.node_at.ensures.part ∙ sym (first_has first ledger keys es) ∙ sym (ap (λ b. b && first_has_key first ledger keys es) (sym c.is_helper.ensures ∙ w.if-is_helper.true))
      | form_has_key-else-is_helper w ↦
          let none : c.if-is_helper.value ≡ false = cc in
          none ∙ sym (ap (λ b. b && first_has_key first ledger keys es) (sym c.is_helper.ensures ∙ w.if-is_helper.false))
    ] in
    call_converts first ledger keys c.args.node.now call.callee.now _ _ es _ c.from_node-call.ensures c.if-is_helper.value converts c.if-part_has_key.true

pub form_has_key-returns-then-is_write : goal.form_has_key-returns-then-is_write
form_has_key-returns-then-is_write t c =
    let first = c.args.terms.now.first in
    let ledger = c.args.terms.now.ledger.now in
    let keys = c.args.terms.now.keys.now in
    let call = c.from_node-call.result in
    let es = trees call.arguments.now in
    let converts : c.if-is_helper.value ≡ (is_helper_callee first (codes "toPropertyKey") (child call.callee.now) && first_has_key first ledger keys es) =
    elim c.if-is_helper.branch [
      | form_has_key-then-is_helper w ↦ w.value-is ∙ w.part_has_key-then-is_helper.ensures ∙ ap (part_has_key first ledger keys) w.node_at.ensures.part ∙ sym (first_has first ledger keys es) ∙ sym (ap (λ b. b && first_has_key first ledger keys es) (sym c.is_helper.ensures ∙ w.if-is_helper.true))
      | form_has_key-else-is_helper w ↦
          let none : c.if-is_helper.value ≡ false = cc in
          none ∙ sym (ap (λ b. b && first_has_key first ledger keys es) (sym c.is_helper.ensures ∙ w.if-is_helper.false))
    ] in
    let writes = c.part_has_key-then-is_write.ensures ∙ ap (part_has_key first ledger keys) c.node_at-then-is_write.ensures.part ∙ sym (third_has first ledger keys es) ∙ sym (ap (λ b. b && third_has_key first ledger keys es) (sym c.is_write.ensures ∙ c.if-is_write.true)) in
    call_writes first ledger keys c.args.node.now call.callee.now _ _ es _ c.from_node-call.ensures c.if-is_helper.value c.part_has_key-then-is_write.result converts c.if-part_has_key.false writes

pub form_has_key-returns-else-is_write : goal.form_has_key-returns-else-is_write
form_has_key-returns-else-is_write t c =
    let first = c.args.terms.now.first in
    let ledger = c.args.terms.now.ledger.now in
    let keys = c.args.terms.now.keys.now in
    let call = c.from_node-call.result in
    let es = trees call.arguments.now in
    let converts : c.if-is_helper.value ≡ (is_helper_callee first (codes "toPropertyKey") (child call.callee.now) && first_has_key first ledger keys es) =
    elim c.if-is_helper.branch [
      | form_has_key-then-is_helper w ↦ w.value-is ∙ w.part_has_key-then-is_helper.ensures ∙ ap (part_has_key first ledger keys) w.node_at.ensures.part ∙ sym (first_has first ledger keys es) ∙ sym (ap (λ b. b && first_has_key first ledger keys es) (sym c.is_helper.ensures ∙ w.if-is_helper.true))
      | form_has_key-else-is_helper w ↦
          let none : c.if-is_helper.value ≡ false = cc in
          none ∙ sym (ap (λ b. b && first_has_key first ledger keys es) (sym c.is_helper.ensures ∙ w.if-is_helper.false))
    ] in
    let writes = c.if-is_write.false ∙ sym (ap (λ b. b && third_has_key first ledger keys es) (sym c.is_write.ensures ∙ c.if-is_write.false)) in
    call_writes first ledger keys c.args.node.now call.callee.now _ _ es _ c.from_node-call.ensures c.if-is_helper.value c.is_write.result converts c.if-part_has_key.false writes
