use Rattle.es_iife.proofs.Below.{kept_scope, moved_apart, moved_next}
use Rattle.es_iife.proofs.scope_below.put_below.Goals as goal

pub loop-scope-preserved : goal.loop-scope-preserved
loop-scope-preserved c =
    let at = c.loop-scope.scope-index in
    let moved = c.change_scope_parent_id.ensures in (
      moved_next c.args.parent c.args.scopes.now at _ c.loop-scope.scoping c.change_scope_parent_id.new.self _ c.loop-scope-test.true moved c.loop-scope.invariant.0,
      kept_scope c.loop-scope.scoping c.change_scope_parent_id.new.self _ c.args.parent _ moved c.loop-scope.invariant.1,
      λ k d within. moved_apart c.loop-scope.scoping c.change_scope_parent_id.new.self c.args.parent _ _ moved (c.loop-scope.invariant.2 at _ c.loop-scope-test.true) (c.loop-scope.invariant.2 k d within),
    )
