-- What whole programs weigh at most.
use Rattle.std.specs.Prelude.{◌≡◌, ◌+◌, ◌*◌, ◌<◌, ◌≤◌, ◌^◌, true}
use Rattle.std.proofs.Common.{ap, arith}
use Rattle.es_base.specs.Preorder.{nodes}
use Rattle.es_base.specs.Tree.{Tree}
use Rattle.es_ctx.specs.declared.ctx.TraverseCtx.{TraverseCtx}
use Rattle.es_scopes.specs.Table.{HasRoom}
use Rattle.es_walk.proofs.Most.{total-most}
use Rattle.es_walk.specs.Given.{Suffice, of_nodes, room_for_reference}
use Rattle.es_walk.specs.Weight.{total, heft, heft_some}
use Rattle.walk_tests.specs.Hoist as hoist
use Rattle.walk_tests.specs.HoistLaws as hoisting
use Rattle.walk_tests.specs.Power as power
use Rattle.walk_tests.specs.PowerLaws as powers
use Rattle.walk_tests.specs.References as references

pub powers_weigh : (t : Tree) → total power.weight t ≤ 7 * nodes t
powers_weigh = total-most power.weight 7 powers.weighs_most

pub names_weigh : (t : Tree) → total hoist.weight t ≤ 4 * nodes t
names_weigh = total-most hoist.weight 4 hoisting.weighs_most

pub references_weigh : (t : Tree) → total references.weight t ≤ 2 * nodes t
references_weigh = total-most references.weight 2 references.weighs_most

-- where a node is left
pub room_here : {T : Type 0} (t : Tree) (s : T × TraverseCtx) → Suffice (λ x. 0) (heft references.weight t) s → HasRoom s.1.scoping.scoping.references
room_here t s enough = room_for_reference (λ x. 0) (heft references.weight t) s enough (heft_some references.weight references.weighs_something t)

-- a power that is left has the numbers for its call
pub numbers_here : {T : Type 0} (t : Tree) (s : T × TraverseCtx) → power.is_power t ≡ true → Suffice (λ x. 0) (heft power.weight t) s → s.1.next + 3 < 2 ^ 32
numbers_here t s is enough = omega (arith, powers.lowered-total 0 t, ap power.three_if is, enough of_nodes)
