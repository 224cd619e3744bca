-- What the open lists hold after one more declarator or more statements.
use Rattle.std.specs.Prelude.{◌≡◌, ℕ, zero, suc, ◌+◌, ◌≤◌, nat_eq, List, [], ◌∷◌, ◌++◌, Bool, true, false}
use Rattle.std.proofs.Common.{arith}
use Rattle.es_base.specs.Preorder.{nodes, nodes_of}
use Rattle.es_base.specs.Tree.{Tree, trees}
use Rattle.es_ctx.specs.Stores.{pick, empty_slot, beside, slots_with, with_slot, with_var, with_let, changed, declared_nodes, stored_slots, stored_list, stored}
use Rattle.es_ctx.specs.declared.stores.OpenList.{OpenList}
use Rattle.es_ctx.specs.declared.stores.Side.{Side}
use Rattle.es_ctx.specs.declared.stores.Slot.{Slot}
use Rattle.es_walk.specs.Placing.{nodes-append}

declared-push : (ds : List Tree) (d : Tree) → declared_nodes (ds ++ d ∷ []) ≤ declared_nodes ds + nodes d + 1
declared-push [] d = omega arith
declared-push (e ∷ ds) d = omega (arith, nodes-append ds (d ∷ []))

pub stored-var : (d : Tree) (l : OpenList) → stored_list (with_var d l) ≤ stored_list l + nodes d + 1
stored-var d l = omega (arith, declared-push l.vars d)

pub stored-let : (d : Tree) (l : OpenList) → stored_list (with_let d l) ≤ stored_list l + nodes d + 1
stored-let d l = omega (arith, declared-push l.lets d)

beside-nodes : (side : Side) (ts : List Tree) (s : Slot) → nodes_of (trees (beside side ts s).before) + nodes_of (trees (beside side ts s).after) ≡ nodes_of (trees s.before) + nodes_of (trees s.after) + nodes_of (trees ts)
beside-nodes Side.Before ts s = omega (arith, nodes-append s.before ts)
beside-nodes Side.After ts s = omega (arith, nodes-append s.after ts)

slots-at : (b : Bool) (side : Side) (ts : List Tree) (n : ℕ) (s : Slot) (ss : List Slot) → stored_slots (slots_with (beside side ts) n ss) ≡ stored_slots ss + nodes_of (trees ts) → stored_slots (pick b (beside side ts s ∷ ss) (s ∷ slots_with (beside side ts) n ss)) ≡ stored_slots (s ∷ ss) + nodes_of (trees ts)
slots-at true side ts n s ss e = omega (arith, beside-nodes side ts s)
slots-at false side ts n s ss e = omega (arith, e)

stored-slots : (side : Side) (ts : List Tree) (n : ℕ) (ss : List Slot) → stored_slots (slots_with (beside side ts) n ss) ≡ stored_slots ss + nodes_of (trees ts)
stored-slots side ts n [] = omega (arith, beside-nodes side ts (empty_slot n))
stored-slots side ts n (s ∷ ss) = slots-at (nat_eq s.node n) side ts n s ss (stored-slots side ts n ss)

pub stored-beside : (side : Side) (ts : List Tree) (n : ℕ) (l : OpenList) → stored_list (with_slot (beside side ts) n l) ≡ stored_list l + nodes_of (trees ts)
stored-beside side ts n l = omega (arith, stored-slots side ts n l.slots)

-- a list that is changed so that it keeps at most k nodes more
pub stored-changed : (at : ℕ) (f : OpenList → OpenList) (k : ℕ) (ls : List OpenList) → ((l : OpenList) → stored_list (f l) ≤ stored_list l + k) → stored (changed at f ls) ≤ stored ls + k
stored-changed at f k [] law = omega arith
stored-changed zero f k (l ∷ ls) law = omega (arith, law l)
stored-changed (suc at) f k (l ∷ ls) law = omega (arith, stored-changed at f k ls law)
