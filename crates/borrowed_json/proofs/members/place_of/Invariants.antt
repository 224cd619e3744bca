use Rattle.std.proofs.Common.{◌≡◌, ℕ, List, Bor, ◌++◌, take, drop}
use Rattle.std.specs.BTreeMap.{insert_entry}
use Rattle.borrowed_json.specs.Members.{key_cmp}
use Rattle.borrowed_json.specs.declared.value.Value.{Value}
use Rattle.borrowed_json.proofs.members.place_of.Given as goal

abbrev pub invariant-loop-i : goal.invariant-loop-i
invariant-loop-i l = (k : Bor (List ℕ)) → k.now ≡ l.fn.key → (v : Value) → insert_entry key_cmp l.members k v ≡ take l.i l.members ++ insert_entry key_cmp (drop l.i l.members) k v
