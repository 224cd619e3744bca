-- Members that are put into their places, and the object that they make.
use Rattle.std.proofs.Common.{◌≡◌, refl, ap, ℕ, zero, suc, ◌<◌, List, [], ◌∷◌, ◌++◌, map, take, drop, set, get_or, length, Bor, Ordering, Less, Equal, Greater, Result, Ok, Err, arith}
use Rattle.std.specs.BTreeMap.{insert_entry}
use Rattle.std.specs.Ordering.{match_ordering}
use Rattle.std.specs.Result.{IfOk}
use Rattle.serde_json.specs.Data.{Members, member, put}
use Rattle.borrowed_json.specs.Members.{key_cmp, put_all}
use Rattle.borrowed_json.specs.View.{Keyed, members_view, view}
use Rattle.borrowed_json.specs.declared.value.Value.{Value}

put_by : (k : Bor (List ℕ)) (v : Value) (e : Keyed Value) (es : List (Keyed Value)) → members_view (insert_entry key_cmp es k v) ≡ put k.now (view v) (members_view es) → (o : Ordering)
    → members_view (match_ordering o ((k, v) ∷ e ∷ es) ((e.0, v) ∷ es) (e ∷ insert_entry key_cmp es k v))
    ≡ match_ordering o (member k.now (view v) (members_view (e ∷ es))) (member e.0.now (view v) (members_view es)) (member e.0.now (view e.1) (put k.now (view v) (members_view es)))
put_by k v e es later Less = refl
put_by k v e es later Equal = refl
put_by k v e es later Greater = ap (member e.0.now (view e.1)) later

-- in a list in order, as in an object
pub insert_is_put : (es : List (Keyed Value)) (k : Bor (List ℕ)) (v : Value) → members_view (insert_entry key_cmp es k v) ≡ put k.now (view v) (members_view es)
insert_is_put [] k v = refl
insert_is_put (e ∷ es) k v = put_by k v e es (insert_is_put es k v) (key_cmp k e.0)

-- the place of a member whose key is there
pub placed : (ms : List (Keyed Value)) (i : ℕ) (k : Bor (List ℕ)) (v : Value) (m : Keyed Value) → i < length ms → key_cmp k (get_or ms i m).0 ≡ Equal
    → take i ms ++ insert_entry key_cmp (drop i ms) k v ≡ set ms i ((get_or ms i (k, v)).0, v)
placed [] i k v m within same = absurd (omega arith)
placed (e ∷ ms) zero k v m within same = rw same
placed (e ∷ ms) (suc i) k v m within same = ap (λ es. e ∷ es) (placed ms i k v m (omega arith) same)

-- one more at the end
pub put_all-push : (ms : List (Keyed Value)) (m : Keyed Value) (old : Members) → put_all (ms ++ m ∷ []) old ≡ put m.0.now (view m.1) (put_all ms old)
put_all-push [] m old = refl
put_all-push (k ∷ ms) m old = put_all-push ms m (put k.0.now (view k.1) old)

-- one more at the front
pub put_next : (es : List (Keyed Value)) (k : Bor (List ℕ)) (v : Value) (rest : List (Keyed Value)) → put_all rest (members_view (insert_entry key_cmp es k v)) ≡ put_all ((k, v) ∷ rest) (members_view es)
put_next es k v rest = ap (put_all rest) (insert_is_put es k v)

pub views-push : (vs : List Value) (v : Value) → map view (vs ++ v ∷ []) ≡ map view vs ++ view v ∷ []
views-push [] v = refl
views-push (w ∷ vs) v = ap (λ ds. view w ∷ ds) (views-push vs v)

-- what more is known of a value, if there is one
pub if_ok : {T E : Type 0} {P Q : T → Type 0} (r : Result T E) → ((v : T) → P v → Q v) → IfOk r P → IfOk r Q
if_ok (Ok v) f h = f v h
if_ok (Err e) f h = tt
