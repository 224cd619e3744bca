use Rattle.std.proofs.Common.{◌≡◌, ◌-◌, ◌<◌, [], ◌∷◌, ◌++◌, length, map, option_map, Some, None, sym, ap, ◌∙◌, arith, rules}
use Rattle.json.specs.Token.{Token}
use Rattle.json.specs.Json.{after_end_array, read_key}
use Rattle.json.specs.Reads.{token_of}
use Rattle.json.proofs.Grammar.{read_key-shorter}
use Rattle.serde_json.specs.Data.{null, boolean, number, string, array, object, no_members}
use Rattle.serde_json.specs.View.{number_view}
use Rattle.borrowed_json.specs.Grammar.{value_by, value_in, list_from, list_in, object_from, object_in}
use Rattle.borrowed_json.specs.Members.{put_all}
use Rattle.borrowed_json.specs.View.{items_view, members_view, view}
use Rattle.borrowed_json.specs.declared.value.Value.{String, Number, Bool, Null, Array, Object, the_lemmas}
use Rattle.borrowed_json.proofs.InOrder.{if_ok, insert_is_put, put_all-push, views-push}
use Rattle.borrowed_json.proofs.Turns.{list_ends, list_goes_on, list_fails, object_ends, object_goes_on, object_fails, object_has_no_key, value_at, value_is}
use Rattle.borrowed_json.proofs.parse.+next.Goals as goal

-- ---- a value

pub next_value-returns-in_err-token-clause-err : goal.next_value-returns-in_err-token-clause-err
next_value-returns-in_err-token-clause-err t c refused =
    let none : c.args.reader.now ≡ [] = grind arith in
    value_is c.args.depth c.args.reader.now ∙ ap (value_by (list_in c.args.depth) (object_in c.args.depth)) none

pub next_value-returns-in-BeginArray-clause-ok : goal.next_value-returns-in-BeginArray-clause-ok
next_value-returns-in-BeginArray-clause-ok t c =
    let first : c.args.reader.now ≡ token_of c.in_ok-token.token ∷ c.next.new.self = grind arith in
    let opened = value_at c.args.depth c.args.reader.now c.next.new.self Token.begin_array (first ∙ ap (λ k. token_of k ∷ c.next.new.self) c.in-BeginArray.is) in
    if_ok c.next_list.result (λ v h. opened ∙ h) c.next_list.ensures.ok

pub next_value-returns-in-BeginArray-clause-err : goal.next_value-returns-in-BeginArray-clause-err
next_value-returns-in-BeginArray-clause-err t c refused =
    let first : c.args.reader.now ≡ token_of c.in_ok-token.token ∷ c.next.new.self = grind arith in
    value_at c.args.depth c.args.reader.now c.next.new.self Token.begin_array (first ∙ ap (λ k. token_of k ∷ c.next.new.self) c.in-BeginArray.is) ∙ c.next_list.ensures.err refused

pub next_value-returns-in-BeginObject-clause-ok : goal.next_value-returns-in-BeginObject-clause-ok
next_value-returns-in-BeginObject-clause-ok t c =
    let first : c.args.reader.now ≡ token_of c.in_ok-token.token ∷ c.next.new.self = grind arith in
    let opened = value_at c.args.depth c.args.reader.now c.next.new.self Token.begin_object (first ∙ ap (λ k. token_of k ∷ c.next.new.self) c.in-BeginObject.is) in
    if_ok c.next_object.result (λ v h. opened ∙ h) c.next_object.ensures.ok

pub next_value-returns-in-BeginObject-clause-err : goal.next_value-returns-in-BeginObject-clause-err
next_value-returns-in-BeginObject-clause-err t c refused =
    let first : c.args.reader.now ≡ token_of c.in_ok-token.token ∷ c.next.new.self = grind arith in
    value_at c.args.depth c.args.reader.now c.next.new.self Token.begin_object (first ∙ ap (λ k. token_of k ∷ c.next.new.self) c.in-BeginObject.is) ∙ c.next_object.ensures.err refused

pub next_value-returns-in-String-clause-ok : goal.next_value-returns-in-String-clause-ok
next_value-returns-in-String-clause-ok t c =
    let first : c.args.reader.now ≡ token_of c.in_ok-token.token ∷ c.next.new.self = grind arith in
    let is = first ∙ ap (λ k. token_of k ∷ c.next.new.self) c.in-String.is in
    let seen : view (String c.in-String.string) ≡ string c.in-String.string.now = search (rules, the_lemmas) in
    value_at c.args.depth _ _ _ is ∙ ap (λ d. Some (d, c.next.new.self)) (sym seen)

pub next_value-returns-in-Bool-clause-ok : goal.next_value-returns-in-Bool-clause-ok
next_value-returns-in-Bool-clause-ok t c =
    let first : c.args.reader.now ≡ token_of c.in_ok-token.token ∷ c.next.new.self = grind arith in
    let is = first ∙ ap (λ k. token_of k ∷ c.next.new.self) c.in-Bool.is in
    let seen : view (Bool c.in-Bool.boolean) ≡ boolean c.in-Bool.boolean = search (rules, the_lemmas) in
    value_at c.args.depth _ _ _ is ∙ ap (λ d. Some (d, c.next.new.self)) (sym seen)

pub next_value-returns-in-Null-clause-ok : goal.next_value-returns-in-Null-clause-ok
next_value-returns-in-Null-clause-ok t c =
    let first : c.args.reader.now ≡ token_of c.in_ok-token.token ∷ c.next.new.self = grind arith in
    let is = first ∙ ap (λ k. token_of k ∷ c.next.new.self) c.in-Null.is in
    let seen : view Null ≡ null = search (rules, the_lemmas) in
    value_at c.args.depth _ _ _ is ∙ ap (λ d. Some (d, c.next.new.self)) (sym seen)

pub next_value-returns-in-Some-clause-ok : goal.next_value-returns-in-Some-clause-ok
next_value-returns-in-Some-clause-ok t c =
    let first : c.args.reader.now ≡ token_of c.in_ok-token.token ∷ c.next.new.self = grind arith in
    let is = first ∙ ap (λ k. token_of k ∷ c.next.new.self) c.in-Number.is in
    let seen : view (Number c.in-Some.number) ≡ number (number_view c.in-Some.number) = search (rules, the_lemmas) in
    value_at c.args.depth _ _ _ is
    ∙ ap (λ n. option_map (λ d. (d, c.next.new.self)) (option_map number n)) (sym c.in-Some.ensures)
    ∙ ap (λ d. Some (d, c.next.new.self)) (sym seen)

pub next_value-returns-in-None-clause-err : goal.next_value-returns-in-None-clause-err
next_value-returns-in-None-clause-err t c refused =
    let first : c.args.reader.now ≡ token_of c.in_ok-token.token ∷ c.next.new.self = grind arith in
    let is = first ∙ ap (λ k. token_of k ∷ c.next.new.self) c.in-Number.is in
    value_at c.args.depth _ _ _ is ∙ ap (λ n. option_map (λ d. (d, c.next.new.self)) (option_map number n)) (sym c.in-None.ensures)

pub next_value-returns-in-EndArray-clause-err : goal.next_value-returns-in-EndArray-clause-err
next_value-returns-in-EndArray-clause-err t c refused =
    let first : c.args.reader.now ≡ token_of c.in_ok-token.token ∷ c.next.new.self = grind arith in
    rw (value_is c.args.depth c.args.reader.now, first) (grind arith)

-- ---- a list

pub next_list-returns-in_err-item-clause-err : goal.next_list-returns-in_err-item-clause-err
next_list-returns-in_err-item-clause-err t c refused =
    let l = c.items in
    let going : (after_end_array l.reader ≡ None) × (c.take_end_array.new.self ≡ l.reader) = grind arith in
    l.invariant.2 ∙ list_fails (value_in (c.args.depth - 1)) l.invariant.0 (map view l.items.items) l.reader going.0 (rw (← going.1) (c.next_value.ensures.err (grind arith)))

pub next_list-items-preserved : goal.next_list-items-preserved
next_list-items-preserved t c =
    let q = value_in (c.args.depth - 1) in
    let l = c.items in
    let n = l.invariant.0 in
    let going : (after_end_array l.reader ≡ None) × (c.take_end_array.new.self ≡ l.reader) = grind arith in
    let read = c.in_ok-item.ensures in
    let v = c.in_ok-item.item in
    let r = c.next_value.new.reader in
    let less : length r < length l.reader = rw (← going.1) read.shorter in
    let pushed : map view c.push.new.self.items ≡ map view l.items.items ++ view v ∷ [] = ap (map view) c.in_ok-push.ensures.items ∙ views-push l.items.items v in (
      n - 1,
      omega (arith, l.invariant.1),
      l.invariant.2
          ∙ list_goes_on q n (map view l.items.items) l.reader r (view v) (omega (arith, l.invariant.1)) going.0 (rw (← going.1) read.ok)
          ∙ ap (λ ds. list_from q (n - 1) ds r) (sym pushed),
      omega (arith, l.invariant.3),
    )

pub next_list-returns-clause-ok : goal.next_list-returns-clause-ok
next_list-returns-clause-ok t c =
    let l = c.items in
    let r = c.take_end_array.new.self in
    let seen : view (Array l.items) ≡ array (items_view l.items.items) = search (rules, the_lemmas) in
    l.invariant.2
    ∙ list_ends (value_in (c.args.depth - 1)) l.invariant.0 (map view l.items.items) l.reader r l.invariant.1 (grind arith)
    ∙ ap (λ d. Some (d, r)) (sym seen)

-- ---- an object

pub next_object-returns-in_err-key-clause-err : goal.next_object-returns-in_err-key-clause-err
next_object-returns-in_err-key-clause-err t c refused =
    let l = c.members in
    l.invariant.2 ∙ object_has_no_key (value_in (c.args.depth - 1)) l.invariant.0 (put_all l.members.items no_members) l.reader c.in_err-key.ensures.value

pub next_object-returns-in_err-value-clause-err : goal.next_object-returns-in_err-value-clause-err
next_object-returns-in_err-value-clause-err t c refused =
    let l = c.members in
    let s = c.next_key.new.self in
    let named : read_key l.reader ≡ Some (Some c.in-Some.key.now, s) = grind arith in
    l.invariant.2 ∙ object_fails (value_in (c.args.depth - 1)) l.invariant.0 (put_all l.members.items no_members) c.in-Some.key.now l.reader s named (c.next_value.ensures.err (grind arith))

pub next_object-members-preserved : goal.next_object-members-preserved
next_object-members-preserved t c =
    let q = value_in (c.args.depth - 1) in
    let l = c.members in
    let n = l.invariant.0 in
    let k = c.in-Some.key in
    let s = c.next_key.new.self in
    let named : read_key l.reader ≡ Some (Some k.now, s) = grind arith in
    let read = c.in_ok-value.ensures in
    let v = c.in_ok-value.value in
    let r = c.next_value.new.reader in
    let less = read_key-shorter l.reader (Some k.now) s named in
    let lesser = read.shorter in
    let pushed = ap (λ ms. put_all ms no_members) c.in_ok-push.ensures.items ∙ put_all-push l.members.items (k, v) no_members in (
      n - 1,
      omega (arith, l.invariant.1),
      l.invariant.2
          ∙ object_goes_on q n (put_all l.members.items no_members) k.now l.reader s r (view v) (omega (arith, l.invariant.1)) named read.ok
          ∙ ap (λ ms. object_from q (n - 1) ms r) (sym pushed),
      omega (arith, l.invariant.3),
    )

pub next_object-returns-then-len-eq-FEW-clause-ok : goal.next_object-returns-then-len-eq-FEW-clause-ok
next_object-returns-then-len-eq-FEW-clause-ok t c =
    let q = value_in (c.args.depth - 1) in
    let l = c.members in
    let n = l.invariant.0 in
    let k = c.in-Some.key in
    let s = c.next_key.new.self in
    let named : read_key l.reader ≡ Some (Some k.now, s) = grind arith in
    let read = c.in_ok-value.ensures in
    let v = c.in_ok-value.value in
    let r = c.next_value.new.reader in
    let less = read_key-shorter l.reader (Some k.now) s named in
    let lesser = read.shorter in
    let mapped = c.in_ok-map.ensures ∙ ap (λ ms. put_all ms no_members) c.in_ok-push.ensures.items ∙ put_all-push l.members.items (k, v) no_members in
    let so_far = l.invariant.2
    ∙ object_goes_on q n (put_all l.members.items no_members) k.now l.reader s r (view v) (omega (arith, l.invariant.1)) named read.ok
    ∙ ap (λ ms. object_from q (n - 1) ms r) (sym mapped) in
    if_ok c.next_members.result (λ v h. so_far ∙ h (n - 1) (omega (arith, l.invariant.1))) c.next_members.ensures.ok

pub next_object-returns-then-len-eq-FEW-clause-err : goal.next_object-returns-then-len-eq-FEW-clause-err
next_object-returns-then-len-eq-FEW-clause-err t c refused =
    let q = value_in (c.args.depth - 1) in
    let l = c.members in
    let n = l.invariant.0 in
    let k = c.in-Some.key in
    let s = c.next_key.new.self in
    let named : read_key l.reader ≡ Some (Some k.now, s) = grind arith in
    let read = c.in_ok-value.ensures in
    let v = c.in_ok-value.value in
    let r = c.next_value.new.reader in
    let less = read_key-shorter l.reader (Some k.now) s named in
    let lesser = read.shorter in
    let mapped = c.in_ok-map.ensures ∙ ap (λ ms. put_all ms no_members) c.in_ok-push.ensures.items ∙ put_all-push l.members.items (k, v) no_members in
    l.invariant.2
    ∙ object_goes_on q n (put_all l.members.items no_members) k.now l.reader s r (view v) (omega (arith, l.invariant.1)) named read.ok
    ∙ ap (λ ms. object_from q (n - 1) ms r) (sym mapped)
    ∙ c.next_members.ensures.err refused (n - 1) (omega (arith, l.invariant.1))

pub next_object-returns-clause-ok : goal.next_object-returns-clause-ok
next_object-returns-clause-ok t c =
    let l = c.members in
    let r = c.next_key.new.self in
    let ms = c.in_ok-in_order.field-0 in
    let seen : view (Object ms) ≡ object (members_view ms.items) = search (rules, the_lemmas) in
    l.invariant.2
    ∙ object_ends (value_in (c.args.depth - 1)) l.invariant.0 (put_all l.members.items no_members) l.reader r l.invariant.1 (grind arith)
    ∙ ap (λ d. Some (d, r)) (sym (seen ∙ ap object c.in_ok-in_order.ensures))

-- ---- the rest of an object of many members

pub next_members-returns-in_err-key-clause-err : goal.next_members-returns-in_err-key-clause-err
next_members-returns-in_err-key-clause-err t c refused n enough =
    let l = c.members in
    let so_far = l.invariant.same n enough in
    so_far.2 ∙ object_has_no_key (value_in c.args.depth) so_far.0 (members_view l.map.entries) l.reader c.in_err-key.ensures.value

pub next_members-returns-in_err-value-clause-err : goal.next_members-returns-in_err-value-clause-err
next_members-returns-in_err-value-clause-err t c refused n enough =
    let l = c.members in
    let so_far = l.invariant.same n enough in
    let s = c.next_key.new.self in
    let named : read_key l.reader ≡ Some (Some c.in-Some.key.now, s) = grind arith in
    so_far.2 ∙ object_fails (value_in c.args.depth) so_far.0 (members_view l.map.entries) c.in-Some.key.now l.reader s named (c.next_value.ensures.err (grind arith))

pub next_members-members-preserved : goal.next_members-members-preserved
next_members-members-preserved t c =
    let q = value_in c.args.depth in
    let l = c.members in
    let old = members_view l.map.entries in
    let k = c.in-Some.key in
    let s = c.next_key.new.self in
    let named : read_key l.reader ≡ Some (Some k.now, s) = grind arith in
    let read = c.in_ok-value.ensures in
    let v = c.in_ok-value.value in
    let r = c.next_value.new.reader in
    let less = read_key-shorter l.reader (Some k.now) s named in
    let lesser = read.shorter in
    let inserted = ap members_view c.in_ok-insert.ensures.entries ∙ insert_is_put l.map.entries k v in record {
      same = λ n enough.
          let so_far = l.invariant.same n enough in (
            so_far.0 - 1,
            omega (arith, so_far.1),
            so_far.2
                ∙ object_goes_on q so_far.0 old k.now l.reader s r (view v) (omega (arith, so_far.1)) named read.ok
                ∙ ap (λ ms. object_from q (so_far.0 - 1) ms r) (sym inserted),
          );
      shorter = omega (arith, l.invariant.shorter);
    }

pub next_members-returns-clause-ok : goal.next_members-returns-clause-ok
next_members-returns-clause-ok t c n enough =
    let l = c.members in
    let so_far = l.invariant.same n enough in
    let r = c.next_key.new.self in
    let ms = c.in_ok-of_map.field-0 in
    let seen : view (Object ms) ≡ object (members_view ms.items) = search (rules, the_lemmas) in
    so_far.2
    ∙ object_ends (value_in c.args.depth) so_far.0 (members_view l.map.entries) l.reader r so_far.1 (grind arith)
    ∙ ap (λ d. Some (d, r)) (sym (seen ∙ ap (λ es. object (members_view es)) c.in_ok-of_map.ensures))
