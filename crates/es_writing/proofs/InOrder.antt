-- The members of an object in the order of their bytes are those that are put in one after another.
use Rattle.std.proofs.Common.{◌≡◌, refl, sym, ap, ◌∙◌, ℕ, List, [], ◌∷◌, ◌++◌, Bool, true, false, ◌&&◌, true≢false, Option, Some, None, append_assoc}
use Rattle.std.specs.Cmp.Lexicographic.{slice_cmp, nat_list_cmp_total}
use Rattle.std.specs.Ordering.{nat_cmp, match_ordering, is_ne, ordering_reverse}
use Rattle.std.specs.declared.cmp.Ordering.{Ordering}
use Rattle.std.specs.declared.cmp.Ordering.TheVariants.{Less, Equal, Greater}
use Rattle.json.specs.Token.{Token}
use Rattle.json.specs.Tree.{members_tokens}
use Rattle.serde_json.specs.Data.{Data, Members, no_members, member, put}
use Rattle.serde_json.specs.Written.{members_outline}
use Rattle.es_base.specs.declared.kind.Kind.{Kind}
use Rattle.es_writing.specs.Slots.{name_in, insert_slot, insert_slots, member_tokens, slots_tokens}
use Rattle.es_writing.specs.Writing.{Entry, entry, put_all}
use Rattle.es_writing.specs.declared.slots.Slot.{Slot}

pub left_true : (a b : Bool) → a && b ≡ true → a ≡ true
left_true true b e = refl
left_true false b e = e

pub right_true : (a b : Bool) → a && b ≡ true → b ≡ true
right_true true b e = e
right_true false b e = absurd (true≢false (sym e))

abbrev compared : List ℕ → List ℕ → Ordering
compared k l = slice_cmp nat_cmp k l

-- ---- a member that may be absent

abbrev member_if : List ℕ → Option Data → Members → Members
member_if k None ms = ms
member_if k (Some d) ms = member k d ms

abbrev put_if : List ℕ → Option Data → Members → Members
put_if k None ms = ms
put_if k (Some d) ms = put k d ms

abbrev pub entry_if : List ℕ → Option Data → List Entry
entry_if k None = []
entry_if k (Some d) = entry k d []

put_if-entry_if : (k : List ℕ) (o : Option Data) (ms : Members) → put_all ms (entry_if k o) ≡ put_if k o ms
put_if-entry_if k None ms = refl
put_if-entry_if k (Some d) ms = refl

module _ (kind : Kind) (stands : Slot → Option Data) where
  -- the members that are there, as they stand
  abbrev pub members_in : List Slot → Members
  members_in [] = no_members
  members_in (s ∷ ss) = member_if (name_in kind s) (stands s) (members_in ss)

  abbrev pub entries_of : List Slot → List Entry
  entries_of [] = []
  entries_of (s ∷ ss) = entry_if (name_in kind s) (stands s) ++ entries_of ss

  pub entries_of-append : (ss ts : List Slot) → entries_of (ss ++ ts) ≡ entries_of ss ++ entries_of ts
  entries_of-append [] ts = refl
  entries_of-append (s ∷ ss) ts = ap (λ es. entry_if (name_in kind s) (stands s) ++ es) (entries_of-append ss ts) ∙ sym (append_assoc (entry_if (name_in kind s) (stands s)) (entries_of ss) (entries_of ts))

  -- ---- slots in order

  -- each name has greater bytes than k
  abbrev Above : List ℕ → List Slot → Type 0
  Above k [] = Unit
  Above k (s ∷ ss) = (compared k (name_in kind s) ≡ Less) × Above k ss

  abbrev InOrder : List Slot → Type 0
  InOrder [] = Unit
  InOrder (s ∷ ss) = Above (name_in kind s) ss × InOrder ss

  above_less : (k l : List ℕ) (ss : List Slot) → compared k l ≡ Less → Above l ss → Above k ss
  above_less k l [] less above = tt
  above_less k l (s ∷ ss) less above = (nat_list_cmp_total.trans k l (name_in kind s) less above.0, above_less k l ss less above.1)

  -- what is put below all others goes first
  put_below : (k : List ℕ) (d : Data) (ss : List Slot) → Above k ss → put k d (members_in ss) ≡ member k d (members_in ss)
  put_below k d [] above = refl
  put_below k d (s ∷ ss) above = at (stands s) (put_below k d ss above.1)
    where
      at : (o : Option Data) → put k d (members_in ss) ≡ member k d (members_in ss) → put k d (member_if (name_in kind s) o (members_in ss)) ≡ member k d (member_if (name_in kind s) o (members_in ss))
      at None later = later
      at (Some e) later = ap (λ c. match_ordering c (member k d (member (name_in kind s) e (members_in ss))) (member (name_in kind s) d (members_in ss)) (member (name_in kind s) e (put k d (members_in ss)))) above.0

  -- ---- one more slot

  -- no slot has this name
  abbrev is_new : Slot → List Slot → Bool
  is_new s [] = true
  is_new s (t ∷ ts) = is_ne (compared (name_in kind s) (name_in kind t)) && is_new s ts

  abbrev pub are_new : List Slot → List Slot → Bool
  are_new [] ts = true
  are_new (s ∷ ss) ts = is_new s ts && are_new ss (insert_slot kind s ts)

  not_equal : {A : Type 0} (o : Ordering) → o ≡ Equal → is_ne o ≡ true → A
  not_equal o is new = absurd (true≢false (sym new ∙ ap is_ne is))

  put_at : (k l : List ℕ) (d e : Data) (ms : Members) (o : Ordering) → compared k l ≡ o
      → put k d (member l e ms) ≡ match_ordering o (member k d (member l e ms)) (member l d ms) (member l e (put k d ms))
  put_at k l d e ms o is = ap (λ c. match_ordering c (member k d (member l e ms)) (member l d ms) (member l e (put k d ms))) is

  put_first : (k l : List ℕ) (o p : Option Data) (ts : List Slot) → compared k l ≡ Less → Above l ts
      → member_if k o (member_if l p (members_in ts)) ≡ put_if k o (member_if l p (members_in ts))
  put_first k l None p ts less above = refl
  put_first k l (Some d) None ts less above = sym (put_below k d ts (above_less k l ts less above))
  put_first k l (Some d) (Some e) ts less above = sym (put_at k l d e (members_in ts) Less less)

  put_later : (k l : List ℕ) (o p : Option Data) (ms : Members) → compared k l ≡ Greater → member_if l p (put_if k o ms) ≡ put_if k o (member_if l p ms)
  put_later k l None p ms greater = refl
  put_later k l (Some d) None ms greater = refl
  put_later k l (Some d) (Some e) ms greater = sym (put_at k l d e ms Greater greater)

  insert-members : (s : Slot) (ts : List Slot) → InOrder ts → is_new s ts ≡ true → members_in (insert_slot kind s ts) ≡ put_if (name_in kind s) (stands s) (members_in ts)
  insert-members s [] up new = one (stands s)
    where
      one : (o : Option Data) → member_if (name_in kind s) o no_members ≡ put_if (name_in kind s) o no_members
      one None = refl
      one (Some d) = refl
  insert-members s (t ∷ ts) up new =
      at (compared (name_in kind s) (name_in kind t)) refl (insert-members s ts up.1 (right_true (is_ne (compared (name_in kind s) (name_in kind t))) (is_new s ts) new))
    where
      at : (o : Ordering) → compared (name_in kind s) (name_in kind t) ≡ o → members_in (insert_slot kind s ts) ≡ put_if (name_in kind s) (stands s) (members_in ts)
          → members_in (match_ordering o (s ∷ t ∷ ts) (s ∷ ts) (t ∷ insert_slot kind s ts)) ≡ put_if (name_in kind s) (stands s) (members_in (t ∷ ts))
      at Less is later = put_first (name_in kind s) (name_in kind t) (stands s) (stands t) ts is up.0
      at Equal is later = not_equal (compared (name_in kind s) (name_in kind t)) is (left_true (is_ne (compared (name_in kind s) (name_in kind t))) (is_new s ts) new)
      at Greater is later =
          ap (member_if (name_in kind t) (stands t)) later
          ∙ put_later (name_in kind s) (name_in kind t) (stands s) (stands t) (members_in ts) is

  above_insert : (l : List ℕ) (s : Slot) (ts : List Slot) → compared l (name_in kind s) ≡ Less → Above l ts → Above l (insert_slot kind s ts)
  above_insert l s [] less above = (less, tt)
  above_insert l s (t ∷ ts) less above = at (compared (name_in kind s) (name_in kind t)) (above_insert l s ts less above.1)
    where
      at : (o : Ordering) → Above l (insert_slot kind s ts) → Above l (match_ordering o (s ∷ t ∷ ts) (s ∷ ts) (t ∷ insert_slot kind s ts))
      at Less later = (less, above)
      at Equal later = (less, above.1)
      at Greater later = (above.0, later)

  in_order_insert : (s : Slot) (ts : List Slot) → InOrder ts → is_new s ts ≡ true → InOrder (insert_slot kind s ts)
  in_order_insert s [] up new = (tt, tt)
  in_order_insert s (t ∷ ts) up new =
      at (compared (name_in kind s) (name_in kind t)) refl (in_order_insert s ts up.1 (right_true (is_ne (compared (name_in kind s) (name_in kind t))) (is_new s ts) new))
    where
      at : (o : Ordering) → compared (name_in kind s) (name_in kind t) ≡ o → InOrder (insert_slot kind s ts) → InOrder (match_ordering o (s ∷ t ∷ ts) (s ∷ ts) (t ∷ insert_slot kind s ts))
      at Less is later = ((is, above_less (name_in kind s) (name_in kind t) ts is up.0), up)
      at Equal is later = not_equal (compared (name_in kind s) (name_in kind t)) is (left_true (is_ne (compared (name_in kind s) (name_in kind t))) (is_new s ts) new)
      at Greater is later = (above_insert (name_in kind t) s ts (nat_list_cmp_total.antisymm (name_in kind t) (name_in kind s) ∙ ap ordering_reverse is) up.0, later)

  -- ---- all of them

  insert_all-members : (ss ts : List Slot) → InOrder ts → are_new ss ts ≡ true → members_in (insert_slots kind ts ss) ≡ put_all (members_in ts) (entries_of ss)
  insert_all-members [] ts up new = refl
  insert_all-members (s ∷ ss) ts up new =
      let first = left_true (is_new s ts) (are_new ss (insert_slot kind s ts)) new in
      insert_all-members ss (insert_slot kind s ts) (in_order_insert s ts up first) (right_true (is_new s ts) (are_new ss (insert_slot kind s ts)) new)
      ∙ ap (λ ms. put_all ms (entries_of ss)) (insert-members s ts up first)
      ∙ next (stands s)
    where
      next : (o : Option Data) → put_all (put_if (name_in kind s) o (members_in ts)) (entries_of ss) ≡ put_all (members_in ts) (entry_if (name_in kind s) o ++ entries_of ss)
      next None = refl
      next (Some d) = refl

  -- slots with names of their own, in order, are the members of these entries
  pub in_order-members : (ss : List Slot) → are_new ss [] ≡ true → members_in (insert_slots kind [] ss) ≡ put_all no_members (entries_of ss)
  in_order-members ss new = insert_all-members ss [] tt new

  -- ---- tokens

  pub members_in-tokens : (ss : List Slot) → slots_tokens kind stands ss ++ Token.end_object ∷ [] ≡ members_tokens (members_outline (members_in ss))
  members_in-tokens [] = refl
  members_in-tokens (s ∷ ss) = append_assoc (member_tokens (name_in kind s) (stands s)) (slots_tokens kind stands ss) (Token.end_object ∷ []) ∙ at (stands s) (members_in-tokens ss)
    where
      at : (o : Option Data) → slots_tokens kind stands ss ++ Token.end_object ∷ [] ≡ members_tokens (members_outline (members_in ss)) → member_tokens (name_in kind s) o ++ (slots_tokens kind stands ss ++ Token.end_object ∷ []) ≡ members_tokens (members_outline (member_if (name_in kind s) o (members_in ss)))
      at None later = later
      at (Some d) later = ap (λ ts. member_tokens (name_in kind s) (Some d) ++ ts) later
