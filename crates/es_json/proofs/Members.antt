-- What holds of each member that is put in holds of all members.
use Rattle.std.proofs.Common.{◌≡◌, refl, sym, ap, ◌∙◌, ℕ, List, [], ◌∷◌, ◌++◌, Bool, false, Ordering, Less, Equal, Greater}
use Rattle.std.specs.Prelude.{◌||◌}
use Rattle.std.specs.Ordering.{nat_cmp, match_ordering, is_eq}
use Rattle.std.specs.Cmp.Lexicographic.{slice_cmp}
use Rattle.std.proofs.lemmas.Bool.{or_parts, or_from}
use Rattle.std.proofs.lemmas.Map.Text.{is_eq-slice_cmp}
use Rattle.std.proofs.lemmas.Slice.Eq.{bytes_eq-Decides}
use Rattle.serde_json.specs.Data.{Data, Members, no_members, member, put}
use Rattle.es_writing.specs.Writing.{Entry, put_all}

abbrev pub any_member : (List ℕ → Data → Bool) → Members → Bool
any_member test no_members = false
any_member test (member key d ms) = test key d || any_member test ms

abbrev pub NoEntry : (List ℕ → Data → Bool) → List Entry → Type 0
NoEntry test [] = Unit
NoEntry test (e ∷ es) = (test e.0 e.1 ≡ false) × NoEntry test es

pub no_entry_append : (test : List ℕ → Data → Bool) (xs ys : List Entry) → NoEntry test xs → NoEntry test ys → NoEntry test (xs ++ ys)
no_entry_append test [] ys a b = b
no_entry_append test (e ∷ xs) ys a b = (a.0, no_entry_append test xs ys a.1 b)

none_put_at : (test : List ℕ → Data → Bool) (o : Ordering) (k l : List ℕ) (d e : Data) (ms : Members) → test k d ≡ false → test l e ≡ false → any_member test ms ≡ false → any_member test (put k d ms) ≡ false
    → (o ≡ Equal → test l d ≡ false)
    → any_member test (match_ordering o (member k d (member l e ms)) (member l d ms) (member l e (put k d ms))) ≡ false
none_put_at test Less k l d e ms here there rest later same = or_from _ _ here (or_from _ _ there rest)
none_put_at test Equal k l d e ms here there rest later same = or_from _ _ (same refl) rest
none_put_at test Greater k l d e ms here there rest later same = or_from _ _ there later

none_put : (test : List ℕ → Data → Bool) (k : List ℕ) (d : Data) (ms : Members) → test k d ≡ false → any_member test ms ≡ false → any_member test (put k d ms) ≡ false
none_put test k d no_members here none = or_from _ _ here refl
none_put test k d (member l e ms) here none =
    let both = or_parts (test l e) (any_member test ms) none in
    none_put_at test (slice_cmp nat_cmp k l) k l d e ms here both.0 both.1 (none_put test k d ms here both.1) (λ same. ap (λ z. test z d) (sym ((bytes_eq-Decides k l).0 (sym (is_eq-slice_cmp k l) ∙ ap is_eq same))) ∙ here)

pub none_put_all : (test : List ℕ → Data → Bool) (es : List Entry) (ms : Members) → NoEntry test es → any_member test ms ≡ false → any_member test (put_all ms es) ≡ false
none_put_all test [] ms none before = before
none_put_all test (e ∷ es) ms none before = none_put_all test es (put e.0 e.1 ms) none.1 (none_put test e.0 e.1 ms none.0 before)
