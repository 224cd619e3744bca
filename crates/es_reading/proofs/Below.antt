-- Induction over a value: what stands at its members comes first, with the items of what stands there.
use Rattle.std.proofs.Common.{◌≡◌, subst, ℕ, List, Option, Some, Ordering, Less, Equal, Greater}
use Rattle.std.specs.Ordering.{nat_cmp, match_ordering}
use Rattle.std.specs.Cmp.Lexicographic.{slice_cmp}
use Rattle.serde_json.specs.Data.{Data, null, boolean as json_boolean, number, string as json_string, array, object, Items, no_items, item, Members, no_members, member}
use Rattle.serde_json.specs.Find.{get, get_member}

abbrev pub AllIn : (Data → Type 0) → Items → Type 0
AllIn P no_items = Unit
AllIn P (item d ds) = P d × AllIn P ds

abbrev pub items_in : Data → Items
items_in null = no_items
items_in (json_boolean b) = no_items
items_in (number n) = no_items
items_in (json_string s) = no_items
items_in (array ds) = ds
items_in (object ms) = no_items

abbrev pub Holds : (Data → Type 0) → Data → Type 0
Holds P d = P d × AllIn P (items_in d)

abbrev pub AtMembers : (Data → Type 0) → Data → Type 0
AtMembers P d = (key : List ℕ) (e : Data) → get key d ≡ Some e → Holds P e

abbrev pub Steps : (Data → Type 0) → Type 0
Steps P = (d : Data) → AtMembers P d → P d

chosen : (P : Data → Type 0) (o : Ordering) (d e : Data) (r : Option Data) → Holds P d → ((f : Data) → r ≡ Some f → Holds P f) → match_ordering o r (Some d) r ≡ Some e → Holds P e
chosen P Less d e r here other is = other e is
chosen P Equal d e r here other is = let same : d ≡ e = cc in subst (λ (z : Data). Holds P z) same here
chosen P Greater d e r here other is = other e is

mutual
  pub holds : (P : Data → Type 0) → Steps P → (d : Data) → Holds P d
  holds P step null = (step null (λ key e is. absurd (cc)), tt)
  holds P step (json_boolean b) = (step (json_boolean b) (λ key e is. absurd (cc)), tt)
  holds P step (number n) = (step (number n) (λ key e is. absurd (cc)), tt)
  holds P step (json_string s) = (step (json_string s) (λ key e is. absurd (cc)), tt)
  holds P step (array ds) = (step (array ds) (λ key e is. absurd (cc)), all P step ds)
  holds P step (object ms) = (step (object ms) (λ key e is. below P step ms key e is), tt)

  all : (P : Data → Type 0) → Steps P → (ds : Items) → AllIn P ds
  all P step no_items = tt
  all P step (item d ds) = ((holds P step d).0, all P step ds)

  below : (P : Data → Type 0) → Steps P → (ms : Members) (key : List ℕ) (e : Data) → get_member key ms ≡ Some e → Holds P e
  below P step no_members key e is = absurd (cc)
  below P step (member l d ms) key e is = chosen P (slice_cmp nat_cmp key l) d e (get_member key ms) (holds P step d) (λ f h. below P step ms key f h) is
