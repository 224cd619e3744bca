-- What is found in an object whose members were put in one after another.
use Rattle.std.proofs.Common.{◌≡◌, refl, sym, ap, ◌∙◌, ℕ, List, [], ◌∷◌, ◌++◌, Bool, true, false, Option, Some, None, if◌then◌else◌}
use Rattle.std.specs.Prelude.{bytes_eq, codes}
use Rattle.std.proofs.lemmas.Bool.{or_parts, false_from_ne_true}
use Rattle.std.proofs.lemmas.Slice.Eq.{bytes_eq-Decides}
use Rattle.serde_json.specs.Data.{Data, Members, put}
use Rattle.serde_json.specs.Find.{get_member}
use Rattle.serde_json.proofs.Views.{get_member-put, get_member-put_other}
use Rattle.es_base.specs.Conforms.{is_among}
use Rattle.es_base.specs.Tree.{Parts}
use Rattle.es_base.specs.declared.kind.Kind.{Kind}
use Rattle.es_writing.specs.Writing.{Entry, entry, put_all, type_of, number_of, kind_entries, more_entries, span_entries}

pub bytes_same : (a : List ℕ) → bytes_eq a a ≡ true
bytes_same a = (bytes_eq-Decides a a).1 refl

pub bytes_true : (a b : List ℕ) → bytes_eq a b ≡ true → a ≡ b
bytes_true a b e = (bytes_eq-Decides a b).0 e

pub bytes_false : (a b : List ℕ) → bytes_eq a b ≡ false → a ≡ b → ⊥
bytes_false a b e same = let t : bytes_eq a b ≡ true = (bytes_eq-Decides a b).1 same in cc

pub bytes_apart : (a b : List ℕ) → (a ≡ b → ⊥) → bytes_eq a b ≡ false
bytes_apart a b other = false_from_ne_true _ (λ t. other (bytes_true a b t))

-- the last entry of this name, or what was there before
abbrev pub found : List ℕ → List Entry → Option Data → Option Data
found q [] o = o
found q (e ∷ es) o = found q es (if bytes_eq e.0 q then Some e.1 else o)

abbrev pub keys : List Entry → List (List ℕ)
keys [] = []
keys (e ∷ es) = e.0 ∷ keys es

get_put : (q k : List ℕ) (d : Data) (ms : Members) (b : Bool) → bytes_eq k q ≡ b → get_member q (put k d ms) ≡ (if b then Some d else get_member q ms)
get_put q k d ms true e = ap (λ z. get_member z (put k d ms)) (sym (bytes_true k q e)) ∙ get_member-put k d ms
get_put q k d ms false e = get_member-put_other q k d ms (λ h. bytes_false k q e (sym h))

pub get_all : (q : List ℕ) (es : List Entry) (ms : Members) → get_member q (put_all ms es) ≡ found q es (get_member q ms)
get_all q [] ms = refl
get_all q (e ∷ es) ms = get_all q es (put e.0 e.1 ms) ∙ ap (found q es) (get_put q e.0 e.1 ms (bytes_eq e.0 q) refl)

pub found_append : (q : List ℕ) (xs ys : List Entry) (o : Option Data) → found q (xs ++ ys) o ≡ found q ys (found q xs o)
found_append q [] ys o = refl
found_append q (e ∷ xs) ys o = found_append q xs ys (if bytes_eq e.0 q then Some e.1 else o)

pub found_past : (q : List ℕ) (es : List Entry) (o : Option Data) → is_among q (keys es) ≡ false → found q es o ≡ o
found_past q [] o h = refl
found_past q (e ∷ es) o h =
    let both = or_parts (bytes_eq e.0 q) (is_among q (keys es)) h in
    ap (λ b. found q es (if b then Some e.1 else o)) both.0 ∙ found_past q es o both.1

-- ---- a member that may be absent

abbrev pub entry_of : List ℕ → Option Data → List Entry
entry_of name None = []
entry_of name (Some d) = entry name d []

pub found_here : (name : List ℕ) (o r : Option Data) → r ≡ None → found name (entry_of name o) r ≡ o
found_here name None r e = e
found_here name (Some d) r e = ap (λ b. if b then Some d else r) (bytes_same name)

pub found_other : (q name : List ℕ) (o r : Option Data) → bytes_eq name q ≡ false → found q (entry_of name o) r ≡ r
found_other q name None r e = refl
found_other q name (Some d) r e = ap (λ b. if b then Some d else r) e

-- the members of a node, in the order in which they are put in
abbrev pub node_entries : Kind → ℕ → Option (ℕ × ℕ) → Parts → List Entry → List Entry
node_entries kind id span ps es = entry (codes "type") (type_of kind ps) (entry (codes "node") (number_of id) (kind_entries kind ps es ++ (more_entries kind ps ++ span_entries span)))
