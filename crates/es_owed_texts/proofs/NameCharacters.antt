-- The characters of names are those that were added.
use Rattle.std.proofs.Common.{◌≡◌, sym, ap, ◌∙◌, refl, ℕ, ◌+◌, ◌<◌, ◌≤◌, List, [], ◌∷◌, length, drop, get_or, nat_eq, Bool, true, false, ◌||◌, Bor}
use Rattle.std.proofs.lemmas.List.{at_drop_more, at_drop_all}
use Rattle.es_base.specs.Tree.{Tree}
use Rattle.es_binding_faults.specs.Seen.{seen}
use Rattle.es_steps.specs.References.{has_number}
use Rattle.es_lowered.specs.Texts.{begins_with}

or-assoc : (a b c : Bool) → (a || (b || c)) ≡ ((a || b) || c)
or-assoc true b c = refl
or-assoc false b c = refl

or_false : (a : Bool) → (a || false) ≡ a
or_false true = refl
or_false false = refl

or_swapped : (a b : Bool) → (a || b) ≡ (b || a)
or_swapped true true = refl
or_swapped true false = refl
or_swapped false true = refl
or_swapped false false = refl

moved : (a b c : Bool) → ((b || a) || c) ≡ (a || (b || c))
moved true true c = refl
moved true false c = refl
moved false true c = refl
moved false false c = refl

-- one more character
pub next_character : (c k : ℕ) (a b d : Bool) (cs ks : List ℕ) → b ≡ (nat_eq c k || a) → ks ≡ k ∷ cs → (a || has_number c ks) ≡ d → (b || has_number c cs) ≡ d
next_character c k a b d cs ks more are e = ap (λ x. x || has_number c cs) more ∙ moved a (nat_eq c k) (has_number c cs) ∙ ap (λ xs. a || has_number c xs) (sym are) ∙ e

pub all_characters : (c : ℕ) (a d : Bool) (ks : List ℕ) → ks ≡ [] → (a || has_number c ks) ≡ d → a ≡ d
all_characters c a d ks none e = sym (or_false a) ∙ ap (λ xs. a || has_number c xs) (sym none) ∙ e

-- one more name, of which a character is sought
pub next_name : (among : List Tree → Bool) (is_of : Tree → Bool) → ((t : Tree) (ts : List Tree) → among (t ∷ ts) ≡ (is_of t || among ts))
    → (a b : Bool) (ns : List (Bor Tree)) (i : ℕ) (d : Bor Tree) → i < length ns → b ≡ (a || is_of (get_or ns i d).now)
    → (b || among (seen (drop (i + 1) ns))) ≡ (a || among (seen (drop i ns)))
next_name among is_of node_more a b ns i d below more =
    let rest = among (seen (drop (i + 1) ns)) in
    ap (λ x. x || rest) more
    ∙ sym (or-assoc a (is_of (get_or ns i d).now) rest)
    ∙ sym (at_drop_more (λ (xs : List (Bor Tree)). a || among (seen xs)) ns i d below ∙ ap (λ x. a || x) (node_more (get_or ns i d).now (seen (drop (i + 1) ns))))

pub all_names : (among : List Tree → Bool) → among [] ≡ false → (a b : Bool) (ns : List (Bor Tree)) (i : ℕ) → length ns ≤ i → (a || among (seen (drop i ns))) ≡ b → a ≡ b
all_names among none a b ns i over e = sym (or_false a) ∙ ap (λ x. a || x) (sym none) ∙ sym (at_drop_all (λ (xs : List (Bor Tree)). a || among (seen xs)) ns i over) ∙ e

-- the first character of a string
pub first_character : (c k : ℕ) (a b : Bool) (cs ks : List ℕ) → b ≡ (nat_eq c k || a) → ks ≡ k ∷ cs → b ≡ (a || begins_with c ks)
first_character c k a b cs ks more are = more ∙ or_swapped (nat_eq c k) a ∙ ap (λ xs. a || begins_with c xs) (sym are)

pub no_character : (c : ℕ) (a : Bool) (ks : List ℕ) → ks ≡ [] → a ≡ (a || begins_with c ks)
no_character c a ks none = sym (or_false a) ∙ ap (λ xs. a || begins_with c xs) (sym none)
