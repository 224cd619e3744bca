-- Behind a class, what its private elements hold is forgotten.
use Rattle.std.proofs.Common.{◌≡◌, refl, sym, ap, ap₂, ◌∙◌, ℕ, zero, suc, ◌+◌, ◌-◌, ◌<◌, ◌≤◌, List, [], ◌∷◌, ◌++◌, length, take, drop, append_assoc, get_or, Bool, true, false, cond, ◌&&◌, nat_eq, arith}
use Rattle.std.proofs.lemmas.List.{take-append-drop, drop_more, take_more, length-drop}
use Rattle.std.proofs.lemmas.Bool.Decides.{Decides-eqb, same_from_decides}
use Rattle.std.specs.List.{remove}
use Rattle.std.specs.Str.{chars}
use Rattle.es_base.specs.Conforms.{begins_with}
use Rattle.es_steps.specs.Evaluation.{Environment, added, is_private_key, without_private}
use Rattle.es_evaluator.specs.declared.state.Named.{Named}
use Rattle.es_evaluator.specs.Running.{onto_names, names_of}
use Rattle.es_evaluator.proofs.Given.{length_names_of, onto_names-append}
use Rattle.es_class_rules.specs.Public.{unless_private, public}

and_true : (b : Bool) → b && true ≡ b
and_true true = refl
and_true false = refl

same_number : (a b : ℕ) → nat_eq a b ≡ nat_eq b a
same_number a b = same_from_decides _ _ (Decides-eqb a b) (λ t. sym ((Decides-eqb b a).0 t), λ e. (Decides-eqb b a).1 (sym e))

pub begins_private : (x : List ℕ) → begins_with (chars (35 ∷ [])) x ≡ is_private_key x
unfolding chars
begins_private [] = refl
begins_private (c ∷ cs) = and_true (nat_eq 35 c) ∙ same_number 35 c

added_is : (xs ys : Environment) → added xs ys ≡ length xs - length ys
added_is [] [] = omega arith
added_is [] (y ∷ ys) = omega arith
added_is (x ∷ xs) [] = omega arith
added_is (x ∷ xs) (y ∷ ys) = added_is xs ys ∙ omega arith

kept_then : (b : Bool) (n : Named) (env : Environment) (ns : List Named) → onto_names (cond b env ((n.name, n.value) ∷ env)) ns ≡ onto_names env (unless_private b n ns)
kept_then true n env ns = refl
kept_then false n env ns = refl

without_onto : (k : ℕ) (env : Environment) (ns : List Named) → without_private (length ns + k) (onto_names env ns) ≡ onto_names (without_private k env) (public ns)
without_onto k env [] = let e : 0 + k ≡ k = omega arith in ap (λ (j : ℕ). without_private j env) e
without_onto k env (n ∷ ns) =
    let e : length (n ∷ ns) + k ≡ length ns + suc k = omega arith in
    ap (λ (j : ℕ). without_private j (onto_names ((n.name, n.value) ∷ env) ns)) e
    ∙ without_onto (suc k) ((n.name, n.value) ∷ env) ns
    ∙ kept_then (is_private_key n.name) n (without_private k env) (public ns)

pub forgotten : (k : ℕ) (ns : List Named) (env : Environment) → length env ≡ k → names_of (take k ns ++ public (drop k ns)) ≡ without_private (added (names_of ns) env) (names_of ns)
unfolding names_of
forgotten k ns env h =
    let whole : onto_names [] ns ≡ onto_names (onto_names [] (take k ns)) (drop k ns) = sym (ap (onto_names []) (take-append-drop k ns)) ∙ onto_names-append [] (take k ns) (drop k ns) in
    let n : length (onto_names [] ns) ≡ length ns = length_names_of ns in
    let d : length (drop k ns) ≡ length ns - k = length-drop k ns in
    let a : added (onto_names [] ns) env ≡ length (onto_names [] ns) - length env = added_is (onto_names [] ns) env in
    let count : length (drop k ns) + 0 ≡ added (onto_names [] ns) env = omega (arith, n, d, a, h) in
    onto_names-append [] (take k ns) (public (drop k ns))
    ∙ sym (without_onto 0 (onto_names [] (take k ns)) (drop k ns))
    ∙ ap₂ (λ (j : ℕ) (e : Environment). without_private j e) count (sym whole)

-- ---- going over the names

take-remove : (xs : List Named) (i : ℕ) → i < length xs → take i (remove xs i) ≡ take i xs
take-remove [] i h = absurd (omega arith)
take-remove (x ∷ xs) zero h = refl
take-remove (x ∷ xs) (suc i) h = ap (λ (l : List Named). x ∷ l) (take-remove xs i (omega arith))

drop-remove : (xs : List Named) (i : ℕ) → i < length xs → drop i (remove xs i) ≡ drop (i + 1) xs
drop-remove [] i h = absurd (omega arith)
drop-remove (x ∷ xs) zero h = refl
drop-remove (x ∷ xs) (suc i) h = let e : suc (i + 1) ≡ suc i + 1 = omega arith in drop-remove xs i (omega arith) ∙ ap (λ (j : ℕ). drop j (x ∷ xs)) e

pub one_stays : (xs : List Named) (i : ℕ) (d : Named) → i < length xs → is_private_key (get_or xs i d).name ≡ false → take i xs ++ public (drop i xs) ≡ take (i + 1) xs ++ public (drop (i + 1) xs)
one_stays xs i d h k =
    ap (λ (l : List Named). take i xs ++ public l) (drop_more xs i d h)
    ∙ ap (λ (b : Bool). take i xs ++ unless_private b (get_or xs i d) (public (drop (i + 1) xs))) k
    ∙ sym (append_assoc (take i xs) (get_or xs i d ∷ []) (public (drop (i + 1) xs)))
    ∙ ap (λ (l : List Named). l ++ public (drop (i + 1) xs)) (sym (take_more xs i d h))

pub one_goes : (xs : List Named) (i : ℕ) (d : Named) → i < length xs → is_private_key (get_or xs i d).name ≡ true → take i xs ++ public (drop i xs) ≡ take i (remove xs i) ++ public (drop i (remove xs i))
one_goes xs i d h k =
    ap (λ (l : List Named). take i xs ++ public l) (drop_more xs i d h)
    ∙ ap (λ (b : Bool). take i xs ++ unless_private b (get_or xs i d) (public (drop (i + 1) xs))) k
    ∙ sym (ap₂ (λ (l m : List Named). l ++ public m) (take-remove xs i h) (drop-remove xs i h))

pub all_gone_over : (xs : List Named) (i : ℕ) → length xs ≤ i → take i xs ++ public (drop i xs) ≡ xs
all_gone_over [] zero h = refl
all_gone_over [] (suc i) h = refl
all_gone_over (x ∷ xs) zero h = absurd (omega arith)
all_gone_over (x ∷ xs) (suc i) h = ap (λ (l : List Named). x ∷ l) (all_gone_over xs i (omega arith))
