-- The awaits that are warned of, by their numbers.
use Rattle.std.proofs.Common.{◌≡◌, refl, ap, sym, ◌∙◌, ℕ, List, [], ◌∷◌, ◌++◌, append_assoc, map, Bool, true, false, cond, Option}
use Rattle.std.proofs.lemmas.List.{map-append}
use Rattle.es_base.specs.Tree.{Tree, Part, Parts, Node, end, more, child, absent, list, string, no_string, boolean, literal}
use Rattle.es_base.specs.declared.kind.Kind.{Kind}
use Rattle.es_node.specs.View.{kind_of, number_in, parts_in}
use Rattle.es_steps.specs.Told.{is_hoist_scope, await_here, top_awaits, top_awaits_in, top_awaits_of, warnings_of}
use Rattle.es_steps.specs.declared.options.Options.{Options}
use Rattle.es_shapes.specs.Warnings.{if_await, awaits, awaits_in, awaits_of, awaits_if, place_of, place_in, places, numbers}
use Rattle.es_base.specs.declared.diagnostic.Diagnostic.{Diagnostic}

append-nil : (ts : List Tree) → (ts ++ []) ≡ ts
append-nil [] = refl
append-nil (t ∷ ts) = ap (λ us. t ∷ us) (append-nil ts)

pub awaits_alone : (xs : List (ℕ × Option (ℕ × ℕ))) (t : Tree) → is_hoist_scope (kind_of t) ≡ true → (xs ++ map place_of (if_await (kind_of t) t)) ≡ (xs ++ map place_of (awaits t))
awaits_alone xs (Node kind m span semantic_id ps) stops =
    ap (λ ts. xs ++ map place_of ts) (sym (append-nil (if_await kind (Node kind m span semantic_id ps))))
    ∙ ap (λ b. xs ++ map place_of (if_await kind (Node kind m span semantic_id ps) ++ cond b [] (awaits_in ps))) (sym stops)

pub awaits_below : (xs : List (ℕ × Option (ℕ × ℕ))) (t : Tree) → is_hoist_scope (kind_of t) ≡ false → ((xs ++ map place_of (if_await (kind_of t) t)) ++ map place_of (awaits_in (parts_in t))) ≡ (xs ++ map place_of (awaits t))
awaits_below xs (Node kind m span semantic_id ps) goes =
    let here = if_await kind (Node kind m span semantic_id ps) in
    append_assoc xs (map place_of here) (map place_of (awaits_in ps))
    ∙ ap (λ l. xs ++ l) (sym (map-append place_of here (awaits_in ps)))
    ∙ ap (λ b. xs ++ map place_of (here ++ cond b [] (awaits_in ps))) (sym goes)

pub no_await : (kind : Kind) (t : Tree) → (kind ≡ Kind.AwaitExpression → ⊥) → if_await kind t ≡ []
no_await Kind.AwaitExpression t other = absurd (other refl)
no_await kind t other = refl

-- ---- by their numbers

here : (kind : Kind) (m : ℕ) (span : Option (ℕ × ℕ)) (semantic_id : Option ℕ) (ps : Parts) → map number_in (if_await kind (Node kind m span semantic_id ps)) ≡ await_here kind m
here Kind.AwaitExpression m span semantic_id ps = refl
here kind m span semantic_id ps = refl

unless : (b : Bool) (ts : List Tree) (ns : List ℕ) → map number_in ts ≡ ns → map number_in (cond b [] ts) ≡ cond b [] ns
unless true ts ns e = refl
unless false ts ns e = e

mutual
  numbered : (t : Tree) → map number_in (awaits t) ≡ top_awaits t
  numbered (Node kind m span semantic_id ps) =
      map-append number_in (if_await kind (Node kind m span semantic_id ps)) (cond (is_hoist_scope kind) [] (awaits_in ps))
      ∙ ap (λ l. l ++ map number_in (cond (is_hoist_scope kind) [] (awaits_in ps))) (here kind m span semantic_id ps)
      ∙ ap (λ l. await_here kind m ++ l) (unless (is_hoist_scope kind) (awaits_in ps) (top_awaits_in ps) (numbered_in ps))

  numbered_in : (ps : Parts) → map number_in (awaits_in ps) ≡ top_awaits_in ps
  numbered_in end = refl
  numbered_in (more p ps) = map-append number_in (awaits_of p) (awaits_in ps) ∙ ap (λ l. l ++ map number_in (awaits_in ps)) (numbered_of p) ∙ ap (λ l. top_awaits_of p ++ l) (numbered_in ps)

  numbered_of : (p : Part) → map number_in (awaits_of p) ≡ top_awaits_of p
  numbered_of (child t) = numbered t
  numbered_of absent = refl
  numbered_of (list ps) = numbered_in ps
  numbered_of (string s) = refl
  numbered_of no_string = refl
  numbered_of (boolean b) = refl
  numbered_of (literal v) = refl

fewer : (b : Bool) (t : Tree) → map number_in (cond b (awaits t) []) ≡ cond b (top_awaits t) []
fewer true t = numbered t
fewer false t = refl

map-map : {A B C : Type 0} (f : B → C) (g : A → B) (xs : List A) → map f (map g xs) ≡ map (λ x. f (g x)) xs
map-map f g [] = refl
map-map f g (x ∷ xs) = ap (λ ys. f (g x) ∷ ys) (map-map f g xs)

pub numbers_are : (o : Options) (t : Tree) (ds : List Diagnostic) → places ds ≡ map place_of (awaits_if o t) → numbers ds ≡ warnings_of o t
numbers_are o t ds e =
    sym (map-map (λ (p : ℕ × Option (ℕ × ℕ)). p.0) place_in ds)
    ∙ ap (map (λ (p : ℕ × Option (ℕ × ℕ)). p.0)) e
    ∙ map-map (λ (p : ℕ × Option (ℕ × ℕ)). p.0) place_of (awaits_if o t)
    ∙ fewer o.es2022.top_level_await t
