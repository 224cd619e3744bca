-- Values of one number that stand side by side.
use Rattle.std.proofs.Common.{◌≡◌, refl, sym, ap, ap₂, subst, ◌∙◌, arith, ℕ, ◌+◌, ◌-◌, ◌<◌, ◌≤◌, List, [], ◌∷◌, ◌++◌, map, length, take, drop, get_or, cond, nat_eq, Option, None, Some, inl, inr}
use Rattle.std.specs.Prelude.{slice_range}
use Rattle.std.specs.List.{zip}
use Rattle.std.proofs.lemmas.Bool.{cases_Bool, eqb-true}
use Rattle.std.proofs.lemmas.List.{append-nil, drop-append-le, length-append, length-drop, length-map, map-append, take-append-le, take_all, take_more, length-take-le}
use Rattle.number_map.specs.Entries.{value_at}
use Rattle.es_by_number.specs.Numbered.{pairs}
use Rattle.es_by_number.specs.declared.numbered.Numbered.{Numbered}
use Rattle.es_grouped.specs.Groups.{having}
use Rattle.es_grouped.specs.Runs.{AreRuns, AreRunsOf, IsNext, IsRun}
use Rattle.es_grouped.specs.declared.runs.Run.{Run}
use Rattle.es_grouped.proofs.Having.{having_append}

module _ {T : Type 0} where
  -- ---- parts of lists

  range-append : (xs ys : List T) (s e : ℕ) → s ≤ e → e ≤ length xs → slice_range (xs ++ ys) s e ≡ slice_range xs s e
  range-append xs ys s e up within =
      let before : s ≤ length xs = omega (arith, up, within) in
      let inside : e - s ≤ length (drop s xs) = omega (arith, length-drop s xs, within) in
      ap (take (e - s)) (drop-append-le s xs ys before) ∙ take-append-le (e - s) (drop s xs) ys inside

  range-rest : (xs : List T) (s : ℕ) → slice_range xs s (length xs) ≡ drop s xs
  range-rest xs s = take_all (length xs - s) (drop s xs) (omega (arith, length-drop s xs))

  range-push : (xs : List T) (x : T) (s : ℕ) → s ≤ length xs → slice_range (xs ++ x ∷ []) s (length xs + 1) ≡ drop s xs ++ x ∷ []
  range-push xs x s before =
      ap (slice_range (xs ++ x ∷ []) s) (sym (length-append xs (x ∷ [])))
      ∙ range-rest (xs ++ x ∷ []) s
      ∙ drop-append-le s xs (x ∷ []) before

  drop-all : (xs : List T) → drop (length xs) xs ≡ []
  drop-all [] = refl
  drop-all (x ∷ xs) = drop-all xs

  -- ---- one run

  run_kept : (o : Option Run) (vs xs ys : List T) → IsRun o vs xs → IsRun o vs (xs ++ ys)
  run_kept None vs xs ys h = h
  run_kept (Some r) vs xs ys h =
      let longer : r.end ≤ length (xs ++ ys) = omega (arith, length-append xs ys, h.1) in
      (h.0, longer, h.2 ∙ sym (range-append xs ys r.start r.end h.0 h.1))

  run_longer : (o : Option Run) (r : Run) (vs xs : List T) (x : T) → IsRun o vs xs → IsNext o (length xs) r → IsRun (Some r) (vs ++ x ∷ []) (xs ++ x ∷ [])
  run_longer None r vs xs x none next =
      let last : r.end ≤ length (xs ++ x ∷ []) = omega (arith, length-append xs (x ∷ []), next.1) in
      let up : r.start ≤ r.end = omega (arith, next.0, next.1) in
      let here : slice_range (xs ++ x ∷ []) r.start r.end ≡ x ∷ [] = ap₂ (slice_range (xs ++ x ∷ [])) next.0 next.1 ∙ range-push xs x (length xs) (omega arith) ∙ ap (λ (ys : List T). ys ++ x ∷ []) (drop-all xs) in
      (up, last, ap (λ (ys : List T). ys ++ x ∷ []) none ∙ sym here)
  run_longer (Some b) r vs xs x run next =
      let last : r.end ≤ length (xs ++ x ∷ []) = omega (arith, length-append xs (x ∷ []), next.1) in
      let up : r.start ≤ r.end = omega (arith, next.0, next.1, next.2, run.0) in
      let before : b.start ≤ length xs = omega (arith, run.0, next.2) in
      let was : vs ≡ drop b.start xs = run.2 ∙ ap (slice_range xs b.start) next.2 ∙ range-rest xs b.start in
      let here : slice_range (xs ++ x ∷ []) r.start r.end ≡ drop b.start xs ++ x ∷ [] = ap₂ (slice_range (xs ++ x ∷ [])) next.0 next.1 ∙ range-push xs x b.start before in
      (up, last, ap (λ (ys : List T). ys ++ x ∷ []) was ∙ sym here)

  -- ---- those of all numbers

  pub runs_more : (runs after : List (ℕ × Run)) (ps : List (ℕ × T)) (k : ℕ) (x : T) (r : Run) → AreRuns runs ps → IsNext (value_at k runs) (length ps) r → ((m : ℕ) → value_at m after ≡ cond (nat_eq m k) (Some r) (value_at m runs)) → AreRuns after (ps ++ (k, x) ∷ [])
  runs_more runs after ps k x r old next put m = elim (cases_Bool (nat_eq m k)) [
    | inl same ↦ there (put m ∙ ap (λ b. cond b (Some r) (value_at m runs)) same) (ap (λ b. cond b (x ∷ []) []) same) (run_longer (value_at m runs) r (having m ps) values x (old m) (subst (λ j. IsNext (value_at j runs) (length values) r) (sym (eqb-true m k same)) (subst (λ n. IsNext (value_at k runs) n r) (sym count) next)))
    | inr other ↦ there (put m ∙ ap (λ b. cond b (Some r) (value_at m runs)) other) (ap (λ b. cond b (x ∷ []) []) other) (subst (λ (ys : List T). IsRun (value_at m runs) ys (values ++ x ∷ [])) (sym (append-nil (having m ps))) (run_kept (value_at m runs) (having m ps) values (x ∷ []) (old m)))
  ]
    where
      values : List T
      values = map (λ p. p.1) ps

      count : length values ≡ length ps
      count = length-map ps (λ (p : ℕ × T). p.1)

      there : {o : Option Run} {ys : List T} → value_at m after ≡ o → cond (nat_eq m k) (x ∷ []) [] ≡ ys → IsRun o (having m ps ++ ys) (values ++ x ∷ []) → IsRun (value_at m after) (having m (ps ++ (k, x) ∷ [])) (map (λ p. p.1) (ps ++ (k, x) ∷ []))
      there {o} {ys} found more run =
          let vs : having m ps ++ ys ≡ having m (ps ++ (k, x) ∷ []) = sym (having_append m ps ((k, x) ∷ []) ∙ ap (λ (zs : List T). having m ps ++ zs) (append-nil (cond (nat_eq m k) (x ∷ []) []) ∙ more)) in
          let xs : values ++ x ∷ [] ≡ map (λ p. p.1) (ps ++ (k, x) ∷ []) = sym (map-append (λ p. p.1) ps ((k, x) ∷ [])) in
          subst (λ q. IsRun q (having m (ps ++ (k, x) ∷ [])) (map (λ p. p.1) (ps ++ (k, x) ∷ []))) (sym found) (subst (λ (zs : List T). IsRun o (having m (ps ++ (k, x) ∷ [])) zs) xs (subst (λ (zs : List T). IsRun o zs (values ++ x ∷ [])) vs run))

  -- ---- the first items

  pub length-first : (items : List (Numbered T)) (i : ℕ) → i < length items → length (pairs (take i items)) ≡ i
  length-first items i below = length-map (take i items) (λ (x : Numbered T). (x.number, x.value)) ∙ length-take-le i items (omega (arith, below))

  pub pairs_more : (items : List (Numbered T)) (i : ℕ) (x : Numbered T) → x ≡ get_or items i x → i < length items → pairs (take (i + 1) items) ≡ pairs (take i items) ++ (x.number, x.value) ∷ []
  pairs_more items i x here below =
      ap pairs (take_more items i x below ∙ ap (λ (y : Numbered T). take i items ++ y ∷ []) (sym here))
      ∙ map-append (λ (y : Numbered T). (y.number, y.value)) (take i items) (x ∷ [])

  -- ---- numbers and values in two lists

  pub zip_pairs : (items : List (Numbered T)) → zip (map (λ x. x.number) items) (map (λ x. x.value) items) ≡ pairs items
  zip_pairs [] = refl
  zip_pairs (x ∷ xs) = ap (λ (ps : List (ℕ × T)). (x.number, x.value) ∷ ps) (zip_pairs xs)

  values_of_pairs : (items : List (Numbered T)) → map (λ p. p.1) (pairs items) ≡ map (λ x. x.value) items
  values_of_pairs [] = refl
  values_of_pairs (x ∷ xs) = ap (λ (ys : List T). x.value ∷ ys) (values_of_pairs xs)

  pub zipped : (ns : List ℕ) (xs : List T) (items : List (Numbered T)) → ns ≡ map (λ x. x.number) items → xs ≡ map (λ x. x.value) items → zip ns xs ≡ pairs items
  zipped ns xs items numbers values = ap₂ zip numbers values ∙ zip_pairs items

  pub runs_apart : (ns : List ℕ) (xs : List T) (items : List (Numbered T)) (runs : List (ℕ × Run)) → ns ≡ map (λ x. x.number) items → xs ≡ map (λ x. x.value) items → AreRuns runs (pairs items) → AreRunsOf ns xs runs
  runs_apart ns xs items runs numbers values run =
      let long : length ns ≡ length xs = ap length numbers ∙ length-map items (λ (x : Numbered T). x.number) ∙ sym (ap length values ∙ length-map items (λ (x : Numbered T). x.value)) in (
        long,
        λ m.
            subst (λ (vs : List T). IsRun (value_at m runs) vs xs) (ap (having m) (sym (zipped ns xs items numbers values)))
            (subst (λ (ys : List T). IsRun (value_at m runs) (having m (pairs items)) ys) (values_of_pairs items ∙ sym values) (run m)),
      )

-- what was taken from each of a list, at its end
pub at_end : {A B : Type 0} (f : A → B) (done : List B) (rest all : List A) → done ++ map f rest ≡ map f all → rest ≡ [] → done ≡ map f all
at_end {A} f done rest all taken none = sym (append-nil done) ∙ ap (λ (xs : List A). done ++ map f xs) (sym none) ∙ taken
