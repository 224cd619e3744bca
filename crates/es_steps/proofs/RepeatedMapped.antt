-- Where functions, classes and declaring identifiers stand follows a change of numbers.
use Rattle.std.specs.Prelude.{◌≡◌, ℕ, suc, List, [], ◌∷◌, map, Bool, true, false, cond, not, ◌&&◌, ◌||◌, nat_eq, Option, Some, None}
use Rattle.std.proofs.Common.{refl, ap, ◌∙◌}
use Rattle.es_base.specs.Numbered.{is_new}
use Rattle.es_base.specs.Tree.{Tree, Part, Parts, Node, end, more, child, list}
use Rattle.es_base.specs.declared.kind.Kind.{Kind}
use Rattle.es_base.specs.declared.ledger.GeneratedKind.{GeneratedKind}
use Rattle.es_base.specs.declared.ledger.LedgerEntry.{LedgerEntry}
use Rattle.es_steps.specs.Context.{generated_as, is_constructor, is_function, name_in}
use Rattle.es_steps.specs.Parts.{at, items, string_of, is_true, has_pattern}
use Rattle.es_steps.specs.PrivateNames.{is_class}
use Rattle.es_steps.specs.References.{has_number, takes_vars}
use Rattle.es_steps.specs.Scopes.{is_binding_identifier}
use Rattle.es_steps.specs.Repeated.{Surroundings, is_loop, is_arrow, super_function, if_here, constructs_at, function_place, is_parameters_part, first_number, parameters_place, once_place, loop_place, place_in, around_program, hoisted_in, in_var_at, surroundings_in, is_placed, own_place, place_of, declaration_place, head_place, places, places_in, places_at, places_of, all_places}
use Rattle.es_steps.proofs.ContextMapped.{generated_as-mapped, name_in-mapped}
use Rattle.es_steps.proofs.Mapped.{Renames, mapped, mapped_part, mapped_parts, mapped_option, mapped_generated, mapped_ledger, mapped_pair}
use Rattle.es_steps.proofs.PartsMapped.{cond-mapped, append-mapped, at-mapped, items_at-mapped, string_at-mapped, is_true_at-mapped, has_pattern-mapped, number_of-mapped}
use Rattle.es_steps.proofs.ReferencesMapped.{has_number-mapped}

module _ (f : ℕ → ℕ) where
  abbrev pub mapped_surroundings : Surroundings → Surroundings
  mapped_surroundings s = record { place = f s.place; hoisted = f s.hoisted; in_var = s.in_var; class = f s.class; constructs = mapped_option f s.constructs }

  super_function-mapped : (g : Option GeneratedKind) → super_function (mapped_option (mapped_generated f) g) ≡ mapped_option f (super_function g)
  super_function-mapped None = refl
  super_function-mapped (Some (GeneratedKind.SuperFn n)) = refl
  super_function-mapped (Some g) = refl

  if_here-mapped : (b : Bool) (n : Option ℕ) → if_here b (mapped_option f n) ≡ mapped_option f (if_here b n)
  if_here-mapped true n = refl
  if_here-mapped false n = refl

  super_named-mapped : (ledger : List LedgerEntry) (i : ℕ) (ps : Parts) → super_function (generated_as (name_in (at i (mapped_parts f ps))) (mapped_ledger f ledger)) ≡ mapped_option f (super_function (generated_as (name_in (at i ps)) ledger))
  super_named-mapped ledger i ps = rw (at-mapped f i ps, name_in-mapped f (at i ps), generated_as-mapped f (name_in (at i ps)) ledger) (super_function-mapped (generated_as (name_in (at i ps)) ledger))

  constructs_at-mapped : (ledger : List LedgerEntry) (n : ℕ) (kind : Kind) (ps : Parts) (i : ℕ) → constructs_at (mapped_ledger f ledger) (f n) kind (mapped_parts f ps) i ≡ mapped_option f (constructs_at ledger n kind ps i)
  constructs_at-mapped ledger n Kind.MethodDefinition ps i = rw (string_at-mapped f 2 ps) (if_here-mapped (nat_eq i 1 && is_constructor (string_of (at 2 ps))) (Some n))
  constructs_at-mapped ledger n Kind.AssignmentExpression ps i = rw (super_named-mapped ledger 1 ps) (if_here-mapped (nat_eq i 2) (super_function (generated_as (name_in (at 1 ps)) ledger)))
  constructs_at-mapped ledger n Kind.VariableDeclarator ps i = rw (super_named-mapped ledger 0 ps) (if_here-mapped (nat_eq i 1) (super_function (generated_as (name_in (at 0 ps)) ledger)))
  constructs_at-mapped ledger n kind ps i = refl

  function_place-mapped : (new : Bool) (n : Option ℕ) (m place : ℕ) → function_place new (mapped_option f n) (f m) (f place) ≡ f (function_place new n m place)
  function_place-mapped new (Some n) m place = refl
  function_place-mapped true None m place = refl
  function_place-mapped false None m place = refl

  class_or-mapped : (b : Bool) (m n : ℕ) → cond b (f m) (f n) ≡ f (cond b m n)
  class_or-mapped true m n = refl
  class_or-mapped false m n = refl

  once_place-mapped : (p : Part) (place : ℕ) → once_place (mapped_part f p) (f place) ≡ f (once_place p place)
  once_place-mapped (child (Node Kind.VariableDeclaration m span semantic_id ps)) place = refl
  once_place-mapped p place = refl

  loop_place-mapped : (kind : Kind) (m : ℕ) (ps : Parts) (i place : ℕ) → loop_place kind (f m) (mapped_parts f ps) i (f place) ≡ f (loop_place kind m ps i place)
  loop_place-mapped Kind.ForStatement m ps i place = cond-mapped f (nat_eq i 0) (once_place (at 0 ps) place) m (ap (λ p. once_place p (f place)) (at-mapped f 0 ps) ∙ once_place-mapped (at 0 ps) place) refl
  loop_place-mapped Kind.ForInStatement m ps i place = class_or-mapped (nat_eq i 1) place m
  loop_place-mapped Kind.ForOfStatement m ps i place = class_or-mapped (nat_eq i 1) place m
  loop_place-mapped kind m ps i place = refl

  first_number-mapped : (ps : Parts) (place : ℕ) → first_number (mapped_parts f ps) (f place) ≡ f (first_number ps place)
  first_number-mapped (more (child t) ps) place = number_of-mapped f t
  first_number-mapped (more p ps) place = refl
  first_number-mapped end place = refl

  parameters_place-mapped : (here : Bool) (ps : Parts) (place : ℕ) → parameters_place here (mapped_parts f ps) (f place) ≡ f (parameters_place here ps place)
  parameters_place-mapped here ps place = rw (has_pattern-mapped f ps, first_number-mapped ps place) (class_or-mapped (here && has_pattern ps) (first_number ps place) place)

  pub around_program-mapped : (t : Tree) → around_program (mapped f t) ≡ mapped_surroundings (around_program t)
  around_program-mapped t = rw (number_of-mapped f t) refl

module _ {first : ℕ} {f : ℕ → ℕ} (r : Renames first f) (ledger : List LedgerEntry) where
  abbrev there : Surroundings → Surroundings
  there s = mapped_surroundings f s

  abbrev of_kind : Surroundings → Kind → ℕ → Parts → ℕ → ℕ
  of_kind s kind m ps i = cond (is_function kind || is_arrow kind) (parameters_place (is_parameters_part kind i) (items (at i ps)) (function_place (is_new first m) s.constructs m s.place)) (cond (is_loop kind) (loop_place kind m ps i s.place) s.place)

  of_kind-mapped : (s : Surroundings) (kind : Kind) (m : ℕ) (ps : Parts) (i : ℕ) → of_kind (there s) kind (f m) (mapped_parts f ps) i ≡ f (of_kind s kind m ps i)
  of_kind-mapped s kind m ps i =
      let place : ℕ = function_place (is_new first m) s.constructs m s.place in
      rw (r.new m, items_at-mapped f i ps, function_place-mapped f (is_new first m) s.constructs m s.place)
      (cond-mapped f (is_function kind || is_arrow kind) (parameters_place (is_parameters_part kind i) (items (at i ps)) place) (cond (is_loop kind) (loop_place kind m ps i s.place) s.place) (parameters_place-mapped f (is_parameters_part kind i) (items (at i ps)) place) (cond-mapped f (is_loop kind) (loop_place kind m ps i s.place) s.place (loop_place-mapped f kind m ps i s.place) refl))

  place_in-mapped : (s : Surroundings) (kind : Kind) (m : ℕ) (ps : Parts) (i : ℕ) → place_in first (there s) kind (f m) (mapped_parts f ps) i ≡ f (place_in first s kind m ps i)
  place_in-mapped s Kind.PropertyDefinition m ps i = rw (is_true_at-mapped f 3 ps) (class_or-mapped f (nat_eq i 1 && not (is_true (at 3 ps))) s.class s.place)
  place_in-mapped s kind m ps i = of_kind-mapped s kind m ps i

  hoisted_in-mapped : (s : Surroundings) (kind : Kind) (m : ℕ) (ps : Parts) (i : ℕ) → hoisted_in first (there s) kind (f m) (mapped_parts f ps) i ≡ f (hoisted_in first s kind m ps i)
  hoisted_in-mapped s kind m ps i = cond-mapped f (takes_vars kind) (place_in first s kind m ps i) s.hoisted (place_in-mapped s kind m ps i) refl

  in_var_at-mapped : (in_var : Bool) (kind : Kind) (ps : Parts) → in_var_at in_var kind (mapped_parts f ps) ≡ in_var_at in_var kind ps
  in_var_at-mapped in_var Kind.VariableDeclaration ps = rw (string_at-mapped f 0 ps) refl
  in_var_at-mapped in_var kind ps = refl

  pub surroundings_in-mapped : (s : Surroundings) (kind : Kind) (m : ℕ) (ps : Parts) (i : ℕ) → surroundings_in first (mapped_ledger f ledger) (there s) kind (f m) (mapped_parts f ps) i ≡ there (surroundings_in first ledger s kind m ps i)
  surroundings_in-mapped s kind m ps i = rw (hoisted_in-mapped s kind m ps i, place_in-mapped s kind m ps i, in_var_at-mapped s.in_var kind ps, constructs_at-mapped f ledger s.class kind ps i, class_or-mapped f (is_class kind && nat_eq i 2) m s.class) refl

  module _ (functions : List ℕ) where
    place_of-mapped : (s : Surroundings) (kind : Kind) (m : ℕ) → place_of first (mapped_ledger f ledger) (map f functions) (there s) kind (f m) ≡ map (mapped_pair f) (place_of first ledger functions s kind m)
    place_of-mapped s kind m =
        rw (r.new m, has_number-mapped r m functions, class_or-mapped f (is_binding_identifier kind && s.in_var) s.hoisted s.place)
        (cond-mapped (map (mapped_pair f)) (is_placed kind && not (is_new first m || has_number m functions)) ((m, own_place s kind) ∷ []) [] refl refl)

    declaration_place-mapped : (s : Surroundings) (p : Part) → declaration_place first (mapped_ledger f ledger) (map f functions) (there s) (mapped_part f p) ≡ map (mapped_pair f) (declaration_place first ledger functions s p)
    declaration_place-mapped s (child (Node Kind.VariableDeclaration m span semantic_id ps)) = rw (r.new m) (cond-mapped (map (mapped_pair f)) (is_new first m) [] ((m, s.place) ∷ []) refl refl)
    declaration_place-mapped s p = refl

    head_place-mapped : (s : Surroundings) (kind : Kind) (ps : Parts) → head_place first (mapped_ledger f ledger) (map f functions) (there s) kind (mapped_parts f ps) ≡ map (mapped_pair f) (head_place first ledger functions s kind ps)
    head_place-mapped s Kind.ForStatement ps = ap (declaration_place first (mapped_ledger f ledger) (map f functions) (there s)) (at-mapped f 0 ps) ∙ declaration_place-mapped s (at 0 ps)
    head_place-mapped s kind ps = refl

    mutual
      places-mapped : (s : Surroundings) (t : Tree) → places first (mapped_ledger f ledger) (map f functions) (there s) (mapped f t) ≡ map (mapped_pair f) (places first ledger functions s t)
      places-mapped s (Node kind m span semantic_id ps) =
          append-mapped (mapped_pair f) _ _ (place_of-mapped s kind m)
          (append-mapped (mapped_pair f) _ _ (head_place-mapped s kind ps) (places_in-mapped _ (surroundings_in first ledger s kind m ps) (surroundings_in-mapped s kind m ps) ps))

      places_in-mapped : (x s : ℕ → Surroundings) → ((i : ℕ) → x i ≡ there (s i)) → (ps : Parts) → places_in first (mapped_ledger f ledger) (map f functions) x (mapped_parts f ps) ≡ map (mapped_pair f) (places_in first ledger functions s ps)
      places_in-mapped x s same end = refl
      places_in-mapped x s same (more p ps) =
          append-mapped (mapped_pair f) _ _ (ap (λ y. places_at first (mapped_ledger f ledger) (map f functions) y (mapped_part f p)) (same 0) ∙ places_at-mapped (s 0) p)
          (places_in-mapped (λ i. x (suc i)) (λ i. s (suc i)) (λ i. same (suc i)) ps)

      places_at-mapped : (s : Surroundings) (p : Part) → places_at first (mapped_ledger f ledger) (map f functions) (there s) (mapped_part f p) ≡ map (mapped_pair f) (places_at first ledger functions s p)
      places_at-mapped s (child t) = places-mapped s t
      places_at-mapped s (list ps) = places_of-mapped s ps
      places_at-mapped s p = refl

      places_of-mapped : (s : Surroundings) (ps : Parts) → places_of first (mapped_ledger f ledger) (map f functions) (there s) (mapped_parts f ps) ≡ map (mapped_pair f) (places_of first ledger functions s ps)
      places_of-mapped s end = refl
      places_of-mapped s (more p ps) = append-mapped (mapped_pair f) _ _ (places_at-mapped s p) (places_of-mapped s ps)

    pub all_places-mapped : (t : Tree) → all_places first (mapped_ledger f ledger) (map f functions) (mapped f t) ≡ map (mapped_pair f) (all_places first ledger functions t)
    all_places-mapped t = rw (around_program-mapped f t) (places-mapped (around_program t) t)
