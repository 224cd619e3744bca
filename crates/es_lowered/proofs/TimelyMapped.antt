-- That generated names stand in time does not depend on numbers.
use Rattle.std.specs.Prelude.{◌≡◌, ℕ, suc, List, [], ◌∷◌, ◌++◌, map, Bool, true, false, cond, not, ◌&&◌, ◌||◌, nat_eq, bytes_eq, Option, Some, None}
use Rattle.std.proofs.Common.{refl, ap, ap₂, ◌∙◌}
use Rattle.es_base.specs.Conforms.{is_among}
use Rattle.es_base.specs.Tree.{Tree, Part, Parts, Node, end, more, child, list, string}
use Rattle.es_base.specs.declared.kind.Kind.{Kind}
use Rattle.es_base.specs.declared.ledger.GeneratedKind.{GeneratedKind}
use Rattle.es_base.specs.declared.ledger.LedgerEntry.{LedgerEntry}
use Rattle.es_steps.specs.Context.{generated_as}
use Rattle.es_lowered.specs.Definitions.{spelling}
use Rattle.es_steps.specs.Expressions.{is_logical}
use Rattle.es_lowered.specs.HelperCalls.{is_class_body, runs_with_class, body_runs}
use Rattle.es_base.specs.Preorder.{preorder}
use Rattle.es_steps.specs.KeptNodes.{pair_stands, all_pairs_stand}
use Rattle.es_steps.specs.Scopes.{is_let}
use Rattle.es_steps.proofs.KeptNodesMapped.{statement_list-mapped}
use Rattle.es_steps.proofs.ReferencesMapped.{has_number-mapped}
use Rattle.es_steps.specs.Parts.{at, items, string_of}
use Rattle.es_steps.specs.PrivateNames.{PrivateMember, member_at, is_class, is_element}
use Rattle.es_lowered.specs.Timely.{are_bare, runs_nothing, let_number, leading_in, whole_list, leading_lets, let_form, nowhere, is_named, is_same, MarkForm, initializes, hoists, needs, Around, Mark, is_held, is_held_arrow, is_instance_value, runs_later, around_in, mark, declared_mark, initialized_mark, marks_before, marks_behind, is_given, is_of_class, is_needed_by, needed_names, uses_of, is_called_arrow, marks, marks_in, marks_at, marks_of, key_marks, value_marks, is_hoisted, is_declared, is_around, is_called_early, is_later, gives_in_time, any_gives, is_declaration, is_dead, is_skipped_by, is_skipped, is_followed, is_use, comes_first, use_form, is_called_first, use_around, is_running, is_early_by, is_early, asks, in_time, names_timely, is_needed, uses, method_name, declared_methods, is_of_no_node, held_of, held_by, with_class, super_function, super_functions, is_given_with, with_super}
use Rattle.es_steps.specs.Values.{String}
use Rattle.es_steps.proofs.ContextMapped.{generated_as-mapped, is_generated-mapped}
use Rattle.es_lowered.proofs.DefinitionsMapped.{spelling-mapped}
use Rattle.es_lowered.proofs.HelperCallsMapped.{runs_with_class-mapped, body_runs-mapped}
use Rattle.es_steps.proofs.Mapped.{Renames, mapped, mapped_part, mapped_parts, mapped_pair, mapped_option, mapped_generated, mapped_ledger, mapped_privates, mapped_private}
use Rattle.es_steps.proofs.PartsMapped.{cond-mapped, append-mapped, at-mapped, items_at-mapped, string_at-mapped, is_true_at-mapped, is_present_at-mapped, preorder-mapped, number_of-mapped}
use Rattle.es_steps.proofs.PrivatesMapped.{member_at-mapped}

module _ (f : ℕ → ℕ) where
  abbrev pub mapped_held : ℕ × ℕ → ℕ × ℕ
  mapped_held p = (f p.0, p.1)

  abbrev mapped_later : ℕ × Bool → ℕ × Bool
  mapped_later p = (f p.0, p.1)

  abbrev mapped_running : ℕ × String → ℕ × String
  mapped_running p = (f p.0, p.1)

  abbrev pub mapped_around : Around → Around
  mapped_around x = record { held = map mapped_held x.held; later = map mapped_later x.later; called = map mapped_later x.called; is_called = x.is_called; running = map mapped_running x.running; class_name = x.class_name }

  abbrev pub mapped_mark : Mark → Mark
  mapped_mark m = record { name = m.name; node = map f m.node; form = m.form; around = mapped_around m.around }

  is_instance_value-mapped : (kind : Kind) (ps : Parts) (i : ℕ) → is_instance_value kind (mapped_parts f ps) i ≡ is_instance_value kind ps i
  is_instance_value-mapped Kind.PropertyDefinition ps i = rw (is_true_at-mapped f 3 ps) refl
  is_instance_value-mapped kind ps i = refl

  spelling_at-mapped : (i : ℕ) (ps : Parts) → spelling (at i (mapped_parts f ps)) ≡ spelling (at i ps)
  spelling_at-mapped i ps = ap spelling (at-mapped f i ps) ∙ spelling-mapped f (at i ps)

  pub are_bare-mapped : (ps : Parts) → are_bare (mapped_parts f ps) ≡ are_bare ps
  are_bare-mapped end = refl
  are_bare-mapped (more (child (Node Kind.VariableDeclarator m span semantic_id ps)) rest) = rw (is_present_at-mapped f 1 ps, are_bare-mapped rest) refl
  are_bare-mapped (more p rest) = refl

  runs_nothing-mapped : (p : Part) → runs_nothing (mapped_part f p) ≡ runs_nothing p
  runs_nothing-mapped (child (Node Kind.FunctionDeclaration m span semantic_id ps)) = refl
  runs_nothing-mapped (child (Node Kind.ImportDeclaration m span semantic_id ps)) = refl
  runs_nothing-mapped (child (Node Kind.ExpressionStatement m span semantic_id (more e (more (string s) end)))) = refl
  runs_nothing-mapped (child (Node Kind.VariableDeclaration m span semantic_id ps)) = rw (items_at-mapped f 1 ps) (are_bare-mapped (items (at 1 ps)))
  runs_nothing-mapped p = refl

  let_number-mapped : (p : Part) → let_number (mapped_part f p) ≡ map f (let_number p)
  let_number-mapped (child (Node Kind.VariableDeclaration m span semantic_id ps)) = rw (string_at-mapped f 0 ps) (cond-mapped (map f) (is_let ps) (m ∷ []) [] refl refl)
  let_number-mapped p = refl

  leading_in-mapped : (ps : Parts) → leading_in (mapped_parts f ps) ≡ map f (leading_in ps)
  leading_in-mapped end = refl
  leading_in-mapped (more p ps) =
      append-mapped f _ _ (let_number-mapped p) (rw (runs_nothing-mapped p) (cond-mapped (map f) (runs_nothing p) (leading_in ps) [] (leading_in-mapped ps) refl))

  whole_list-mapped : (kind : Kind) (ps : Parts) → whole_list kind (mapped_parts f ps) ≡ mapped_parts f (whole_list kind ps)
  whole_list-mapped Kind.SwitchCase ps = refl
  whole_list-mapped kind ps = statement_list-mapped f kind ps

  leading_lets-mapped : (ts : List Tree) → leading_lets (map (mapped f) ts) ≡ map f (leading_lets ts)
  leading_lets-mapped [] = refl
  leading_lets-mapped (Node kind m span semantic_id ps ∷ ts) = append-mapped f _ _ (ap leading_in (whole_list-mapped kind ps) ∙ leading_in-mapped (whole_list kind ps)) (leading_lets-mapped ts)

  is_given-mapped : (first : ℕ) (l k : List LedgerEntry) (xs ys : List PrivateMember) (a b : String → List ℕ → Bool) (hs gs : List ℕ) (kind : Kind) (ps : Parts) (i : ℕ) → is_given first l xs a hs kind (mapped_parts f ps) i ≡ is_given first k ys b gs kind ps i
  is_given-mapped first l k xs ys a b hs gs Kind.AssignmentExpression ps i = rw (string_at-mapped f 0 ps, spelling_at-mapped 1 ps) refl
  is_given-mapped first l k xs ys a b hs gs kind ps i = refl

  comes_first-mapped : (g : Option GeneratedKind) → comes_first (mapped_option (mapped_generated f) g) ≡ comes_first g
  comes_first-mapped None = refl
  comes_first-mapped (Some (GeneratedKind.WeakMap d)) = refl
  comes_first-mapped (Some (GeneratedKind.Brand n)) = refl
  comes_first-mapped (Some (GeneratedKind.LooseKey d)) = refl
  comes_first-mapped (Some (GeneratedKind.Method d)) = refl
  comes_first-mapped (Some (GeneratedKind.SuperFn n)) = refl
  comes_first-mapped (Some GeneratedKind.Closure) = refl
  comes_first-mapped (Some g) = refl

  use_form-mapped : (g : Option GeneratedKind) → use_form (mapped_option (mapped_generated f) g) ≡ use_form g
  use_form-mapped g = rw (comes_first-mapped g) refl

  is_called_first-mapped : (g : Option GeneratedKind) → is_called_first (mapped_option (mapped_generated f) g) ≡ is_called_first g
  is_called_first-mapped None = refl
  is_called_first-mapped (Some (GeneratedKind.SuperFn n)) = refl
  is_called_first-mapped (Some GeneratedKind.Closure) = refl
  is_called_first-mapped (Some g) = refl

  use_around-mapped : (g : Option GeneratedKind) (x : Around) → use_around (mapped_option (mapped_generated f) g) (mapped_around x) ≡ mapped_around (use_around g x)
  use_around-mapped g x = rw (is_called_first-mapped g) (cond-mapped mapped_around (is_called_first g) (record x { later = x.called }) x refl refl)

  is_followed-mapped : (g : Option GeneratedKind) → is_followed (mapped_option (mapped_generated f) g) ≡ is_followed g
  is_followed-mapped None = refl
  is_followed-mapped (Some GeneratedKind.Temp) = refl
  is_followed-mapped (Some GeneratedKind.Param) = refl
  is_followed-mapped (Some GeneratedKind.Args) = refl
  is_followed-mapped (Some g) = refl

module _ {first : ℕ} {f : ℕ → ℕ} (r : Renames first f) where
  runs_later-mapped : (kind : Kind) (m : ℕ) (ps : Parts) (i : ℕ) → runs_later first kind (f m) (mapped_parts f ps) i ≡ runs_later first kind m ps i
  runs_later-mapped kind m ps i = rw (r.new m, is_instance_value-mapped f kind ps i) refl

  is_held_arrow-mapped : (x : Around) (kind : Kind) (m : ℕ) → is_held_arrow first (mapped_around f x) kind (f m) ≡ is_held_arrow first x kind m
  is_held_arrow-mapped x kind m = rw (r.new m) refl

  pub is_held-mapped : (kind : Kind) (ps : Parts) (i : ℕ) → is_held kind (mapped_parts f ps) i ≡ is_held kind ps i
  is_held-mapped Kind.AssignmentExpression ps i = ap (λ s. nat_eq i 2 && is_logical s) (string_at-mapped f 0 ps)
  is_held-mapped kind ps i = refl

  held_in-mapped : (x : Around) (kind : Kind) (m : ℕ) (ps : Parts) (i : ℕ) → cond (is_held kind (mapped_parts f ps) i || (is_held_arrow first (mapped_around f x) kind (f m) || is_instance_value kind (mapped_parts f ps) i)) ((f m, i) ∷ map (mapped_held f) x.held) (map (mapped_held f) x.held) ≡ map (mapped_held f) (cond (is_held kind ps i || (is_held_arrow first x kind m || is_instance_value kind ps i)) ((m, i) ∷ x.held) x.held)
  held_in-mapped x kind m ps i =
      rw (is_held-mapped kind ps i, is_held_arrow-mapped x kind m, is_instance_value-mapped f kind ps i)
      (cond-mapped (map (mapped_held f)) (is_held kind ps i || (is_held_arrow first x kind m || is_instance_value kind ps i)) ((m, i) ∷ x.held) x.held refl refl)

  is_hoisted-mapped : (ledger : List LedgerEntry) (kind : Kind) (ps : Parts) → is_hoisted (mapped_ledger f ledger) kind (mapped_parts f ps) ≡ is_hoisted ledger kind ps
  is_hoisted-mapped ledger Kind.FunctionDeclaration ps = rw (spelling_at-mapped f 0 ps, is_generated-mapped f (spelling (at 0 ps)) ledger) refl
  is_hoisted-mapped ledger kind ps = refl

  later_in-mapped : (ledger : List LedgerEntry) (x : Around) (kind : Kind) (m : ℕ) (ps : Parts) (i : ℕ) → cond (runs_later first kind (f m) (mapped_parts f ps) i) ((f m, is_hoisted (mapped_ledger f ledger) kind (mapped_parts f ps)) ∷ map (mapped_later f) x.later) (map (mapped_later f) x.later) ≡ map (mapped_later f) (cond (runs_later first kind m ps i) ((m, is_hoisted ledger kind ps) ∷ x.later) x.later)
  later_in-mapped ledger x kind m ps i = rw (runs_later-mapped kind m ps i, is_hoisted-mapped ledger kind ps) (cond-mapped (map (mapped_later f)) (runs_later first kind m ps i) ((m, is_hoisted ledger kind ps) ∷ x.later) x.later refl refl)

  body_at-mapped : (i : ℕ) (ps : Parts) → body_runs (at i (mapped_parts f ps)) ≡ body_runs (at i ps)
  body_at-mapped i ps = ap body_runs (at-mapped f i ps) ∙ body_runs-mapped f (at i ps)

  running_in-mapped : (x : Around) (kind : Kind) (m : ℕ) (ps : Parts) → cond (is_class kind && body_runs (at 2 (mapped_parts f ps))) ((f m, spelling (at 0 (mapped_parts f ps))) ∷ map (mapped_running f) x.running) (map (mapped_running f) x.running) ≡ map (mapped_running f) (cond (is_class kind && body_runs (at 2 ps)) ((m, spelling (at 0 ps)) ∷ x.running) x.running)
  running_in-mapped x kind m ps =
      rw (body_at-mapped 2 ps, spelling_at-mapped f 0 ps)
      (cond-mapped (map (mapped_running f)) (is_class kind && body_runs (at 2 ps)) ((m, spelling (at 0 ps)) ∷ x.running) x.running refl refl)

  called_in-mapped : (x : Around) (kind : Kind) (m : ℕ) (ps : Parts) (i : ℕ) → cond (runs_later first kind (f m) (mapped_parts f ps) i) ((f m, is_declared kind) ∷ map (mapped_later f) x.called) (map (mapped_later f) x.called) ≡ map (mapped_later f) (cond (runs_later first kind m ps i) ((m, is_declared kind) ∷ x.called) x.called)
  called_in-mapped x kind m ps i = rw (runs_later-mapped kind m ps i) (cond-mapped (map (mapped_later f)) (runs_later first kind m ps i) ((m, is_declared kind) ∷ x.called) x.called refl refl)

  around_in-mapped : (ledger : List LedgerEntry) (x : Around) (kind : Kind) (m : ℕ) (ps : Parts) (i : ℕ) → around_in first (mapped_ledger f ledger) (mapped_around f x) kind (f m) (mapped_parts f ps) i ≡ mapped_around f (around_in first ledger x kind m ps i)
  around_in-mapped ledger x kind m ps i = rw (held_in-mapped x kind m ps i, later_in-mapped ledger x kind m ps i, called_in-mapped x kind m ps i, running_in-mapped x kind m ps, spelling_at-mapped f 0 ps) refl

  -- ---- what a class needs

  is_of_class-mapped : (n : ℕ) (x : Option PrivateMember) → is_of_class (f n) (mapped_option (mapped_private f) x) ≡ is_of_class n x
  is_of_class-mapped n None = refl
  is_of_class-mapped n (Some x) = r.apart n x.class

  needed_member-mapped : (n d : ℕ) (members : List PrivateMember) → is_of_class (f n) (member_at (f d) (mapped_privates f members)) ≡ is_of_class n (member_at d members)
  needed_member-mapped n d members = ap (is_of_class (f n)) (member_at-mapped r d members) ∙ is_of_class-mapped n (member_at d members)

  is_needed_by-mapped : (n : ℕ) (members : List PrivateMember) (g : GeneratedKind) → is_needed_by (f n) (mapped_privates f members) (mapped_generated f g) ≡ is_needed_by n members g
  is_needed_by-mapped n members (GeneratedKind.WeakMap d) = needed_member-mapped n d.0 members
  is_needed_by-mapped n members (GeneratedKind.Method d) = needed_member-mapped n d.0 members
  is_needed_by-mapped n members (GeneratedKind.LooseKey d) = needed_member-mapped n d.0 members
  is_needed_by-mapped n members (GeneratedKind.Brand k) = r.apart n k.0
  is_needed_by-mapped n members g = refl

  needed_names-mapped : (n : ℕ) (members : List PrivateMember) (es : List LedgerEntry) → needed_names (f n) (mapped_privates f members) (mapped_ledger f es) ≡ needed_names n members es
  needed_names-mapped n members [] = refl
  needed_names-mapped n members (e ∷ es) = ap₂ (λ a b. cond a (e.name ∷ []) [] ++ b) (is_needed_by-mapped n members e.kind) (needed_names-mapped n members es)

  uses_of-mapped : (x : Around) (ss : List String) → uses_of (mapped_around f x) ss ≡ map (mapped_mark f) (uses_of x ss)
  uses_of-mapped x [] = refl
  uses_of-mapped x (s ∷ ss) = ap (λ ms. mapped_mark f (record { name = s; node = []; form = needs; around = record x { later = x.called } }) ∷ ms) (uses_of-mapped x ss)

  is_called_arrow-mapped : (kind : Kind) (ps : Parts) → is_called_arrow kind (mapped_parts f ps) ≡ is_called_arrow kind ps
  is_called_arrow-mapped Kind.CallExpression (more (child (Node Kind.ArrowFunctionExpression m span semantic_id ps)) rest) = refl
  is_called_arrow-mapped kind ps = refl

  -- ---- marks

  module _ (ledger : List LedgerEntry) (members : List PrivateMember) (known asked : String → List ℕ → Bool) (same_asked : (s : String) (ns : List ℕ) → known s (map f ns) ≡ asked s ns) (leading : List ℕ) where
    abbrev heads : List ℕ
    heads = map f leading

    abbrev there : List LedgerEntry
    there = mapped_ledger f ledger

    abbrev others : List PrivateMember
    others = mapped_privates f members

    abbrev moved : List Mark → List Mark
    moved ms = map (mapped_mark f) ms

    mark-mapped : (x : Around) (form : MarkForm) (s : String) (ns : List ℕ) → mark first there others known heads (mapped_around f x) form s (map f ns) ≡ moved (mark first ledger members asked leading x form s ns)
    mark-mapped x form s ns = rw (same_asked s ns) (cond-mapped moved (asked s ns) (record { name = s; node = ns; form = form; around = x } ∷ []) [] refl refl)

    declared_mark-mapped : (x : Around) (b : Option MarkForm) (id : Part) → declared_mark first there others known heads (mapped_around f x) b (mapped_part f id) ≡ moved (declared_mark first ledger members asked leading x b id)
    declared_mark-mapped x (Some form) id = rw (spelling-mapped f id) (mark-mapped x form (spelling id) [])
    declared_mark-mapped x None id = refl

    initialized_mark-mapped : (x : Around) (id p : Part) → initialized_mark first there others known heads (mapped_around f x) (mapped_part f id) (mapped_part f p) ≡ moved (initialized_mark first ledger members asked leading x id p)
    initialized_mark-mapped x id (child t) = rw (spelling-mapped f id) (mark-mapped x initializes (spelling id) [])
    initialized_mark-mapped x id p = refl

    class_uses-mapped : (x : Around) (m : ℕ) → uses_of (mapped_around f x) (needed_names (f m) others there) ≡ moved (uses_of x (needed_names m members ledger))
    class_uses-mapped x m = ap (uses_of (mapped_around f x)) (needed_names-mapped m members ledger) ∙ uses_of-mapped x (needed_names m members ledger)

    marks_before-mapped : (x : Around) (kind : Kind) (m : ℕ) (ps : Parts) → marks_before first there others known heads (mapped_around f x) kind (f m) (mapped_parts f ps) ≡ moved (marks_before first ledger members asked leading x kind m ps)
    marks_before-mapped x Kind.IdentifierReference m ps =
        let s : String = string_of (at 0 ps) in
        let g : Option GeneratedKind = generated_as s ledger in
        rw (string_at-mapped f 0 ps)
        (ap (λ h. mark first there others known heads (use_around h (mapped_around f x)) (use_form h) s (f m ∷ [])) (generated_as-mapped f s ledger)
        ∙ (ap₂ (λ y form. mark first there others known heads y form s (f m ∷ [])) (use_around-mapped f g x) (use_form-mapped f g) ∙ mark-mapped (use_around g x) (use_form g) s (m ∷ [])))
    marks_before-mapped x Kind.ClassDeclaration m ps = class_uses-mapped x m
    marks_before-mapped x Kind.ClassExpression m ps = class_uses-mapped x m
    marks_before-mapped x Kind.FunctionDeclaration m ps = rw (spelling_at-mapped f 0 ps) (mark-mapped x hoists (spelling (at 0 ps)) [])
    marks_before-mapped x kind m ps = refl

    marks_behind-mapped : (x : Around) (b : Option MarkForm) (kind : Kind) (m : ℕ) (ps : Parts) → marks_behind first there others known heads (mapped_around f x) b kind (f m) (mapped_parts f ps) ≡ moved (marks_behind first ledger members asked leading x b kind m ps)
    marks_behind-mapped x b Kind.AssignmentExpression m ps = rw (spelling_at-mapped f 1 ps) (mark-mapped x initializes (spelling (at 1 ps)) [])
    marks_behind-mapped x b Kind.VariableDeclarator m ps =
        append-mapped (mapped_mark f) _ _ (ap (declared_mark first there others known heads (mapped_around f x) b) (at-mapped f 0 ps) ∙ declared_mark-mapped x b (at 0 ps))
        (ap₂ (initialized_mark first there others known heads (mapped_around f x)) (at-mapped f 0 ps) (at-mapped f 1 ps) ∙ initialized_mark-mapped x (at 0 ps) (at 1 ps))
    marks_behind-mapped x b Kind.ClassDeclaration m ps = mark-mapped x initializes [] (m ∷ [])
    marks_behind-mapped x b Kind.ClassExpression m ps = mark-mapped x initializes [] (m ∷ [])
    marks_behind-mapped x b kind m ps = refl

    let_form-mapped : (kind : Kind) (m : ℕ) (ps : Parts) → let_form first there others known heads kind (f m) (mapped_parts f ps) ≡ let_form first ledger members asked leading kind m ps
    let_form-mapped Kind.VariableDeclaration m ps = rw (string_at-mapped f 0 ps, has_number-mapped r m leading) refl
    let_form-mapped kind m ps = refl

    -- two lists in either order
    either-mapped : (last : Bool) (own rest : List Mark) {there_own there_rest : List Mark} → there_own ≡ moved own → there_rest ≡ moved rest → cond last (there_rest ++ there_own) (there_own ++ there_rest) ≡ moved (cond last (rest ++ own) (own ++ rest))
    either-mapped true own rest a b = append-mapped (mapped_mark f) rest own b a
    either-mapped false own rest a b = append-mapped (mapped_mark f) own rest a b

    mutual
      pub marks-mapped : (x : Around) (b : Option MarkForm) (t : Tree) → marks first there others known heads (mapped_around f x) b (mapped f t) ≡ moved (marks first ledger members asked leading x b t)
      marks-mapped x b (Node kind m span semantic_id ps) =
          append-mapped (mapped_mark f) _ _
          (append-mapped (mapped_mark f) _ _ (marks_before-mapped x kind m ps)
          (ap (λ last. marks_in first there others known heads last (is_class_body kind) (around_in first there (mapped_around f x) kind (f m) (mapped_parts f ps)) (is_given first there others known heads kind (mapped_parts f ps)) (let_form first there others known heads kind (f m) (mapped_parts f ps)) (mapped_parts f ps)) (is_called_arrow-mapped kind ps)
          ∙ marks_in-mapped (is_called_arrow kind ps) (is_class_body kind) _ (around_in first ledger x kind m ps) (around_in-mapped ledger x kind m ps) _ (is_given first ledger members asked leading kind ps) (is_given-mapped f first there ledger others members known asked heads leading kind ps) _ (let_form first ledger members asked leading kind m ps) (let_form-mapped kind m ps) ps))
          (marks_behind-mapped x b kind m ps)

      marks_in-mapped : (last is_body : Bool) (y x : ℕ → Around) → ((i : ℕ) → y i ≡ mapped_around f (x i)) → (g h : ℕ → Bool) → ((i : ℕ) → g i ≡ h i) → (b c : Option MarkForm) → b ≡ c → (ps : Parts) → marks_in first there others known heads last is_body y g b (mapped_parts f ps) ≡ moved (marks_in first ledger members asked leading last is_body x h c ps)
      marks_in-mapped last is_body y x same g h given b c e end = refl
      marks_in-mapped last is_body y x same g h given b c e (more p ps) =
          either-mapped last (cond (h 0) [] (marks_at first ledger members asked leading is_body (x 0) c p)) (marks_in first ledger members asked leading false is_body (λ i. x (suc i)) (λ i. h (suc i)) c ps)
          (ap₂ (λ k v. cond k [] v) (given 0) (ap₂ (λ z d. marks_at first there others known heads is_body z d (mapped_part f p)) (same 0) e ∙ marks_at-mapped is_body (x 0) c p) ∙ cond-mapped moved (h 0) [] (marks_at first ledger members asked leading is_body (x 0) c p) refl refl)
          (marks_in-mapped false is_body (λ i. y (suc i)) (λ i. x (suc i)) (λ i. same (suc i)) (λ i. g (suc i)) (λ i. h (suc i)) (λ i. given (suc i)) b c e ps)

      marks_at-mapped : (is_body : Bool) (x : Around) (b : Option MarkForm) (p : Part) → marks_at first there others known heads is_body (mapped_around f x) b (mapped_part f p) ≡ moved (marks_at first ledger members asked leading is_body x b p)
      marks_at-mapped is_body x b (child t) = marks-mapped x b t
      marks_at-mapped false x b (list ps) = marks_of-mapped x b ps
      marks_at-mapped true x b (list ps) = append-mapped (mapped_mark f) _ _ (key_marks-mapped x ps) (append-mapped (mapped_mark f) _ _ (mark-mapped x initializes x.class_name []) (append-mapped (mapped_mark f) _ _ (value_marks-mapped false x ps) (value_marks-mapped true x ps)))
      marks_at-mapped true x b p = refl
      marks_at-mapped false x b p = refl

      marks_of-mapped : (x : Around) (b : Option MarkForm) (ps : Parts) → marks_of first there others known heads (mapped_around f x) b (mapped_parts f ps) ≡ moved (marks_of first ledger members asked leading x b ps)
      marks_of-mapped x b end = refl
      marks_of-mapped x b (more p ps) = append-mapped (mapped_mark f) _ _ (marks_at-mapped false x b p) (marks_of-mapped x b ps)

      key_marks-mapped : (x : Around) (ps : Parts) → key_marks first there others known heads (mapped_around f x) (mapped_parts f ps) ≡ moved (key_marks first ledger members asked leading x ps)
      key_marks-mapped x end = refl
      key_marks-mapped x (more (child (Node kind m span semantic_id (more k ps))) es) =
          append-mapped (mapped_mark f) _ _
          (cond-mapped moved (is_element kind) (marks_at first ledger members asked leading false (around_in first ledger x kind m (more k ps) 0) None k) []
          (ap (λ y. marks_at first there others known heads false y None (mapped_part f k)) (around_in-mapped ledger x kind m (more k ps) 0) ∙ marks_at-mapped false (around_in first ledger x kind m (more k ps) 0) None k) refl)
          (key_marks-mapped x es)
      key_marks-mapped x (more p es) = key_marks-mapped x es

      value_marks-mapped : (runs : Bool) (x : Around) (ps : Parts) → value_marks first there others known heads runs (mapped_around f x) (mapped_parts f ps) ≡ moved (value_marks first ledger members asked leading runs x ps)
      value_marks-mapped runs x end = refl
      value_marks-mapped runs x (more (child (Node kind m span semantic_id (more k ps))) es) =
          let own : List Mark = cond (is_element kind) [] (marks_at first ledger members asked leading false (around_in first ledger x kind m (more k ps) 0) None k) ++ marks_in first ledger members asked leading false false (λ i. around_in first ledger x kind m (more k ps) (suc i)) (λ i. false) None ps in
          rw (runs_with_class-mapped f (child (Node kind m span semantic_id (more k ps))))
          (append-mapped (mapped_mark f) _ _
          (cond-mapped moved (is_same runs (runs_with_class (child (Node kind m span semantic_id (more k ps))))) own []
          (append-mapped (mapped_mark f) _ _
          (cond-mapped moved (is_element kind) [] (marks_at first ledger members asked leading false (around_in first ledger x kind m (more k ps) 0) None k) refl
          (ap (λ y. marks_at first there others known heads false y None (mapped_part f k)) (around_in-mapped ledger x kind m (more k ps) 0) ∙ marks_at-mapped false (around_in first ledger x kind m (more k ps) 0) None k))
          (marks_in-mapped false false _ (λ i. around_in first ledger x kind m (more k ps) (suc i)) (λ i. around_in-mapped ledger x kind m (more k ps) (suc i)) _ (λ i. false) (λ i. refl) None None refl ps))
          refl)
          (value_marks-mapped runs x es))
      value_marks-mapped runs x (more p es) = value_marks-mapped runs x es

  -- ---- each stands in time

  pub pair_stands-mapped : (p : ℕ × ℕ) (qs : List (ℕ × ℕ)) → pair_stands (mapped_held f p) (map (mapped_held f) qs) ≡ pair_stands p qs
  pair_stands-mapped p [] = refl
  pair_stands-mapped p (q ∷ qs) = ap₂ (λ a b. (a && nat_eq p.1 q.1) || b) (r.apart p.0 q.0) (pair_stands-mapped p qs)

  pub all_pairs_stand-mapped : (ps qs : List (ℕ × ℕ)) → all_pairs_stand (map (mapped_held f) ps) (map (mapped_held f) qs) ≡ all_pairs_stand ps qs
  all_pairs_stand-mapped [] qs = refl
  all_pairs_stand-mapped (p ∷ ps) qs = ap₂ (λ a b. a && b) (pair_stands-mapped p qs) (all_pairs_stand-mapped ps qs)

  is_around-mapped : (n : ℕ) (gs : List (ℕ × Bool)) → is_around (f n) (map (mapped_later f) gs) ≡ is_around n gs
  is_around-mapped n [] = refl
  is_around-mapped n (g ∷ gs) = rw (r.apart n g.0, is_around-mapped n gs) refl

  is_later-mapped : (fs gs : List (ℕ × Bool)) → is_later (map (mapped_later f) fs) (map (mapped_later f) gs) ≡ is_later fs gs
  is_later-mapped [] gs = refl
  is_later-mapped (n ∷ ns) gs = ap₂ (λ a b. not a || b) (is_around-mapped n.0 gs) (is_later-mapped ns gs)

  is_called_early-mapped : (fs gs : List (ℕ × Bool)) → is_called_early (map (mapped_later f) fs) (map (mapped_later f) gs) ≡ is_called_early fs gs
  is_called_early-mapped [] gs = refl
  is_called_early-mapped (n ∷ ns) gs = rw (is_later-mapped ns gs, is_called_early-mapped ns gs, is_around-mapped n.0 gs) refl

  gives_in_time-mapped : (in_front : Bool) (m i : Mark) → gives_in_time in_front (mapped_mark f m) (mapped_mark f i) ≡ gives_in_time in_front m i
  gives_in_time-mapped in_front m i = rw (all_pairs_stand-mapped i.around.held m.around.held, is_later-mapped m.around.later i.around.later, is_called_early-mapped m.around.later i.around.later) refl

  any_gives-mapped : (in_front : Bool) (m : Mark) (is : List Mark) → any_gives in_front (mapped_mark f m) (map (mapped_mark f) is) ≡ any_gives in_front m is
  any_gives-mapped in_front m [] = refl
  any_gives-mapped in_front m (i ∷ is) = ap₂ (λ a b. a || b) (gives_in_time-mapped in_front m i) (any_gives-mapped in_front m is)

  is_dead-mapped : (m : Mark) (ds : List Mark) → is_dead (mapped_mark f m) (map (mapped_mark f) ds) ≡ is_dead m ds
  is_dead-mapped m [] = refl
  is_dead-mapped m (d ∷ ds) = ap (λ b. (bytes_eq m.name d.name && is_declaration d.form) || b) (is_dead-mapped m ds)

  is_skipped_by-mapped : (m d : Mark) → is_skipped_by (mapped_mark f m) (mapped_mark f d) ≡ is_skipped_by m d
  is_skipped_by-mapped m d = rw (all_pairs_stand-mapped d.around.held m.around.held, is_called_early-mapped m.around.called d.around.called) refl

  is_skipped-mapped : (m : Mark) (ds : List Mark) → is_skipped (mapped_mark f m) (map (mapped_mark f) ds) ≡ is_skipped m ds
  is_skipped-mapped m [] = refl
  is_skipped-mapped m (d ∷ ds) = ap₂ (λ a b. (bytes_eq m.name d.name && a) || b) (is_skipped_by-mapped m d) (is_skipped-mapped m ds)

  is_running-mapped : (ledger : List LedgerEntry) (n : ℕ) (s : String) (running : List (ℕ × String)) → is_running (mapped_ledger f ledger) (f n) s (map (mapped_running f) running) ≡ is_running ledger n s running
  is_running-mapped ledger n s [] = refl
  is_running-mapped ledger n s (p ∷ ps) = rw (r.apart n p.0, is_running-mapped ledger n s ps) refl

  is_early_by-mapped : (ledger : List LedgerEntry) (running : List (ℕ × String)) (s : String) (g : Option GeneratedKind) → is_early_by (mapped_ledger f ledger) (map (mapped_running f) running) s (mapped_option (mapped_generated f) g) ≡ is_early_by ledger running s g
  is_early_by-mapped ledger running s (Some (GeneratedKind.ClassTemp n)) = is_running-mapped ledger n.0 s running
  is_early_by-mapped ledger running s (Some g) = refl
  is_early_by-mapped ledger running s None = refl

  is_early-mapped : (ledger : List LedgerEntry) (m : Mark) → is_early (mapped_ledger f ledger) (mapped_mark f m) ≡ is_early ledger m
  is_early-mapped ledger m = ap (λ b. is_use m.form && b) (ap (is_early_by (mapped_ledger f ledger) (map (mapped_running f) m.around.running) m.name) (generated_as-mapped f m.name ledger) ∙ is_early_by-mapped ledger m.around.running m.name (generated_as m.name ledger))

  asks-mapped : (ledger : List LedgerEntry) (m : Mark) → asks (mapped_ledger f ledger) (mapped_mark f m) ≡ asks ledger m
  asks-mapped ledger m = ap (λ b. is_use m.form && b) (ap is_followed (generated_as-mapped f m.name ledger) ∙ is_followed-mapped f (generated_as m.name ledger))

  in_time-mapped : (ledger : List LedgerEntry) (front ms : List Mark) → in_time (mapped_ledger f ledger) (map (mapped_mark f) front) (map (mapped_mark f) ms) ≡ in_time ledger front ms
  in_time-mapped ledger front [] = refl
  in_time-mapped ledger front (m ∷ ms) =
      ap₂ (λ a b. not a && b) (ap₂ (λ a b. a || b) (is_early-mapped ledger m) (ap₂ (λ a b. a || b) (is_dead-mapped m ms) (is_skipped-mapped m front)))
      (ap₂ (λ a b. a && b) (ap₂ (λ a b. not a || b) (asks-mapped ledger m) (ap₂ (λ a b. a || b) (any_gives-mapped true m front) (any_gives-mapped false m ms))) (in_time-mapped ledger (m ∷ front) ms))

  is_named-mapped : (ledger : List LedgerEntry) (s : String) (ns : List ℕ) → is_named (mapped_ledger f ledger) s (map f ns) ≡ is_named ledger s ns
  is_named-mapped ledger s ns = is_generated-mapped f s ledger

  -- ---- functions that are called by their class alone

  method_name-mapped : (m : ℕ) (s : String) (g : Option GeneratedKind) → method_name (f m) s (mapped_option (mapped_generated f) g) ≡ map (mapped_running f) (method_name m s g)
  method_name-mapped m s (Some (GeneratedKind.Method d)) = refl
  method_name-mapped m s g = refl

  declared_methods-mapped : (ledger : List LedgerEntry) (ts : List Tree) → declared_methods (mapped_ledger f ledger) (map (mapped f) ts) ≡ map (mapped_running f) (declared_methods ledger ts)
  declared_methods-mapped ledger [] = refl
  declared_methods-mapped ledger (Node Kind.FunctionDeclaration m span semantic_id ps ∷ ts) =
      append-mapped (mapped_running f) _ _
      (rw (spelling_at-mapped f 0 ps, generated_as-mapped f (spelling (at 0 ps)) ledger) (method_name-mapped m (spelling (at 0 ps)) (generated_as (spelling (at 0 ps)) ledger)))
      (declared_methods-mapped ledger ts)
  declared_methods-mapped ledger (t ∷ ts) = declared_methods-mapped ledger ts

  is_of_no_node-mapped : (ns : List ℕ) → is_of_no_node (map f ns) ≡ is_of_no_node ns
  is_of_no_node-mapped [] = refl
  is_of_no_node-mapped (n ∷ ns) = refl

  held_of-mapped : (s : String) (ms : List Mark) → held_of s (map (mapped_mark f) ms) ≡ map (mapped_held f) (held_of s ms)
  held_of-mapped s [] = refl
  held_of-mapped s (m ∷ ms) =
      rw (is_of_no_node-mapped m.node) (cond-mapped (map (mapped_held f)) (bytes_eq s m.name && (is_needed m.form && is_of_no_node m.node)) m.around.held (held_of s ms) refl (held_of-mapped s ms))

  held_by-mapped : (ms : List Mark) (later : List (ℕ × Bool)) (fs : List (ℕ × String)) → held_by (map (mapped_mark f) ms) (map (mapped_later f) later) (map (mapped_running f) fs) ≡ map (mapped_held f) (held_by ms later fs)
  held_by-mapped ms later [] = refl
  held_by-mapped ms later (g ∷ fs) =
      append-mapped (mapped_held f) _ _
      (rw (is_around-mapped g.0 later) (cond-mapped (map (mapped_held f)) (is_around g.0 later) (held_of g.1 ms) [] (held_of-mapped g.1 ms) refl))
      (held_by-mapped ms later fs)

  with_class-mapped : (fs : List (ℕ × String)) (ms : List Mark) (m : Mark) → with_class (map (mapped_running f) fs) (map (mapped_mark f) ms) (mapped_mark f m) ≡ mapped_mark f (with_class fs ms m)
  with_class-mapped fs ms m =
      ap (λ (hs : List (ℕ × ℕ)). record (mapped_mark f m) { around = record (mapped_around f m.around) { held = hs } })
      (append-mapped (mapped_held f) (held_by ms m.around.later fs) m.around.held (held_by-mapped ms m.around.later fs) refl)

  super_function-mapped : (g : Option GeneratedKind) (p : Part) → super_function (mapped_option (mapped_generated f) g) (mapped_part f p) ≡ map (mapped_pair f) (super_function g p)
  super_function-mapped (Some (GeneratedKind.SuperFn n)) (child t) = rw (number_of-mapped f t) refl
  super_function-mapped (Some (GeneratedKind.SuperFn n)) p = refl
  super_function-mapped g p = refl

  pub super_functions-mapped : (ledger : List LedgerEntry) (ts : List Tree) → super_functions (mapped_ledger f ledger) (map (mapped f) ts) ≡ map (mapped_pair f) (super_functions ledger ts)
  super_functions-mapped ledger [] = refl
  super_functions-mapped ledger (Node Kind.VariableDeclarator m span semantic_id ps ∷ ts) =
      append-mapped (mapped_pair f) _ _
      (rw (spelling_at-mapped f 0 ps, generated_as-mapped f (spelling (at 0 ps)) ledger, at-mapped f 1 ps) (super_function-mapped (generated_as (spelling (at 0 ps)) ledger) (at 1 ps)))
      (super_functions-mapped ledger ts)
  super_functions-mapped ledger (Node Kind.AssignmentExpression m span semantic_id ps ∷ ts) =
      append-mapped (mapped_pair f) _ _
      (rw (spelling_at-mapped f 1 ps, generated_as-mapped f (spelling (at 1 ps)) ledger, at-mapped f 2 ps) (super_function-mapped (generated_as (spelling (at 1 ps)) ledger) (at 2 ps)))
      (super_functions-mapped ledger ts)
  super_functions-mapped ledger (t ∷ ts) = super_functions-mapped ledger ts

  is_given_with-mapped : (ledger : List LedgerEntry) (members : List PrivateMember) (m : Mark) (gs : List (ℕ × ℕ)) → is_given_with (mapped_ledger f ledger) (mapped_privates f members) (mapped_mark f m) (map (mapped_pair f) gs) ≡ is_given_with ledger members m gs
  is_given_with-mapped ledger members m [] = refl
  is_given_with-mapped ledger members m (g ∷ gs) =
      ap₂ (λ a b. a || b)
      (ap₂ (λ a (ns : List String). a && is_among m.name ns) (is_around-mapped g.0 m.around.later) (needed_names-mapped g.1 members ledger))
      (is_given_with-mapped ledger members m gs)

  with_super-mapped : (ledger : List LedgerEntry) (members : List PrivateMember) (gs : List (ℕ × ℕ)) (m : Mark) → with_super (mapped_ledger f ledger) (mapped_privates f members) (map (mapped_pair f) gs) (mapped_mark f m) ≡ mapped_mark f (with_super ledger members gs m)
  with_super-mapped ledger members gs m =
      rw (is_given_with-mapped ledger members m gs) (cond-mapped (mapped_mark f) (is_needed m.form && is_given_with ledger members m gs) (record m { form = uses }) m refl refl)

  all_given-mapped : (ledger : List LedgerEntry) (members : List PrivateMember) (fs : List (ℕ × String)) (gs : List (ℕ × ℕ)) (all ms : List Mark) → map (λ m. with_super (mapped_ledger f ledger) (mapped_privates f members) (map (mapped_pair f) gs) (with_class (map (mapped_running f) fs) (map (mapped_mark f) all) m)) (map (mapped_mark f) ms) ≡ map (mapped_mark f) (map (λ m. with_super ledger members gs (with_class fs all m)) ms)
  all_given-mapped ledger members fs gs all [] = refl
  all_given-mapped ledger members fs gs all (m ∷ ms) =
      ap₂ (λ x (xs : List Mark). x ∷ xs)
      (ap (with_super (mapped_ledger f ledger) (mapped_privates f members) (map (mapped_pair f) gs)) (with_class-mapped fs all m) ∙ with_super-mapped ledger members gs (with_class fs all m))
      (all_given-mapped ledger members fs gs all ms)

  pub names_timely-mapped : (ledger : List LedgerEntry) (members : List PrivateMember) (q : Tree) → names_timely first (mapped_ledger f ledger) (mapped_privates f members) (mapped f q) ≡ names_timely first ledger members q
  names_timely-mapped ledger members q =
      let leading : List ℕ = leading_lets (preorder q) in
      let there : List LedgerEntry = mapped_ledger f ledger in
      let others : List PrivateMember = mapped_privates f members in
      let ms : List Mark = marks first ledger members (is_named ledger) leading nowhere None q in
      let fs : List (ℕ × String) = declared_methods ledger (preorder q) in
      let gs : List (ℕ × ℕ) = super_functions ledger (preorder q) in
      ap (λ (ns : List Mark). in_time there [] (map (λ m. with_super there others (super_functions there (preorder (mapped f q))) (with_class (declared_methods there (preorder (mapped f q))) ns m)) ns))
      (ap (λ hs. marks first there others (is_named there) hs nowhere None (mapped f q)) (ap leading_lets (preorder-mapped f q) ∙ leading_lets-mapped f (preorder q)) ∙ marks-mapped ledger members (is_named there) (is_named ledger) (is_named-mapped ledger) leading nowhere None q)
      ∙ (ap₂ (λ xs ys. in_time there [] (map (λ m. with_super there others ys (with_class xs (map (mapped_mark f) ms) m)) (map (mapped_mark f) ms)))
      (ap (declared_methods there) (preorder-mapped f q) ∙ declared_methods-mapped ledger (preorder q))
      (ap (super_functions there) (preorder-mapped f q) ∙ super_functions-mapped ledger (preorder q))
      ∙ (ap (in_time there []) (all_given-mapped ledger members fs gs ms ms)
      ∙ in_time-mapped ledger [] (map (λ m. with_super ledger members gs (with_class fs ms m)) ms)))
