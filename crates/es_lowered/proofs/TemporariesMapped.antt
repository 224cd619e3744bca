-- That a temporary holds one value does not depend on numbers.
use Rattle.std.specs.Prelude.{◌≡◌, ℕ, suc, List, [], ◌∷◌, map, Bool, false, not, ◌&&◌, ◌||◌, nat_eq, bytes_eq, Option, Some, None}
use Rattle.std.proofs.Common.{refl, ap, ap₂, ◌∙◌}
use Rattle.es_base.specs.Numbered.{is_new}
use Rattle.es_base.specs.Preorder.{number_of, preorder_of, preorder}
use Rattle.es_base.specs.Table.{Field, members_of}
use Rattle.es_base.specs.Tree.{Tree, Part, Parts, Node, end, more, child, list}
use Rattle.es_base.specs.declared.kind.Kind.{Kind}
use Rattle.es_base.specs.declared.ledger.GeneratedKind.{GeneratedKind}
use Rattle.es_base.specs.declared.ledger.LedgerEntry.{LedgerEntry}
use Rattle.es_steps.specs.Parts.{at}
use Rattle.es_steps.specs.References.{is_target}
use Rattle.es_steps.specs.KeptNodes.{pair_stands}
use Rattle.es_steps.specs.Printable.{name_of_part}
use Rattle.es_steps.specs.PrivateNames.{PrivateMember, member_at, is_class}
use Rattle.es_steps.specs.Repeated.{around_program, all_places}
use Rattle.es_steps.specs.Scopes.{binds, is_body_part}
use Rattle.es_lowered.specs.Temporaries.{Touch, Spot, touch_of, is_bare, declaration_in, is_block, is_of_class, home_in, spot_in, touches, touches_in, touches_at, touches_of, all_touches, chosen, all_touched, is_none, declarations_of, gifts_of, reads_of, is_steady, is_at_most_one, is_at_call, is_near, class_of_member, class_before, stands_with, constructs_with, is_given_with, is_steady_name, all_steady, temporaries_steady, nodes_of_class, holds_class, reads_private, is_around, has_name_around, is_apart, all_apart}
use Rattle.es_steps.specs.Values.{String}
use Rattle.es_steps.proofs.Mapped.{Renames, mapped, mapped_part, mapped_parts, mapped_option, mapped_generated, mapped_ledger, mapped_private, mapped_privates, mapped_pair}
use Rattle.es_steps.proofs.PartsMapped.{cond-mapped, append-mapped, preorder-mapped, preorder_of-mapped, at-mapped, string_at-mapped, is_present_at-mapped, number_of-mapped}
use Rattle.es_steps.proofs.PrintableMapped.{name_of_part-mapped}
use Rattle.es_steps.proofs.PrivatesMapped.{member_at-mapped}
use Rattle.es_steps.proofs.RepeatedMapped.{mapped_surroundings, surroundings_in-mapped, around_program-mapped, all_places-mapped}

module _ (f : ℕ → ℕ) where
  abbrev mapped_spot : Spot → Spot
  mapped_spot x = record { around = mapped_surroundings f x.around; is_function_name = x.is_function_name; declaration = f x.declaration; home = f x.home }

  abbrev mapped_touch : Touch → Touch
  mapped_touch t = record { name = t.name; declares = t.declares; gives = t.gives; hoists = t.hoists; place = f t.place; declaration = f t.declaration; home = f t.home }

  touch_of-mapped : (gives : Bool) (x : Spot) (kind : Kind) (ps : Parts) → touch_of gives (mapped_spot x) kind (mapped_parts f ps) ≡ map mapped_touch (touch_of gives x kind ps)
  touch_of-mapped gives x Kind.IdentifierReference ps = rw (string_at-mapped f 0 ps) refl
  touch_of-mapped gives x Kind.BindingIdentifier ps = rw (string_at-mapped f 0 ps) refl
  touch_of-mapped gives x kind ps = refl

  is_bare-mapped : (kind : Kind) (ps : Parts) → is_bare kind (mapped_parts f ps) ≡ is_bare kind ps
  is_bare-mapped Kind.VariableDeclarator ps = ap not (is_present_at-mapped f 1 ps)
  is_bare-mapped kind ps = refl

  declaration_in-mapped : (kind : Kind) (m declaration : ℕ) → declaration_in kind (f m) (f declaration) ≡ f (declaration_in kind m declaration)
  declaration_in-mapped Kind.FunctionDeclaration m declaration = refl
  declaration_in-mapped kind m declaration = refl

  is_block-mapped : (p : Part) → is_block (mapped_part f p) ≡ is_block p
  is_block-mapped (child (Node Kind.BlockStatement m span semantic_id ps)) = refl
  is_block-mapped p = refl

  is_of_class-mapped : (n : Option ℕ) → is_of_class (mapped_option f n) ≡ is_of_class n
  is_of_class-mapped None = refl
  is_of_class-mapped (Some n) = refl

  chosen-mapped : (test : Touch → Bool) → ((t : Touch) → test (mapped_touch t) ≡ test t) → (s : String) (ts : List Touch) → chosen test s (map mapped_touch ts) ≡ map mapped_touch (chosen test s ts)
  chosen-mapped test same s [] = refl
  chosen-mapped test same s (t ∷ ts) = append-mapped mapped_touch _ _ (rw (same t) (cond-mapped (map mapped_touch) (test t && bytes_eq s t.name) (t ∷ []) [] refl refl)) (chosen-mapped test same s ts)

  is_none-mapped : (ts : List Touch) → is_none (map mapped_touch ts) ≡ is_none ts
  is_none-mapped [] = refl
  is_none-mapped (t ∷ ts) = refl

  all_touched-mapped : (there here : Touch → Bool) → ((t : Touch) → there (mapped_touch t) ≡ here t) → (ts : List Touch) → all_touched there (map mapped_touch ts) ≡ all_touched here ts
  all_touched-mapped there here same [] = refl
  all_touched-mapped there here same (t ∷ ts) = ap₂ (λ a b. a && b) (same t) (all_touched-mapped there here same ts)

place_stands-mapped : {first : ℕ} {f : ℕ → ℕ} (r : Renames first f) (p : ℕ × ℕ) (qs : List (ℕ × ℕ)) → pair_stands (mapped_pair f p) (map (mapped_pair f) qs) ≡ pair_stands p qs
place_stands-mapped r p [] = refl
place_stands-mapped r p (q ∷ qs) = ap₂ (λ a b. a || b) (ap₂ (λ a b. a && b) (r.apart p.0 q.0) (r.apart p.1 q.1)) (place_stands-mapped r p qs)

module _ {first : ℕ} {f : ℕ → ℕ} (r : Renames first f) where
  -- ---- where names are touched

  home_in-mapped : (x : Spot) (kind : Kind) (m : ℕ) (ps : Parts) (i : ℕ) → home_in first (mapped_spot f x) kind (f m) (mapped_parts f ps) i ≡ f (home_in first x kind m ps i)
  home_in-mapped x kind m ps i =
      rw (at-mapped f i ps, is_block-mapped f (at i ps), r.new m, is_of_class-mapped f x.around.constructs)
      (cond-mapped f (is_body_part kind i && (is_block (at i ps) && not (is_new first m || is_of_class x.around.constructs))) m x.home refl refl)

  module _ (ledger : List LedgerEntry) where
    abbrev there : List LedgerEntry
    there = mapped_ledger f ledger

    spot_in-mapped : (x : Spot) (kind : Kind) (m : ℕ) (ps : Parts) (i : ℕ) → spot_in first there (mapped_spot f x) kind (f m) (mapped_parts f ps) i ≡ mapped_spot f (spot_in first ledger x kind m ps i)
    spot_in-mapped x kind m ps i = rw (surroundings_in-mapped r ledger x.around kind m ps i, declaration_in-mapped f kind m x.declaration, home_in-mapped x kind m ps i) refl

    mutual
      touches-mapped : (x : Spot) (gives : Bool) (t : Tree) → touches first there (mapped_spot f x) gives (mapped f t) ≡ map (mapped_touch f) (touches first ledger x gives t)
      touches-mapped x gives (Node kind m span semantic_id ps) =
          append-mapped (mapped_touch f) _ _ (touch_of-mapped f gives x kind ps)
          (ap (λ b. touches_in first there (spot_in first there (mapped_spot f x) kind (f m) (mapped_parts f ps)) b (members_of kind) (mapped_parts f ps)) (is_bare-mapped f kind ps)
          ∙ touches_in-mapped _ (spot_in first ledger x kind m ps) (spot_in-mapped x kind m ps) (is_bare kind ps) (members_of kind) ps)

      touches_in-mapped : (y x : ℕ → Spot) → ((i : ℕ) → y i ≡ mapped_spot f (x i)) → (bare : Bool) (fs : List Field) (ps : Parts) → touches_in first there y bare fs (mapped_parts f ps) ≡ map (mapped_touch f) (touches_in first ledger x bare fs ps)
      touches_in-mapped y x same bare fs end = refl
      touches_in-mapped y x same bare [] (more p ps) = refl
      touches_in-mapped y x same bare (field ∷ fs) (more p ps) =
          append-mapped (mapped_touch f) _ _
          (ap (λ z. touches_at first there z (is_target field.sort || (binds field.sort && not bare)) (mapped_part f p)) (same 0) ∙ touches_at-mapped (x 0) (is_target field.sort || (binds field.sort && not bare)) p)
          (touches_in-mapped (λ i. y (suc i)) (λ i. x (suc i)) (λ i. same (suc i)) bare fs ps)

      touches_at-mapped : (x : Spot) (gives : Bool) (p : Part) → touches_at first there (mapped_spot f x) gives (mapped_part f p) ≡ map (mapped_touch f) (touches_at first ledger x gives p)
      touches_at-mapped x gives (child t) = touches-mapped x gives t
      touches_at-mapped x gives (list ps) = touches_of-mapped x gives ps
      touches_at-mapped x gives p = refl

      touches_of-mapped : (x : Spot) (gives : Bool) (ps : Parts) → touches_of first there (mapped_spot f x) gives (mapped_parts f ps) ≡ map (mapped_touch f) (touches_of first ledger x gives ps)
      touches_of-mapped x gives end = refl
      touches_of-mapped x gives (more p ps) = append-mapped (mapped_touch f) _ _ (touches_at-mapped x gives p) (touches_of-mapped x gives ps)

    all_touches-mapped : (t : Tree) → all_touches first there (mapped f t) ≡ map (mapped_touch f) (all_touches first ledger t)
    all_touches-mapped t =
        ap₂ (λ around n. touches first there (record { around = around; is_function_name = false; declaration = n; home = n }) false (mapped f t)) (around_program-mapped f t) (number_of-mapped f t)
        ∙ touches-mapped (record { around = around_program t; is_function_name = false; declaration = number_of t; home = number_of t }) false t

  -- ---- those of one name

  at_place-mapped : (g : Touch) (ts : List Touch) → all_touched (λ t. nat_eq (f g.place) t.place) (map (mapped_touch f) ts) ≡ all_touched (λ t. nat_eq g.place t.place) ts
  at_place-mapped g ts = all_touched-mapped f _ _ (λ t. r.apart g.place t.place) ts

  is_steady-mapped : (gifts reads : List Touch) → is_steady (map (mapped_touch f) gifts) (map (mapped_touch f) reads) ≡ is_steady gifts reads
  is_steady-mapped [] reads = refl
  is_steady-mapped (g ∷ gs) reads =
      ap₂ (λ a b. a && b) (at_place-mapped g gs)
      (ap₂ (λ a b. a || b) (at_place-mapped g reads) (ap₂ (λ a b. a && b) (is_none-mapped f gs) (all_touched-mapped f _ _ (λ t. r.apart g.declaration t.declaration) reads)))

  is_at_most_one-mapped : (ts : List Touch) → is_at_most_one (map (mapped_touch f) ts) ≡ is_at_most_one ts
  is_at_most_one-mapped [] = refl
  is_at_most_one-mapped (t ∷ ts) = is_none-mapped f ts

  is_at_call-mapped : (gifts reads : List Touch) → is_at_call (map (mapped_touch f) gifts) (map (mapped_touch f) reads) ≡ is_at_call gifts reads
  is_at_call-mapped [] reads = refl
  is_at_call-mapped (g ∷ gs) reads = ap₂ (λ a b. a && b) (is_none-mapped f gs) (ap₂ (λ a b. a && b) (at_place-mapped g reads) (is_at_most_one-mapped reads))

  is_near-mapped : (ds gifts : List Touch) → is_near (map (mapped_touch f) ds) (map (mapped_touch f) gifts) ≡ is_near ds gifts
  is_near-mapped [] gifts = refl
  is_near-mapped (d ∷ ds) gifts = ap₂ (λ a b. a && b) (all_touched-mapped f _ _ (λ t. r.apart d.home t.home) gifts) (is_near-mapped ds gifts)

  gifts_of-mapped : (s : String) (ts : List Touch) → gifts_of s (map (mapped_touch f) ts) ≡ map (mapped_touch f) (gifts_of s ts)
  gifts_of-mapped s ts = chosen-mapped f (λ t. t.gives) (λ t. refl) s ts

  reads_of-mapped : (s : String) (ts : List Touch) → reads_of s (map (mapped_touch f) ts) ≡ map (mapped_touch f) (reads_of s ts)
  reads_of-mapped s ts = chosen-mapped f (λ t. not (t.declares || t.gives)) (λ t. refl) s ts

  declarations_of-mapped : (s : String) (ts : List Touch) → declarations_of s (map (mapped_touch f) ts) ≡ map (mapped_touch f) (declarations_of s ts)
  declarations_of-mapped s ts = chosen-mapped f (λ t. t.declares) (λ t. refl) s ts

  -- ---- what a class needs

  class_of_member-mapped : (x : Option PrivateMember) → class_of_member (mapped_option (mapped_private f) x) ≡ map f (class_of_member x)
  class_of_member-mapped None = refl
  class_of_member-mapped (Some x) = refl

  pub class_before-mapped : (g : GeneratedKind) (members : List PrivateMember) → class_before (mapped_generated f g) (mapped_privates f members) ≡ map f (class_before g members)
  class_before-mapped (GeneratedKind.WeakMap d) members = ap class_of_member (member_at-mapped r d.0 members) ∙ class_of_member-mapped (member_at d.0 members)
  class_before-mapped (GeneratedKind.Method d) members = ap class_of_member (member_at-mapped r d.0 members) ∙ class_of_member-mapped (member_at d.0 members)
  class_before-mapped (GeneratedKind.LooseKey d) members = ap class_of_member (member_at-mapped r d.0 members) ∙ class_of_member-mapped (member_at d.0 members)
  class_before-mapped (GeneratedKind.Brand n) members = refl
  class_before-mapped g members = refl

  stands_with-mapped : (places : List (ℕ × ℕ)) (ns : List ℕ) (t : Touch) → stands_with (map (mapped_pair f) places) (map f ns) (mapped_touch f t) ≡ stands_with places ns t
  stands_with-mapped places [] t = refl
  stands_with-mapped places (n ∷ ns) t = ap (λ b. t.hoists || b) (place_stands-mapped r (n, t.place) places)

  all_with-mapped : (places : List (ℕ × ℕ)) (members : List PrivateMember) (g : GeneratedKind) (s : String) (ts : List Touch) → all_touched (stands_with (map (mapped_pair f) places) (class_before (mapped_generated f g) (mapped_privates f members))) (gifts_of s (map (mapped_touch f) ts)) ≡ all_touched (stands_with places (class_before g members)) (gifts_of s ts)
  all_with-mapped places members g s ts =
      rw (class_before-mapped g members, gifts_of-mapped s ts) (all_touched-mapped f _ (stands_with places (class_before g members)) (stands_with-mapped places (class_before g members)) (gifts_of s ts))

  is_given_with-mapped : (gifts reads : List Touch) → is_given_with (map (mapped_touch f) gifts) (map (mapped_touch f) reads) ≡ is_given_with gifts reads
  is_given_with-mapped [] reads = refl
  is_given_with-mapped (g ∷ gs) reads = at_place-mapped g reads

  constructs_with-mapped : (places : List (ℕ × ℕ)) (n : ℕ) (t : Touch) → constructs_with (map (mapped_pair f) places) (f n) (mapped_touch f t) ≡ constructs_with places n t
  constructs_with-mapped places n t = ap₂ (λ a b. a || b) (r.apart n t.place) (place_stands-mapped r (n, t.place) places)

  is_steady_name-mapped : (places : List (ℕ × ℕ)) (members : List PrivateMember) (g : GeneratedKind) (s : String) (ts : List Touch) → is_steady_name (map (mapped_pair f) places) (mapped_privates f members) (mapped_generated f g) s (map (mapped_touch f) ts) ≡ is_steady_name places members g s ts
  is_steady_name-mapped places members GeneratedKind.Temp s ts = ap₂ is_steady (gifts_of-mapped s ts) (reads_of-mapped s ts) ∙ is_steady-mapped (gifts_of s ts) (reads_of s ts)
  is_steady_name-mapped places members GeneratedKind.Param s ts = ap₂ is_at_call (gifts_of-mapped s ts) (reads_of-mapped s ts) ∙ is_at_call-mapped (gifts_of s ts) (reads_of s ts)
  is_steady_name-mapped places members GeneratedKind.Closure s ts =
      rw (gifts_of-mapped s ts, reads_of-mapped s ts)
      (ap₂ (λ a b. a && b) (is_given_with-mapped (gifts_of s ts) (reads_of s ts)) (ap₂ (λ a b. not a && b) (is_none-mapped f (reads_of s ts)) (is_at_most_one-mapped (reads_of s ts))))
  is_steady_name-mapped places members (GeneratedKind.SuperFn n) s ts =
      ap (all_touched (constructs_with (map (mapped_pair f) places) (f n.0))) (gifts_of-mapped s ts)
      ∙ all_touched-mapped f _ (constructs_with places n.0) (constructs_with-mapped places n.0) (gifts_of s ts)
  is_steady_name-mapped places members g s ts = all_with-mapped places members g s ts

  all_steady-mapped : (places : List (ℕ × ℕ)) (members : List PrivateMember) (es : List LedgerEntry) (ts : List Touch) → all_steady (map (mapped_pair f) places) (mapped_privates f members) (mapped_ledger f es) (map (mapped_touch f) ts) ≡ all_steady places members es ts
  all_steady-mapped places members [] ts = refl
  all_steady-mapped places members (e ∷ es) ts =
      ap₂ (λ a b. a && b)
      (ap₂ (λ a b. a && b) (is_steady_name-mapped places members e.kind e.name ts) (ap₂ is_near (declarations_of-mapped e.name ts) (gifts_of-mapped e.name ts) ∙ is_near-mapped (declarations_of e.name ts) (gifts_of e.name ts)))
      (all_steady-mapped places members es ts)

  -- ---- private elements

  pub nodes_of_class-mapped : (n : ℕ) (ts : List Tree) → nodes_of_class (f n) (map (mapped f) ts) ≡ map (mapped f) (nodes_of_class n ts)
  nodes_of_class-mapped n [] = refl
  nodes_of_class-mapped n (Node kind m span semantic_id ps ∷ ts) =
      append-mapped (mapped f) _ _ (rw (r.apart n m) (cond-mapped (map (mapped f)) (is_class kind && nat_eq n m) (preorder_of ps) [] (preorder_of-mapped f ps) refl)) (nodes_of_class-mapped n ts)

  holds_class-mapped : (n : ℕ) (ts : List Tree) → holds_class (f n) (map (mapped f) ts) ≡ holds_class n ts
  holds_class-mapped n [] = refl
  holds_class-mapped n (Node kind m span semantic_id ps ∷ ts) = ap₂ (λ a b. (is_class kind && a) || b) (r.apart n m) (holds_class-mapped n ts)

  reads_private-mapped : (s : String) (ts : List Tree) → reads_private s (map (mapped f) ts) ≡ reads_private s ts
  reads_private-mapped s [] = refl
  reads_private-mapped s (Node Kind.PrivateField m span semantic_id ps ∷ ts) = ap₂ (λ a b. bytes_eq s a || b) (ap name_of_part (at-mapped f 1 ps) ∙ name_of_part-mapped f (at 1 ps)) (reads_private-mapped s ts)
  reads_private-mapped s (t ∷ ts) = reads_private-mapped s ts

  module _ (qs : List Tree) where
    is_around-mapped : (n : ℕ) (g : GeneratedKind) → is_around (map (mapped f) qs) (f n) (mapped_generated f g) ≡ is_around qs n g
    is_around-mapped n (GeneratedKind.Private k) = ap (holds_class (f n)) (nodes_of_class-mapped k.0 qs) ∙ holds_class-mapped n (nodes_of_class k.0 qs)
    is_around-mapped n g = refl

    has_name_around-mapped : (n : ℕ) (s : String) (es : List LedgerEntry) → has_name_around (map (mapped f) qs) (f n) s (mapped_ledger f es) ≡ has_name_around qs n s es
    has_name_around-mapped n s [] = refl
    has_name_around-mapped n s (e ∷ es) = ap₂ (λ a b. (bytes_eq s e.name && a) || b) (is_around-mapped n e.kind) (has_name_around-mapped n s es)

    is_apart-mapped : (ledger : List LedgerEntry) (s : String) (g : GeneratedKind) → is_apart (map (mapped f) qs) (mapped_ledger f ledger) s (mapped_generated f g) ≡ is_apart qs ledger s g
    is_apart-mapped ledger s (GeneratedKind.Private n) =
        ap₂ (λ a b. not (a && b)) (has_name_around-mapped n.0 s ledger) (ap (reads_private s) (nodes_of_class-mapped n.0 qs) ∙ reads_private-mapped s (nodes_of_class n.0 qs))
    is_apart-mapped ledger s g = refl

    all_apart-mapped : (ledger es : List LedgerEntry) → all_apart (map (mapped f) qs) (mapped_ledger f ledger) (mapped_ledger f es) ≡ all_apart qs ledger es
    all_apart-mapped ledger [] = refl
    all_apart-mapped ledger (e ∷ es) = ap₂ (λ a b. a && b) (is_apart-mapped ledger e.name e.kind) (all_apart-mapped ledger es)

  pub temporaries_steady-mapped : (ledger : List LedgerEntry) (members : List PrivateMember) (q : Tree) → temporaries_steady first (mapped_ledger f ledger) (mapped_privates f members) (mapped f q) ≡ temporaries_steady first ledger members q
  temporaries_steady-mapped ledger members q =
      ap₂ (λ a b. a && b)
      (ap₂ (λ ps ts. all_steady ps (mapped_privates f members) (mapped_ledger f ledger) ts) (all_places-mapped r ledger [] q) (all_touches-mapped ledger q)
      ∙ all_steady-mapped (all_places first ledger [] q) members ledger (all_touches first ledger q))
      (ap (λ ts. all_apart ts (mapped_ledger f ledger) (mapped_ledger f ledger)) (preorder-mapped f q) ∙ all_apart-mapped (preorder q) ledger ledger)
