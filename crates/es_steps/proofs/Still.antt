-- What is left as it is by a change of numbers that leaves all numbers in it.
use Rattle.std.specs.Prelude.{◌≡◌, ℕ, List, [], ◌∷◌, ◌++◌, map, Bool, true, Option, Some, None}
use Rattle.std.proofs.Common.{refl, ap, ap₂}
use Rattle.std.proofs.lemmas.Bool.{and_parts, and_from}
use Rattle.es_base.specs.declared.ids.NodeId.{NodeId}
use Rattle.es_base.specs.declared.ledger.GeneratedKind.{GeneratedKind}
use Rattle.es_base.specs.declared.ledger.LedgerEntry.{LedgerEntry}
use Rattle.es_steps.specs.Entries.{Parameter, Identifier, RestIdentifier, Pattern, Method, Listed, Entry, FunctionEntry, ClassEntry}
use Rattle.es_steps.specs.Events.{Event, ReadName, SetName, Get, Set, Define, Call, Construct, Operate, Update, PrivateGet, PrivateSet, PrivateInitialize, PrivateIn, AddBrand, SuperGet, SuperSet, SuperCall, SuperCallWithAll, EnterBody, InitializeClass, Throw, Short, Held, Events, none, then}
use Rattle.es_steps.specs.Meaning.{Meaning, Terms, DeclarationKind, MemberEntry, IsField, FunctionIs}
use Rattle.es_steps.specs.Modules.{Specifier, Imported, ImportedDefault, ImportedNamespace, Reexported, ReexportedAll, ModuleLink, Exported, ExportedClass, ExportedBinding, ExportedFree, ExportedValue}
use Rattle.es_steps.specs.PrivateNames.{PrivateMember}
use Rattle.es_steps.specs.Standing.{value_numbers, values_numbers, nullable_value_numbers, referent_numbers, home_numbers, test_numbers, event_numbers, events_numbers, listed_numbers, parameter_numbers, nullable_number, all_numbers, method_numbers, entry_numbers, numbered_entry_numbers, member_numbers, numbered_member_numbers, pair_numbers, binding_numbers, name_numbers, specifier_numbers, link_numbers, exported_numbers, named_export_numbers, meaning_numbers, generated_numbers, ledger_numbers, private_numbers, terms_numbers, all_pass}
use Rattle.es_steps.specs.Values.{String, Value, ConstantOf, Undefined, BindingOf, FunctionOf, ClassOf, ThisOf, ArgumentsOf, NewTargetOf, ResultOf, FormerOf, KeyOf, Referent, Bound, Free, Home, OfClass, OfPrototype, OfObject, PrivateTest, HasField, HasBrand, IsClass}
use Rattle.es_steps.proofs.Mapped.{mapped_option, mapped_referent, mapped_value, mapped_values, mapped_nullable, mapped_home, mapped_test, mapped_event, mapped_events, mapped_listed, mapped_parameter, mapped_method, mapped_entry, mapped_numbered_entry, mapped_member_entry, mapped_numbered_member, mapped_pair, mapped_binding, mapped_name, mapped_specifier, mapped_link, mapped_exported, mapped_named_export, mapped_meaning, mapped_generated, mapped_ledger_entry, mapped_private, mapped_terms}

-- all pass in two parts if they do in both
pub in_two : (test : ℕ → Bool) (xs ys : List ℕ) → all_pass test (xs ++ ys) ≡ true → (all_pass test xs ≡ true) × (all_pass test ys ≡ true)
in_two test [] ys all = (refl, all)
in_two test (x ∷ xs) ys all =
    let both = and_parts (test x) (all_pass test (xs ++ ys)) all in
    let rest = in_two test xs ys both.1 in
    (and_from (test x) (all_pass test xs) both.0 rest.0, rest.1)

pub in_three : (test : ℕ → Bool) (xs ys zs : List ℕ) → all_pass test (xs ++ ys ++ zs) ≡ true → (all_pass test xs ≡ true) × ((all_pass test ys ≡ true) × (all_pass test zs ≡ true))
in_three test xs ys zs all =
    let outer = in_two test (xs ++ ys) zs all in
    let inner = in_two test xs ys outer.0 in
    (inner.0, (inner.1, outer.1))

pub in_four : (test : ℕ → Bool) (xs ys zs ws : List ℕ) → all_pass test (xs ++ ys ++ zs ++ ws) ≡ true → (all_pass test xs ≡ true) × ((all_pass test ys ≡ true) × ((all_pass test zs ≡ true) × (all_pass test ws ≡ true)))
in_four test xs ys zs ws all =
    let outer = in_two test (xs ++ ys ++ zs) ws all in
    let inner = in_three test xs ys zs outer.0 in
    (inner.0, (inner.1.0, (inner.1.1, outer.1)))

module _ (f : ℕ → ℕ) (test : ℕ → Bool) (still : (n : ℕ) → test n ≡ true → f n ≡ n) where
  abbrev Pass : List ℕ → Type 0
  Pass ns = all_pass test ns ≡ true

  number-still : (n : ℕ) (ns : List ℕ) → Pass (n ∷ ns) → f n ≡ n
  number-still n ns all = still n (and_parts (test n) (all_pass test ns) all).0

  rest : (n : ℕ) (ns : List ℕ) → Pass (n ∷ ns) → Pass ns
  rest n ns all = (and_parts (test n) (all_pass test ns) all).1

  numbers-still : (ns : List ℕ) → Pass ns → map f ns ≡ ns
  numbers-still [] all = refl
  numbers-still (n ∷ ns) all = ap₂ (λ a b. a ∷ b) (number-still n ns all) (numbers-still ns (rest n ns all))

  all-still : {A : Type 0} (of : A → List ℕ) (g : A → A) → ((a : A) → Pass (of a) → g a ≡ a) → (xs : List A) → Pass (all_numbers of xs) → map g xs ≡ xs
  all-still of g one [] all = refl
  all-still of g one (a ∷ xs) all =
      let both = in_two test (of a) (all_numbers of xs) all in
      ap₂ (λ x y. x ∷ y) (one a both.0) (all-still of g one xs both.1)

  -- ---- values

  value-still : (v : Value) → Pass (value_numbers v) → mapped_value f v ≡ v
  value-still (ConstantOf c) all = refl
  value-still Undefined all = refl
  value-still (BindingOf b) all = ap BindingOf (number-still b [] all)
  value-still (FunctionOf g) all = ap FunctionOf (number-still g [] all)
  value-still (ClassOf n) all = ap ClassOf (number-still n [] all)
  value-still (ThisOf k) all = ap ThisOf (number-still k [] all)
  value-still (ArgumentsOf k) all = ap ArgumentsOf (number-still k [] all)
  value-still (NewTargetOf k) all = ap NewTargetOf (number-still k [] all)
  value-still (ResultOf m) all = ap ResultOf (number-still m [] all)
  value-still (FormerOf m) all = ap FormerOf (number-still m [] all)
  value-still (KeyOf v) all = ap KeyOf (value-still v all)

  values-still : (vs : List Value) → Pass (values_numbers vs) → mapped_values f vs ≡ vs
  values-still [] all = refl
  values-still (v ∷ vs) all =
      let both = in_two test (value_numbers v) (values_numbers vs) all in
      ap₂ (λ a b. a ∷ b) (value-still v both.0) (values-still vs both.1)

  nullable-still : (v : Option Value) → Pass (nullable_value_numbers v) → mapped_nullable f v ≡ v
  nullable-still None all = refl
  nullable-still (Some v) all = ap Some (value-still v all)

  referent-still : (to : Referent) → Pass (referent_numbers to) → mapped_referent f to ≡ to
  referent-still (Bound b) all = ap Bound (number-still b [] all)
  referent-still (Free s) all = refl

  home-still : (h : Home) → Pass (home_numbers h) → mapped_home f h ≡ h
  home-still (OfClass n) all = ap OfClass (number-still n [] all)
  home-still (OfPrototype n) all = ap OfPrototype (number-still n [] all)
  home-still (OfObject m) all = ap OfObject (number-still m [] all)

  test-still : (x : PrivateTest) → Pass (test_numbers x) → mapped_test f x ≡ x
  test-still (HasField d) all = ap HasField (number-still d [] all)
  test-still (HasBrand n) all = ap HasBrand (number-still n [] all)
  test-still (IsClass n) all = ap IsClass (number-still n [] all)

  -- ---- events

  mutual
    event-still : (e : Event) → Pass (event_numbers e) → mapped_event f e ≡ e
    event-still (ReadName m to) all = rw (number-still m (referent_numbers to) all, referent-still to (rest m (referent_numbers to) all)) refl
    event-still (SetName to v) all =
        let ps = in_two test (referent_numbers to) (value_numbers v) all in
        rw (referent-still to ps.0, value-still v ps.1) refl
    event-still (Get m o k) all =
        let ps = in_three test (m ∷ []) (value_numbers o) (value_numbers k) all in
        rw (number-still m [] ps.0, value-still o ps.1.0, value-still k ps.1.1) refl
    event-still (Set o k v) all =
        let ps = in_three test (value_numbers o) (value_numbers k) (value_numbers v) all in
        rw (value-still o ps.0, value-still k ps.1.0, value-still v ps.1.1) refl
    event-still (Define o k v) all =
        let ps = in_three test (value_numbers o) (value_numbers k) (value_numbers v) all in
        rw (value-still o ps.0, value-still k ps.1.0, value-still v ps.1.1) refl
    event-still (Call m callee receiver vs) all =
        let ps = in_four test (m ∷ []) (value_numbers callee) (nullable_value_numbers receiver) (values_numbers vs) all in
        rw (number-still m [] ps.0, value-still callee ps.1.0, nullable-still receiver ps.1.1.0, values-still vs ps.1.1.1) refl
    event-still (Construct m callee vs) all =
        let ps = in_three test (m ∷ []) (value_numbers callee) (values_numbers vs) all in
        rw (number-still m [] ps.0, value-still callee ps.1.0, values-still vs ps.1.1) refl
    event-still (Operate m op vs) all = rw (number-still m (values_numbers vs) all, values-still vs (rest m (values_numbers vs) all)) refl
    event-still (Update m operator v) all = rw (number-still m (value_numbers v) all, value-still v (rest m (value_numbers v) all)) refl
    event-still (PrivateGet m d o) all =
        let ps = in_three test (m ∷ []) (d ∷ []) (value_numbers o) all in
        rw (number-still m [] ps.0, number-still d [] ps.1.0, value-still o ps.1.1) refl
    event-still (PrivateSet d o v) all =
        let ps = in_three test (d ∷ []) (value_numbers o) (value_numbers v) all in
        rw (number-still d [] ps.0, value-still o ps.1.0, value-still v ps.1.1) refl
    event-still (PrivateInitialize d o v) all =
        let ps = in_three test (d ∷ []) (value_numbers o) (value_numbers v) all in
        rw (number-still d [] ps.0, value-still o ps.1.0, value-still v ps.1.1) refl
    event-still (PrivateIn m x o) all =
        let ps = in_three test (m ∷ []) (test_numbers x) (value_numbers o) all in
        rw (number-still m [] ps.0, test-still x ps.1.0, value-still o ps.1.1) refl
    event-still (AddBrand n o) all = rw (number-still n (value_numbers o) all, value-still o (rest n (value_numbers o) all)) refl
    event-still (SuperGet m home k this) all =
        let ps = in_four test (m ∷ []) (home_numbers home) (value_numbers k) (value_numbers this) all in
        rw (number-still m [] ps.0, home-still home ps.1.0, value-still k ps.1.1.0, value-still this ps.1.1.1) refl
    event-still (SuperSet home k v this) all =
        let ps = in_four test (home_numbers home) (value_numbers k) (value_numbers v) (value_numbers this) all in
        rw (home-still home ps.0, value-still k ps.1.0, value-still v ps.1.1.0, value-still this ps.1.1.1) refl
    event-still (SuperCall m n vs) all =
        let ps = in_three test (m ∷ []) (n ∷ []) (values_numbers vs) all in
        rw (number-still m [] ps.0, number-still n [] ps.1.0, values-still vs ps.1.1) refl
    event-still (SuperCallWithAll n) all = ap SuperCallWithAll (number-still n [] all)
    event-still EnterBody all = refl
    event-still (InitializeClass n) all = ap InitializeClass (number-still n [] all)
    event-still Throw all = refl
    event-still (Short v) all = ap Short (value-still v all)
    event-still (Held m place x l v) all =
        let ps = in_four test (m ∷ []) (nullable_value_numbers x) (events_numbers l) (value_numbers v) all in
        rw (number-still m [] ps.0, nullable-still x ps.1.0, events-still l ps.1.1.0, value-still v ps.1.1.1) refl

    events-still : (es : Events) → Pass (events_numbers es) → mapped_events f es ≡ es
    events-still none all = refl
    events-still (then e es) all =
        let ps = in_two test (event_numbers e) (events_numbers es) all in
        ap₂ then (event-still e ps.0) (events-still es ps.1)

  listed-still : (l : Listed) → Pass (listed_numbers l) → mapped_listed f l ≡ l
  listed-still l all =
      let ps = in_two test (events_numbers l.events) (value_numbers l.value) all in
      ap₂ (λ (es : Events) (v : Value). record { events = es; value = v }) (events-still l.events ps.0) (value-still l.value ps.1)

  -- ---- entries

  parameter-still : (p : Parameter) → Pass (parameter_numbers p) → mapped_parameter f p ≡ p
  parameter-still (Identifier b) all = ap Identifier (number-still b [] all)
  parameter-still (RestIdentifier b) all = ap RestIdentifier (number-still b [] all)
  parameter-still Pattern all = refl

  method-still : (m : Method) → Pass (method_numbers m) → mapped_method f m ≡ m
  method-still m all = rw (number-still m.function (value_numbers m.key) all, value-still m.key (rest m.function (value_numbers m.key) all)) refl

  nullable_number-still : (n : Option ℕ) → Pass (nullable_number n) → mapped_option f n ≡ n
  nullable_number-still None all = refl
  nullable_number-still (Some n) all = ap Some (number-still n [] all)

  entry-still : (e : Entry) → Pass (entry_numbers e) → mapped_entry f e ≡ e
  entry-still (FunctionEntry form own ps body) all =
      let qs = in_three test (nullable_number own) (all_numbers parameter_numbers ps) (listed_numbers body) all in
      rw (nullable_number-still own qs.0, all-still parameter_numbers (mapped_parameter f) parameter-still ps qs.1.0, listed-still body qs.1.1) refl
  entry-still (ClassEntry declared h ms form ps construction) all =
      let outer = in_two test (nullable_number declared ++ nullable_value_numbers h ++ all_numbers method_numbers ms ++ all_numbers parameter_numbers ps) (listed_numbers construction) all in
      let qs = in_four test (nullable_number declared) (nullable_value_numbers h) (all_numbers method_numbers ms) (all_numbers parameter_numbers ps) outer.0 in
      rw (nullable_number-still declared qs.0, nullable-still h qs.1.0, all-still method_numbers (mapped_method f) method-still ms qs.1.1.0, all-still parameter_numbers (mapped_parameter f) parameter-still ps qs.1.1.1, listed-still construction outer.1) refl

  numbered_entry-still : (p : ℕ × Entry) → Pass (numbered_entry_numbers p) → mapped_numbered_entry f p ≡ p
  numbered_entry-still p all = rw (number-still p.0 (entry_numbers p.1) all, entry-still p.1 (rest p.0 (entry_numbers p.1) all)) refl

  member-still : (e : MemberEntry) → Pass (member_numbers e) → mapped_member_entry f e ≡ e
  member-still (IsField n is_static) all = ap (λ (k : ℕ). IsField k is_static) (number-still n [] all)
  member-still (FunctionIs n is_static kind g) all = ap₂ (λ (k h : ℕ). FunctionIs k is_static kind h) (number-still n (g ∷ []) all) (number-still g [] (rest n (g ∷ []) all))

  numbered_member-still : (p : ℕ × MemberEntry) → Pass (numbered_member_numbers p) → mapped_numbered_member f p ≡ p
  numbered_member-still p all = rw (number-still p.0 (member_numbers p.1) all, member-still p.1 (rest p.0 (member_numbers p.1) all)) refl

  pair-still : (p : ℕ × ℕ) → Pass (pair_numbers p) → mapped_pair f p ≡ p
  pair-still p all = rw (number-still p.0 (p.1 ∷ []) all, number-still p.1 [] (rest p.0 (p.1 ∷ []) all)) refl

  binding-still : (b : ℕ × DeclarationKind) → Pass (binding_numbers b) → mapped_binding f b ≡ b
  binding-still b all = rw (number-still b.0 [] all) refl

  name-still : (p : ℕ × String) → Pass (name_numbers p) → mapped_name f p ≡ p
  name-still p all = rw (number-still p.0 [] all) refl

  specifier-still : (s : Specifier) → Pass (specifier_numbers s) → mapped_specifier f s ≡ s
  specifier-still (Imported s b) all = ap (Imported s) (number-still b [] all)
  specifier-still (ImportedDefault b) all = ap ImportedDefault (number-still b [] all)
  specifier-still (ImportedNamespace b) all = ap ImportedNamespace (number-still b [] all)
  specifier-still (Reexported s t) all = refl
  specifier-still (ReexportedAll s) all = refl

  link-still : (l : ModuleLink) → Pass (link_numbers l) → mapped_link f l ≡ l
  link-still l all = rw (number-still l.number (all_numbers specifier_numbers l.specifiers) all, all-still specifier_numbers (mapped_specifier f) specifier-still l.specifiers (rest l.number (all_numbers specifier_numbers l.specifiers) all)) refl

  exported-still : (x : Exported) → Pass (exported_numbers x) → mapped_exported f x ≡ x
  exported-still (ExportedClass n) all = ap ExportedClass (number-still n [] all)
  exported-still (ExportedBinding b) all = ap ExportedBinding (number-still b [] all)
  exported-still (ExportedFree s) all = refl
  exported-still (ExportedValue v) all = ap ExportedValue (value-still v all)

  named_export-still : (x : String × Exported) → Pass (named_export_numbers x) → mapped_named_export f x ≡ x
  named_export-still x all = rw (exported-still x.1 all) refl

  -- ---- meanings, and what a tree is read under

  pub meaning-still : (m : Meaning) → Pass (meaning_numbers m) → mapped_meaning f m ≡ m
  meaning-still m all =
      let entries : List ℕ = all_numbers numbered_entry_numbers m.entries in
      let members : List ℕ = all_numbers numbered_member_numbers m.members in
      let functions : List ℕ = all_numbers pair_numbers m.functions in
      let bindings : List ℕ = all_numbers binding_numbers m.bindings in
      let links : List ℕ = all_numbers link_numbers m.links in
      let exports : List ℕ = all_numbers named_export_numbers m.exports in
      let globals : List ℕ = all_numbers name_numbers m.globals in
      let shared : List ℕ = all_numbers pair_numbers m.shared in
      let places : List ℕ = all_numbers pair_numbers m.places in
      let branches : List ℕ = all_numbers pair_numbers m.branches in
      let behind = in_four test (listed_numbers m.program ++ entries ++ members ++ functions ++ bindings ++ globals ++ shared ++ places) branches links exports all in
      let standing = in_two test (listed_numbers m.program ++ entries ++ members ++ functions ++ bindings ++ globals ++ shared) places behind.0 in
      let middle = in_four test (listed_numbers m.program ++ entries ++ members ++ functions) bindings globals shared standing.0 in
      let front = in_four test (listed_numbers m.program) entries members functions middle.0 in
      rw (listed-still m.program front.0, all-still numbered_entry_numbers (mapped_numbered_entry f) numbered_entry-still m.entries front.1.0, all-still numbered_member_numbers (mapped_numbered_member f) numbered_member-still m.members front.1.1.0, all-still pair_numbers (mapped_pair f) pair-still m.functions front.1.1.1, all-still binding_numbers (mapped_binding f) binding-still m.bindings middle.1.0, all-still name_numbers (mapped_name f) name-still m.globals middle.1.1.0, all-still pair_numbers (mapped_pair f) pair-still m.shared middle.1.1.1, all-still pair_numbers (mapped_pair f) pair-still m.places standing.1, all-still pair_numbers (mapped_pair f) pair-still m.branches behind.1.0, all-still link_numbers (mapped_link f) link-still m.links behind.1.1.0, all-still named_export_numbers (mapped_named_export f) named_export-still m.exports behind.1.1.1) refl

  id-still : (n : NodeId) (ns : List ℕ) → Pass (n.0 ∷ ns) → record { 0 = f n.0 } ≡ n
  id-still n ns all = ap (λ (k : ℕ). record { 0 = k }) (number-still n.0 ns all)

  generated-still : (g : GeneratedKind) → Pass (generated_numbers g) → mapped_generated f g ≡ g
  generated-still GeneratedKind.Temp all = refl
  generated-still GeneratedKind.Param all = refl
  generated-still (GeneratedKind.ClassTemp n) all = ap GeneratedKind.ClassTemp (id-still n [] all)
  generated-still (GeneratedKind.WeakMap d) all = ap GeneratedKind.WeakMap (id-still d [] all)
  generated-still (GeneratedKind.StaticField d) all = ap GeneratedKind.StaticField (id-still d [] all)
  generated-still (GeneratedKind.Brand n) all = ap GeneratedKind.Brand (id-still n [] all)
  generated-still (GeneratedKind.Method d) all = ap GeneratedKind.Method (id-still d [] all)
  generated-still (GeneratedKind.LooseKey d) all = ap GeneratedKind.LooseKey (id-still d [] all)
  generated-still (GeneratedKind.SuperFn n) all = ap GeneratedKind.SuperFn (id-still n [] all)
  generated-still GeneratedKind.Args all = refl
  generated-still GeneratedKind.Closure all = refl
  generated-still (GeneratedKind.Private n) all = ap GeneratedKind.Private (id-still n [] all)

  ledger_entry-still : (e : LedgerEntry) → Pass (ledger_numbers e) → mapped_ledger_entry f e ≡ e
  ledger_entry-still e all = ap (λ (g : GeneratedKind). record { name = e.name; kind = g }) (generated-still e.kind all)

  pub ledger-still : (es : List LedgerEntry) → Pass (all_numbers ledger_numbers es) → map (mapped_ledger_entry f) es ≡ es
  ledger-still es all = all-still ledger_numbers (mapped_ledger_entry f) ledger_entry-still es all

  private-still : (x : PrivateMember) → Pass (private_numbers x) → mapped_private f x ≡ x
  private-still x all = rw (number-still x.number (x.class ∷ []) all, number-still x.class [] (rest x.number (x.class ∷ []) all)) refl

  pub terms-still : (o : Terms) → Pass (terms_numbers o) → mapped_terms f o ≡ o
  terms-still o all =
      let ps = in_four test (all_numbers ledger_numbers o.ledger) (all_numbers private_numbers o.members) (all_numbers pair_numbers o.named) o.late all in
      rw (all-still ledger_numbers (mapped_ledger_entry f) ledger_entry-still o.ledger ps.0, all-still private_numbers (mapped_private f) private-still o.members ps.1.0, all-still pair_numbers (mapped_pair f) pair-still o.named ps.1.1.0, numbers-still o.late ps.1.1.1) refl
