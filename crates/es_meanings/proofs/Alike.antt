-- Parts of meanings are alike where the lists that they are made of are.
use Rattle.std.proofs.Common.{◌≡◌, refl, sym, ap, ap₂, ◌∙◌, ℕ, List, [], ◌∷◌, Bool, arith}
use Rattle.std.specs.Prelude.{◌&&◌, ◌↔◌, IsTrue, bytes_eq, nat_eq}
use Rattle.std.specs.Str.{chars}
use Rattle.std.proofs.lemmas.Bool.{and_from, and_parts}
use Rattle.std.proofs.lemmas.Bool.Decides.{nat_tests}
use Rattle.std.proofs.lemmas.Slice.Eq.{bytes_eq-Decides}
use Rattle.es_by_number.specs.Numbered.{pairs}
use Rattle.es_declarations.specs.Kinds.{bindings_in}
use Rattle.es_declarations.specs.Globals.{names_in}
use Rattle.es_meanings.specs.Differences.{AreModulesAlike, AreNamedAlike, ArePlacedAlike}
use Rattle.es_meanings.specs.Means.{IsMeaning}
use Rattle.es_meanings.specs.declared.meaning.Meaning.{Meaning}
use Rattle.es_member_entries.specs.Entries.{entries_in}
use Rattle.es_modules.specs.Links.{links_of}
use Rattle.es_sameness.proofs.Sameness.{declarations_decide, exports_decide, links_decide, member_decides, names_decide, numbers_decide, one_number}
use Rattle.es_steps.specs.Entries.{Entry, Listed}
use Rattle.es_steps.specs.Meaning as spec
use Rattle.es_steps.specs.Meaning.{all_exports}
use Rattle.es_steps.specs.Modules.{Exported, ModuleLink}
use Rattle.es_steps.specs.Values.{String}
use Rattle.es_steps.specs.SameMeanings.{same_declaration, same_export, same_link, same_list, same_member, same_numbered}

-- what decides whether two values are one decides it for what they are
through : {A : Type 0} {x y a b : A} {t : Bool} → x ≡ a → y ≡ b → IsTrue t ↔ (x ≡ y) → IsTrue t ↔ (a ≡ b)
through p q decides = ((λ h. sym p ∙ decides.0 h ∙ q), (λ e. decides.1 (p ∙ e ∙ sym q)))

told : {A : Type 0} {t u : Bool} {x y : A} → t ≡ u → IsTrue u ↔ (x ≡ y) → IsTrue t ↔ (x ≡ y)
told e decides = ((λ h. decides.0 (sym e ∙ h)), (λ p. e ∙ decides.1 p))

pub named_alike : (x y : Meaning) (a b : spec.Meaning) (f d g : Bool)
    → f ≡ same_list (same_numbered nat_eq) (pairs x.functions.items) (pairs y.functions.items)
    → d ≡ same_list (same_numbered same_declaration) (bindings_in x.bindings.items) (bindings_in y.bindings.items)
    → g ≡ same_list (same_numbered bytes_eq) (names_in x.globals.items) (names_in y.globals.items)
    → IsMeaning x a → IsMeaning y b → IsTrue (f && (d && g)) ↔ AreNamedAlike a b
named_alike x y a b f d g is_f is_d is_g m n =
    let functions = told is_f (through m.functions n.functions (numbers_decide (pairs x.functions.items) (pairs y.functions.items))) in
    let bindings = told is_d (through m.bindings n.bindings (declarations_decide (bindings_in x.bindings.items) (bindings_in y.bindings.items))) in
    let globals = told is_g (through m.globals n.globals (names_decide (names_in x.globals.items) (names_in y.globals.items))) in (
      (λ t. let p = and_parts f (d && g) t in let q = and_parts d g p.1 in record { functions = functions.0 p.0; bindings = bindings.0 q.0; globals = globals.0 q.1 }),
      (λ alike. and_from f (d && g) (functions.1 alike.functions) (and_from d g (bindings.1 alike.bindings) (globals.1 alike.globals))),
    )

pub placed_alike : (x y : Meaning) (a b : spec.Meaning) (s p r : Bool)
    → s ≡ same_list (same_numbered nat_eq) (pairs x.shared.items) (pairs y.shared.items)
    → p ≡ same_list (same_numbered nat_eq) (pairs x.places.items) (pairs y.places.items)
    → r ≡ same_list (same_numbered nat_eq) (pairs x.branches.items) (pairs y.branches.items)
    → IsMeaning x a → IsMeaning y b → IsTrue (s && (p && r)) ↔ ArePlacedAlike a b
placed_alike x y a b s p r is_s is_p is_r m n =
    let shared = told is_s (through m.shared n.shared (numbers_decide (pairs x.shared.items) (pairs y.shared.items))) in
    let places = told is_p (through m.places n.places (numbers_decide (pairs x.places.items) (pairs y.places.items))) in
    let branches = told is_r (through m.branches n.branches (numbers_decide (pairs x.branches.items) (pairs y.branches.items))) in (
      (λ t. let u = and_parts s (p && r) t in let v = and_parts p r u.1 in record { shared = shared.0 u.0; places = places.0 v.0; branches = branches.0 v.1 }),
      (λ alike. and_from s (p && r) (shared.1 alike.shared) (and_from p r (places.1 alike.places) (branches.1 alike.branches))),
    )

pub modules_alike : (x y : Meaning) (a b : spec.Meaning) (s l e : Bool)
    → s ≡ bytes_eq (chars x.source_type.now) (chars y.source_type.now)
    → l ≡ same_list same_link (links_of x.links.items) (links_of y.links.items)
    → e ≡ same_list same_export a.exports b.exports
    → IsMeaning x a → IsMeaning y b → IsTrue (s && (l && e)) ↔ AreModulesAlike a b
modules_alike x y a b s l e is_s is_l is_e m n =
    let source = told is_s (through m.source_type n.source_type (bytes_eq-Decides (chars x.source_type.now) (chars y.source_type.now))) in
    let links = told is_l (through m.links n.links (links_decide (links_of x.links.items) (links_of y.links.items))) in
    let exported = told is_e (exports_decide a.exports b.exports) in (
      (λ t. let u = and_parts s (l && e) t in let v = and_parts l e u.1 in record { source_type = source.0 u.0; links = links.0 v.0; exports = exported.0 v.1 }),
      (λ alike. and_from s (l && e) (source.1 alike.source_type) (and_from l e (links.1 alike.links) (exported.1 alike.exports))),
    )

list_decides : {A : Type 0} (same : A → A → Bool) → ((x y : A) → IsTrue (same x y) ↔ (x ≡ y)) → (xs ys : List A) → IsTrue (same_list same xs ys) ↔ (xs ≡ ys)
list_decides same decides [] [] = ((λ t. refl), (λ e. refl))
list_decides same decides [] (y ∷ ys) = ((λ t. cc), (λ e. cc))
list_decides same decides (x ∷ xs) [] = ((λ t. cc), (λ e. cc))
list_decides {A} same decides (x ∷ xs) (y ∷ ys) =
    let rest = list_decides same decides xs ys in (
      (λ t. let p = and_parts (same x y) (same_list same xs ys) t in ap₂ (λ (z : A) (zs : List A). z ∷ zs) ((decides x y).0 p.0) (rest.0 p.1)),
      (λ e. let first : x ≡ y = cc in let behind : xs ≡ ys = cc in and_from (same x y) (same_list same xs ys) ((decides x y).1 first) (rest.1 behind)),
    )

number_decides : (n k : ℕ) → IsTrue (nat_eq n k) ↔ (n ≡ k)
number_decides n k = ((λ t. one_number n k t), (λ e. grind (arith, nat_tests, e)))

numbered_decides : (p q : ℕ × spec.MemberEntry) → IsTrue (same_numbered same_member p q) ↔ (p ≡ q)
numbered_decides p q = (
  (λ t. let u = and_parts (nat_eq p.0 q.0) (same_member p.1 q.1) t in ap₂ (λ (n : ℕ) (x : spec.MemberEntry). (n, x)) ((number_decides p.0 q.0).0 u.0) ((member_decides p.1 q.1).0 u.1)),
  (λ e. and_from (nat_eq p.0 q.0) (same_member p.1 q.1) ((number_decides p.0 q.0).1 (ap (λ z. z.0) e)) ((member_decides p.1 q.1).1 (ap (λ z. z.1) e))),
)

pub members_alike : (x y : Meaning) (a b : spec.Meaning) (t : Bool)
    → t ≡ same_list (same_numbered same_member) (entries_in x.members.items) (entries_in y.members.items)
    → IsMeaning x a → IsMeaning y b → IsTrue t ↔ (a.members ≡ b.members)
members_alike x y a b t is m n = told is (through m.members n.members (list_decides (same_numbered same_member) numbered_decides (entries_in x.members.items) (entries_in y.members.items)))

abbrev made : String → Listed → List (ℕ × Entry) → List (ℕ × spec.MemberEntry) → List (ℕ × ℕ) → List (ℕ × spec.DeclarationKind) → List (ℕ × String) → List (ℕ × ℕ) → List (ℕ × ℕ) → List (ℕ × ℕ) → List ModuleLink → List (String × Exported) → spec.Meaning
made s l es ms fs bs gs sh ps br ls xs = record { source_type = s; program = l; entries = es; members = ms; functions = fs; bindings = bs; globals = gs; shared = sh; places = ps; branches = br; links = ls; exports = xs }

-- two meanings are one where all their parts are
pub all_alike : (a b : spec.Meaning) → a.program ≡ b.program → a.entries ≡ b.entries → a.members ≡ b.members → AreNamedAlike a b → ArePlacedAlike a b → AreModulesAlike a b → a ≡ b
all_alike a b program entries members named placed modules =
    ap (λ (x : String). made x a.program a.entries a.members a.functions a.bindings a.globals a.shared a.places a.branches a.links a.exports) modules.source_type
    ∙ ap (λ (x : Listed). made b.source_type x a.entries a.members a.functions a.bindings a.globals a.shared a.places a.branches a.links a.exports) program
    ∙ ap (λ (x : List (ℕ × Entry)). made b.source_type b.program x a.members a.functions a.bindings a.globals a.shared a.places a.branches a.links a.exports) entries
    ∙ ap (λ (x : List (ℕ × spec.MemberEntry)). made b.source_type b.program b.entries x a.functions a.bindings a.globals a.shared a.places a.branches a.links a.exports) members
    ∙ ap (λ (x : List (ℕ × ℕ)). made b.source_type b.program b.entries b.members x a.bindings a.globals a.shared a.places a.branches a.links a.exports) named.functions
    ∙ ap (λ (x : List (ℕ × spec.DeclarationKind)). made b.source_type b.program b.entries b.members b.functions x a.globals a.shared a.places a.branches a.links a.exports) named.bindings
    ∙ ap (λ (x : List (ℕ × String)). made b.source_type b.program b.entries b.members b.functions b.bindings x a.shared a.places a.branches a.links a.exports) named.globals
    ∙ ap (λ (x : List (ℕ × ℕ)). made b.source_type b.program b.entries b.members b.functions b.bindings b.globals x a.places a.branches a.links a.exports) placed.shared
    ∙ ap (λ (x : List (ℕ × ℕ)). made b.source_type b.program b.entries b.members b.functions b.bindings b.globals b.shared x a.branches a.links a.exports) placed.places
    ∙ ap (λ (x : List (ℕ × ℕ)). made b.source_type b.program b.entries b.members b.functions b.bindings b.globals b.shared b.places x a.links a.exports) placed.branches
    ∙ ap (λ (x : List ModuleLink). made b.source_type b.program b.entries b.members b.functions b.bindings b.globals b.shared b.places b.branches x a.exports) modules.links
    ∙ ap (λ (x : List (String × Exported)). made b.source_type b.program b.entries b.members b.functions b.bindings b.globals b.shared b.places b.branches b.links x) modules.exports
