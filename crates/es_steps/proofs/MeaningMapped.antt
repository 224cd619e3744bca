-- A meaning that a change of numbers leaves as it is stays the meaning under the change.
use Rattle.std.specs.Prelude.{◌≡◌, ℕ, zero, suc, List, [], ◌∷◌, map, Bool, true, false, not, cond, nat_le, nat_eq, Option, Some, None}
use Rattle.std.proofs.Common.{refl, sym, ap, ap₂, ◌∙◌}
use Rattle.es_base.specs.Numbered.{is_new}
use Rattle.es_base.specs.Preorder.{preorder}
use Rattle.es_base.specs.Tree.{Tree, Part, Parts, Node, end, more, child, absent, list, string}
use Rattle.es_base.specs.declared.kind.Kind.{Kind}
use Rattle.es_base.specs.declared.ledger.GeneratedKind.{GeneratedKind}
use Rattle.es_base.specs.declared.ledger.LedgerEntry.{LedgerEntry}
use Rattle.es_steps.specs.Code.{Code, Opened, private_method, give_function, function}
use Rattle.es_steps.specs.Context.{Context, generated_as}
use Rattle.es_steps.specs.Entries.{Entry, Entries, Listed, listed, after_run, entries}
use Rattle.es_steps.specs.Evaluation.{Environment, Evaluation, Run, ev}
use Rattle.es_steps.specs.Meaning.{Meaning, Terms, DeclarationKind, ClassDeclared, MemberEntry, FunctionIs, declarator_kind, declares_at, declared_as, declaring, declaring_parts, declaring_part, declaring_items, old_names, globals, second_numbers, old_bindings, names_class, unless_generated, declared_function, declared_functions, function_of, private_function_by, private_functions, function_at, member_entry, with_member, member_entries, inserted, by_number, with_entry, whole, with_export, all_exports, source_type_of, body_of, in_body, start, with_all, means_by, means_of, means}
use Rattle.es_steps.specs.Modules.{Export, Exported, links_in, exports_in}
use Rattle.es_steps.specs.Opening.{Definition, definitions, opening}
use Rattle.es_steps.specs.Parts.{at, items, string_of}
use Rattle.es_steps.specs.PrivateNames.{PrivateMember, PrivateKind, a_field}
use Rattle.es_steps.specs.Reading.{read}
use Rattle.es_steps.specs.Branches.{around_branches}
use Rattle.es_steps.specs.Repeated.{all_places}
use Rattle.es_steps.specs.Shared.{shared}
use Rattle.es_steps.specs.Scopes.{Declaration, is_binding_identifier, class_in, body_names}
use Rattle.es_steps.specs.Values.{String}
use Rattle.es_steps.proofs.ContextMapped.{generated_as-mapped, inside-mapped, inside-first, start-mapped}
use Rattle.es_steps.proofs.EntriesMapped.{entries-mapped, listed-mapped, after_run-mapped}
use Rattle.es_steps.proofs.EvaluationMapped.{Follows, ev-follows}
use Rattle.es_steps.proofs.Mapped.{Renames, mapped, mapped_part, mapped_parts, mapped_option, mapped_generated, mapped_ledger, mapped_privates, mapped_context, mapped_code, mapped_opened, mapped_definition, mapped_environment, mapped_listed, mapped_entry, mapped_entries, mapped_numbered_entry, mapped_member_entry, mapped_numbered_member, mapped_pair, mapped_binding, mapped_exported, mapped_export, mapped_named_export, mapped_declaration, mapped_declarations, mapped_meaning, mapped_terms}
use Rattle.es_steps.proofs.ModulesMapped.{links_in-mapped, exports_in-mapped}
use Rattle.es_steps.proofs.OpeningMapped.{gather-mapped, definitions-mapped, opening-follows}
use Rattle.es_steps.proofs.PartsMapped.{cond-mapped, append-mapped, at-mapped, items_at-mapped, string_at-mapped, preorder-mapped}
use Rattle.es_steps.proofs.ReadingMapped.{read-mapped}
use Rattle.es_steps.proofs.ScopesMapped.{body_names-mapped, class_in-mapped}
use Rattle.es_steps.proofs.BranchesMapped.{around_branches-mapped}
use Rattle.es_steps.proofs.RepeatedMapped.{all_places-mapped}
use Rattle.es_steps.proofs.SharedMapped.{shared-mapped}

-- ---- by number

head-same : {A : Type 0} (x y : A) (xs ys : List A) → x ∷ xs ≡ y ∷ ys → x ≡ y
head-same x y xs ys e = cc

tail-same : {A : Type 0} (x y : A) (xs ys : List A) → x ∷ xs ≡ y ∷ ys → xs ≡ ys
tail-same x y xs ys e = cc

some-same : {A : Type 0} (x y : A) → Some x ≡ Some y → x ≡ y
some-same x y e = cc

module _ {A : Type 0} (h : ℕ × A → ℕ × A) where
  -- if a map leaves what was put in and what it was put into in order, it leaves both
  inserted-still : (p : ℕ × A) (qs : List (ℕ × A)) → map h (inserted p qs) ≡ inserted p qs → (h p ≡ p) × (map h qs ≡ qs)
  inserted-still p [] e = (head-same _ _ _ _ e, refl)
  inserted-still p (q ∷ qs) e = by_order (nat_le p.0 q.0) e (inserted-still p qs)
    where
      by_order : (b : Bool) → map h (cond b (p ∷ q ∷ qs) (q ∷ inserted p qs)) ≡ cond b (p ∷ q ∷ qs) (q ∷ inserted p qs) → (map h (inserted p qs) ≡ inserted p qs → (h p ≡ p) × (map h qs ≡ qs)) → (h p ≡ p) × (map h (q ∷ qs) ≡ q ∷ qs)
      by_order true e rest = (head-same _ _ _ _ e, tail-same _ _ _ _ e)
      by_order false e rest =
          let both = rest (tail-same _ _ _ _ e) in
          (both.0, ap₂ (λ a b. a ∷ b) (head-same _ _ _ _ e) both.1)

  by_number-still : (ps : List (ℕ × A)) → map h (by_number ps) ≡ by_number ps → map h ps ≡ ps
  by_number-still [] e = refl
  by_number-still (p ∷ ps) e =
      let both = inserted-still p (by_number ps) e in
      ap₂ (λ a b. a ∷ b) both.0 (by_number-still ps both.1)

module _ (f : ℕ → ℕ) where
  -- ---- what is all there

  with_entry-mapped : (n : ℕ) (e : Option Entry) (es : Option (List (ℕ × Entry))) → with_entry (f n) (mapped_option (mapped_entry f) e) (mapped_option (map (mapped_numbered_entry f)) es) ≡ mapped_option (map (mapped_numbered_entry f)) (with_entry n e es)
  with_entry-mapped n (Some e) (Some es) = refl
  with_entry-mapped n e es = refl

  whole-mapped : (es : Entries) → whole (mapped_entries f es) ≡ mapped_option (map (mapped_numbered_entry f)) (whole es)
  whole-mapped [] = refl
  whole-mapped (e ∷ es) = ap (with_entry (f e.0) (mapped_option (mapped_entry f) e.1)) (whole-mapped es) ∙ with_entry-mapped e.0 e.1 (whole es)

  with_export-mapped : (s : String) (x : Option Exported) (xs : Option (List (String × Exported))) → with_export s (mapped_option (mapped_exported f) x) (mapped_option (map (mapped_named_export f)) xs) ≡ mapped_option (map (mapped_named_export f)) (with_export s x xs)
  with_export-mapped s (Some x) (Some xs) = refl
  with_export-mapped s x xs = refl

  all_exports-mapped : (xs : List Export) → all_exports (map (mapped_export f) xs) ≡ mapped_option (map (mapped_named_export f)) (all_exports xs)
  all_exports-mapped [] = refl
  all_exports-mapped (x ∷ xs) = ap (with_export x.name (mapped_option (mapped_exported f) x.means)) (all_exports-mapped xs) ∙ with_export-mapped x.name x.means (all_exports xs)

  with_member-mapped : (d : ℕ) (e : Option MemberEntry) (es : Option (List (ℕ × MemberEntry))) → with_member (f d) (mapped_option (mapped_member_entry f) e) (mapped_option (map (mapped_numbered_member f)) es) ≡ mapped_option (map (mapped_numbered_member f)) (with_member d e es)
  with_member-mapped d (Some e) (Some es) = refl
  with_member-mapped d e es = refl

  -- ---- private functions

  function_of-mapped : (d : ℕ) (c : Code) → function_of (f d) (mapped_code f c) ≡ map (mapped_pair f) (function_of d c)
  function_of-mapped d (function g form own ps body) = refl
  function_of-mapped d c = refl

  private_function_by-mapped : (c : Code) → private_function_by (mapped_code f c) ≡ map (mapped_pair f) (private_function_by c)
  private_function_by-mapped (private_method is_static d g) = function_of-mapped d g
  private_function_by-mapped (give_function m s (GeneratedKind.Method d) g) = function_of-mapped d.0 g
  private_function_by-mapped c = refl

  private_functions-mapped : (c : Code) → private_functions (mapped_code f c) ≡ map (mapped_pair f) (private_functions c)
  private_functions-mapped c = gather-mapped f (mapped_pair f) private_function_by private_function_by private_function_by-mapped c

  -- ---- declarations

  source_type_of-mapped : (t : Tree) → source_type_of (mapped f t) ≡ source_type_of t
  source_type_of-mapped (Node kind m span semantic_id ps) = string_at-mapped f 0 ps

  pub body_of-mapped : (t : Tree) → body_of (mapped f t) ≡ mapped_parts f (body_of t)
  body_of-mapped (Node kind m span semantic_id ps) = items_at-mapped f 1 ps

  unless_generated-mapped : (g : Option GeneratedKind) (p : ℕ × ℕ) → unless_generated (mapped_option (mapped_generated f) g) (mapped_pair f p) ≡ map (mapped_pair f) (unless_generated g p)
  unless_generated-mapped None p = refl
  unless_generated-mapped (Some g) p = refl

  declared_function-mapped : (ledger : List LedgerEntry) (t : Tree) → declared_function (mapped_ledger f ledger) (mapped f t) ≡ map (mapped_pair f) (declared_function ledger t)
  declared_function-mapped ledger (Node Kind.FunctionDeclaration g span semantic_id (more (child (Node Kind.BindingIdentifier b s i (more (string x) end))) ps)) = ap (λ k. unless_generated k (f b, f g)) (generated_as-mapped f x ledger) ∙ unless_generated-mapped (generated_as x ledger) (b, g)
  declared_function-mapped ledger (Node Kind.ExportDefaultDeclaration m span semantic_id (more (child (Node Kind.FunctionDeclaration g gspan g_semantic_id (more absent ps))) rest)) = refl
  declared_function-mapped ledger t = refl

  declared_functions-mapped : (ledger : List LedgerEntry) (ts : List Tree) → declared_functions (mapped_ledger f ledger) (map (mapped f) ts) ≡ map (mapped_pair f) (declared_functions ledger ts)
  declared_functions-mapped ledger [] = refl
  declared_functions-mapped ledger (t ∷ ts) = append-mapped (mapped_pair f) _ _ (declared_function-mapped ledger t) (declared_functions-mapped ledger ts)

  declarator_kind-mapped : (new : Bool) (n : Option ℕ) (d : DeclarationKind) → declarator_kind new (mapped_option f n) d ≡ declarator_kind new n d
  declarator_kind-mapped true (Some n) d = refl
  declarator_kind-mapped new n d = refl

  second_numbers-mapped : (ps : List (ℕ × ℕ)) → second_numbers (map (mapped_pair f) ps) ≡ map f (second_numbers ps)
  second_numbers-mapped [] = refl
  second_numbers-mapped (p ∷ ps) = ap (λ ns. f p.1 ∷ ns) (second_numbers-mapped ps)

module _ {first : ℕ} {f : ℕ → ℕ} (r : Renames first f) where
  function_at-mapped : (n : ℕ) (is_static : Bool) (kind : PrivateKind) (d : ℕ) (ps : List (ℕ × ℕ)) → function_at (f n) is_static kind (f d) (map (mapped_pair f) ps) ≡ mapped_option (mapped_member_entry f) (function_at n is_static kind d ps)
  function_at-mapped n is_static kind d [] = refl
  function_at-mapped n is_static kind d (p ∷ ps) = rw (r.apart d p.0) (cond-mapped (mapped_option (mapped_member_entry f)) (nat_eq d p.0) (Some (FunctionIs n is_static kind p.1)) (function_at n is_static kind d ps) refl (function_at-mapped n is_static kind d ps))

  member_entry-mapped : (n : ℕ) (is_static : Bool) (kind : PrivateKind) (d : ℕ) (functions : List (ℕ × ℕ)) → member_entry (f n) is_static kind (f d) (map (mapped_pair f) functions) ≡ mapped_option (mapped_member_entry f) (member_entry n is_static kind d functions)
  member_entry-mapped n is_static a_field d functions = refl
  member_entry-mapped n is_static kind d functions = function_at-mapped n is_static kind d functions

  member_entries-mapped : (functions : List (ℕ × ℕ)) (xs : List PrivateMember) → member_entries (map (mapped_pair f) functions) (mapped_privates f xs) ≡ mapped_option (map (mapped_numbered_member f)) (member_entries functions xs)
  member_entries-mapped functions [] = refl
  member_entries-mapped functions (x ∷ xs) =
      ap₂ (with_member (f x.number)) (member_entry-mapped x.class x.is_static x.kind x.number functions) (member_entries-mapped functions xs)
      ∙ with_member-mapped f x.number (member_entry x.class x.is_static x.kind x.number functions) (member_entries functions xs)

  declares_at-mapped : (kind : Kind) (m : ℕ) (ps : Parts) (d : DeclarationKind) (i : ℕ) → declares_at first kind (f m) (mapped_parts f ps) d i ≡ declares_at first kind m ps d i
  declares_at-mapped Kind.VariableDeclaration m ps d i = ap DeclarationKind.Variable (string_at-mapped f 0 ps)
  declares_at-mapped Kind.VariableDeclarator m ps d zero = rw (r.new m, at-mapped f 1 ps, class_in-mapped f (at 1 ps)) (declarator_kind-mapped f (is_new first m) (class_in (at 1 ps)) d)
  declares_at-mapped kind m ps d i = refl

  mutual
    declaring-mapped : (d : DeclarationKind) (t : Tree) → declaring first d (mapped f t) ≡ map (mapped_binding f) (declaring first d t)
    declaring-mapped d (Node kind m span semantic_id ps) = rw (string_at-mapped f 0 ps) (cond-mapped (map (mapped_binding f)) (is_binding_identifier kind) ((m, declared_as (string_of (at 0 ps)) d) ∷ []) _ refl (declaring_parts-mapped _ (declares_at first kind m ps d) (declares_at-mapped kind m ps d) ps))

    declaring_parts-mapped : (d e : ℕ → DeclarationKind) → ((i : ℕ) → d i ≡ e i) → (ps : Parts) → declaring_parts first d (mapped_parts f ps) ≡ map (mapped_binding f) (declaring_parts first e ps)
    declaring_parts-mapped d e same end = refl
    declaring_parts-mapped d e same (more p ps) =
        append-mapped (mapped_binding f) _ _ (ap (λ k. declaring_part first k (mapped_part f p)) (same 0) ∙ declaring_part-mapped (e 0) p)
        (declaring_parts-mapped (λ i. d (suc i)) (λ i. e (suc i)) (λ i. same (suc i)) ps)

    declaring_part-mapped : (d : DeclarationKind) (p : Part) → declaring_part first d (mapped_part f p) ≡ map (mapped_binding f) (declaring_part first d p)
    declaring_part-mapped d (child t) = declaring-mapped d t
    declaring_part-mapped d (list ps) = declaring_items-mapped d ps
    declaring_part-mapped d p = refl

    declaring_items-mapped : (d : DeclarationKind) (ps : Parts) → declaring_items first d (mapped_parts f ps) ≡ map (mapped_binding f) (declaring_items first d ps)
    declaring_items-mapped d end = refl
    declaring_items-mapped d (more p ps) = append-mapped (mapped_binding f) _ _ (declaring_part-mapped d p) (declaring_items-mapped d ps)

  -- the new ones are left out, and the others stay the same
  abbrev kept : Bool → ℕ × DeclarationKind → List (ℕ × DeclarationKind) → List (ℕ × DeclarationKind)
  kept new d ds = cond new ds (cond (names_class d.1) ds (d ∷ ds))

  kept-mapped : (b : Bool) (d : ℕ × DeclarationKind) (ds : List (ℕ × DeclarationKind)) → is_new first d.0 ≡ b → kept b (mapped_binding f d) ds ≡ kept b d ds
  kept-mapped true d ds e = refl
  kept-mapped false d ds e = ap (λ (n : ℕ). kept false (n, d.1) ds) (r.old d.0 (ap not e))

  old_bindings-mapped : (ds : List (ℕ × DeclarationKind)) → old_bindings first (map (mapped_binding f) ds) ≡ old_bindings first ds
  old_bindings-mapped [] = refl
  old_bindings-mapped (d ∷ ds) =
      ap (λ b. kept b (mapped_binding f d) (old_bindings first (map (mapped_binding f) ds))) (r.new d.0)
      ∙ kept-mapped (is_new first d.0) d (old_bindings first (map (mapped_binding f) ds)) refl
      ∙ ap (kept (is_new first d.0) d) (old_bindings-mapped ds)

  abbrev kept_name : Bool → Declaration → List (ℕ × String) → List (ℕ × String)
  kept_name new d ds = cond new ds ((d.number, d.spelling) ∷ ds)

  kept_name-mapped : (b : Bool) (d : Declaration) (ds : List (ℕ × String)) → is_new first d.number ≡ b → kept_name b (mapped_declaration f d) ds ≡ kept_name b d ds
  kept_name-mapped true d ds e = refl
  kept_name-mapped false d ds e = ap (λ (n : ℕ). (n, d.spelling) ∷ ds) (r.old d.number (ap not e))

  old_names-mapped : (ds : List Declaration) → old_names first (mapped_declarations f ds) ≡ old_names first ds
  old_names-mapped [] = refl
  old_names-mapped (d ∷ ds) =
      ap (λ b. kept_name b (mapped_declaration f d) (old_names first (mapped_declarations f ds))) (r.new d.number)
      ∙ kept_name-mapped (is_new first d.number) d (old_names first (mapped_declarations f ds)) refl
      ∙ ap (kept_name (is_new first d.number) d) (old_names-mapped ds)

  globals-mapped : (t : Tree) → globals first (mapped f t) ≡ globals first t
  globals-mapped (Node kind m span semantic_id ps) =
      rw (string_at-mapped f 0 ps, items_at-mapped f 1 ps, body_names-mapped f (items (at 1 ps)), old_names-mapped (body_names (items (at 1 ps)))) refl

  in_body-mapped : (c : Context) → c.first_new ≡ first → (t : Tree) → in_body (mapped_context f c) (mapped f t) ≡ mapped_context f (in_body c t)
  in_body-mapped c e (Node kind m span semantic_id ps) = inside-mapped r c e kind m ps 1

in_body-first : (c : Context) (t : Tree) → (in_body c t).first_new ≡ c.first_new
in_body-first c (Node kind m span semantic_id ps) = inside-first c kind m ps 1

-- ---- the meaning

module _ {f : ℕ → ℕ} (o : Terms) (r : Renames o.first_new f) (t : Tree) where
  functions-mapped : declared_functions (mapped_ledger f o.ledger) (preorder (mapped f t)) ≡ map (mapped_pair f) (declared_functions o.ledger (preorder t))
  functions-mapped = ap (declared_functions (mapped_ledger f o.ledger)) (preorder-mapped f t) ∙ declared_functions-mapped f o.ledger (preorder t)

  bindings-same : old_bindings o.first_new (declaring o.first_new ClassDeclared (mapped f t)) ≡ old_bindings o.first_new (declaring o.first_new ClassDeclared t)
  bindings-same = ap (old_bindings o.first_new) (declaring-mapped r ClassDeclared t) ∙ old_bindings-mapped r (declaring o.first_new ClassDeclared t)

  abbrev private_places : List (ℕ × ℕ) → List (ℕ × ℕ)
  private_places d = all_places o.first_new o.ledger (second_numbers d) t

  places-mapped : (d : List (ℕ × ℕ)) → all_places o.first_new (mapped_ledger f o.ledger) (second_numbers (map (mapped_pair f) d)) (mapped f t) ≡ map (mapped_pair f) (private_places d)
  places-mapped d = ap (λ ns. all_places o.first_new (mapped_ledger f o.ledger) ns (mapped f t)) (second_numbers-mapped f d) ∙ all_places-mapped r o.ledger (second_numbers d) t

  abbrev found : List (ℕ × ℕ) → Listed → List (ℕ × Entry) → List (ℕ × MemberEntry) → List (String × Exported) → Meaning
  found d l es ms xs = record { source_type = source_type_of t; program = l; entries = by_number es; members = by_number ms; functions = by_number (declared_functions o.ledger (preorder t)); bindings = by_number (old_bindings o.first_new (declaring o.first_new ClassDeclared t)); globals = by_number (globals o.first_new t); shared = by_number (shared false t); places = by_number (private_places d); branches = by_number (around_branches [] t); links = links_in (body_of t); exports = xs }

  found-same : (d : List (ℕ × ℕ)) (l : Listed) (es : List (ℕ × Entry)) (ms : List (ℕ × MemberEntry)) (xs : List (String × Exported)) → mapped_meaning f (found d l es ms xs) ≡ found d l es ms xs → with_all (mapped_terms f o) (mapped f t) (map (mapped_pair f) d) (Some (mapped_listed f l)) (Some (map (mapped_numbered_entry f) es)) (Some (map (mapped_numbered_member f) ms)) (Some (map (mapped_named_export f) xs)) ≡ Some (found d l es ms xs)
  found-same d l es ms xs still =
      let program : mapped_listed f l ≡ l = ap (λ (m : Meaning). m.program) still in
      let same_entries : map (mapped_numbered_entry f) es ≡ es = by_number-still (mapped_numbered_entry f) es (ap (λ (m : Meaning). m.entries) still) in
      let same_members : map (mapped_numbered_member f) ms ≡ ms = by_number-still (mapped_numbered_member f) ms (ap (λ (m : Meaning). m.members) still) in
      let same_functions : declared_functions (mapped_ledger f o.ledger) (preorder (mapped f t)) ≡ declared_functions o.ledger (preorder t) = functions-mapped ∙ by_number-still (mapped_pair f) (declared_functions o.ledger (preorder t)) (ap (λ (m : Meaning). m.functions) still) in
      let same_places : all_places o.first_new (mapped_ledger f o.ledger) (second_numbers (map (mapped_pair f) d)) (mapped f t) ≡ private_places d = places-mapped d ∙ by_number-still (mapped_pair f) (private_places d) (ap (λ (m : Meaning). m.places) still) in
      let same_caught : around_branches [] (mapped f t) ≡ around_branches [] t = around_branches-mapped f [] t ∙ by_number-still (mapped_pair f) (around_branches [] t) (ap (λ (m : Meaning). m.branches) still) in
      let same_shared : shared false (mapped f t) ≡ shared false t = shared-mapped f false t ∙ by_number-still (mapped_pair f) (shared false t) (ap (λ (m : Meaning). m.shared) still) in
      let same_links : links_in (body_of (mapped f t)) ≡ links_in (body_of t) = ap links_in (body_of-mapped f t) ∙ links_in-mapped r (body_of t) ∙ ap (λ (m : Meaning). m.links) still in
      let same_exports : map (mapped_named_export f) xs ≡ xs = ap (λ (m : Meaning). m.exports) still in
      rw (program, same_entries, same_members, same_functions, same_shared, same_places, same_caught, same_links, same_exports, bindings-same, globals-mapped r t, source_type_of-mapped f t) refl

  with_all-same : (d : List (ℕ × ℕ)) (l : Option Listed) (es : Option (List (ℕ × Entry))) (ms : Option (List (ℕ × MemberEntry))) (xs : Option (List (String × Exported))) (m : Option Meaning) → with_all o t d l es ms xs ≡ m → mapped_option (mapped_meaning f) m ≡ m → with_all (mapped_terms f o) (mapped f t) (map (mapped_pair f) d) (mapped_option (mapped_listed f) l) (mapped_option (map (mapped_numbered_entry f)) es) (mapped_option (map (mapped_numbered_member f)) ms) (mapped_option (map (mapped_named_export f)) xs) ≡ m
  with_all-same d (Some l) (Some es) (Some ms) (Some xs) m e still = found-same d l es ms xs (some-same _ _ (ap (mapped_option (mapped_meaning f)) e ∙ still ∙ sym e)) ∙ e
  with_all-same d l es ms xs m e still = e

  abbrev body_context : Context
  body_context = in_body (start o t) t

  context-mapped : in_body (start (mapped_terms f o) (mapped f t)) (mapped f t) ≡ mapped_context f body_context
  context-mapped = ap (λ c. in_body c (mapped f t)) (start-mapped r o t) ∙ in_body-mapped r (start o t) refl t

  exports-mapped : (env : Environment) → all_exports (exports_in (in_body (start (mapped_terms f o) (mapped f t)) (mapped f t)) (mapped_environment f env) (body_of (mapped f t))) ≡ mapped_option (map (mapped_named_export f)) (all_exports (exports_in body_context env (body_of t)))
  exports-mapped env =
      ap all_exports (ap₂ (λ c ps. exports_in c (mapped_environment f env) ps) context-mapped (body_of-mapped f t) ∙ exports_in-mapped r body_context (in_body-first (start o t) t) env (body_of t))
      ∙ all_exports-mapped f (exports_in body_context env (body_of t))

  module _ (opens there : Opened → Evaluation) (follow : (x : Opened) → Follows f (opens x) (there (mapped_opened f x))) where
    means_by-mapped : (c : Code) → means_by there (mapped_terms f o) (mapped f t) (mapped_code f c) ≡ with_all (mapped_terms f o) (mapped f t) (map (mapped_pair f) (private_functions c)) (mapped_option (mapped_listed f) (listed (ev opens c []))) (mapped_option (map (mapped_numbered_entry f)) (whole (entries opens o.first_new o.late [] c))) (mapped_option (map (mapped_numbered_member f)) (member_entries (private_functions c) o.members)) (mapped_option (map (mapped_named_export f)) (all_exports (exports_in body_context (after_run [] (ev opens c [])) (body_of t))))
    means_by-mapped c =
        let run : Option Run = ev opens c [] in
        rw ((ev-follows r opens there follow c).on [], listed-mapped f run, after_run-mapped f [] run, entries-mapped r opens there follow o.late [] c, whole-mapped f (entries opens o.first_new o.late [] c), private_functions-mapped f c, member_entries-mapped r (private_functions c) o.members, exports-mapped (after_run [] run)) refl

  means_of-same : (c : Code) (m : Option Meaning) → means_of o t c ≡ m → mapped_option (mapped_meaning f) m ≡ m → means_of (mapped_terms f o) (mapped f t) (mapped_code f c) ≡ m
  means_of-same c m e still =
      let ds : List Definition = definitions c in
      let run : Option Run = ev (opening ds) c [] in
      ap (λ es. means_by (opening es) (mapped_terms f o) (mapped f t) (mapped_code f c)) (definitions-mapped r c)
      ∙ means_by-mapped (opening ds) (opening (map (mapped_definition f) ds)) (opening-follows r ds) c
      ∙ with_all-same (private_functions c) (listed run) (whole (entries (opening ds) o.first_new o.late [] c)) (member_entries (private_functions c) o.members) (all_exports (exports_in body_context (after_run [] run) (body_of t))) m e still

  pub means-same : (m : Option Meaning) → means o t ≡ m → mapped_option (mapped_meaning f) m ≡ m → means (mapped_terms f o) (mapped f t) ≡ m
  means-same m e still =
      ap (means_of (mapped_terms f o) (mapped f t)) (ap (λ c. read c (mapped f t)) (start-mapped r o t) ∙ read-mapped r (start o t) refl t)
      ∙ means_of-same (read (start o t) t) m e still
