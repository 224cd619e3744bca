-- What a program of the first form is lowered to means what the program means: its classes read as classes whose
-- constructors define the fields that the classes of the program have.
use Rattle.std.specs.Prelude.{◌≡◌, ℕ, ◌+◌, List, [], ◌∷◌, ◌++◌, Bool, true, false, ◌||◌, nat_le, bytes_eq, codes, None, Option, Some}
use Rattle.std.proofs.Common.{refl, sym, ap, ap₂, ◌∙◌, ◌≤◌, arith, subst}
use Rattle.std.proofs.lemmas.Bool.{le-leb}
use Rattle.es_base.specs.Conforms.{conforms}
use Rattle.es_base.specs.Preorder.{nodes, numbered_from}
use Rattle.es_base.specs.Tree as tree
use Rattle.es_base.specs.Tree.{Tree, Part, Parts, Node, trees}
use Rattle.es_base.specs.declared.kind.Kind.{Kind}
use Rattle.es_base.specs.declared.table.Place.{Place}
use Rattle.es_steps.proofs.FirstMeaning.{joined-done, not_generated-found, plain-name, plain-literal}
use Rattle.es_steps.proofs.PlainClasses.{IsNotGenerated, fixed, changing, means_class, IsPlain, a_value}
use Rattle.es_steps.specs.ClassHeads.{declared_or_named, named_classes}
use Rattle.es_steps.specs.Code.{Code, Codes, value, spelled, field, define, steps, new_function, class_code, constructor, done, and}
use Rattle.es_steps.specs.Context.{Context, NameKind, found_kind, name_kind, inside}
use Rattle.es_steps.specs.Evaluation.{settle_run, ev}
use Rattle.es_steps.specs.Entries.{Entry, Listed, plain_form, listed, after_run, entries}
use Rattle.es_steps.specs.Events.{Events}
use Rattle.es_steps.specs.Expressions.{name_or_arguments, name_code}
use Rattle.es_steps.specs.FirstForm.{is_first_form}
use Rattle.es_steps.specs.Generated.{constructor_at, define_at}
use Rattle.es_steps.specs.Modules.{Exported}
use Rattle.es_steps.specs.Meaning.{Terms, start, means_of, source_means, source_terms, lowered_means, source_type_of, declaring, globals, ClassDeclared, whole, with_all, in_body, MemberEntry, all_exports}
use Rattle.es_steps.specs.Members.{codes_in}
use Rattle.es_steps.specs.Opening.{definitions, opening}
use Rattle.es_steps.specs.PrivateNames.{PrivateMember, private_members}
use Rattle.es_steps.specs.Reading.{read, read_part, read_items}
use Rattle.es_steps.specs.References.{declared, varying}
use Rattle.es_steps.specs.Branches.{around_branches}
use Rattle.es_steps.specs.Repeated.{all_places}
use Rattle.es_steps.specs.Shared.{shared}
use Rattle.es_steps.specs.Scopes.{Declaration, own_name, body_names}
use Rattle.es_steps.specs.Statements.{value_or_undefined, field_form}
use Rattle.es_steps.specs.Values.{String, ConstantOf, StringOf, Undefined, ThisOf, ArgumentsOf, Bound, Free}
use Rattle.es_steps.specs.declared.options.Options.{Options}
use Rattle.class_properties.proofs.Defining.{defining, is_defining}
use Rattle.class_properties.proofs.Constructions.{Fields, no_fields, with_field, ArePlain, field_codes, Defines, none_defined, defined, AreLowered, no_constructor, one_constructor, pair_of_classes, IsPair, ArePairs, RunAlike, ran, value_behind-undefined, pairs-run}
use Rattle.class_properties.proofs.Declared.{HasNone, source-none, lowered-none, names-definitions, names-lowered, varying-lowered, declaring-lowered, globals-lowered, shared-lowered, places-lowered, branches-lowered}
use Rattle.class_properties.proofs.FreeNames.{leaves}
use Rattle.class_properties.proofs.Shaped.{IsValue, no_value, a_literal, a_reference, a_key, a_field, AreFields, a_body, a_name as a_class_name, a_class, AreClasses, IsProgram, a_program, first_form-shaped}
use Rattle.class_properties.proofs.Numbered.{key_string, value_from, definitions_from, lowered_elements, lowered_statements}
use Rattle.class_properties.proofs.Numbered as numbered
use Rattle.class_properties.proofs.Renumbered.{lowered-numbered}
use Rattle.es_unchanged.proofs.Standing.{still_new}
use Rattle.class_properties.specs.Lowering.{lowered}
use Rattle.class_properties.specs.Options.{defines_fields}

module _ (asked : Options) where
  -- ---- contexts: what of one the value of a field reads

  -- of a program without generated names, where no class has the name of the helpers, and where class properties alone are on
  pub record IsPlainContext (c : Context) : Type 0 where
    pub ledger : c.ledger ≡ []
    pub options : c.options ≡ (defining asked)
    pub helpers : declared (codes "babelHelpers") c.names ≡ None

  -- the value of a field in the body of a class, and the context of a statement of its constructor
  abbrev field_parts : Part → Part → Parts
  field_parts key v = tree.more key (tree.more v (tree.more (tree.boolean false) (tree.more (tree.boolean false) tree.end)))

  abbrev value_in : Context → ℕ → Part → Part → Code
  value_in c m key v = value_or_undefined (read_part (inside c Kind.PropertyDefinition m (field_parts key v) 1) v)

  pub record IsInConstructor (c d : Context) : Type 0 where
    pub ledger : d.ledger ≡ []
    pub first_new : d.first_new ≡ c.first_new
    pub varying : d.varying ≡ c.varying
    pub writes_arguments : d.writes_arguments ≡ c.writes_arguments
    pub names : d.names ≡ c.names
    pub this : d.this ≡ ThisOf c.class
    pub arguments : d.arguments ≡ ArgumentsOf c.class

  -- ---- fields

  abbrev fields_of : Context → Parts → Fields
  fields_of c (tree.more (tree.child (Node kind m span semantic_id (tree.more key (tree.more v ps)))) rest) = with_field (key_string key) (value_in c m key v) (fields_of c rest)
  fields_of c ps = no_fields

  name-plain : (c : Context) (m : ℕ) (s : String) → c.ledger ≡ [] → IsPlain (name_code c m s)
  name-plain c m s l = rw l (plain-name c m s (found_kind c.first_new c.varying s (declared s c.names)) (not_generated-found c.first_new c.varying s (declared s c.names)))

  value-plain : (c : Context) (v : Part) → c.ledger ≡ [] → IsValue v → IsPlain (value_or_undefined (read_part c v))
  value-plain c v l no_value = a_value Undefined
  value-plain c v l (a_literal i span semantic_id w fine) = plain-literal i w fine
  value-plain c v l (a_reference i span semantic_id s) = name-plain c i s l

  fields-plain : (c : Context) (es : Parts) → c.ledger ≡ [] → AreFields es → ArePlain (fields_of c es)
  fields-plain c tree.end l h = tt
  fields-plain c (tree.more p es) l (a_field i span semantic_id k v hk hv, h) = (value-plain (inside c Kind.PropertyDefinition i (field_parts k v) 1) v l hv, fields-plain c es l h)

  fields-read : (c : Context) (es : Parts) → c.options ≡ (defining asked) → AreFields es → codes_in (read_items c es) ≡ field_codes (fields_of c es)
  fields-read c tree.end o h = refl
  fields-read c (tree.more p es) o (a_field i span semantic_id k v (a_key j jspan j_semantic_id s) hv, h) =
      ap₂ and
      (ap (λ (x : Options). field false (field_form x false (spelled s) (read_part (inside c Kind.PropertyDefinition i (field_parts k v) 1) v)) (value (ConstantOf (StringOf s))) (value_in c i k v)) o)
      (fields-read c es o h)

  -- a name reads alike where the same is known of it
  kind-same : (c d : Context) (m : ℕ) (s : String) (kind : NameKind) → IsNotGenerated kind → d.writes_arguments ≡ c.writes_arguments → d.arguments ≡ c.arguments → name_or_arguments d m s kind ≡ name_or_arguments c m s kind
  kind-same c d m s kind (fixed b) w a = refl
  kind-same c d m s kind (changing (Bound b)) w a = refl
  kind-same c d m s kind (changing (Free t)) w a = rw (w, a) refl
  kind-same c d m s kind (means_class n b) w a = refl

  name-same : (c d : Context) (m : ℕ) (s : String) → c.ledger ≡ [] → d.ledger ≡ [] → d.first_new ≡ c.first_new → d.varying ≡ c.varying → d.names ≡ c.names → d.writes_arguments ≡ c.writes_arguments → d.arguments ≡ c.arguments → name_code d m s ≡ name_code c m s
  name-same c d m s l k first varying names w a = rw (l, k, first, varying, names) (kind-same c d m s (found_kind c.first_new c.varying s (declared s c.names)) (not_generated-found c.first_new c.varying s (declared s c.names)) w a)

  -- ---- statements of the constructor

  -- a value reads in the constructor as in the field
  value-same : (c d : Context) (k m : ℕ) (key v : Part) → c.ledger ≡ [] → IsInConstructor c d → IsValue v → read d (value_from k v) ≡ value_in c m key v
  value-same c d k m key v l i no_value = refl
  value-same c d k m key v l i (a_literal j span semantic_id w fine) = refl
  value-same c d k m key v l i (a_reference j span semantic_id s) =
      name-same (inside c Kind.PropertyDefinition m (field_parts key v) 1) d j s l i.ledger i.first_new i.varying i.names i.writes_arguments i.arguments

  -- the context of an argument of the call
  abbrev in_call : Context → ℕ → Context
  in_call d k = inside (inside d Kind.ExpressionStatement k tree.end 0) Kind.CallExpression (k + 1) tree.end 1

  define-read : (c d : Context) (k : ℕ) (s : String) (w : Tree) → declared (codes "babelHelpers") c.names ≡ None → c.first_new ≤ k → IsInConstructor c d → read d (define_at k s w) ≡ steps (and (define (k + 1) (ThisOf c.class) (value (ConstantOf (StringOf s))) (read (in_call d k) w)) done)
  define-read c d k s w helpers new i =
      let later : nat_le c.first_new (k + 3) ≡ true = le-leb c.first_new (k + 3) (omega (arith, new)) in
      rw (i.ledger, i.names, helpers, i.first_new, later, i.this) refl

  definition-read : (c d : Context) (k m : ℕ) (key v : Part) (s : String) → c.ledger ≡ [] → declared (codes "babelHelpers") c.names ≡ None → c.first_new ≤ k → IsInConstructor c d → IsValue v → read d (define_at k s (value_from (k + 7) v)) ≡ steps (and (define (k + 1) (ThisOf c.class) (value (ConstantOf (StringOf s))) (value_in c m key v)) done)
  definition-read c d k m key v s l helpers new i h =
      let there : IsInConstructor c (in_call d k) = record { ledger = i.ledger; first_new = i.first_new; varying = i.varying; writes_arguments = i.writes_arguments; names = i.names; this = i.this; arguments = i.arguments } in
      define-read c d k s (value_from (k + 7) v) helpers new i ∙ ap (λ x. steps (and (define (k + 1) (ThisOf c.class) (value (ConstantOf (StringOf s))) x) done)) (value-same c (in_call d k) (k + 7) m key v l there h)

  definitions-read : (c d : Context) (es : Parts) → c.ledger ≡ [] → declared (codes "babelHelpers") c.names ≡ None → IsInConstructor c d → AreFields es → (k : ℕ) → c.first_new ≤ k → Defines c.class (fields_of c es) (codes_in (read_items d (trees (definitions_from k es))))
  definitions-read c d tree.end l free i h k new = none_defined
  definitions-read c d (tree.more p es) l free i (a_field m span semantic_id key v (a_key j jspan j_semantic_id s) hv, h) k new =
      let rest : Codes = codes_in (read_items d (trees (definitions_from _ es))) in
      subst (λ x. Defines c.class (fields_of c (tree.more p es)) (and x rest)) (sym (definition-read c d k m key v s l free new i hv))
      (defined (k + 1) (definitions-read c d es l free i h _ (still_new k _ new)))

  -- ---- classes

  or_false : (a b : Bool) → (a || b) ≡ false → a ≡ false
  or_false true b h = h
  or_false false b h = refl

  -- two contexts where the same is known of names, in a body of the same class
  pub record AreAlike (c d : Context) : Type 0 where
    pub ledger : d.ledger ≡ []
    pub first_new : d.first_new ≡ c.first_new
    pub varying : d.varying ≡ c.varying
    pub writes_arguments : d.writes_arguments ≡ c.writes_arguments
    pub names : d.names ≡ c.names
    pub named : d.named ≡ c.named
    pub class : d.class ≡ c.class

  -- in the constructor k with these statements
  abbrev body_parts : List Tree → Parts
  body_parts ts = tree.more (tree.list (trees ts)) tree.end

  abbrev function_parts : ℕ → List Tree → Parts
  function_parts k ts = tree.more tree.absent (tree.more (tree.list tree.end) (tree.more (tree.child (Node Kind.BlockStatement (k + 3) None None (body_parts ts))) (tree.more (tree.boolean false) (tree.more (tree.boolean false) tree.end))))

  abbrev method_parts : ℕ → List Tree → Parts
  method_parts k ts = tree.more (tree.child (Node Kind.IdentifierName (k + 1) None None (tree.more (tree.string (codes "constructor")) tree.end))) (tree.more (tree.child (Node Kind.FunctionExpression (k + 2) None None (function_parts k ts))) (tree.more (tree.string (codes "constructor")) (tree.more (tree.boolean false) (tree.more (tree.boolean false) tree.end))))

  abbrev in_constructor : Context → ℕ → List Tree → Context
  in_constructor c k ts = inside (inside (inside c Kind.MethodDefinition k (method_parts k ts) 1) Kind.FunctionExpression (k + 2) (function_parts k ts) 2) Kind.BlockStatement (k + 3) (body_parts ts) 0

  constructor-context : (c d : Context) (k : ℕ) (ts : List Tree) → AreAlike c d → body_names (trees ts) ≡ [] → IsInConstructor c (in_constructor d k ts)
  constructor-context c d k ts a no_names = record { ledger = a.ledger; first_new = a.first_new; varying = a.varying; writes_arguments = a.writes_arguments; names = rw no_names a.names; this = ap ThisOf a.class; arguments = ap ArgumentsOf a.class }

  constructor-read : (d : Context) (k : ℕ) (ts : List Tree) → d.first_new ≤ k → read d (constructor_at k ts) ≡ constructor (new_function (k + 2) plain_form done (steps (codes_in (read_items (in_constructor d k ts) (trees ts)))))
  constructor-read d k ts new =
      let later : nat_le d.first_new (k + 2) ≡ true = le-leb d.first_new (k + 2) (omega (arith, new)) in
      rw (joined-done (codes_in (read_items (in_constructor d k ts) (trees ts))), later) refl

  elements-read : (c d : Context) (es : Parts) → c.ledger ≡ [] → declared (codes "babelHelpers") c.names ≡ None → AreAlike c d → AreFields es → (k : ℕ) → c.first_new ≤ k → AreLowered c.class (fields_of c es) (codes_in (read_items d (lowered_elements k es)))
  elements-read c d tree.end l free a h k new = no_constructor
  elements-read c d (tree.more p es) l free a (a_field m span semantic_id key v (a_key j jspan j_semantic_id s) hv, h) k new =
      let all : AreFields (tree.more p es) = (a_field m span semantic_id key v (a_key j jspan j_semantic_id s) hv, h) in
      let ts : List Tree = definitions_from (k + 4) (tree.more p es) in
      let i : IsInConstructor c (in_constructor d k ts) = constructor-context c d k ts a (names-definitions (tree.more p es) all (k + 4)) in
      let new_there : d.first_new ≤ k = rw a.first_new new in
      subst (λ x. AreLowered c.class (fields_of c (tree.more p es)) (and x done)) (sym (constructor-read d k ts new_there))
      (one_constructor (k + 2) (definitions-read c (in_constructor d k ts) (tree.more p es) l free i all (k + 4) (still_new k 4 new)))

  name_kind-same : (c d : Context) (s : String) → c.ledger ≡ [] → AreAlike c d → name_kind d s ≡ name_kind c s
  name_kind-same c d s l a = rw (l, a.ledger, a.first_new, a.varying, a.names) refl

  pair-named : (n : ℕ) (declared : Option ℕ) (named there : List (ℕ × ℕ)) → there ≡ named → (fs : Fields) (cs : Codes) → ArePlain fs → AreLowered n fs cs → IsPair (class_code n (declared_or_named n named declared) done (field_codes fs)) (class_code n (declared_or_named n there declared) done cs)
  pair-named n declared named there e fs cs plain low = rw e (pair_of_classes n (declared_or_named n named declared) fs cs plain low)

  classes-read : (c d : Context) (ps : Parts) → IsPlainContext c → AreAlike c d → AreClasses ps → (k : ℕ) → c.first_new ≤ k → ArePairs (codes_in (read_items c ps)) (codes_in (read_items d (lowered_statements k ps)))
  classes-read c d tree.end x a h k new = tt
  classes-read c d (tree.more p ps) x a (a_class n span semantic_id id body (a_class_name i ispan i_semantic_id s other) (a_body j bspan b_semantic_id es he), h) k new =
      let elements : Parts = tree.more (tree.list es) tree.end in
      let lowered : Parts = tree.more (tree.list (lowered_elements k es)) tree.end in
      let parts : Parts = tree.more id (tree.more tree.absent (tree.more body tree.end)) in
      let lowered_parts : Parts = tree.more id (tree.more tree.absent (tree.more (tree.child (Node Kind.ClassBody j bspan b_semantic_id lowered)) tree.end)) in
      let e : Context = inside (inside c Kind.ClassDeclaration n parts 2) Kind.ClassBody j elements 0 in
      let f : Context = inside (inside d Kind.ClassDeclaration n lowered_parts 2) Kind.ClassBody j lowered 0 in
      let own : Declaration = record { spelling = s; number = i; class_name = own_name n } in
      let alike : AreAlike e f = record { ledger = a.ledger; first_new = a.first_new; varying = a.varying; writes_arguments = a.writes_arguments; names = ap (λ ns. own ∷ ns) a.names; named = a.named; class = refl } in
      let helpers : declared (codes "babelHelpers") e.names ≡ None = rw (or_false (bytes_eq (codes "babelHelpers") s) _ other) x.helpers in (
        rw (joined-done (codes_in (read_items e es)), joined-done (codes_in (read_items f (lowered_elements k es))), fields-read e es x.options he, name_kind-same c d s x.ledger a)
            (pair-named n _ c.named d.named a.named (fields_of e es) _ (fields-plain e es x.ledger he) (elements-read e f es x.ledger helpers alike he k new)),
        classes-read c d ps x a h _ (still_new k _ new),
      )

  -- ---- programs

  abbrev terms : ℕ → Options → List PrivateMember → List (ℕ × ℕ) → Terms
  terms first options members named = record { first_new = first; options = options; ledger = []; members = members; named = named; late = [] }

  abbrev listed_alone : Events → Option Listed
  listed_alone l = Some (record { events = l; value = Undefined })

  listed-settled : (l : Events) → listed (settle_run (ran l Undefined [])) ≡ listed_alone l
  listed-settled l = rw (value_behind-undefined l, value_behind-undefined l) refl

  with-parts : (o : Terms) (t : Tree) {d d2 : List (ℕ × ℕ)} {l l2 : Option Listed} {es es2 : Option (List (ℕ × Entry))} {ms ms2 : Option (List (ℕ × MemberEntry))} {xs xs2 : Option (List (String × Exported))} → d ≡ d2 → l ≡ l2 → es ≡ es2 → ms ≡ ms2 → xs ≡ xs2 → with_all o t d l es ms xs ≡ with_all o t d2 l2 es2 ms2 xs2
  with-parts o t a b c e f = rw (a, b, c, e, f) refl

  pairs-mean : (first : ℕ) (options : Options) (members : List PrivateMember) (named : List (ℕ × ℕ)) (p q : Tree) (cs ds : Codes) → members ≡ [] → ArePairs cs ds → HasNone p → HasNone q
      → source_type_of q ≡ source_type_of p → declaring first ClassDeclared q ≡ declaring first ClassDeclared p → globals first q ≡ globals first p → shared false q ≡ shared false p → all_places first [] [] q ≡ all_places first [] [] p → around_branches [] q ≡ around_branches [] p → means_of (terms first options members named) q (steps ds) ≡ means_of (terms first options members named) p (steps cs)
  pairs-mean first options members named p q cs ds none_there h np nq source_type bindings names same_shared stand branches =
      let o : Terms = terms first options members named in
      let run : RunAlike (opening (definitions (steps cs))) (opening (definitions (steps ds))) first cs ds = pairs-run (opening (definitions (steps cs))) (opening (definitions (steps ds))) first cs ds h in
      let es : Option (List (ℕ × Entry)) = whole (entries (opening (definitions (steps cs))) first [] [] (steps cs)) in
      let here : means_of o p (steps cs) ≡ with_all o p [] (listed_alone run.listed) es (Some []) (Some []) =
      with-parts o p run.functions (ap (λ r. listed (settle_run r)) run.source ∙ listed-settled run.listed) refl (rw (run.functions, none_there) refl) (ap all_exports (np.exports (in_body (start o p) p) (after_run [] (ev (opening (definitions (steps cs))) (steps cs) [])))) in
      let there : means_of o q (steps ds) ≡ with_all o q [] (listed_alone run.listed) es (Some []) (Some []) =
      with-parts o q run.lowered_functions (ap (λ r. listed (settle_run r)) run.lowered ∙ listed-settled run.listed) (ap whole run.entries) (rw (run.lowered_functions, none_there) refl) (ap all_exports (nq.exports (in_body (start o q) q) (after_run [] (ev (opening (definitions (steps ds))) (steps ds) [])))) in
      there ∙ told (listed_alone run.listed) es ∙ sym here
    where
      told : (l : Option Listed) (es : Option (List (ℕ × Entry))) → with_all (terms first options members named) q [] l es (Some []) (Some []) ≡ with_all (terms first options members named) p [] l es (Some []) (Some [])
      told None es = refl
      told (Some l) None = refl
      told (Some l) (Some es) = rw (source_type, bindings, names, same_shared, stand, branches, nq.functions, np.functions, nq.links, np.links) refl

  program-means : (t : Tree) → IsProgram t → lowered_means (defining asked) [] t (numbered.lowered t) ≡ source_means (defining asked) t
  program-means t (a_program m span semantic_id s all h) =
      let first : ℕ = nodes t in
      let p : IsProgram t = a_program m span semantic_id s all h in
      let q : Tree = numbered.lowered t in
      let o : Terms = source_terms (defining asked) t in
      let low : Parts = lowered_statements first all in
      let c : Context = inside (start o t) Kind.Program m (tree.more (tree.string s) (tree.more (tree.list all) tree.end)) 1 in
      let d : Context = inside (start o q) Kind.Program m (tree.more (tree.string s) (tree.more (tree.list low) tree.end)) 1 in
      let np : HasNone t = source-none t p in
      let nq : HasNone q = lowered-none first t p in
      let plain : IsPlainContext c = record { ledger = refl; options = refl; helpers = (leaves all h).helpers } in
      let alike : AreAlike c d = record { ledger = refl; first_new = refl; varying = varying-lowered first t p; writes_arguments = nq.free ∙ sym np.free; names = ap (λ ns. ns ++ []) (names-lowered all h first); named = refl; class = refl } in
      let here : Codes = codes_in (read_items c all) in
      let there : Codes = codes_in (read_items d low) in
      ap (λ cs. means_of o q (steps cs)) (joined-done there)
      ∙ pairs-mean first (defining asked) (private_members t) (named_classes t) t q here there np.members (classes-read c d all plain alike h first (omega arith)) np nq refl (declaring-lowered first first t p) (globals-lowered first first t p) (shared-lowered first t p) (places-lowered first t p) (branches-lowered first t p)
      ∙ sym (ap (λ cs. means_of o t (steps cs)) (joined-done here))

  form-means : (t : Tree) → conforms Place.Program t ≡ true → is_first_form t [] ≡ true → t ≡ numbered_from 0 t → lowered_means (defining asked) [] t (lowered t) ≡ source_means (defining asked) t
  form-means t f h e = ap (lowered_means (defining asked) [] t) (lowered-numbered t f h e) ∙ program-means t (first_form-shaped t [] f h)

-- the lowered program means what its source means
pub lowered-means : (o : Options) (t : Tree) → defines_fields o ≡ true → conforms Place.Program t ≡ true → is_first_form t [] ≡ true → t ≡ numbered_from 0 t → lowered_means o [] t (lowered t) ≡ source_means o t
lowered-means o t d f h e = subst (λ x. lowered_means x [] t (lowered t) ≡ source_means x t) (is_defining o d) (form-means o t f h e)
