-- The names that a node declares by itself, by their numbers.
use Rattle.std.proofs.Common.{◌≡◌, refl, sym, ap, ◌∙◌, ℕ, ◌+◌, ◌<◌, length, drop, get_or, List, [], ◌∷◌, ◌++◌, Bool, true, false, cond, ◌&&◌, ◌||◌, bytes_eq, Option, Some, None, Bor}
use Rattle.std.specs.Prelude.{is_none}
use Rattle.es_base.specs.declared.ids.NodeId.{NodeId}
use Rattle.std.proofs.Math.Bool.{or_assoc}
use Rattle.std.proofs.lemmas.List.{at_drop_more}
use Rattle.std.specs.Str.{chars}
use Rattle.es_base.specs.Conforms.{is_among}
use Rattle.es_base.specs.Tree.{Tree, Part, Parts, Node}
use Rattle.es_base.specs.declared.kind.Kind.{Kind}
use Rattle.es_node.specs.View.{kind_of, number_in, parts_in}
use Rattle.es_binding_faults.specs.Hoisted.{hoisted_part}
use Rattle.es_binding_faults.specs.declared.bound.Declared.{Declared}
use Rattle.es_name_set.proofs.NameSets.{bytes_eq-flipped}
use Rattle.es_name_set.specs.Names.{HaveSame}
use Rattle.es_binding_faults.specs.Named.{named, plain}
use Rattle.es_binding_faults.specs.declared.hoisted.Hoist.{Hoist}
use Rattle.es_binding_faults.specs.Seen.{seen}
use Rattle.es_binding_faults.proofs.HasNumbers.{has_number-append}
use Rattle.es_binding_faults.proofs.Hoisting.{var-part}
use Rattle.es_binding_faults.proofs.Plain.{plain-bound_part}
use Rattle.es_steps.specs.Parts.{at}
use Rattle.es_steps.specs.References.{if_bound, numbers_of, repeated, is_declared, is_for_each, written_by, written_by_all, has_number, is_free}
use Rattle.es_steps.specs.Scopes.{Declaration, own_name, var_part, ScopeForm, program_scope, function_scope, own_function_scope, arrow_scope, own_class_scope, block_scope, static_block_scope, loop_scope, switch_scope, catch_scope, no_scope, scope_form, scope_names}
use Rattle.es_steps.specs.Values.{String, Referent, Bound, Free}
use Rattle.es_outside.specs.Changing.{if_written}
use Rattle.es_references.specs.Frames.{binding_of}
use Rattle.es_references.specs.References.{referent_of}

pub written_numbers : (n : ℕ) (t : Tree) (b : Bool) → ((b || has_number n (repeated (scope_names (scope_form (kind_of t)) (number_in t) (parts_in t)))) || has_number n (cond (is_for_each (kind_of t)) (numbers_of (var_part (at 0 (parts_in t)))) [])) ≡ (b || has_number n (written_by t))
written_numbers n (Node kind m span semantic_id ps) b =
    let repeats = repeated (scope_names (scope_form kind) m ps) in
    let heads = cond (is_for_each kind) (numbers_of (var_part (at 0 ps))) [] in
    or_assoc b (has_number n repeats) (has_number n heads) ∙ ap (λ c. b || c) (sym (has_number-append n repeats heads))

-- ---- without the classes that names may name

plain_numbers : (ds : List Declaration) → numbers_of (plain ds) ≡ numbers_of ds
plain_numbers [] = refl
plain_numbers (d ∷ ds) = ap (λ ns. d.number ∷ ns) (plain_numbers ds)

plain_declared : (s : List ℕ) (ds : List Declaration) → is_declared s (plain ds) ≡ is_declared s ds
plain_declared s [] = refl
plain_declared s (d ∷ ds) = ap (λ b. bytes_eq s d.spelling || b) (plain_declared s ds)

pub plain_repeated : (ds : List Declaration) → repeated (plain ds) ≡ repeated ds
plain_repeated [] = refl
plain_repeated (d ∷ ds) = ap (λ b. cond b (d.number ∷ []) [] ++ repeated (plain ds)) (plain_declared d.spelling ds) ∙ ap (λ ns. cond (is_declared d.spelling ds) (d.number ∷ []) [] ++ ns) (plain_repeated ds)

plain_scope : (form : ScopeForm) (m : ℕ) (ps : Parts) → plain (scope_names form m ps) ≡ plain (scope_names form 0 ps)
plain_scope program_scope m ps = refl
plain_scope function_scope m ps = refl
plain_scope own_function_scope m ps = refl
plain_scope arrow_scope m ps = refl
plain_scope own_class_scope m ps = plain-bound_part (own_name m) (at 0 ps) ∙ sym (plain-bound_part (own_name 0) (at 0 ps))
plain_scope block_scope m ps = refl
plain_scope static_block_scope m ps = refl
plain_scope loop_scope m ps = refl
plain_scope switch_scope m ps = refl
plain_scope catch_scope m ps = refl
plain_scope no_scope m ps = refl

pub repeated_scope : (form : ScopeForm) (m : ℕ) (ps : Parts) → repeated (scope_names form m ps) ≡ repeated (plain (scope_names form 0 ps))
repeated_scope form m ps = sym (plain_repeated (scope_names form m ps)) ∙ ap repeated (plain_scope form m ps)

pub head_numbers : (p : Part) → numbers_of (hoisted_part Hoist.Var p) ≡ numbers_of (var_part p)
head_numbers p = ap numbers_of (sym (var-part p)) ∙ plain_numbers (var_part p)

pub no_head : (kind : Kind) → (kind ≡ Kind.ForInStatement → ⊥) → (kind ≡ Kind.ForOfStatement → ⊥) → is_for_each kind ≡ false
no_head Kind.ForInStatement for_in for_of = absurd (for_in refl)
no_head Kind.ForOfStatement for_in for_of = absurd (for_of refl)
no_head kind for_in for_of = refl

-- ---- what references write

pub written_if : (writes : Bool) (r : Referent) → if_written writes (binding_of r) ≡ if_bound writes r
written_if true (Bound b) = refl
written_if true (Free s) = refl
written_if false (Bound b) = refl
written_if false (Free s) = refl

pub written_reference : (s : String) (writes : Bool) (b : Option NodeId) → if_bound writes (referent_of s b) ≡ if_written writes b
written_reference s true None = refl
written_reference s true (Some b) = refl
written_reference s false None = refl
written_reference s false (Some b) = refl

-- a free name `arguments` has no binding
pub free_arguments : (x s : String) (b : Option NodeId) → is_free x (referent_of s b) ≡ (is_none b && bytes_eq x s)
free_arguments x s None = refl
free_arguments x s (Some b) = refl

-- ---- of one list or another

pub either_number : (n : ℕ) (ks ls : List ℕ) → has_number n (ks ++ ls) ≡ (has_number n ks || has_number n ls)
either_number n ks ls = has_number-append n ks ls

-- ---- those behind a name

flipped : (s : List ℕ) (d : Declared) (bs : List (List ℕ)) (ds : List Declared) → is_among s bs ≡ is_declared s (named ds) → is_among s (chars d.name.now ∷ bs) ≡ is_declared s (named (d ∷ ds))
flipped s d bs ds e = ap (λ b. b || is_among s bs) (bytes_eq-flipped (chars d.name.now) s) ∙ ap (λ b. bytes_eq s (chars d.name.now) || b) e

pub one_later : (s : List ℕ) (old new : List (List ℕ)) (ds : List Declared) (i : ℕ) (d : Declared) → i < length ds → HaveSame new (chars (get_or ds i d).name.now ∷ old) → is_among s old ≡ is_declared s (named (drop (i + 1) ds)) → is_among s new ≡ is_declared s (named (drop i ds))
one_later s old new ds i d below same before =
    same s
    ∙ flipped s (get_or ds i d) old (drop (i + 1) ds) before
    ∙ sym (at_drop_more (λ (xs : List Declared). is_declared s (named xs)) ds i d below)

moved : (a b c : Bool) → ((a || b) || c) ≡ (a || (c || b))
moved true b c = refl
moved false true true = refl
moved false true false = refl
moved false false true = refl
moved false false false = refl

pub one_repeated : (n : ℕ) (start : Bool) (old new : List ℕ) (names : List (List ℕ)) (ds : List Declared) (i : ℕ) (d : Declared) → i < length ds
    → new ≡ old ++ cond (is_among (chars (get_or ds i d).name.now) names) ((get_or ds i d).node.0 ∷ []) [] → ((s : List ℕ) → is_among s names ≡ is_declared s (named (drop (i + 1) ds)))
    → has_number n old ≡ (start || has_number n (repeated (named (drop (i + 1) ds)))) → has_number n new ≡ (start || has_number n (repeated (named (drop i ds))))
one_repeated n start old new names ds i d below more same before =
    let x = get_or ds i d in
    let rest = named (drop (i + 1) ds) in
    let here = cond (is_declared (chars x.name.now) rest) (x.node.0 ∷ []) [] in
    ap (has_number n) more
    ∙ has_number-append n old (cond (is_among (chars x.name.now) names) (x.node.0 ∷ []) [])
    ∙ ap (λ b. has_number n old || has_number n (cond b (x.node.0 ∷ []) [])) (same (chars x.name.now))
    ∙ ap (λ b. b || has_number n here) before
    ∙ moved start (has_number n (repeated rest)) (has_number n here)
    ∙ ap (λ b. start || b) (sym (has_number-append n here (repeated rest)))
    ∙ sym (at_drop_more (λ (xs : List Declared). start || has_number n (repeated (named xs))) ds i d below)

-- the node at a place of a list
pub next_node : (n : ℕ) (a b : Bool) (ns : List (Bor Tree)) (i : ℕ) (t : Bor Tree) → i < length ns → t ≡ get_or ns i t → b ≡ (a || has_number n (written_by t.now))
    → (b || has_number n (written_by_all (seen (drop (i + 1) ns)))) ≡ (a || has_number n (written_by_all (seen (drop i ns))))
next_node n a b ns i t below is more =
    let rest = written_by_all (seen (drop (i + 1) ns)) in
    ap (λ c. c || has_number n rest) more
    ∙ or_assoc a (has_number n (written_by t.now)) (has_number n rest)
    ∙ ap (λ c. a || c) (sym (has_number-append n (written_by t.now) rest))
    ∙ ap (λ (u : Bor Tree). a || has_number n (written_by u.now ++ rest)) is
    ∙ sym (at_drop_more (λ (xs : List (Bor Tree)). a || has_number n (written_by_all (seen xs))) ns i t below)
