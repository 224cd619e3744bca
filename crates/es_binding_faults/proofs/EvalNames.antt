-- Whether `eval` is declared, and the free references to it of one part behind the i-th.
use Rattle.std.proofs.Common.{◌≡◌, refl, sym, ap, ◌∙◌, ℕ, suc, ◌+◌, ◌<◌, List, [], ◌∷◌, ◌++◌, length, drop, get_or, Bool, true, false, cond, ◌||◌}
use Rattle.std.specs.Prelude.{bytes_eq, codes, not, ◌&&◌}
use Rattle.std.specs.Str.{chars}
use Rattle.std.proofs.lemmas.List.{at_drop_more}
use Rattle.es_base.specs.Preorder.{preorder, preorder_of, preorder_of_part}
use Rattle.es_base.specs.Table.{Field, members_of}
use Rattle.es_base.specs.Tree.{Tree, Part, Parts, Node, end, more, child, absent, list, string, no_string, boolean, literal}
use Rattle.es_base.specs.declared.kind.Kind.{Kind}
use Rattle.es_base.specs.declared.table.Place.{Place}
use Rattle.es_base.specs.declared.table.Sort.{Sort}
use Rattle.es_node.specs.View.{kind_of, number_in, parts_in, have_shapes, has_shape}
use Rattle.es_node.specs.declared.node.Part as code
use Rattle.es_node.proofs.Shapes.{right_of}
use Rattle.es_steps.specs.Parts.{at, string_of}
use Rattle.es_steps.specs.References.{is_reference}
use Rattle.es_steps.specs.Scopes.{Declaration, seen, scope_of, is_body_part}
use Rattle.es_binding_faults.proofs.RepeatNames.{any_declared}
use Rattle.es_binding_faults.proofs.ScopeNames.{seen-plain}
use Rattle.es_binding_faults.specs.Evals.{declares_eval, declared_in, free_eval, free_evals_in, free_evals_from, free_evals_at, free_evals_of, is_eval_reference, spells_eval}
use Rattle.es_binding_faults.specs.Named.{named, plain}
use Rattle.es_binding_faults.specs.declared.bound.Declared.{Declared}

pub next_eval : (ds : List Declared) (i : ℕ) → i < length ds → declares_eval (named (drop i ds)) ≡ (bytes_eq (codes "eval") (chars (get_or ds i any_declared).name.now) || declares_eval (named (drop (i + 1) ds)))
next_eval ds i below = at_drop_more (λ (xs : List Declared). declares_eval (named xs)) ds i any_declared below

pub declares_eval-plain : (ds : List Declaration) → declares_eval (plain ds) ≡ declares_eval ds
declares_eval-plain [] = refl
declares_eval-plain (d ∷ ds) = ap (λ b. bytes_eq (codes "eval") d.spelling || b) (declares_eval-plain ds)

or_false : (b : Bool) → b ≡ (b || false)
or_false true = refl
or_false false = refl

pub eval_seen : (is_body : Bool) (kind : Kind) (m : ℕ) (ps : Parts) (i : ℕ) → declares_eval (seen (scope_of kind is_body) 0 ps i) ≡ declared_in false is_body kind m ps i
eval_seen is_body kind m ps i =
    sym (declares_eval-plain (seen (scope_of kind is_body) 0 ps i)) ∙ ap declares_eval (seen-plain (scope_of kind is_body) m ps i) ∙ declares_eval-plain (seen (scope_of kind is_body) m ps i) ∙ or_false (declares_eval (seen (scope_of kind is_body) m ps i))

-- ---- of a node, by what the code reads of it

evals_node : (declared is_body : Bool) (t : Tree) → free_evals_in declared is_body t ≡ cond (is_reference (kind_of t)) (free_eval declared (number_in t) (parts_in t)) (free_evals_from (declared_in declared is_body (kind_of t) (number_in t) (parts_in t)) (is_body_part (kind_of t)) 0 (members_of (kind_of t)) (parts_in t))
evals_node declared is_body (Node kind m span semantic_id ps) = refl

pub evals_here : (declared is_body : Bool) (t : Tree) → true ≡ is_reference (kind_of t) → free_evals_in declared is_body t ≡ free_eval declared (number_in t) (parts_in t)
evals_here declared is_body t is = evals_node declared is_body t ∙ ap (λ b. cond b (free_eval declared (number_in t) (parts_in t)) (free_evals_from (declared_in declared is_body (kind_of t) (number_in t) (parts_in t)) (is_body_part (kind_of t)) 0 (members_of (kind_of t)) (parts_in t))) (sym is)

pub evals_below : (declared is_body : Bool) (t : Tree) → false ≡ is_reference (kind_of t) → free_evals_in declared is_body t ≡ free_evals_from (declared_in declared is_body (kind_of t) (number_in t) (parts_in t)) (is_body_part (kind_of t)) 0 (members_of (kind_of t)) (parts_in t)
evals_below declared is_body t is = evals_node declared is_body t ∙ ap (λ b. cond b (free_eval declared (number_in t) (parts_in t)) (free_evals_from (declared_in declared is_body (kind_of t) (number_in t) (parts_in t)) (is_body_part (kind_of t)) 0 (members_of (kind_of t)) (parts_in t))) (sym is)

pub reference_kind : (kind : Kind) → true ≡ is_reference kind → kind ≡ Kind.IdentifierReference
reference_kind Kind.IdentifierReference e = refl
reference_kind kind e = absurd (cc)

-- ---- as many parts as members

pub shapes_length : (fs : List Field) (ps : List code.Part) → have_shapes fs ps ≡ true → length ps ≡ length fs
shapes_length [] [] h = refl
shapes_length [] (p ∷ ps) h = absurd (cc)
shapes_length (f ∷ fs) [] h = absurd (cc)
shapes_length (f ∷ fs) (p ∷ ps) h = ap suc (shapes_length fs ps (right_of (has_shape f.sort p) _ h))

any_field : Field
any_field = record { name = []; sort = Sort.Child Place.Program }

pub next_evals : (declared bodies : ℕ → Bool) (fs : List Field) (i : ℕ) (p : Part) (ps : Parts) → i < length fs
    → free_evals_from declared bodies i (drop i fs) (more p ps) ≡ free_evals_at (declared i) (bodies i) p ++ free_evals_from declared bodies (i + 1) (drop (i + 1) fs) ps
next_evals declared bodies fs i p ps below = at_drop_more (λ (xs : List Field). free_evals_from declared bodies i xs (more p ps)) fs i any_field below

-- ---- where no reference is spelled so

neither : (a b : Bool) → (a || b) ≡ false → (a ≡ false) × (b ≡ false)
neither true b e = absurd (cc)
neither false b e = (refl, e)

spells_eval-append : (ts us : List Tree) → spells_eval (ts ++ us) ≡ (spells_eval ts || spells_eval us)
spells_eval-append [] us = refl
spells_eval-append (t ∷ ts) us = ap (λ b. is_eval_reference t || b) (spells_eval-append ts us) ∙ grouped (is_eval_reference t) (spells_eval ts) (spells_eval us)
  where
    grouped : (a b c : Bool) → (a || (b || c)) ≡ ((a || b) || c)
    grouped true b c = refl
    grouped false b c = refl

both_apart : (ts us : List Tree) → spells_eval (ts ++ us) ≡ false → (spells_eval ts ≡ false) × (spells_eval us ≡ false)
both_apart ts us e = neither (spells_eval ts) (spells_eval us) (sym (spells_eval-append ts us) ∙ e)

and_false : (b : Bool) → (b && false) ≡ false
and_false true = refl
and_false false = refl

unspelled_node : (kind : Kind) (declared : Bool) (m : ℕ) (ps : Parts) (below : List ℕ) → (is_reference kind && bytes_eq (codes "eval") (string_of (at 0 ps))) ≡ false → below ≡ [] → cond (is_reference kind) (free_eval declared m ps) below ≡ []
unspelled_node kind declared m ps below here none = by (is_reference kind) (bytes_eq (codes "eval") (string_of (at 0 ps))) here
  where
    by : (r e : Bool) → (r && e) ≡ false → cond r (cond (not declared && e) (m ∷ []) []) below ≡ []
    by true true h = absurd (cc)
    by true false h = ap (λ b. cond b (m ∷ []) []) (and_false (not declared))
    by false e h = none

nothing_joined : (ms ns : List ℕ) → ms ≡ [] → ns ≡ [] → ms ++ ns ≡ []
nothing_joined ms ns e f = ap (λ (ks : List ℕ). ks ++ ns) e ∙ f

mutual
  pub unspelled : (declared is_body : Bool) (t : Tree) → spells_eval (preorder t) ≡ false → free_evals_in declared is_body t ≡ []
  unspelled declared is_body (Node kind m span semantic_id ps) h =
      let parts = neither (is_reference kind && bytes_eq (codes "eval") (string_of (at 0 ps))) (spells_eval (preorder_of ps)) h in
      unspelled_node kind declared m ps (free_evals_from (declared_in declared is_body kind m ps) (is_body_part kind) 0 (members_of kind) ps) parts.0 (unspelled_from (declared_in declared is_body kind m ps) (is_body_part kind) 0 (members_of kind) ps parts.1)

  unspelled_from : (declared bodies : ℕ → Bool) (i : ℕ) (fs : List Field) (ps : Parts) → spells_eval (preorder_of ps) ≡ false → free_evals_from declared bodies i fs ps ≡ []
  unspelled_from declared bodies i fs end h = refl
  unspelled_from declared bodies i [] (more p ps) h = refl
  unspelled_from declared bodies i (f ∷ fs) (more p ps) h =
      let both = both_apart (preorder_of_part p) (preorder_of ps) h in
      nothing_joined (free_evals_at (declared i) (bodies i) p) (free_evals_from declared bodies (i + 1) fs ps) (unspelled_at (declared i) (bodies i) p both.0) (unspelled_from declared bodies (i + 1) fs ps both.1)

  unspelled_at : (declared is_body : Bool) (p : Part) → spells_eval (preorder_of_part p) ≡ false → free_evals_at declared is_body p ≡ []
  unspelled_at declared is_body (child t) h = unspelled declared is_body t h
  unspelled_at declared is_body absent h = refl
  unspelled_at declared is_body (list ps) h = unspelled_of declared ps h
  unspelled_at declared is_body (string s) h = refl
  unspelled_at declared is_body no_string h = refl
  unspelled_at declared is_body (boolean b) h = refl
  unspelled_at declared is_body (literal v) h = refl

  unspelled_of : (declared : Bool) (ps : Parts) → spells_eval (preorder_of ps) ≡ false → free_evals_of declared ps ≡ []
  unspelled_of declared end h = refl
  unspelled_of declared (more p ps) h =
      let both = both_apart (preorder_of_part p) (preorder_of ps) h in
      nothing_joined (free_evals_at declared false p) (free_evals_of declared ps) (unspelled_at declared false p both.0) (unspelled_of declared ps both.1)
