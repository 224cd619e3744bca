-- What it is for a program to have no node that is not as the form asks.
use Rattle.std.proofs.Common.{◌≡◌, refl, sym, ap, ◌∙◌, ℕ, List, [], ◌∷◌, ◌++◌, Bool, true, false, cond, Option, Some, None, option_map, true≢false}
use Rattle.std.specs.Prelude.{not, ◌&&◌}
use Rattle.es_base.specs.Preorder.{preorder, number_of}
use Rattle.es_base.specs.Tree.{Tree}
use Rattle.es_base.specs.declared.ids.NodeId.{NodeId}
use Rattle.es_steps.specs.FirstForm.{breaches, is_first_form, least, not_yet}
use Rattle.es_steps.specs.LoweredClasses.{is_lowered_kind, kind_of, none_lowered, nothing_left}
use Rattle.es_steps.specs.declared.options.Options.{Options}
use Rattle.es_left.specs.Left.{first_left, first_lowered}
use Rattle.class_properties.specs.Options.{defines_fields}
use Rattle.lower_run.specs.FirstForm.{IsOfForm, not_yet_lowered}

abbrev is_there : Option ℕ → Bool
is_there None = true
is_there (Some k) = false

some_none : {k : Option ℕ} {l : ℕ} → k ≡ Some l → is_there k ≡ false
some_none e = ap is_there e

none_least : (ns : List ℕ) → None ≡ least ns → ns ≡ []
none_least [] e = refl
none_least (n ∷ ns) e = absurd (true≢false (some_none e))

both_none : (xs ys : List ℕ) → xs ++ ys ≡ [] → (xs ≡ []) × (ys ≡ [])
both_none [] ys e = (refl, e)
both_none (x ∷ xs) ys e = cc

-- no number is the least
none_of_form : (t : Tree) (foreign : List ℕ) → None ≡ not_yet t foreign → (foreign ≡ []) × (is_first_form t [] ≡ true)
none_of_form t foreign none =
    let empty = both_none (breaches t) foreign (none_least (breaches t ++ foreign) none) in
    (empty.1, rw empty.0 refl)

-- nothing is left where no node is the first
none-left : (o : Options) (ts : List Tree) → None ≡ first_lowered o ts → none_lowered o ts ≡ true
none-left o [] none = refl
none-left o (t ∷ ts) none = by (is_lowered_kind o (kind_of t)) (none-left o ts) none
  where
    by : (b : Bool) → (None ≡ first_lowered o ts → none_lowered o ts ≡ true) → None ≡ cond b (Some (number_of t)) (first_lowered o ts) → (not b && none_lowered o ts) ≡ true
    by true rest none = absurd (true≢false (some_none none))
    by false rest none = rest none

-- no node says why a program with something to lower is not lowered
pub none-of_form : (o : Options) (t : Tree) (foreign : List ℕ) (r : Option NodeId) → nothing_left o t ≡ false → r ≡ None → option_map (λ n. n.0) r ≡ not_yet_lowered o t foreign → IsOfForm o t foreign
none-of_form o t foreign r some none e = by (defines_fields o) refl (ap (option_map (λ (n : NodeId). n.0)) (sym none) ∙ e)
  where
    by : (b : Bool) → defines_fields o ≡ b → None ≡ cond b (not_yet t foreign) (first_left o t) → IsOfForm o t foreign
    by true defines none = let form = none_of_form t foreign none in (defines, form.0, form.1)
    by false defines none = absurd (true≢false (sym (none-left o (preorder t) none) ∙ some))
