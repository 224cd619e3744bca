-- In a program that is left as it is the default export stands where it stands.
use Rattle.std.specs.Prelude.{◌≡◌, ℕ, List, [], ◌∷◌, ◌++◌, Bool, true, false, cond, not, ◌||◌}
use Rattle.std.proofs.Common.{refl}
use Rattle.std.proofs.lemmas.Bool.{and_parts}
use Rattle.es_base.specs.Numbered.{is_new}
use Rattle.es_base.specs.Tree.{Tree, Part, Parts, Node, end, more, child}
use Rattle.es_base.specs.declared.kind.Kind.{Kind}
use Rattle.es_lowered.specs.DefaultExport.{statement_numbers, running_here, holds, running_up_to, up_to, is_default, declares_default, default_stays}
use Rattle.es_steps.specs.KeptNodes.{are_new_or_among}
use Rattle.es_steps.specs.Meaning.{body_of}
use Rattle.es_steps.specs.References.{has_number}
use Rattle.es_left.proofs.Booleans.{both}
use Rattle.es_unchanged.proofs.ClassNames.{in-left, in-right}
use Rattle.es_unchanged.proofs.Names.{new-or-among}
use Rattle.es_unchanged.proofs.Standing.{or_with}

module _ (first : ℕ) where
  both-among : (ms ns ks : List ℕ) → are_new_or_among first ms ns ≡ true → are_new_or_among first ms ks ≡ true → are_new_or_among first ms (ns ++ ks) ≡ true
  both-among ms [] ks a b = b
  both-among ms (n ∷ ns) ks a b =
      let parts = and_parts (is_new first n || has_number n ms) (are_new_or_among first ms ns) a in
      both parts.0 (both-among ms ns ks parts.1 b)

  among-more : (ls ms ns : List ℕ) → are_new_or_among first ms ns ≡ true → are_new_or_among first (ls ++ ms) ns ≡ true
  among-more ls ms [] a = refl
  among-more ls ms (n ∷ ns) a =
      let parts = and_parts (is_new first n || has_number n ms) (are_new_or_among first ms ns) a in
      both (or_with (is_new first n) (in-right n ls ms) parts.0) (among-more ls ms ns parts.1)

  running-among : (p : Part) (ms : List ℕ) → are_new_or_among first (statement_numbers p ++ ms) (running_here p) ≡ true
  running-among (child (Node Kind.FunctionDeclaration m span semantic_id ps)) ms = refl
  running-among p ms = new-or-among first (statement_numbers p ++ ms) (statement_numbers p) (λ m i. in-left m (statement_numbers p) ms i)

  front-among : (ps : Parts) → are_new_or_among first (up_to ps) (running_up_to ps) ≡ true
  front-among end = refl
  front-among (more p ps) = both-among _ (running_here p) _ (running-among p _) (rest (is_default p) (front-among ps))
    where
      rest : (b : Bool) → are_new_or_among first (up_to ps) (running_up_to ps) ≡ true → are_new_or_among first (statement_numbers p ++ cond b [] (up_to ps)) (cond b [] (running_up_to ps)) ≡ true
      rest true a = refl
      rest false a = among-more (statement_numbers p) (up_to ps) (running_up_to ps) a

  pub default-stays : (t : Tree) → default_stays first t t ≡ true
  default-stays t = exported (holds is_default (body_of t))
    where
      exported : (b : Bool) → cond b (are_new_or_among first (up_to (body_of t)) (running_up_to (body_of t))) (not b || holds declares_default (body_of t)) ≡ true
      exported true = front-among (body_of t)
      exported false = refl
