-- Names that are read twice: what the kind of a node says, and its parts one by one.
use Rattle.std.proofs.Common.{◌≡◌, refl, ap, sym, ◌∙◌, ℕ, suc, ◌+◌, ◌<◌, arith, List, ◌∷◌, length, drop, drop-cons, get_or, Bool, true, false, ◌&&◌, ◌||◌, Option, Some, None}
use Rattle.es_base.specs.Tree.{Tree, Part, Parts, Node, more, child, absent, boolean}
use Rattle.es_base.specs.declared.kind.Kind.{Kind}
use Rattle.es_node.specs.View.{kind_of, number_in, parts_in, part_of, parts_of}
use Rattle.es_node.specs.declared.node.Part as code
use Rattle.es_steps.specs.LoweredClasses.{referent_of, is_written_binding}
use Rattle.es_steps.specs.References.{Reference, has_number}
use Rattle.es_steps.specs.Shapes.{is_written_name, private_object, super_key, moved_in, is_private_function, reads_twice, reads_twice_in, reads_twice_at}
use Rattle.es_steps.specs.Values.{Referent, Bound, Free}
use Rattle.es_steps.specs.declared.options.Options.{Options}
use Rattle.es_shapes.specs.Names.{bound_number}
use Rattle.es_shapes.specs.Twice.{reads_twice_here, is_super_kind}

pub reads_twice_node : (o : Options) (written : List ℕ) (references : List Reference) (moved of_method : Bool) (t : Tree)
    → reads_twice o written references moved of_method t ≡ (reads_twice_here o written references moved t || reads_twice_in o written references (moved_in o moved of_method (kind_of t) (parts_in t)) (is_private_function (kind_of t) (parts_in t)) (parts_in t))
reads_twice_node o written references moved of_method (Node kind m span semantic_id ps) = refl

-- ---- the parts from the i-th on

module _ (o : Options) (written : List ℕ) (references : List Reference) (moved of_method : ℕ → Bool) where
  abbrev pub from : ℕ → Parts → Bool
  from i ps = reads_twice_in o written references (λ k. moved (i + k)) (λ k. of_method (i + k)) ps

  first : (i : ℕ) → (i + 0) ≡ i
  first i = omega arith

  later : (i k : ℕ) → (i + suc k) ≡ ((i + 1) + k)
  later i k = omega arith

  pub next_part : (i : ℕ) (p : Part) (ps : Parts) → from i (more p ps) ≡ (reads_twice_at o written references (moved i) (of_method i) p || from (i + 1) ps)
  next_part i p ps =
      ap (λ k. reads_twice_at o written references (moved k) (of_method k) p || reads_twice_in o written references (λ j. moved (i + suc j)) (λ j. of_method (i + suc j)) ps) (first i)
      ∙ ap (λ (f : ℕ → ℕ). reads_twice_at o written references (moved i) (of_method i) p || reads_twice_in o written references (λ j. moved (f j)) (λ j. of_method (f j)) ps) (λ x j. later i j x)

  pub all_parts : (ps : Parts) → from 0 ps ≡ reads_twice_in o written references moved of_method ps
  all_parts ps = ap (λ (f : ℕ → ℕ). reads_twice_in o written references (λ j. moved (f j)) (λ j. of_method (f j)) ps) (λ x j. same j x)
    where
      same : (j : ℕ) → (0 + j) ≡ j
      same j = omega arith

  -- the part at a place of a list
  pub passes_over : (parts : List code.Part) (i : ℕ) (p : code.Part) → i < length parts → p ≡ get_or parts i p → (a b : Bool) → a ≡ moved i → b ≡ of_method i → (found : Bool) → found ≡ reads_twice_at o written references a b (part_of p)
      → from i (parts_of (drop i parts)) ≡ (found || from (i + 1) (parts_of (drop (i + 1) parts)))
  passes_over parts i p below is a b is_moved is_method found e =
      let next : i + 1 ≡ suc i = omega arith in
      let split : drop i parts ≡ (p ∷ drop (i + 1) parts) = drop-cons parts i p below ∙ ap (λ u. u ∷ drop (suc i) parts) (sym is) ∙ ap (λ k. p ∷ drop k parts) (sym next) in
      let same : found ≡ reads_twice_at o written references (moved i) (of_method i) (part_of p) = e ∙ ap (λ c. reads_twice_at o written references c b (part_of p)) is_moved ∙ ap (λ c. reads_twice_at o written references (moved i) c (part_of p)) is_method in
      ap (λ ps. from i (parts_of ps)) split
      ∙ next_part i (part_of p) (parts_of (drop (i + 1) parts))
      ∙ ap (λ c. c || from (i + 1) (parts_of (drop (i + 1) parts))) (sym same)

-- ---- what the kind of a node says

pub moved_as_around : (o : Options) (moved of_method : Bool) (kind : Kind) (ps : Parts) (i : ℕ) → (kind ≡ Kind.FunctionDeclaration → ⊥) → (kind ≡ Kind.FunctionExpression → ⊥) → (kind ≡ Kind.PropertyDefinition → ⊥) → (kind ≡ Kind.StaticBlock → ⊥) → moved_in o moved of_method kind ps i ≡ moved
moved_as_around o moved of_method Kind.FunctionDeclaration ps i declaration expression field block = absurd (declaration refl)
moved_as_around o moved of_method Kind.FunctionExpression ps i declaration expression field block = absurd (expression refl)
moved_as_around o moved of_method Kind.PropertyDefinition ps i declaration expression field block = absurd (field refl)
moved_as_around o moved of_method Kind.StaticBlock ps i declaration expression field block = absurd (block refl)
moved_as_around o moved of_method kind ps i declaration expression field block = refl

pub no_method : (kind : Kind) (ps : Parts) (i : ℕ) → (kind ≡ Kind.MethodDefinition → ⊥) → is_private_function kind ps i ≡ false
no_method Kind.MethodDefinition ps i other = absurd (other refl)
no_method kind ps i other = refl

pub no_twice : (o : Options) (written : List ℕ) (references : List Reference) (moved : Bool) (t : Tree) → (kind_of t ≡ Kind.AssignmentExpression → ⊥) → (kind_of t ≡ Kind.UpdateExpression → ⊥) → (kind_of t ≡ Kind.CallExpression → ⊥) → (kind_of t ≡ Kind.TaggedTemplateExpression → ⊥) → (kind_of t ≡ Kind.PrivateField → ⊥) → reads_twice_here o written references moved t ≡ false
no_twice o written references moved (Node Kind.AssignmentExpression m span semantic_id ps) assignment update call tag field = absurd (assignment refl)
no_twice o written references moved (Node Kind.UpdateExpression m span semantic_id ps) assignment update call tag field = absurd (update refl)
no_twice o written references moved (Node Kind.CallExpression m span semantic_id ps) assignment update call tag field = absurd (call refl)
no_twice o written references moved (Node Kind.TaggedTemplateExpression m span semantic_id ps) assignment update call tag field = absurd (tag refl)
no_twice o written references moved (Node Kind.PrivateField m span semantic_id ps) assignment update call tag field = absurd (field refl)
no_twice o written references moved (Node kind m span semantic_id ps) assignment update call tag field = refl

pub no_private : (t : Tree) → (kind_of t ≡ Kind.PrivateField → ⊥) → private_object (child t) ≡ absent
no_private (Node Kind.PrivateField m span semantic_id ps) other = absurd (other refl)
no_private (Node kind m span semantic_id ps) other = refl

pub no_member : (t : Tree) → (kind_of t ≡ Kind.MemberExpression → ⊥) → super_key (child t) ≡ absent
no_member (Node Kind.MemberExpression m span semantic_id ps) other = absurd (other refl)
no_member (Node kind m span semantic_id ps) other = refl

abbrev key_if : Bool → Tree → Part
key_if true t = child t
key_if false t = absent

pub member_key : (m : ℕ) (span : Option (ℕ × ℕ)) (semantic_id : Option ℕ) (object key : Tree) (computed : Bool) (rest : Parts) → super_key (child (Node Kind.MemberExpression m span semantic_id (more (child object) (more (child key) (more (boolean computed) rest))))) ≡ key_if (is_super_kind (kind_of object) && computed) key
member_key m span semantic_id (Node Kind.Super n s i ps) key true rest = refl
member_key m span semantic_id (Node Kind.Super n s i ps) key false rest = refl
member_key m span semantic_id (Node kind n s i ps) key computed rest = refl

pub no_name : (written : List ℕ) (references : List Reference) (t : Tree) → (kind_of t ≡ Kind.IdentifierReference → ⊥) → is_written_name written references (child t) ≡ false
no_name written references (Node Kind.IdentifierReference m span semantic_id ps) other = absurd (other refl)
no_name written references (Node kind m span semantic_id ps) other = refl

-- a binding by its number
abbrev is_in : List ℕ → Option ℕ → Bool
is_in written None = false
is_in written (Some b) = has_number b written

by_binding : (written : List ℕ) (r : Option Referent) → is_written_binding written r ≡ is_in written (bound_number r)
by_binding written None = refl
by_binding written (Some (Bound b)) = refl
by_binding written (Some (Free s)) = refl

pub written_name : (written : List ℕ) (references : List Reference) (t : Tree) (b : Option ℕ) → kind_of t ≡ Kind.IdentifierReference → b ≡ bound_number (referent_of (number_in t) references) → is_written_name written references (child t) ≡ is_in written b
written_name written references (Node Kind.IdentifierReference m span semantic_id ps) b is e = by_binding written (referent_of m references) ∙ ap (is_in written) (sym e)
written_name written references (Node kind m span semantic_id ps) b is e = absurd (cc)
