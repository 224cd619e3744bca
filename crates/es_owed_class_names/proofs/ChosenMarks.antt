-- The marks that are asked for, chosen among those of all nodes.
use Rattle.std.proofs.Common.{◌≡◌, refl, sym, ap, ap₂, ◌∙◌, ℕ, suc, List, [], ◌∷◌, ◌++◌, filter, Bool, true, false, cond, ◌&&◌, Option, Some, None}
use Rattle.std.proofs.lemmas.List.Elements.{filter-append}
use Rattle.es_base.specs.Tree.{Tree, Part, Parts, Node, end, more, child, list}
use Rattle.es_base.specs.declared.kind.Kind.{Kind}
use Rattle.es_lowered.specs.Definitions.{spelling}
use Rattle.es_lowered.specs.HelperCalls.{is_class_body, runs_with_class}
use Rattle.es_lowered.specs.Timely as spec
use Rattle.es_lowered.specs.Timely.{Around, Mark, MarkForm, around_in, hoists, initializes, is_called_arrow, is_same, use_around, use_form}
use Rattle.es_steps.specs.Context.{generated_as}
use Rattle.es_steps.specs.Parts.{at, string_of}
use Rattle.es_steps.specs.PrivateNames.{is_element}
use Rattle.es_steps.specs.Values.{String}

-- of those that all ask for, those that some ask for
module _ (first : ℕ) (some all : String → List ℕ → Bool) (less : (s : String) (ns : List ℕ) → some s ns ≡ (all s ns && some s ns)) where
  abbrev pub is_chosen : Mark → Bool
  is_chosen m = some m.name m.node

  abbrev pub chosen : List Mark → List Mark
  chosen ms = filter is_chosen ms

  one : (x : Around) (form : MarkForm) (s : String) (ns : List ℕ) → spec.mark first [] [] some [] x form s ns ≡ chosen (spec.mark first [] [] all [] x form s ns)
  one x form s ns = here (all s ns) (less s ns)
    where
      r : Mark
      r = record { name = s; node = ns; form = form; around = x }

      here : (b : Bool) → some s ns ≡ (b && some s ns) → cond (some s ns) (r ∷ []) [] ≡ chosen (cond b (r ∷ []) [])
      here true e = refl
      here false e = ap (λ c. cond c (r ∷ []) []) e

  two : (xs ys cs ds : List Mark) → xs ≡ chosen cs → ys ≡ chosen ds → xs ++ ys ≡ chosen (cs ++ ds)
  two xs ys cs ds left right = ap₂ (λ us vs. us ++ vs) left right ∙ sym (filter-append is_chosen cs ds)

  either : (b : Bool) (xs ys cs ds : List Mark) → xs ≡ chosen cs → ys ≡ chosen ds → cond b xs ys ≡ chosen (cond b cs ds)
  either true xs ys cs ds left right = left
  either false xs ys cs ds left right = right

  declared : (x : Around) (in_let : Option MarkForm) (id : Part) → spec.declared_mark first [] [] some [] x in_let id ≡ chosen (spec.declared_mark first [] [] all [] x in_let id)
  declared x (Some form) id = one x form (spelling id) []
  declared x None id = refl

  initialized : (x : Around) (id p : Part) → spec.initialized_mark first [] [] some [] x id p ≡ chosen (spec.initialized_mark first [] [] all [] x id p)
  initialized x id (child t) = one x initializes (spelling id) []
  initialized x id p = refl

  before : (x : Around) (kind : Kind) (m : ℕ) (ps : Parts) → spec.marks_before first [] [] some [] x kind m ps ≡ chosen (spec.marks_before first [] [] all [] x kind m ps)
  before x Kind.IdentifierReference m ps = one (use_around (generated_as (string_of (at 0 ps)) []) x) (use_form (generated_as (string_of (at 0 ps)) [])) (string_of (at 0 ps)) (m ∷ [])
  before x Kind.FunctionDeclaration m ps = one x hoists (spelling (at 0 ps)) []
  before x kind m ps = refl

  behind : (x : Around) (in_let : Option MarkForm) (kind : Kind) (m : ℕ) (ps : Parts) → spec.marks_behind first [] [] some [] x in_let kind m ps ≡ chosen (spec.marks_behind first [] [] all [] x in_let kind m ps)
  behind x in_let Kind.AssignmentExpression m ps = one x initializes (spelling (at 1 ps)) []
  behind x in_let Kind.VariableDeclarator m ps =
      two (spec.declared_mark first [] [] some [] x in_let (at 0 ps)) (spec.initialized_mark first [] [] some [] x (at 0 ps) (at 1 ps)) (spec.declared_mark first [] [] all [] x in_let (at 0 ps)) (spec.initialized_mark first [] [] all [] x (at 0 ps) (at 1 ps))
      (declared x in_let (at 0 ps)) (initialized x (at 0 ps) (at 1 ps))
  behind x in_let Kind.ClassDeclaration m ps = one x initializes [] (m ∷ [])
  behind x in_let Kind.ClassExpression m ps = one x initializes [] (m ∷ [])
  behind x in_let kind m ps = refl

  mutual
    pub of_tree : (x : Around) (in_let : Option MarkForm) (t : Tree) → spec.marks first [] [] some [] x in_let t ≡ chosen (spec.marks first [] [] all [] x in_let t)
    of_tree x in_let (Node kind m span semantic_id ps) =
        let inner : (String → List ℕ → Bool) → List Mark = λ asked. spec.marks_in first [] [] asked [] (is_called_arrow kind ps) (is_class_body kind) (around_in first [] x kind m ps) (spec.is_given first [] [] asked [] kind ps) (spec.let_form first [] [] asked [] kind m ps) ps in
        two (spec.marks_before first [] [] some [] x kind m ps ++ inner some) (spec.marks_behind first [] [] some [] x in_let kind m ps) (spec.marks_before first [] [] all [] x kind m ps ++ inner all) (spec.marks_behind first [] [] all [] x in_let kind m ps)
        (two (spec.marks_before first [] [] some [] x kind m ps) (inner some) (spec.marks_before first [] [] all [] x kind m ps) (inner all)
        (before x kind m ps)
        (of_parts (is_called_arrow kind ps) (is_class_body kind) (around_in first [] x kind m ps) (spec.is_given first [] [] some [] kind ps) (spec.let_form first [] [] some [] kind m ps) ps))
        (behind x in_let kind m ps)

    of_parts : (last is_body : Bool) (x : ℕ → Around) (given : ℕ → Bool) (in_let : Option MarkForm) (ps : Parts) → spec.marks_in first [] [] some [] last is_body x given in_let ps ≡ chosen (spec.marks_in first [] [] all [] last is_body x given in_let ps)
    of_parts last is_body x given in_let end = refl
    of_parts last is_body x given in_let (more p ps) =
        let own : (String → List ℕ → Bool) → List Mark = λ asked. cond (given 0) [] (spec.marks_at first [] [] asked [] is_body (x 0) in_let p) in
        let rest : (String → List ℕ → Bool) → List Mark = λ asked. spec.marks_in first [] [] asked [] false is_body (λ i. x (suc i)) (λ i. given (suc i)) in_let ps in
        let same_own : own some ≡ chosen (own all) = either (given 0) [] (spec.marks_at first [] [] some [] is_body (x 0) in_let p) [] (spec.marks_at first [] [] all [] is_body (x 0) in_let p) refl (of_part is_body (x 0) in_let p) in
        let same_rest : rest some ≡ chosen (rest all) = of_parts false is_body (λ i. x (suc i)) (λ i. given (suc i)) in_let ps in
        either last (rest some ++ own some) (own some ++ rest some) (rest all ++ own all) (own all ++ rest all)
        (two (rest some) (own some) (rest all) (own all) same_rest same_own)
        (two (own some) (rest some) (own all) (rest all) same_own same_rest)

    of_part : (is_body : Bool) (x : Around) (in_let : Option MarkForm) (p : Part) → spec.marks_at first [] [] some [] is_body x in_let p ≡ chosen (spec.marks_at first [] [] all [] is_body x in_let p)
    of_part is_body x in_let (child t) = of_tree x in_let t
    of_part false x in_let (list ps) = of_list x in_let ps
    of_part true x in_let (list ps) =
        let own : (String → List ℕ → Bool) → List Mark = λ asked. spec.mark first [] [] asked [] x initializes x.class_name [] in
        let keys : (String → List ℕ → Bool) → List Mark = λ asked. spec.key_marks first [] [] asked [] x ps in
        let values : Bool → (String → List ℕ → Bool) → List Mark = λ runs asked. spec.value_marks first [] [] asked [] runs x ps in
        two (keys some) (own some ++ (values false some ++ values true some)) (keys all) (own all ++ (values false all ++ values true all))
        (of_keys x ps)
        (two (own some) (values false some ++ values true some) (own all) (values false all ++ values true all)
        (one x initializes x.class_name [])
        (two (values false some) (values true some) (values false all) (values true all) (of_values false x ps) (of_values true x ps)))
    of_part is_body x in_let p = refl

    of_list : (x : Around) (in_let : Option MarkForm) (ps : Parts) → spec.marks_of first [] [] some [] x in_let ps ≡ chosen (spec.marks_of first [] [] all [] x in_let ps)
    of_list x in_let end = refl
    of_list x in_let (more p ps) =
        two (spec.marks_at first [] [] some [] false x in_let p) (spec.marks_of first [] [] some [] x in_let ps) (spec.marks_at first [] [] all [] false x in_let p) (spec.marks_of first [] [] all [] x in_let ps)
        (of_part false x in_let p) (of_list x in_let ps)

    of_keys : (x : Around) (ps : Parts) → spec.key_marks first [] [] some [] x ps ≡ chosen (spec.key_marks first [] [] all [] x ps)
    of_keys x end = refl
    of_keys x (more (child (Node kind m span semantic_id (more k ps))) es) =
        let here : Around = around_in first [] x kind m (more k ps) 0 in
        let key : (String → List ℕ → Bool) → List Mark = λ asked. spec.marks_at first [] [] asked [] false here None k in
        two (cond (is_element kind) (key some) []) (spec.key_marks first [] [] some [] x es) (cond (is_element kind) (key all) []) (spec.key_marks first [] [] all [] x es)
        (either (is_element kind) (key some) [] (key all) [] (of_part false here None k) refl)
        (of_keys x es)
    of_keys x (more p es) = of_keys x es

    of_values : (runs : Bool) (x : Around) (ps : Parts) → spec.value_marks first [] [] some [] runs x ps ≡ chosen (spec.value_marks first [] [] all [] runs x ps)
    of_values runs x end = refl
    of_values runs x (more (child (Node kind m span semantic_id (more k ps))) es) =
        let here : ℕ → Around = around_in first [] x kind m (more k ps) in
        let key : (String → List ℕ → Bool) → List Mark = λ asked. cond (is_element kind) [] (spec.marks_at first [] [] asked [] false (here 0) None k) in
        let rest : (String → List ℕ → Bool) → List Mark = λ asked. spec.marks_in first [] [] asked [] false false (λ i. here (suc i)) (λ i. false) None ps in
        let is_one : Bool = is_same runs (runs_with_class (child (Node kind m span semantic_id (more k ps)))) in
        two (cond is_one (key some ++ rest some) []) (spec.value_marks first [] [] some [] runs x es) (cond is_one (key all ++ rest all) []) (spec.value_marks first [] [] all [] runs x es)
        (either is_one (key some ++ rest some) [] (key all ++ rest all) []
        (two (key some) (rest some) (key all) (rest all)
        (either (is_element kind) [] (spec.marks_at first [] [] some [] false (here 0) None k) [] (spec.marks_at first [] [] all [] false (here 0) None k) refl (of_part false (here 0) None k))
        (of_parts false false (λ i. here (suc i)) (λ i. false) None ps))
        refl)
        (of_values runs x es)
    of_values runs x (more p es) = of_values runs x es
