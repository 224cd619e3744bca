-- Without generated names nothing in a program is marked, so each name stands in time.
use Rattle.std.proofs.Common.{◌≡◌, refl, ℕ, suc, List, [], ◌++◌, Bool, true, false, cond, Option, Some, None}
use Rattle.es_base.specs.Preorder.{preorder}
use Rattle.es_base.specs.Tree.{Tree, Part, Parts, Node, end, more, child, list}
use Rattle.es_base.specs.declared.kind.Kind.{Kind}
use Rattle.es_lowered.specs.HelperCalls.{is_class_body, runs_with_class}
use Rattle.es_steps.specs.Parts.{at}
use Rattle.es_steps.specs.PrivateNames.{PrivateMember, is_element}
use Rattle.es_lowered.specs.Timely.{MarkForm, is_named, leading_lets, nowhere, is_same, Mark, Around, declared_mark, initialized_mark, marks_before, marks_behind, marks, marks_in, marks_at, marks_of, around_in, is_given, let_form, is_called_arrow, key_marks, value_marks, names_timely}

abbrev Unmarked : List Mark → Type 0
Unmarked ms = ms ≡ []

unless-unmarked : (b : Bool) (ms : List Mark) → Unmarked ms → Unmarked (cond b [] ms)
unless-unmarked true ms h = refl
unless-unmarked false ms h = h

either-unmarked : (last : Bool) (own rest : List Mark) → Unmarked own → Unmarked rest → Unmarked (cond last (rest ++ own) (own ++ rest))
either-unmarked true own rest h i = rw (h, i) refl
either-unmarked false own rest h i = rw (h, i) refl

unless-neither : (b : Bool) (ms : List Mark) → Unmarked ms → Unmarked (cond b ms [])
unless-neither true ms h = h
unless-neither false ms h = refl

-- no name is asked for
abbrev none_asked : List ℕ → List ℕ → Bool
none_asked = is_named []

module _ (first : ℕ) (members : List PrivateMember) (leading : List ℕ) where
  declared-unmarked : (x : Around) (b : Option MarkForm) (id : Part) → Unmarked (declared_mark first [] members none_asked leading x b id)
  declared-unmarked x (Some form) id = refl
  declared-unmarked x None id = refl

  initialized-unmarked : (x : Around) (id p : Part) → Unmarked (initialized_mark first [] members none_asked leading x id p)
  initialized-unmarked x id (child t) = refl
  initialized-unmarked x id p = refl

  before-unmarked : (x : Around) (kind : Kind) (m : ℕ) (ps : Parts) → Unmarked (marks_before first [] members none_asked leading x kind m ps)
  before-unmarked x Kind.IdentifierReference m ps = refl
  before-unmarked x Kind.ClassDeclaration m ps = refl
  before-unmarked x Kind.ClassExpression m ps = refl
  before-unmarked x Kind.FunctionDeclaration m ps = refl
  before-unmarked x kind m ps = refl

  behind-unmarked : (x : Around) (in_let : Option MarkForm) (kind : Kind) (m : ℕ) (ps : Parts) → Unmarked (marks_behind first [] members none_asked leading x in_let kind m ps)
  behind-unmarked x in_let Kind.AssignmentExpression m ps = refl
  behind-unmarked x in_let Kind.VariableDeclarator m ps = rw (declared-unmarked x in_let (at 0 ps), initialized-unmarked x (at 0 ps) (at 1 ps)) refl
  behind-unmarked x in_let Kind.ClassDeclaration m ps = refl
  behind-unmarked x in_let Kind.ClassExpression m ps = refl
  behind-unmarked x in_let kind m ps = refl

  mutual
    tree-unmarked : (x : Around) (in_let : Option MarkForm) (t : Tree) → Unmarked (marks first [] members none_asked leading x in_let t)
    tree-unmarked x in_let (Node kind m span semantic_id ps) =
        rw (before-unmarked x kind m ps, parts-unmarked (is_called_arrow kind ps) (is_class_body kind) (around_in first [] x kind m ps) (is_given first [] members none_asked leading kind ps) (let_form first [] members none_asked leading kind m ps) ps, behind-unmarked x in_let kind m ps) refl

    parts-unmarked : (last is_body : Bool) (x : ℕ → Around) (given : ℕ → Bool) (in_let : Option MarkForm) (ps : Parts) → Unmarked (marks_in first [] members none_asked leading last is_body x given in_let ps)
    parts-unmarked last is_body x given in_let end = refl
    parts-unmarked last is_body x given in_let (more p ps) =
        either-unmarked last _ _
        (unless-unmarked (given 0) (marks_at first [] members none_asked leading is_body (x 0) in_let p) (part-unmarked is_body (x 0) in_let p))
        (parts-unmarked false is_body (λ i. x (suc i)) (λ i. given (suc i)) in_let ps)

    part-unmarked : (is_body : Bool) (x : Around) (in_let : Option MarkForm) (p : Part) → Unmarked (marks_at first [] members none_asked leading is_body x in_let p)
    part-unmarked is_body x in_let (child t) = tree-unmarked x in_let t
    part-unmarked true x in_let (list ps) = rw (keys-unmarked x ps, values-unmarked false x ps, values-unmarked true x ps) refl
    part-unmarked false x in_let (list ps) = list-unmarked x in_let ps
    part-unmarked true x in_let p = refl
    part-unmarked false x in_let p = refl

    list-unmarked : (x : Around) (in_let : Option MarkForm) (ps : Parts) → Unmarked (marks_of first [] members none_asked leading x in_let ps)
    list-unmarked x in_let end = refl
    list-unmarked x in_let (more p ps) = rw (part-unmarked false x in_let p, list-unmarked x in_let ps) refl

    keys-unmarked : (x : Around) (ps : Parts) → Unmarked (key_marks first [] members none_asked leading x ps)
    keys-unmarked x end = refl
    keys-unmarked x (more (child (Node kind m span semantic_id (more k ps))) es) =
        rw (unless-neither (is_element kind) (marks_at first [] members none_asked leading false (around_in first [] x kind m (more k ps) 0) None k) (part-unmarked false (around_in first [] x kind m (more k ps) 0) None k), keys-unmarked x es) refl
    keys-unmarked x (more p es) = keys-unmarked x es

    values-unmarked : (runs : Bool) (x : Around) (ps : Parts) → Unmarked (value_marks first [] members none_asked leading runs x ps)
    values-unmarked runs x end = refl
    values-unmarked runs x (more (child (Node kind m span semantic_id (more k ps))) es) =
        let key : List Mark = marks_at first [] members none_asked leading false (around_in first [] x kind m (more k ps) 0) None k in
        let rest : List Mark = marks_in first [] members none_asked leading false false (λ i. around_in first [] x kind m (more k ps) (suc i)) (λ i. false) None ps in
        rw (
          unless-neither (is_same runs (runs_with_class (child (Node kind m span semantic_id (more k ps))))) (cond (is_element kind) [] key ++ rest)
              (rw (unless-unmarked (is_element kind) key (part-unmarked false (around_in first [] x kind m (more k ps) 0) None k), parts-unmarked false false (λ i. around_in first [] x kind m (more k ps) (suc i)) (λ i. false) None ps) refl),
          values-unmarked runs x es,
        ) refl
    values-unmarked runs x (more p es) = values-unmarked runs x es

pub names-timely : (first : ℕ) (members : List PrivateMember) (q : Tree) → names_timely first [] members q ≡ true
names-timely first members q = rw (tree-unmarked first members (leading_lets (preorder q)) nowhere None q) refl
