-- The laws of meanings, as the contracts of src/law.rt name them.
use Rattle.std.specs.Prelude.{◌≡◌, ℕ, List, [], ◌∷◌, true, false, codes, Option, Some, None}
use Rattle.es_base.specs.Carried.{stripped}
use Rattle.es_base.specs.Conforms.{conforms}
use Rattle.es_base.specs.Numbered.{EachOnce, numbers}
use Rattle.es_base.specs.Preorder.{renumbered}
use Rattle.es_base.specs.Tree.{Tree, Node, end, more, child, list, string, boolean, trees}
use Rattle.es_base.specs.declared.kind.Kind.{Kind}
use Rattle.es_base.specs.declared.table.Place.{Place}
use Rattle.es_steps.specs.Code.{Opened}
use Rattle.es_steps.specs.Context.{Context, a_function, new_here, generated_as}
use Rattle.es_steps.specs.Evaluation.{Evaluation, ev, bind, settle, event}
use Rattle.es_steps.specs.Events.{Define}
use Rattle.es_steps.specs.FirstForm.{is_first_form}
use Rattle.es_steps.specs.GeneratedForms.{known_object}
use Rattle.es_steps.specs.Meaning.{Meaning, Terms, means, source_means, has_meaning}
use Rattle.es_steps.specs.PrivateNames.{private_members, resolve_privates}
use Rattle.es_steps.specs.Reading.{read}
use Rattle.es_steps.specs.References.{declared}
use Rattle.es_steps.specs.SameMeanings.{same_meanings}
use Rattle.es_steps.specs.Standing.{meaning_numbers, terms_numbers, all_old}
use Rattle.es_steps.specs.Values.{Value, ResultOf, as_key}
use Rattle.es_steps.specs.declared.options.Options.{Options}

-- meanings that are found to differ are not equal
abbrev pub DifferenceLaw : Type 0
DifferenceLaw = (a b : Option Meaning) → same_meanings a b ≡ false → a ≡ b → ⊥

-- semantic ids are no part of a meaning
abbrev pub SemanticIdsLaw : Type 0
SemanticIdsLaw = (o : Terms) (t : Tree) → means o (stripped t) ≡ means o t

-- nor of that of a source, whose terms are read from it
abbrev pub SourceSemanticIdsLaw : Type 0
SourceSemanticIdsLaw = (o : Options) (t : Tree) → source_means o (stripped t) ≡ source_means o t

-- nor of the private members, and of what private names mean
abbrev pub PrivateSemanticIdsLaw : Type 0
PrivateSemanticIdsLaw = (t : Tree) → (private_members (stripped t) ≡ private_members t) × (resolve_privates (stripped t) ≡ resolve_privates t)

-- giving the new nodes their numbers anew, in preorder, keeps a meaning, if none of them stands in it or in its terms
abbrev pub RenumberingLaw : Type 0
RenumberingLaw = (o : Terms) (t : Tree) (m : Meaning) → EachOnce (numbers t) → all_old o.first_new (terms_numbers o) ≡ true → means o t ≡ Some m → all_old o.first_new (meaning_numbers m) ≡ true → means o (renumbered o.first_new o.first_new t) ≡ Some m

-- a program of the table's grammar that is of the first form has a meaning, under all options
abbrev pub FirstFormLaw : Type 0
FirstFormLaw = (o : Options) (t : Tree) (foreign : List ℕ) → conforms Place.Program t ≡ true → is_first_form t foreign ≡ true → has_meaning (source_means o t) ≡ true

-- `babelHelpers.defineProperty(o, k, v)`, the name `babelHelpers` having number b
abbrev pub define_call : (m m2 b n : ℕ) → Tree → Tree → Tree → Tree
define_call m m2 b n o k v =
    Node Kind.CallExpression m None None (more (child (Node Kind.MemberExpression m2 None None (more (child (Node Kind.IdentifierReference b None None (more (string (codes "babelHelpers")) end))) (more (child (Node Kind.IdentifierName n None None (more (string (codes "defineProperty")) end))) (more (boolean false) (more (boolean false) end)))))) (more (list (trees (o ∷ k ∷ v ∷ []))) (more (boolean false) end)))

-- the list of the key, that of the value, and the definition; the value is the result of the call
abbrev pub key_value_define : ℕ → Value → Evaluation → Evaluation → Evaluation
key_value_define m w k v = settle (bind k (λ a. bind v (λ c. event (Define w (as_key a) c) (ResultOf m))))

-- the context inside a call
abbrev pub in_call : Context → Context
in_call c = record c { role = a_function; is_body = false; around = None }

-- a call of the helper `defineProperty` on an object that is known does so, where the helpers' name is new, free and not
-- generated
abbrev pub DefineLaw : Type 0
DefineLaw = (opens : Opened → Evaluation) (c : Context) (m m2 b n : ℕ) (o k v : Tree) (w : Value) → new_here c b ≡ true → declared (codes "babelHelpers") c.names ≡ None → generated_as (codes "babelHelpers") c.ledger ≡ None → known_object (read (in_call c) o) ≡ Some w → ev opens (read c (define_call m m2 b n o k v)) ≡ key_value_define m w (ev opens (read (in_call c) k)) (ev opens (read (in_call c) v))
