-- Fields and their definitions, one by one.
use Rattle.std.proofs.Common.{◌≡◌, refl, sym, ap, ◌∙◌, ℕ, suc, List, [], ◌∷◌, ◌++◌, Bool, true, false, ◌&&◌, ◌||◌, length, Option, Some, None}
use Rattle.std.specs.Option.{option_to_list}
use Rattle.std.specs.Prelude.{not}
use Rattle.es_base.specs.Tree.{Tree, Node, child, trees}
use Rattle.es_base.specs.declared.ledger.LedgerEntry.{LedgerEntry}
use Rattle.es_lowered.specs.Definitions.{Names, all_fit, any_of, class_fits, classes_fit, defined_fields, key_fits, supers_stand, value_fits}
use Rattle.es_node.specs.View.{kind_of, number_in, parts_in}
use Rattle.es_owed_definitions.specs.Fields.{class_stands, element_views, if_defined, program_fits}
use Rattle.es_owed_definitions.specs.Views.{definition_view, definition_views}
use Rattle.es_owed_definitions.specs.declared.definition.FieldDefinition as code
use Rattle.es_owed_definitions.specs.declared.terms.Terms.{Terms}
use Rattle.es_shapes.specs.Classes.{element_view}
use Rattle.es_shapes.specs.declared.element.ElementRef.{ElementRef}
use Rattle.es_steps.specs.LoweredClasses.{Element, body_elements, element_of, elements_in, elements_of}
use Rattle.es_steps.specs.Parts.{at}
use Rattle.es_steps.specs.PrivateNames.{PrivateMember, is_class}
use Rattle.es_steps.specs.References.{Reference}
use Rattle.es_steps.specs.declared.options.Options.{Options}

-- ---- one element more

defined_one : (o : Options) (is_static : Bool) (e : Option Element) (es : List Element) → defined_fields o is_static (option_to_list e ++ es) ≡ if_defined o is_static e ++ defined_fields o is_static es
defined_one o is_static None es = refl
defined_one o is_static (Some e) es = refl

pub defined_more : (o : Options) (is_static : Bool) (e : Option Element) (t : Tree) (ts : List Tree) → option_to_list e ≡ element_of (child t) → defined_fields o is_static (elements_in (trees (t ∷ ts))) ≡ if_defined o is_static e ++ defined_fields o is_static (elements_in (trees ts))
defined_more o is_static e t ts is = ap (λ es. defined_fields o is_static (es ++ elements_in (trees ts))) (sym is) ∙ defined_one o is_static e (elements_in (trees ts))

any_one : (test : Element → Bool) (e : Option Element) (es : List Element) → any_of test (option_to_list e ++ es) ≡ (any_of test (option_to_list e) || any_of test es)
any_one test None es = refl
any_one test (Some e) es = here (test e)
  where
    here : (b : Bool) → (b || any_of test es) ≡ ((b || false) || any_of test es)
    here true = refl
    here false = refl

pub any_more : (test : Element → Bool) (e : Option Element) (t : Tree) (ts : List Tree) → option_to_list e ≡ element_of (child t) → any_of test (elements_in (trees (t ∷ ts))) ≡ (any_of test (option_to_list e) || any_of test (elements_in (trees ts)))
any_more test e t ts is = ap (λ es. any_of test (es ++ elements_in (trees ts))) (sym is) ∙ any_one test e (elements_in (trees ts))

-- ---- lists of two lengths

and_none : (a b : Bool) → b ≡ false → (a && b) ≡ false
and_none true b e = e
and_none false b e = refl

pub fit_differ : (x : Names) (n : ℕ) (es : List ElementRef) (ds : List code.FieldDefinition) → (length es ≡ length ds → ⊥) → all_fit x n (element_views es) (definition_views ds) ≡ false
fit_differ x n [] [] other = absurd (other refl)
fit_differ x n [] (d ∷ ds) other = refl
fit_differ x n (e ∷ es) [] other = refl
fit_differ x n (e ∷ es) (d ∷ ds) other = and_none (key_fits x n (element_view e) (definition_view d).key && value_fits (element_view e).value (definition_view d).value) (all_fit x n (element_views es) (definition_views ds)) (fit_differ x n es ds (λ same. other (ap (λ k. suc k) same)))

-- ---- classes

pub classes_more : (first : ℕ) (o : Options) (ledger : List LedgerEntry) (members : List PrivateMember) (p q t : Tree) (ts : List Tree) → classes_fit first o ledger members p q (t ∷ ts) ≡ (class_stands first o ledger members p q t && classes_fit first o ledger members p q ts)
classes_more first o ledger members p q (Node kind n span semantic_id ps) ts = refl

stands_node : (first : ℕ) (o : Options) (ledger : List LedgerEntry) (members : List PrivateMember) (p q t : Tree) → class_stands first o ledger members p q t ≡ (not (is_class (kind_of t)) || class_fits first o ledger members p q (number_in t) (elements_of (parts_in t)))
stands_node first o ledger members p q (Node kind n span semantic_id ps) = refl

pub class_here : (first : ℕ) (o : Options) (ledger : List LedgerEntry) (members : List PrivateMember) (p q t u : Tree) → is_class (kind_of t) ≡ true → at 2 (parts_in t) ≡ child u → class_stands first o ledger members p q t ≡ class_fits first o ledger members p q (number_in t) (body_elements (child u))
class_here first o ledger members p q t u is body = stands_node first o ledger members p q t ∙ ap (λ b. not b || class_fits first o ledger members p q (number_in t) (elements_of (parts_in t))) is ∙ ap (λ b. class_fits first o ledger members p q (number_in t) (body_elements b)) body

pub class_elsewhere : (first : ℕ) (o : Options) (ledger : List LedgerEntry) (members : List PrivateMember) (p q t : Tree) → is_class (kind_of t) ≡ false → class_stands first o ledger members p q t ≡ true
class_elsewhere first o ledger members p q t other = stands_node first o ledger members p q t ∙ ap (λ b. not b || class_fits first o ledger members p q (number_in t) (elements_of (parts_in t))) other

-- the same of what is the same
pub same_classes : (x : Terms) (members : List PrivateMember) (p p2 q : Tree) (ts us : List Tree) → p ≡ p2 → ts ≡ us
    → classes_fit x.first x.options.now x.ledger.now members p q ts ≡ classes_fit x.first x.options.now x.ledger.now members p2 q us
same_classes x members p p2 q ts us source nodes =
    ap (λ (z : Tree). classes_fit x.first x.options.now x.ledger.now members z q ts) source
    ∙ ap (λ (z : List Tree). classes_fit x.first x.options.now x.ledger.now members p2 q z) nodes

pub same_program : (x y : Terms) (ms ns : List PrivateMember) (p q r : Tree) → x ≡ y → ms ≡ ns → q ≡ r → program_fits x ms p q ≡ program_fits y ns p r
same_program x y ms ns p q r terms members lowered =
    ap (λ (z : Terms). program_fits z ms p q) terms
    ∙ ap (λ (z : List PrivateMember). program_fits y z p q) members
    ∙ ap (λ (z : Tree). program_fits y ns p z) lowered

-- what stands for `super(..)`, by the same references and nodes
pub same_supers : (x : Terms) (rs ss : List Reference) (ts us : List Tree) → rs ≡ ss → ts ≡ us
    → supers_stand x.first x.options.now x.ledger.now rs ts ≡ supers_stand x.first x.options.now x.ledger.now ss us
same_supers x rs ss ts us references nodes =
    ap (λ (z : List Reference). supers_stand x.first x.options.now x.ledger.now z ts) references
    ∙ ap (supers_stand x.first x.options.now x.ledger.now ss) nodes
