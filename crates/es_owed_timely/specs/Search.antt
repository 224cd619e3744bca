-- The marks that code looks for, as definitions have them.
use Rattle.std.specs.Prelude.{ℕ, List, [], ◌∷◌, Bool, true, false, Option}
use Rattle.es_base.specs.Tree.{Tree, Part, Parts}
use Rattle.es_base.specs.declared.kind.Kind.{Kind}
use Rattle.es_lowered.specs.ClassNames.{is_asked}
use Rattle.es_lowered.specs.Timely as spec
use Rattle.es_lowered.specs.Timely.{Around, Mark, MarkForm, is_named}
use Rattle.es_seen_names.specs.PrivateMembers.{private_members_of}
use Rattle.es_steps.specs.Values.{String}
use Rattle.es_owed_timely.specs.declared.search.Asked.{Asked}
use Rattle.es_owed_timely.specs.declared.terms.Search.{Search}

-- of a node
abbrev pub has_node : String → List ℕ → Bool
has_node s [] = false
has_node s (n ∷ ns) = true

abbrev pub asked_by : Asked → String → List ℕ → Bool
asked_by (Asked.Generated ledger) = is_named ledger.now
asked_by (Asked.Nodes numbers) = is_asked numbers.now
asked_by Asked.AnyNode = has_node

abbrev pub one : Around → MarkForm → String → List ℕ → Mark
one x form s ns = record { name = s; node = ns; form = form; around = x }

abbrev pub called_around : Around → Around
called_around x = record x { later = x.called }

module _ (s : Search) where
  abbrev pub mark : Around → MarkForm → String → List ℕ → List Mark
  mark = spec.mark s.first s.ledger.now (private_members_of s.members.now) (asked_by s.asked) s.leading.now

  abbrev pub declared_mark : Around → Option MarkForm → Part → List Mark
  declared_mark = spec.declared_mark s.first s.ledger.now (private_members_of s.members.now) (asked_by s.asked) s.leading.now

  abbrev pub initialized_mark : Around → Part → Part → List Mark
  initialized_mark = spec.initialized_mark s.first s.ledger.now (private_members_of s.members.now) (asked_by s.asked) s.leading.now

  abbrev pub marks_before : Around → Kind → ℕ → Parts → List Mark
  marks_before = spec.marks_before s.first s.ledger.now (private_members_of s.members.now) (asked_by s.asked) s.leading.now

  abbrev pub marks_behind : Around → Option MarkForm → Kind → ℕ → Parts → List Mark
  marks_behind = spec.marks_behind s.first s.ledger.now (private_members_of s.members.now) (asked_by s.asked) s.leading.now

  abbrev pub marks : Around → Option MarkForm → Tree → List Mark
  marks = spec.marks s.first s.ledger.now (private_members_of s.members.now) (asked_by s.asked) s.leading.now

  abbrev pub marks_in : Bool → Bool → (ℕ → Around) → (ℕ → Bool) → Option MarkForm → Parts → List Mark
  marks_in = spec.marks_in s.first s.ledger.now (private_members_of s.members.now) (asked_by s.asked) s.leading.now

  -- of a part that is no list of elements
  abbrev pub marks_at : Around → Option MarkForm → Part → List Mark
  marks_at = spec.marks_at s.first s.ledger.now (private_members_of s.members.now) (asked_by s.asked) s.leading.now false

  abbrev pub marks_of : Around → Option MarkForm → Parts → List Mark
  marks_of = spec.marks_of s.first s.ledger.now (private_members_of s.members.now) (asked_by s.asked) s.leading.now

  abbrev pub key_marks : Around → Parts → List Mark
  key_marks = spec.key_marks s.first s.ledger.now (private_members_of s.members.now) (asked_by s.asked) s.leading.now

  abbrev pub value_marks : Bool → Around → Parts → List Mark
  value_marks = spec.value_marks s.first s.ledger.now (private_members_of s.members.now) (asked_by s.asked) s.leading.now

  abbrev pub let_form : Kind → ℕ → Parts → Option MarkForm
  let_form = spec.let_form s.first s.ledger.now (private_members_of s.members.now) (asked_by s.asked) s.leading.now

  abbrev pub is_given : Kind → Parts → ℕ → Bool
  is_given = spec.is_given s.first s.ledger.now (private_members_of s.members.now) (asked_by s.asked) s.leading.now
