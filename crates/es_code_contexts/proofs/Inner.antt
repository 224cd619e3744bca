-- The context of a part, made of what is seen there and what is known around, is that of the definitions.
use Rattle.std.proofs.Common.{◌≡◌, refl, sym, ap, ap₂, ◌∙◌, Bor, ℕ, List, ◌++◌, Option, option_map, cond}
use Rattle.es_base.specs.Preorder.{number_of}
use Rattle.es_base.specs.Tree.{Node, Parts, Tree}
use Rattle.es_base.specs.declared.kind.Kind.{Kind}
use Rattle.es_node.specs.View.{kind_of, number_in, parts_in}
use Rattle.es_seen_names.specs.Declarations.{declarations}
use Rattle.es_seen_names.specs.PrivateMembers.{private_members_of}
use Rattle.es_seen_names.specs.Frames.{names_in, privates_in}
use Rattle.es_steps.specs.Context as spec
use Rattle.es_steps.specs.PrivateNames.{PrivateMember, seen_members}
use Rattle.es_steps.specs.References.{names_around, takes_vars}
use Rattle.es_steps.specs.Scopes.{Declaration, names_at}
use Rattle.es_code_reading.specs.Contexts.{Seen, context_of, context_with, seen_in, where_seen}
use Rattle.es_code_reading.specs.declared.context.Around.{Around}
use Rattle.es_code_reading.specs.declared.context.Terms.{Terms}
use Rattle.es_code_reading.specs.declared.context.Context.{Context}
use Rattle.es_code_contexts.specs.Inside.{IsInside}
use Rattle.es_code_contexts.specs.declared.inside.Inside.{Inside}

abbrev seen_there : spec.Context → Seen
seen_there x = record { names = x.names; privates = x.privates; uncaught = x.uncaught; around = x.around }

same_seen : (s t : Seen) → s.names ≡ t.names → s.privates ≡ t.privates → s.uncaught ≡ t.uncaught → s.around ≡ t.around → s ≡ t
same_seen s t names privates uncaught around =
    ap₂ (λ (n : List Declaration) (p : List PrivateMember). record { names = n; privates = p; uncaught = s.uncaught; around = s.around }) names privates
    ∙ ap₂ (λ (u : List Declaration) (a : Option (List Declaration)). record { names = t.names; privates = t.privates; uncaught = u; around = a }) uncaught around

seen_alike : (x : spec.Context) (s : Seen) → s ≡ seen_there x → where_seen s x ≡ x
seen_alike x s same = ap (λ z. where_seen z x) same

pub seen_inside : (c d : Context) (kind : Kind) (m : ℕ) (ps : Parts) (i : ℕ)
    → names_in d.names ≡ (spec.inner_name kind m ps i ++ names_at c.around.is_body kind m ps i) ++ names_in c.names
    → privates_in d.privates ≡ seen_members kind m ps i ++ privates_in c.privates
    → names_in d.uncaught ≡ names_around c.around.is_body kind m ps i ++ cond (takes_vars kind) (names_in c.names) (names_in c.uncaught)
    → option_map names_in d.block ≡ spec.around_inside (context_of c) kind
    → context_of d ≡ where_seen (seen_in d) (spec.inside (context_of c) kind m ps i)
    → context_of d ≡ spec.inside (context_of c) kind m ps i
seen_inside c d kind m ps i names privates uncaught block known =
    known ∙ seen_alike (spec.inside (context_of c) kind m ps i) (seen_in d) (same_seen (seen_in d) (seen_there (spec.inside (context_of c) kind m ps i)) names privates uncaught block)

pub context_inside : (s : Inside) (c d : Context) (t : Tree)
    → names_in d.names ≡ declarations s.names.list.items ++ names_in c.names
    → privates_in d.privates ≡ private_members_of s.members.items ++ privates_in c.privates
    → (uncaught : List Declaration) → names_in d.uncaught ≡ declarations s.names_around.list.items ++ uncaught
    → option_map names_in d.block ≡ spec.around_inside (context_of c) (kind_of t)
    → c.terms ≡ d.terms → d.around ≡ s.around
    → (i : ℕ) → IsInside s c t i → uncaught ≡ cond (takes_vars (kind_of t)) (names_in c.names) (names_in c.uncaught)
    → context_of d ≡ spec.inside (context_of c) (kind_of t) (number_in t) (parts_in t) i
context_inside s c d t names privates uncaught seen_uncaught block terms around i h is_uncaught =
    seen_inside c d (kind_of t) (number_in t) (parts_in t) i
    (names ∙ ap (λ (ds : List Declaration). ds ++ names_in c.names) h.names)
    (privates ∙ ap (λ (ms : List PrivateMember). ms ++ privates_in c.privates) h.members)
    (seen_uncaught ∙ ap₂ (λ (ds es : List Declaration). ds ++ es) h.names_around is_uncaught)
    block
    (ap₂ (λ (x : Bor Terms) (y : Around). context_with x.now (seen_in d) y) (sym terms) around ∙ h.around (seen_in d))

pub number_there : (t : Tree) → number_in t ≡ number_of t
number_there (Node kind m span semantic_id ps) = refl
