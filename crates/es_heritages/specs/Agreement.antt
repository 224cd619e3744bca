-- Which heritages have events, by their form and by their evaluation.
use Rattle.std.specs.Prelude.{◌≡◌, ℕ, suc, List, [], ◌∷◌, ◌++◌, Bool, true, cond, not, ◌&&◌, Option, Some, None}
use Rattle.es_base.specs.Tree.{Tree, Part, Parts, Node, end, more, child, list}
use Rattle.es_steps.specs.Code.{Code, class_code, and}
use Rattle.es_steps.specs.Evaluation.{Run, gives, is_none, ev_all}
use Rattle.es_steps.specs.Meaning.{start, source_terms, source_means, has_meaning}
use Rattle.es_steps.specs.Opening.{gather, definitions, opening}
use Rattle.es_steps.specs.Parts.{at, is_present}
use Rattle.es_steps.specs.PrivateNames.{is_class}
use Rattle.es_steps.specs.Quiet.{Around, nothing_around, inside}
use Rattle.es_steps.specs.Reading.{read}
use Rattle.es_steps.specs.Shapes.{heritage_has_events}
use Rattle.es_steps.specs.Values.{Undefined}
use Rattle.es_steps.specs.declared.options.Options.{Options}

-- ---- by form: the classes of a program that have a heritage, in preorder

module _ (o : Options) (program : Tree) where
  abbrev mutual
    pub formed : Around → Tree → List (ℕ × Bool)
    formed a (Node kind m span semantic_id ps) = cond (is_class kind && is_present (at 1 ps)) ((m, heritage_has_events o program a kind ps) ∷ []) [] ++ formed_in (inside a kind ps) ps

    pub formed_in : (ℕ → Around) → Parts → List (ℕ × Bool)
    formed_in a end = []
    formed_in a (more p ps) = formed_at (a 0) p ++ formed_in (λ i. a (suc i)) ps

    pub formed_at : Around → Part → List (ℕ × Bool)
    formed_at a (child t) = formed a t
    formed_at a (list ps) = formed_of a ps
    formed_at a p = []

    pub formed_of : Around → Parts → List (ℕ × Bool)
    formed_of a end = []
    formed_of a (more p ps) = formed_at a p ++ formed_of a ps

abbrev pub heritages_by_form : Options → Tree → List (ℕ × Bool)
heritages_by_form o t = formed o t nothing_around t

-- ---- by evaluation, which has events where it has no meaning

abbrev pub ran : Option Run → Bool
ran None = true
ran (Some r) = not (is_none r.events)

abbrev pub evaluated_by : Code → Code → List (ℕ × Bool)
evaluated_by program (class_code n declared (and h hs) es) = (n, ran (ev_all (opening (definitions program)) (and h hs) (λ vs. gives Undefined) [])) ∷ []
evaluated_by program c = []

abbrev pub heritages_by_evaluation : Options → Tree → List (ℕ × Bool)
heritages_by_evaluation o t = let c : Code = read (start (source_terms o t) t) t in gather (evaluated_by c) c

-- both give these, and the program has a meaning
abbrev pub HasHeritages : Options → Tree → List (ℕ × Bool) → Type 0
HasHeritages o t heritages = (heritages_by_form o t ≡ heritages) × (heritages_by_evaluation o t ≡ heritages) × (has_meaning (source_means o t) ≡ true)
