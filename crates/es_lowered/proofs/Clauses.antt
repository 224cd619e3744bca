-- What a lowered program owes is kept where its new numbers are given anew.
use Rattle.std.specs.Prelude.{◌≡◌, ℕ, List, map, Bool, true, None}
use Rattle.std.proofs.Common.{refl, sym, ap, ap₂, ◌∙◌}
use Rattle.std.proofs.lemmas.Bool.{and_parts}
use Rattle.std.proofs.lemmas.List.{map-append}
use Rattle.es_base.proofs.NumberedLemmas.{IsNumbered-renumbered}
use Rattle.es_base.specs.Numbered.{EachOnce, numbers, is_old, new_numbers}
use Rattle.es_base.specs.Preorder.{preorder, preorder_of, preorder_of_part, number_of, renumbered}
use Rattle.es_base.specs.Tree.{Tree, Part, Parts, Node, end, more, child, list}
use Rattle.es_base.specs.declared.ledger.LedgerEntry.{LedgerEntry}
use Rattle.es_lowered.specs.Definitions.{definitions_stand, all_temporaries, elements_kept}
use Rattle.es_lowered.specs.HelperCalls.{helper_calls_fit}
use Rattle.es_lowered.specs.KeptKeys.{keys_that_stay}
use Rattle.es_lowered.specs.Carriers.{numbers_carried}
use Rattle.es_steps.specs.KeptNodes.{nodes_kept, classes_kept, statements_kept, lists_kept, homes_kept}
use Rattle.es_lowered.specs.Law.{ClausesLaw}
use Rattle.es_lowered.specs.Lowered.{names_declared, declarations_accounted, initializations_stand, keys_stand}
use Rattle.es_lowered.specs.KeptReferences.{references_stay}
use Rattle.es_lowered.specs.OwnNames.{own_names_stay}
use Rattle.es_lowered.proofs.KeptReferencesMapped.{references_stay-mapped}
use Rattle.es_steps.specs.LoweredClasses.{nothing_left}
use Rattle.es_steps.specs.Printable.{stays_printable}
use Rattle.es_steps.specs.PrivateNames.{PrivateMember, private_members}
use Rattle.es_steps.specs.Standing.{all_numbers, ledger_numbers, all_pass, all_old}
use Rattle.es_steps.specs.Strict.{none_becomes_strict}
use Rattle.es_lowered.specs.Temporaries.{temporaries_steady}
use Rattle.es_lowered.specs.Texts.{texts_stay}
use Rattle.es_lowered.specs.Timely.{names_timely}
use Rattle.es_steps.proofs.StrictMapped.{none_becomes_strict-mapped}
use Rattle.es_lowered.proofs.TemporariesMapped.{temporaries_steady-mapped}
use Rattle.es_lowered.proofs.CarriersMapped.{numbers_carried-mapped}
use Rattle.es_lowered.proofs.TextsMapped.{texts_stay-mapped}
use Rattle.es_lowered.proofs.TimelyMapped.{names_timely-mapped}
use Rattle.es_steps.specs.declared.options.Options.{Options}
use Rattle.es_lowered.proofs.DefinitionsMapped.{definitions_stand-mapped, all_temporaries-mapped, elements_kept-mapped}
use Rattle.es_lowered.proofs.HelperCallsMapped.{helper_calls_fit-mapped}
use Rattle.es_lowered.proofs.KeptKeysMapped.{keys_that_stay-mapped}
use Rattle.es_steps.proofs.KeptNodesMapped.{nodes_kept-mapped, classes_kept-mapped, statements_kept-mapped, lists_kept-mapped, homes_kept-mapped}
use Rattle.es_lowered.proofs.LoweredMapped.{private_members-mapped, nothing_left-mapped, names_declared-mapped, declarations_accounted-mapped, initializations_stand-mapped, keys_stand-mapped}
use Rattle.es_steps.proofs.Mapped.{Renames, mapped, mapped_part, mapped_parts, mapped_ledger, mapped_privates}
use Rattle.es_lowered.proofs.OwnNamesMapped.{own_names_stay-mapped}
use Rattle.es_steps.proofs.PartsMapped.{preorder-mapped}
use Rattle.es_steps.proofs.PrintableMapped.{stays_printable-mapped}
use Rattle.es_steps.proofs.Renaming.{same, renaming, renaming-renames, renaming-renumbers, EachOnce-filter}
use Rattle.es_steps.proofs.Renumbering.{same-renames, anything, anything-passes}
use Rattle.es_steps.proofs.Still.{in_two, ledger-still}

-- ---- a tree whose numbers a change leaves

module _ (f : ℕ → ℕ) (test : ℕ → Bool) (still : (n : ℕ) → test n ≡ true → f n ≡ n) where
  mutual
    tree-still : (t : Tree) → all_pass test (map number_of (preorder t)) ≡ true → mapped f t ≡ mapped same t
    tree-still (Node kind m span semantic_id ps) all =
        let both = and_parts (test m) (all_pass test (map number_of (preorder_of ps))) all in
        ap₂ (λ n qs. Node kind n None None qs) (still m both.0) (parts-still ps both.1)

    part-still : (p : Part) → all_pass test (map number_of (preorder_of_part p)) ≡ true → mapped_part f p ≡ mapped_part same p
    part-still (child t) all = ap child (tree-still t all)
    part-still (list ps) all = ap list (parts-still ps all)
    part-still p all = refl

    parts-still : (ps : Parts) → all_pass test (map number_of (preorder_of ps)) ≡ true → mapped_parts f ps ≡ mapped_parts same ps
    parts-still end all = refl
    parts-still (more p ps) all =
        let both = in_two test (map number_of (preorder_of_part p)) (map number_of (preorder_of ps)) (ap (all_pass test) (sym (map-append number_of (preorder_of_part p) (preorder_of ps))) ∙ all) in
        ap₂ more (part-still p both.0) (parts-still ps both.1)

-- ---- a clause that no change of numbers changes is kept

abbrev Clause : Type 0
Clause = List LedgerEntry → Tree → Tree → Bool

abbrev Unchanging : ℕ → Clause → Type 0
Unchanging first clause = (f : ℕ → ℕ) → Renames first f → (ledger : List LedgerEntry) (p q : Tree) → clause (mapped_ledger f ledger) (mapped f p) (mapped f q) ≡ clause ledger p q

same_ledger : (ledger : List LedgerEntry) → mapped_ledger same ledger ≡ ledger
same_ledger ledger = ledger-still same anything (λ n e. refl) ledger (anything-passes (all_numbers ledger_numbers ledger))

module _ (first : ℕ) (ledger : List LedgerEntry) (p q : Tree) (once : EachOnce (numbers q)) (old : all_old first (numbers p) ≡ true) (generated : all_old first (all_numbers ledger_numbers ledger) ≡ true) where
  kept : (clause : Clause) → Unchanging first clause → clause ledger p q ≡ true → clause ledger p (renumbered first first q) ≡ true
  kept clause unchanging met =
      let f : ℕ → ℕ = renaming first (new_numbers first q) in
      let r : Renames first f = renaming-renames first (new_numbers first q) in
      let u : Tree = renumbered first first q in
      let source : mapped f p ≡ mapped same p = tree-still f (is_old first) r.old p old in
      let names : mapped_ledger f ledger ≡ ledger = ledger-still f (is_old first) r.old ledger generated in
      sym (unchanging same (same-renames first) ledger p u)
      ∙ ap (λ l. clause l (mapped same p) (mapped same u)) (same_ledger ledger ∙ sym names)
      ∙ ap₂ (clause (mapped_ledger f ledger)) (sym source) (sym (renaming-renumbers first q once))
      ∙ unchanging f r ledger p q
      ∙ met

-- ---- all clauses

module _ (first : ℕ) (o : Options) where
  initialized-unchanging : Unchanging first (λ l p q. initializations_stand first l p q l)
  initialized-unchanging f r l p q = initializations_stand-mapped r l p q l

  abbrev keys_clause : List LedgerEntry → List PrivateMember → Tree → List Tree → Bool
  keys_clause l ms q qs = keys_stand first o l ms q (all_temporaries first o l ms q qs)

  keys-unchanging : Unchanging first (λ l p q. keys_clause l (private_members p) q (preorder q))
  keys-unchanging f r l p q =
      ap₂ (λ ms qs. keys_clause (mapped_ledger f l) ms (mapped f q) qs) (private_members-mapped f p) (preorder-mapped f q)
      ∙ ap (keys_stand first o (mapped_ledger f l) (mapped_privates f (private_members p)) (mapped f q)) (all_temporaries-mapped r o l (private_members p) q (preorder q))
      ∙ keys_stand-mapped r o l (private_members p) q (all_temporaries first o l (private_members p) q (preorder q))

  definitions-unchanging : Unchanging first (λ l p q. definitions_stand first o l (private_members p) p q)
  definitions-unchanging f r l p q = ap (λ ms. definitions_stand first o (mapped_ledger f l) ms (mapped f p) (mapped f q)) (private_members-mapped f p) ∙ definitions_stand-mapped r o l (private_members p) p q

  elements-unchanging : Unchanging first (λ l p q. elements_kept o (preorder p) (preorder q))
  elements-unchanging f r l p q = ap₂ (elements_kept o) (preorder-mapped f p) (preorder-mapped f q) ∙ elements_kept-mapped r o (preorder p) (preorder q)

  timely-unchanging : Unchanging first (λ l p q. names_timely first l (private_members p) q)
  timely-unchanging f r l p q =
      ap (λ ms. names_timely first (mapped_ledger f l) ms (mapped f q)) (private_members-mapped f p) ∙ names_timely-mapped r l (private_members p) q

  temporaries-unchanging : Unchanging first (λ l p q. temporaries_steady first l (private_members p) q)
  temporaries-unchanging f r l p q = ap (λ ms. temporaries_steady first (mapped_ledger f l) ms (mapped f q)) (private_members-mapped f p) ∙ temporaries_steady-mapped r l (private_members p) q

  calls-unchanging : Unchanging first (λ l p q. helper_calls_fit first l (keys_that_stay first l p q) q)
  calls-unchanging f r l p q =
      ap (λ ks. helper_calls_fit first (mapped_ledger f l) ks (mapped f q)) (keys_that_stay-mapped r l p q)
      ∙ helper_calls_fit-mapped r l (keys_that_stay first l p q) q

  printable-unchanging : Unchanging first (λ l p q. stays_printable p q)
  printable-unchanging f r l p q = stays_printable-mapped r p q

pub clauses_law : ClausesLaw
clauses_law first o ledger p q once old generated met = record {
  numbered = IsNumbered-renumbered first q (EachOnce-filter (is_old first) (numbers q) once);
  clauses = record {
    left = kept first ledger p q once old generated (λ l p q. nothing_left o q) (λ f r l p q. nothing_left-mapped f o q) met.left;
    declared = kept first ledger p q once old generated (λ l p q. names_declared first l q) (λ f r l p q. names_declared-mapped r l q) met.declared;
    accounted = kept first ledger p q once old generated (declarations_accounted first) (λ f r l p q. declarations_accounted-mapped r l p q) met.accounted;
    names = kept first ledger p q once old generated own_names_stay (λ f r l p q. own_names_stay-mapped r l p q) met.names;
    references = kept first ledger p q once old generated (references_stay first o) (λ f r l p q. references_stay-mapped r o l p q) met.references;
    strict = kept first ledger p q once old generated (λ l p q. none_becomes_strict first p q) (λ f r l p q. none_becomes_strict-mapped r p q) met.strict;
    texts = kept first ledger p q once old generated (λ l p q. texts_stay first p q) (λ f r l p q. texts_stay-mapped r p q) met.texts;
    initialized = kept first ledger p q once old generated (λ l p q. initializations_stand first l p q l) (initialized-unchanging first o) met.initialized;
    timely = kept first ledger p q once old generated (λ l p q. names_timely first l (private_members p) q) (timely-unchanging first o) met.timely;
    temporaries = kept first ledger p q once old generated (λ l p q. temporaries_steady first l (private_members p) q) (temporaries-unchanging first o) met.temporaries;
    keys = kept first ledger p q once old generated (λ l p q. keys_clause first o l (private_members p) q (preorder q)) (keys-unchanging first o) met.keys;
    carriers = kept first ledger p q once old generated (λ l p q. numbers_carried first p q) (λ f r l p q. numbers_carried-mapped r p q) met.carriers;
    nodes = kept first ledger p q once old generated (λ l p q. nodes_kept p q) (λ f r l p q. nodes_kept-mapped r p q) met.nodes;
    classes = kept first ledger p q once old generated (λ l p q. classes_kept first p q) (λ f r l p q. classes_kept-mapped r p q) met.classes;
    statements = kept first ledger p q once old generated (λ l p q. statements_kept o p q) (λ f r l p q. statements_kept-mapped r o p q) met.statements;
    lists = kept first ledger p q once old generated (λ l p q. lists_kept o p q) (λ f r l p q. lists_kept-mapped r o p q) met.lists;
    homes = kept first ledger p q once old generated (λ l p q. homes_kept first o p q) (λ f r l p q. homes_kept-mapped r o p q) met.homes;
    definitions = kept first ledger p q once old generated (λ l p q. definitions_stand first o l (private_members p) p q) (definitions-unchanging first o) met.definitions;
    elements = kept first ledger p q once old generated (λ l p q. elements_kept o (preorder p) (preorder q)) (elements-unchanging first o) met.elements;
    calls = kept first ledger p q once old generated (λ l p q. helper_calls_fit first l (keys_that_stay first l p q) q) (calls-unchanging first o) met.calls;
    printable = kept first ledger p q once old generated (λ l p q. stays_printable p q) (printable-unchanging first o) met.printable;
  };
}
