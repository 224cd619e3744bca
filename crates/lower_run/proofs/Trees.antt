-- What is written of a program that was made of a valid one.
use Rattle.std.proofs.Common.{◌≡◌, refl, sym, ap, ◌∙◌, ℕ, List, map, true, true≢false}
use Rattle.serde_json.specs.Written.{compact_text}
use Rattle.es_base.specs.Conforms.{conforms}
use Rattle.es_base.specs.Preorder.{numbered_from}
use Rattle.es_base.specs.Tree.{Tree, Node}
use Rattle.es_base.specs.declared.diagnostic.Diagnostic.{Diagnostic}
use Rattle.es_base.specs.declared.kind.Kind.{Kind}
use Rattle.es_base.specs.declared.ledger.LedgerEntry.{LedgerEntry}
use Rattle.es_base.specs.declared.shape.Shape.{Shape}
use Rattle.es_base.specs.declared.table.Place.{Place}
use Rattle.es_node.specs.View.{kind_of}
use Rattle.es_steps.specs.Shapes.{shapes}
use Rattle.es_steps.specs.Told.{warnings_of}
use Rattle.es_steps.specs.declared.options.Options.{Options}
use Rattle.es_writing.specs.Kept.{IsKept}
use Rattle.es_writing.specs.Lowered.{write_lowered}
use Rattle.lower_edge.specs.Lines.{line}
use Rattle.lower_run.proofs.Rising.{warnings-arranged}
use Rattle.lower_run.proofs.Written.{IsWrittenSo, written-text}
use Rattle.lower_run.specs.Lowering.{Making}
use Rattle.lower_run.specs.Outcome.{IsLoweredTree, IsTextOf}

pub lowered-text : (Makes : Making) (o : Options) (t : Tree) (foreign : List ℕ) (r : Tree) (names : List LedgerEntry) (warnings : List Diagnostic) (outside : List Shape) (text : List ℕ)
    → t ≡ numbered_from 0 t → map (λ d. d.node.0) warnings ≡ warnings_of o t → outside ≡ shapes o t
    → conforms Place.Program r ≡ true → Makes o t foreign names r → IsKept r → IsTextOf text r names warnings outside → IsLoweredTree Makes o t foreign text
lowered-text Makes o t foreign r names warnings outside text turn told shaped fits made kept of =
    let so : IsWrittenSo text r names warnings outside = written-text text r names warnings outside of (λ ordered arranged. warnings-arranged o t warnings ordered turn told arranged) in record {
      q = r;
      names = names;
      ordered = so.ordered;
      warnings = warnings;
      written = so.written ∙ ap (λ all. line (compact_text (write_lowered r so.ordered warnings all))) shaped;
      arranged = so.arranged;
      program = fits;
      kept = kept;
      names_kept = so.names_kept;
      warnings_kept = so.kept;
      warned = told;
      made = made;
    }

-- what stands as a program is one
pub program-kind : (t : Tree) → conforms Place.Program t ≡ true → kind_of t ≡ Kind.Program
program-kind (Node Kind.Program m span semantic_id ps) f = refl
program-kind (Node kind m span semantic_id ps) f = absurd (true≢false (sym f))
