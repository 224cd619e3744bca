use Rattle.std.proofs.Common.{◌≡◌, ◌∙◌, ap, List, Bor}
use Rattle.es_base.specs.Tree.{Tree}
use Rattle.es_binding_faults.specs.Seen.{seen}
use Rattle.es_grouped.specs.Groups.{group, having}
use Rattle.es_lowered.specs.Texts.{is_literal_among, is_string_among}
use Rattle.es_node.specs.View.{parts_of}
use Rattle.es_generated.specs.Spellings.{spelling_number}
use Rattle.es_steps.specs.Parts.{at}
use Rattle.es_owed_texts.specs.TextNumbers.{numbered_texts, text_of}
use Rattle.es_owed_texts.proofs.CopiedTexts.{literal_by_text, string_by_text}
use Rattle.es_owed_texts.proofs.written.Written.like.Goals as goal

pub returns-clause-literal : goal.returns-clause-literal
returns-clause-literal c =
    let x = c.args.self.now in
    let qs = parts_of c.args.parts.now in
    let found : c.get.result.now ≡ having (spelling_number x.texts (text_of (at 0 qs))) (numbered_texts x.texts x.listed.now.nodes.items) =
    c.get.ensures
    ∙ ap (λ m. group m x.by_text) (c.spelling_number.ensures ∙ ap (spelling_number x.texts) c.text_at.ensures)
    ∙ x.are_by_text (spelling_number x.texts (text_of (at 0 qs))) in
    ap (λ (ts : List (Bor Tree)). is_literal_among qs (seen ts)) found ∙ literal_by_text x.texts qs x.listed.now.nodes.items

pub returns-clause-string : goal.returns-clause-string
returns-clause-string c =
    let x = c.args.self.now in
    let qs = parts_of c.args.parts.now in
    let found : c.get.result.now ≡ having (spelling_number x.texts (text_of (at 0 qs))) (numbered_texts x.texts x.listed.now.nodes.items) =
    c.get.ensures
    ∙ ap (λ m. group m x.by_text) (c.spelling_number.ensures ∙ ap (spelling_number x.texts) c.text_at.ensures)
    ∙ x.are_by_text (spelling_number x.texts (text_of (at 0 qs))) in
    ap (λ (ts : List (Bor Tree)). is_string_among qs (seen ts)) found ∙ string_by_text x.texts qs x.listed.now.nodes.items
