-- The value of a node, put together.
use Rattle.std.proofs.Common.{◌≡◌, sym, ap, ap₂, ◌∙◌, ℕ, List, [], ◌++◌, Option, None, codes}
use Rattle.serde_json.specs.Data.{Data, object, Members, no_members}
use Rattle.es_base.specs.Tree.{Tree, Parts, Node}
use Rattle.es_base.specs.Table.{members_of}
use Rattle.es_base.specs.declared.kind.Kind.{Kind}
use Rattle.es_node.specs.View.{kind_of, number_in, span_in, parts_in}
use Rattle.es_writing.specs.Writing.{entry, put_all, type_of, number_of, kind_entries, more_entries, span_entries, write, write_fields}
use Rattle.es_writing.proofs.Preorder.{put_all_append}

one_more : (name : List ℕ) (d e : Data) (before now later : Members) → before ≡ now → d ≡ e → later ≡ put_all before (entry name d []) → later ≡ put_all now (entry name e [])
one_more name d e before now later same is generated = generated ∙ ap₂ (λ (ms : Members) x. put_all ms (entry name x [])) same is

consecutive : (kind : Kind) (id : ℕ) (span : Option (ℕ × ℕ)) (semantic_id : Option ℕ) (ps : Parts) (m2 m3 m4 m5 : Members)
    → m2 ≡ put_all no_members (entry (codes "type") (type_of kind ps) (entry (codes "node") (number_of id) []))
    → m3 ≡ put_all m2 (kind_entries kind ps (write_fields (members_of kind) ps))
    → m4 ≡ put_all m3 (more_entries kind ps)
    → m5 ≡ put_all m4 (span_entries span)
    → object m5 ≡ write (Node kind id span semantic_id ps)
consecutive kind id span semantic_id ps m2 m3 m4 m5 e2 e3 e4 e5 =
    let row = kind_entries kind ps (write_fields (members_of kind) ps) in
    let others = more_entries kind ps in
    let spans = span_entries span in
    ap object (
    e5
    ∙ ap (λ ms. put_all ms spans) e4
    ∙ sym (put_all_append m3 others spans)
    ∙ ap (λ ms. put_all ms (others ++ spans)) e3
    ∙ sym (put_all_append m2 row (others ++ spans))
    ∙ ap (λ ms. put_all ms (row ++ (others ++ spans))) e2
    )

pub node_written : (t : Tree) (kind : Kind) (id : ℕ) (span : Option (ℕ × ℕ)) (ps : Parts) (m0 m1 m2 m3 m4 m5 : Members) (named_as counted_as : Data)
    → kind ≡ kind_of t → id ≡ number_in t → span ≡ span_in t → parts_in t ≡ ps → m0 ≡ no_members
    → named_as ≡ type_of kind ps → m1 ≡ put_all m0 (entry (codes "type") named_as [])
    → counted_as ≡ number_of id → m2 ≡ put_all m1 (entry (codes "node") counted_as [])
    → m3 ≡ put_all m2 (kind_entries kind ps (write_fields (members_of kind) ps))
    → m4 ≡ put_all m3 (more_entries kind ps)
    → m5 ≡ put_all m4 (span_entries span)
    → object m5 ≡ write t
node_written t kind id span ps m0 m1 m2 m3 m4 m5 named_as counted_as kind_is id_is span_is same e0 named e1 numbered e2 e3 e4 e5 =
    let typed = one_more (codes "type") named_as (type_of kind ps) m0 no_members m1 e0 named e1 in
    let begun = one_more (codes "node") counted_as (number_of id) m1 (put_all no_members (entry (codes "type") (type_of kind ps) [])) m2 typed numbered e2 in
    consecutive kind id span None ps m2 m3 m4 m5 begun e3 e4 e5 ∙ whole t kind_is id_is span_is same
  where
    whole : (u : Tree) → kind ≡ kind_of u → id ≡ number_in u → span ≡ span_in u → parts_in u ≡ ps → write (Node kind id span None ps) ≡ write u
    whole (Node k i s m qs) a b c d =
        ap (λ x. write (Node x id span None ps)) a
        ∙ ap (λ x. write (Node k x span None ps)) b
        ∙ ap (λ x. write (Node k i x None ps)) c
        ∙ ap (λ x. write (Node k i s None x)) (sym d)
