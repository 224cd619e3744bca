-- What stands for an expression whose form no rule asks for.
use Rattle.std.specs.Prelude.{◌≡◌, ℕ, ◌&&◌}
use Rattle.std.proofs.Common.{◌∙◌, ap, sym, subst}
use Rattle.es_base.specs.Tree.{Tree}
use Rattle.es_steps.specs.Context.{Context}
use Rattle.es_steps.specs.Meaning.{start}
use Rattle.es_steps.specs.Reading.{read}
use Rattle.es_replacement.proofs.ReadingFilled.{unasked_law}
use Rattle.es_replacement.proofs.Replaced.{around_law}
use Rattle.es_replacement.specs.Law.{ApartLaw}
use Rattle.es_replacement.specs.TreeHoles.{TreeHole, top, within, put, behind, inside_with, context_at, code_around, is_head, SeenAlike, IsApart}
use Rattle.es_replacement.specs.Unasked.{head_open}

-- where the same is known around, the hole stands apart with the one as with the other
apart_moves : (c : Context) (hole : TreeHole) (t u : Tree) → SeenAlike c hole t u → IsApart c hole t → IsApart c hole u
apart_moves c top t u seen x = tt
apart_moves c (within kind m span semantic_id before place after top) t u seen x = x
apart_moves c (within kind m span semantic_id before place after (within kind2 m2 span2 semantic_id2 before2 place2 after2 hole)) t u seen x =
    let outer : TreeHole = within kind2 m2 span2 semantic_id2 before2 place2 after2 hole in
    let d : ℕ → Context = inside_with c kind m before place after outer t in
    let same : code_around (behind before d) outer t ≡ code_around (behind before d) outer u = (around_law (behind before d) outer t u seen.1).1 in
    let there : IsApart (behind before d) outer u = apart_moves (behind before d) (within kind2 m2 span2 semantic_id2 before2 place2 after2 hole) t u seen.1 x.1 in (
      ap (λ (y : ℕ → Context). is_head kind before && head_open (code_around (behind before y) outer u)) (sym seen.0) ∙ ap (λ q. is_head kind before && head_open q) (sym same) ∙ x.0,
      subst (λ (y : ℕ → Context). IsApart (behind before y) outer u) seen.0 there,
    )

pub apart_law : ApartLaw
apart_law names plain_ones o hole t u x =
    let c : Context = start o (put hole t) in
    let d : Context = start o (put hole u) in
    record {
      may = x.may;
      around = (around_law c hole t u x.seen).1 ∙ ap (λ y. code_around y hole u) x.started;
      admitted = x.admitted;
      before = unasked_law c hole t (read (context_at c hole t) t) x.before x.stands;
      after = unasked_law d hole u (read (context_at d hole u) u) x.after (subst (λ y. IsApart y hole u) x.started (apart_moves c hole t u x.seen x.stands));
      apart = x.apart;
      declared = x.declared;
    }
