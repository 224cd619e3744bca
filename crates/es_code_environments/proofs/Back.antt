-- Going back to the environment in front.
use Rattle.std.proofs.Common.{◌≡◌, refl, sym, ap, ◌∙◌, ℕ, zero, suc, ◌+◌, ◌-◌, length, drop, arith}
use Rattle.std.proofs.lemmas.List.{drop-drop, length-drop}
use Rattle.es_evaluation.specs.Direct.{kept}
use Rattle.es_steps.specs.Evaluation.{Environment}

drop_less : (env : Environment) (n : ℕ) → n ≡ 0 → drop n env ≡ env
drop_less env zero h = refl
drop_less env (suc n) h = absurd (omega (arith, h))

pub back_here : (s : Environment) → kept (length s) s ≡ s
back_here s = drop_less s (length s - length s) (omega arith)

pub back_twice : (s a b : Environment) → kept (length s) a ≡ s → kept (length a) b ≡ a → kept (length s) b ≡ s
back_twice s a b h k =
    let p : length a - (length a - length s) ≡ length s = sym (length-drop (length a - length s) a) ∙ ap length h in
    let q : length b - (length b - length a) ≡ length a = sym (length-drop (length b - length a) b) ∙ ap length k in
    let n : length b - length s ≡ (length b - length a) + (length a - length s) = omega (arith, p, q) in
    ap (λ (i : ℕ). drop i b) n
    ∙ sym (drop-drop (length a - length s) (length b - length a) b)
    ∙ ap (drop (length a - length s)) k
    ∙ h
