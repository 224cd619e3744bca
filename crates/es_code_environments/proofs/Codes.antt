-- The codes of a list from the i-th on.
use Rattle.std.proofs.Common.{◌≡◌, sym, ap, ◌∙◌, ℕ, ◌+◌, ◌<◌, ◌≤◌, List, length, get_or, drop}
use Rattle.std.proofs.lemmas.List.{drop_all, drop_more}
use Rattle.es_codes.specs.CodeView.{code_of, codes_of}
use Rattle.es_codes.specs.declared.code.Code.{Code}
use Rattle.es_steps.specs.Code.{and, done}

pub split_at : (cs : List Code) (i : ℕ) (x : Code) → i < length cs → x ≡ get_or cs i x → codes_of (drop i cs) ≡ and (code_of x) (codes_of (drop (i + 1) cs))
split_at cs i x below is =
    ap codes_of (drop_more cs i x below)
    ∙ ap (λ (y : Code). and (code_of y) (codes_of (drop (i + 1) cs))) (sym is)

pub all_gone : (cs : List Code) (i : ℕ) → length cs ≤ i → codes_of (drop i cs) ≡ done
all_gone cs i above = ap codes_of (drop_all i cs above)
