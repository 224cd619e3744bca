-- Lists that grow.
use Rattle.std.proofs.Common.{◌≡◌, ◌∙◌, ap, sym, List, [], ◌∷◌, ◌++◌, append-nil}
use Rattle.es_opening.specs.Gathered.{gathered}
use Rattle.es_steps.specs.Code.{Code}

pub nothing_added : (xs : List Code) → xs ≡ xs ++ []
nothing_added xs = sym (append-nil xs)

pub nothing_in : (xs : List Code) {e f : Code} → e ≡ f → gathered f ≡ [] → xs ≡ xs ++ gathered e
nothing_in xs is none = nothing_added xs ∙ ap (λ zs. xs ++ zs) (sym (ap gathered is ∙ none))

pub itself : {e f : Code} {es : List Code} → e ≡ f → gathered f ≡ f ∷ es → e ∷ es ≡ gathered e
itself {e} {f} {es} is all = ap (λ z. z ∷ es) is ∙ sym (ap gathered is ∙ all)
