-- Lists of codes, one behind another.
use Rattle.std.proofs.Common.{◌≡◌, refl, sym, ap, ◌∙◌, List, [], ◌∷◌, ◌++◌}
use Rattle.es_codes.specs.CodeView.{code_of, codes_of}
use Rattle.es_codes.specs.declared.code.Code.{Code}
use Rattle.es_steps.specs.Code.{Codes, done, and, joined}

pub joined_all : (cs ds : List Code) → codes_of (cs ++ ds) ≡ joined (codes_of cs) (codes_of ds)
joined_all [] ds = refl
joined_all (c ∷ cs) ds = ap (and (code_of c)) (joined_all cs ds)

pub joined_one : (cs : List Code) (c : Code) → codes_of (cs ++ c ∷ []) ≡ joined (codes_of cs) (and (code_of c) done)
joined_one cs c = joined_all cs (c ∷ [])

pub joined-done : (cs : Codes) → joined cs done ≡ cs
joined-done done = refl
joined-done (and c cs) = ap (and c) (joined-done cs)

pub joined_none : (cs : List Code) → codes_of cs ≡ joined (codes_of cs) done
joined_none cs = sym (joined-done (codes_of cs))

pub joined-assoc : (cs ds es : Codes) → joined (joined cs ds) es ≡ joined cs (joined ds es)
joined-assoc done ds es = refl
joined-assoc (and c cs) ds es = ap (and c) (joined-assoc cs ds es)

pub joined_nothing : (cs : Codes) → joined done cs ≡ cs
joined_nothing cs = refl

pub joined_step : (old new x rest all : Codes) → new ≡ joined old x → joined old (joined x rest) ≡ all → joined new rest ≡ all
joined_step old new x rest all more before = ap (λ cs. joined cs rest) more ∙ joined-assoc old x rest ∙ before

pub joined_end : (cs all : Codes) → joined cs done ≡ all → cs ≡ all
joined_end cs all e = sym (joined-done cs) ∙ e
