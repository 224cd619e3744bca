-- The law of replacement, as the contracts of src/law.rt name it.
use Rattle.std.specs.Prelude.{◌≡◌, ℕ, List, Bool, true, false}
use Rattle.es_base.specs.Tree.{Tree}
use Rattle.es_steps.specs.Code.{Code, Codes, steps, and, joined}
use Rattle.es_steps.specs.Context.{Context}
use Rattle.es_steps.specs.Entries.{is_string_among}
use Rattle.es_steps.specs.Evaluation.{default_key}
use Rattle.es_steps.specs.Meaning.{Terms, means, private_functions, start}
use Rattle.es_steps.specs.Reading.{read}
use Rattle.es_steps.specs.Values.{String}
use Rattle.es_replacement.specs.Declaring.{DeclaresAlike}
use Rattle.es_replacement.specs.Holes.{filled, admits, is_plain, declares_alone}
use Rattle.es_replacement.specs.Replacing.{MayReplace}
use Rattle.es_replacement.specs.TreeHoles.{TreeHole, put, context_at, code_around, SeenAlike, ReadsThrough, IsApart}
use Rattle.es_replacement.specs.Unasked.{is_unasked}

-- What may stand in the place of expressions: b n in that of a n. Where they are to stand in holes of the bodies of new functions,
-- they are plain.
pub record AllMayReplace (names : List String) (plain_ones : Bool) (a b : ℕ → Code) : Type 0 where
  pub may : (n : ℕ) → MayReplace names (a n) (b n)
  pub plain_before : plain_ones ≡ true → (n : ℕ) → is_plain (a n) ≡ true
  pub plain_after : plain_ones ≡ true → (n : ℕ) → is_plain (b n) ≡ true

-- what may stand in the place of expressions may do so in the holes of every code
abbrev pub HoleLaw : Type 0
HoleLaw = (names : List String) (plain_ones : Bool) (a b : ℕ → Code) → AllMayReplace names plain_ones a b → (c : Code) → admits names plain_ones c ≡ true → MayReplace names (filled a c) (filled b c)

-- a code in which these names stand nowhere may stand in its own place
abbrev pub StandingLaw : Type 0
StandingLaw = (names : List String) (c : Code) → admits names true c ≡ true → MayReplace names c c

-- and so may a list of statements with a declaration of generated names
abbrev pub DeclarationLaw : Type 0
DeclarationLaw = (names : List String) (es fs : Codes) (d : Code) → declares_alone d ≡ true → admits names true (steps (joined es fs)) ≡ true → MayReplace names (steps (joined es fs)) (steps (joined es (and d fs)))

-- programs that are read as codes of which one may stand in the place of the other, and declare the same, have one meaning
abbrev pub MeaningLaw : Type 0
MeaningLaw = (names : List String) → is_string_among default_key names ≡ false
    → (o : Terms) (t u : Tree) → MayReplace names (read (start o t) t) (read (start o u) u) → DeclaresAlike o (private_functions (read (start o t) t)) t u → means o t ≡ means o u

-- a tree with t in its hole is read as the code around with the code of t in its hole, where each node around is read with it
-- as with a hole
abbrev pub ReadingLaw : Type 0
ReadingLaw = (c : Context) (hole : TreeHole) (t : Tree) → ReadsThrough c hole t (read (context_at c hole t) t) → read c (put hole t) ≡ filled (λ n. read (context_at c hole t) t) (code_around c hole t)

-- and each node around is read with an expression as with a hole, where no rule asks for the form of the expression, nor what the
-- part is that it is
abbrev pub UnaskedLaw : Type 0
UnaskedLaw = (c : Context) (hole : TreeHole) (t : Tree) (e : Code) → is_unasked c.first_new e ≡ true → IsApart c hole t → ReadsThrough c hole t e

-- what is around is the same code with t as with u, where the same is known at each place around
abbrev pub AroundLaw : Type 0
AroundLaw = (c : Context) (hole : TreeHole) (t u : Tree) → SeenAlike c hole t u → (context_at c hole t ≡ context_at c hole u) × (code_around c hole t ≡ code_around c hole u)

-- u may stand in the place of t in this hole of a program: its code may stand in the place of that of t, each read where it
-- stands; what is around is the same code, in which these names stand nowhere, and each node around is read with t and with u
-- as with a hole; and both programs declare the same
pub record StandsFor (names : List String) (plain_ones : Bool) (o : Terms) (hole : TreeHole) (t u : Tree) : Type 0 where
  pub may : AllMayReplace names plain_ones (λ n. read (context_at (start o (put hole t)) hole t) t) (λ n. read (context_at (start o (put hole u)) hole u) u)
  pub around : code_around (start o (put hole t)) hole t ≡ code_around (start o (put hole u)) hole u
  pub admitted : admits names plain_ones (code_around (start o (put hole t)) hole t) ≡ true
  pub before : ReadsThrough (start o (put hole t)) hole t (read (context_at (start o (put hole t)) hole t) t)
  pub after : ReadsThrough (start o (put hole u)) hole u (read (context_at (start o (put hole u)) hole u) u)
  pub apart : is_string_among default_key names ≡ false
  pub declared : DeclaresAlike o (private_functions (read (start o (put hole t)) (put hole t))) (put hole t) (put hole u)

-- the law of replacement: the program with u means what that with t means
abbrev pub ReplacementLaw : Type 0
ReplacementLaw = (names : List String) (plain_ones : Bool) (o : Terms) (hole : TreeHole) (t u : Tree) → StandsFor names plain_ones o hole t u → means o (put hole t) ≡ means o (put hole u)

-- The same where no rule asks for the form of t and u, and the same is known at each place around.
pub record StandsApart (names : List String) (plain_ones : Bool) (o : Terms) (hole : TreeHole) (t u : Tree) : Type 0 where
  pub may : AllMayReplace names plain_ones (λ n. read (context_at (start o (put hole t)) hole t) t) (λ n. read (context_at (start o (put hole u)) hole u) u)
  pub admitted : admits names plain_ones (code_around (start o (put hole t)) hole t) ≡ true
  pub apart : is_string_among default_key names ≡ false
  pub declared : DeclaresAlike o (private_functions (read (start o (put hole t)) (put hole t))) (put hole t) (put hole u)
  pub started : start o (put hole t) ≡ start o (put hole u)
  pub seen : SeenAlike (start o (put hole t)) hole t u
  pub stands : IsApart (start o (put hole t)) hole t
  pub before : is_unasked o.first_new (read (context_at (start o (put hole t)) hole t) t) ≡ true
  pub after : is_unasked o.first_new (read (context_at (start o (put hole u)) hole u) u) ≡ true

abbrev pub ApartLaw : Type 0
ApartLaw = (names : List String) (plain_ones : Bool) (o : Terms) (hole : TreeHole) (t u : Tree) → StandsApart names plain_ones o hole t u → StandsFor names plain_ones o hole t u
