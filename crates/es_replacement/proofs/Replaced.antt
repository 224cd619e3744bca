-- The law of replacement: codes, programs, and what is read around a hole.
use Rattle.std.specs.Prelude.{◌≡◌, refl, ℕ, suc, List, [], ◌++◌, true, false, Option, Some}
use Rattle.std.proofs.Common.{◌∙◌, ap, ap₂, sym, subst}
use Rattle.es_base.specs.Tree.{Tree, Part, Parts, Node, end, more, child}
use Rattle.es_base.specs.declared.kind.Kind.{Kind}
use Rattle.es_steps.specs.Code.{Code, Opened, InitializersOf, initializers}
use Rattle.es_steps.specs.Context.{Context}
use Rattle.es_steps.specs.Entries.{Listed, is_string_among, without, listed, after_run, entries}
use Rattle.es_steps.specs.Evaluation.{Environment, Evaluation, default_key, ev}
use Rattle.es_steps.specs.Meaning.{Terms, private_functions, member_entries, whole, all_exports, body_of, in_body, start, with_all, means_of}
use Rattle.es_steps.specs.Members.{Member, Members}
use Rattle.es_steps.specs.Members as members
use Rattle.es_steps.specs.Modules.{Export, exports_of, default_exports, exports_in}
use Rattle.es_steps.specs.Opening.{definitions, opening}
use Rattle.es_steps.specs.Reading.{code_of, read, read_part, read_parts, read_items}
use Rattle.es_steps.specs.Values.{String}
use Rattle.es_replacement.proofs.Entered.{entries-alike, listed-same, after-same}
use Rattle.es_replacement.proofs.Environments.{found-without}
use Rattle.es_replacement.proofs.Evaluations.{ev-replaced}
use Rattle.es_replacement.proofs.Gathered.{assigned-alike, functions-alike}
use Rattle.es_replacement.proofs.Openings.{definitions-alike, opening-replaced}
use Rattle.es_replacement.proofs.Standing.{filled-itself}
use Rattle.es_replacement.specs.Declaring.{DeclaresAlike}
use Rattle.es_replacement.specs.Holes.{filled}
use Rattle.es_replacement.specs.Law.{HoleLaw, StandingLaw, MeaningLaw, ReadingLaw, AroundLaw, ReplacementLaw}
use Rattle.es_replacement.specs.Replacing.{none, MayReplace}
use Rattle.es_replacement.specs.TreeHoles.{PartHole, the_child, an_item, top, within, joined, put_part, put, behind, further, inside_with, context_at, joined_members, read_place, read_with, code_around}

pub hole_law : HoleLaw
hole_law names plain_ones a b all c p = record {
  evaluates = λ opens there follow. ev-replaced names opens there follow plain_ones a b (λ n. (all.may n).evaluates opens there follow) c p;
  defines = definitions-alike names plain_ones a b all c p;
  assigns = assigned-alike names plain_ones a b (λ n. (all.may n).assigns) c p;
  functions = functions-alike names plain_ones a b (λ n. (all.may n).functions) c p;
  enters = λ opens there first late s follow. entries-alike names opens there follow plain_ones a b all.may first late s c p;
}

-- a hole stands in its own place
hole-stands : (names : List String) (n : ℕ) → MayReplace names (initializers n) (initializers n)
hole-stands names n = record {
  evaluates = λ opens there follow. follow (InitializersOf n);
  defines = none;
  assigns = λ s. refl;
  functions = refl;
  enters = λ opens there first late s follow. refl;
}

pub standing_law : StandingLaw
standing_law names c p = rw (filled-itself c) at (hole_law names true initializers initializers (record { may = hole-stands names; plain_before = λ h n. refl; plain_after = λ h n. refl }) c p)

-- ---- programs

default-same : (names : List String) → is_string_among default_key names ≡ false → (c : Context) (env : Environment) (p : Part) → default_exports c (without names env) p ≡ default_exports c env p
default-same names out c env (child (Node kind m span semantic_id ps)) = rw (found-without names default_key env out) refl
default-same names out c env p = refl

export-same : (names : List String) → is_string_among default_key names ≡ false → (c : Context) (env : Environment) (p : Part) → exports_of c (without names env) p ≡ exports_of c env p
export-same names out c env (child (Node Kind.ExportDefaultDeclaration m span semantic_id ps)) = default-same names out c env _
export-same names out c env p = refl

exports-same : (names : List String) → is_string_among default_key names ≡ false → (c : Context) (env : Environment) (ps : Parts) → exports_in c (without names env) ps ≡ exports_in c env ps
exports-same names out c env end = refl
exports-same names out c env (more p ps) = ap₂ (λ (x y : List Export). x ++ y) (export-same names out c env p) (exports-same names out c env ps)

with_all-same : (o : Terms) (t u : Tree) (d : List (ℕ × ℕ)) → DeclaresAlike o d t u → (l : Option Listed) (es : _) (ms : _) (xs : _) → with_all o t d l es ms xs ≡ with_all o u d l es ms xs
with_all-same o t u d same (Some l) (Some es) (Some ms) (Some xs) = rw (same.source_type, same.functions, same.bindings, same.globals, same.shared, same.places, same.branches, same.links) refl
with_all-same o t u d same l es ms xs = refl

codes-same : (names : List String) (x y : Code) → MayReplace names x y → is_string_among default_key names ≡ false → (o : Terms) (t u : Tree) → DeclaresAlike o (private_functions x) t u → means_of o t x ≡ means_of o u y
codes-same names x y may out o t u same =
    let opens : Opened → Evaluation = opening (definitions x) in
    let there : Opened → Evaluation = opening (definitions y) in
    let follow = opening-replaced names true (definitions x) (definitions y) may.defines in
    let runs = may.evaluates opens there follow in
    let lists : listed (ev opens x []) ≡ listed (ev there y []) = listed-same names runs [] in
    let entered : entries opens o.first_new o.late [] x ≡ entries there o.first_new o.late [] y = may.enters opens there o.first_new o.late [] follow in
    let ends : after_run [] (ev opens x []) ≡ without names (after_run [] (ev there y [])) = after-same names runs [] in
    let exported : exports_in (in_body (start o t) t) (after_run [] (ev opens x [])) (body_of t) ≡ exports_in (in_body (start o u) u) (after_run [] (ev there y [])) (body_of u) =
    ap (λ env. exports_in (in_body (start o t) t) env (body_of t)) ends ∙ exports-same names out (in_body (start o t) t) (after_run [] (ev there y [])) (body_of t) ∙ same.exports (after_run [] (ev there y [])) in
    with_all-same o t u (private_functions x) same (listed (ev opens x [])) (whole (entries opens o.first_new o.late [] x)) (member_entries (private_functions x) o.members) (all_exports (exports_in (in_body (start o t) t) (after_run [] (ev opens x [])) (body_of t)))
    ∙ ap (λ l. with_all o u (private_functions x) l (whole (entries opens o.first_new o.late [] x)) (member_entries (private_functions x) o.members) (all_exports (exports_in (in_body (start o t) t) (after_run [] (ev opens x [])) (body_of t)))) lists
    ∙ ap (λ es. with_all o u (private_functions x) (listed (ev there y [])) (whole es) (member_entries (private_functions x) o.members) (all_exports (exports_in (in_body (start o t) t) (after_run [] (ev opens x [])) (body_of t)))) entered
    ∙ ap (λ xs. with_all o u (private_functions x) (listed (ev there y [])) (whole (entries there o.first_new o.late [] y)) (member_entries (private_functions x) o.members) (all_exports xs)) exported
    ∙ ap (λ d. with_all o u d (listed (ev there y [])) (whole (entries there o.first_new o.late [] y)) (member_entries d o.members) (all_exports (exports_in (in_body (start o u) u) (after_run [] (ev there y [])) (body_of u)))) may.functions

pub meaning_law : MeaningLaw
meaning_law names out o t u may same = codes-same names (read (start o t) t) (read (start o u) u) may out o t u same

-- ---- what is read around a hole

parts-joined : (c : ℕ → Context) (before : Parts) (p : Part) (after : Parts) → read_parts c (joined before (more p after)) ≡ joined_members (read_parts c before) (members.more (read_part (behind before c) p) (read_parts (further before c) after))
parts-joined c end p after = refl
parts-joined c (more q before) p after = ap (members.more (read_part (c 0) q)) (parts-joined (λ i. c (suc i)) before p after)

items-joined : (c : Context) (before : Parts) (p : Part) (after : Parts) → read_items c (joined before (more p after)) ≡ joined_members (read_items c before) (members.more (read_part c p) (read_items c after))
items-joined c end p after = refl
items-joined c (more q before) p after = ap (members.more (read_part c q)) (items-joined c before p after)

place-read : (c : Context) (place : PartHole) (t : Tree) → read_part c (put_part place t) ≡ read_place c place (read c t)
place-read c the_child t = refl
place-read c (an_item before after) t = ap members.list (items-joined c before (child t) after)

pub reading_law : ReadingLaw
reading_law c top t through = refl
reading_law c (within kind m span semantic_id before place after hole) t through =
    let d : ℕ → Context = inside_with c kind m before place after hole t in
    ap (code_of c kind m) (parts-joined d before (put_part place (put hole t)) after)
    ∙ ap (λ p. code_of c kind m (joined_members (read_parts d before) (members.more p (read_parts (further before d) after)))) (place-read (behind before d) place (put hole t))
    ∙ ap (λ e. code_of c kind m (read_with d before place after e)) (reading_law (behind before d) hole t through.1)
    ∙ through.0

pub around_law : AroundLaw
around_law c top t u seen = (refl, refl)
around_law c (within kind m span semantic_id before place after hole) t u seen =
    let d : ℕ → Context = inside_with c kind m before place after hole t in
    let rest = around_law (behind before d) hole t u seen.1 in (
      rest.0 ∙ ap (λ (x : ℕ → Context). context_at (behind before x) hole u) seen.0,
      ap (λ e. code_of c kind m (read_with d before place after e)) rest.1 ∙ ap (λ (x : ℕ → Context). code_of c kind m (read_with x before place after (code_around (behind before x) hole u))) seen.0,
    )

pub replacement_law : ReplacementLaw
replacement_law names plain_ones o hole t u x =
    let c : Context = start o (put hole t) in
    let d : Context = start o (put hole u) in
    let a : ℕ → Code = λ n. read (context_at c hole t) t in
    let b : ℕ → Code = λ n. read (context_at d hole u) u in
    let before : read c (put hole t) ≡ filled a (code_around c hole t) = reading_law c hole t x.before in
    let after : read d (put hole u) ≡ filled b (code_around c hole t) = reading_law d hole u x.after ∙ ap (filled b) (sym x.around) in
    let may : MayReplace names (filled a (code_around c hole t)) (filled b (code_around c hole t)) = hole_law names plain_ones a b x.may (code_around c hole t) x.admitted in
    meaning_law names x.apart o (put hole t) (put hole u) (subst (λ e. MayReplace names e (read d (put hole u))) (sym before) (subst (λ e. MayReplace names (filled a (code_around c hole t)) e) (sym after) may)) x.declared
