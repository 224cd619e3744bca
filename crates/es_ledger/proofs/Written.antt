-- The generated names that were written are read again.
use Rattle.std.proofs.Common.{◌≡◌, refl, sym, ap, ◌∙◌, ℕ, zero, suc, ◌<◌, ◌^◌, List, [], ◌∷◌, ◌++◌, map, Some, None, if◌then◌else◌, IsAscii, arith}
use Rattle.std.specs.Prelude.{codes, option_and_then}
use Rattle.std.specs.Str.{chars, encode_utf8_all}
use Rattle.std.proofs.lemmas.Bool.{lt-ltb}
use Rattle.std.proofs.lemmas.Str.{IsUtf8-from_ascii, chars-append, chars-IsAscii}
use lib.Utf8.{encode}
use Rattle.serde_json.specs.Data.{no_members}
use Rattle.serde_json.specs.Find.{as_array}
use Rattle.serde_json.specs.View.{items_of}
use Rattle.es_base.specs.Table.{members_of}
use Rattle.es_base.specs.Tree.{Tree, Node}
use Rattle.es_base.specs.declared.diagnostic.Diagnostic.{Diagnostic}
use Rattle.es_base.specs.declared.ids.NodeId.{NodeId}
use Rattle.es_base.specs.declared.ledger.GeneratedKind.{GeneratedKind}
use Rattle.es_base.specs.declared.ledger.LedgerEntry.{LedgerEntry}
use Rattle.es_base.specs.declared.shape.Shape.{Shape}
use Rattle.es_reading.specs.Look.{array_at, below_2_32}
use Rattle.es_writing.specs.Kept.{IsString}
use Rattle.es_writing.specs.Lowered.{NamesAreStrings, NumbersFit, NamesFit, entry_value, number_in, signed, write_lowered}
use Rattle.es_writing.specs.Writing.{put_all, write_fields}
use Rattle.es_json.proofs.Found.{get_all, node_entries}
use Rattle.es_json.proofs.Lowered.{more_members}
use Rattle.es_ledger.specs.Ledger.{before, entries_in, entry_by, entry_in, ledger_in, of_number}

below : (n : ℕ) → n < 2 ^ 32 → below_2_32 n ≡ Some n
below n fits = ap (λ b. if b then Some n else None) (lt-ltb n (2 ^ 32) fits)

abbrev rest_of : List ℕ → List ℕ
rest_of [] = []
rest_of (c ∷ cs) = cs

abbrev entry_of : GeneratedKind → List ℕ → LedgerEntry
entry_of kind name = record { name = name; kind = kind }

module _ (name : List ℕ) where
  by_number : (kind : NodeId → GeneratedKind) (n : NodeId) (written : List ℕ) → n.0 < 2 ^ 32 → entry_by (kind n) written ≡ Some (entry_of (kind n) name)
      → option_and_then (λ k. option_and_then (entry_by k) (Some written)) (of_number kind (below_2_32 n.0)) ≡ Some (entry_of (kind n) name)
  by_number kind n written fits is = ap (λ o. option_and_then (λ k. option_and_then (entry_by k) (Some written)) (of_number kind o)) (below n.0 fits) ∙ is

  named : (kind : GeneratedKind) (cs : List ℕ) → cs ≡ name → Some (entry_of kind cs) ≡ Some (entry_of kind name)
  named kind cs is = ap (λ s. Some (entry_of kind s)) is

  -- #name
  signed_bytes : encode_utf8_all (35 ∷ name) ≡ 35 ∷ encode_utf8_all name
  unfolding encode
  signed_bytes = refl

  sign_ascii : IsAscii (35 ∷ [])
  sign_ascii zero = omega arith
  sign_ascii (suc i) = omega arith

  sign_chars : (bs : List ℕ) → chars (35 ∷ bs) ≡ 35 ∷ chars bs
  sign_chars bs = chars-append (35 ∷ []) bs (IsUtf8-from_ascii (35 ∷ []) sign_ascii) ∙ ap (λ cs. cs ++ chars bs) (chars-IsAscii (35 ∷ []) sign_ascii)

  behind : IsString (35 ∷ name) → chars (encode_utf8_all name) ≡ name
  behind is = ap rest_of (sym (sign_chars (encode_utf8_all name)) ∙ ap chars (sym signed_bytes) ∙ is)

  private_back : (n : NodeId) → IsString (35 ∷ name) → entry_by (GeneratedKind.Private n) (encode_utf8_all (35 ∷ name)) ≡ Some (entry_of (GeneratedKind.Private n) name)
  private_back n is = ap (entry_by (GeneratedKind.Private n)) signed_bytes ∙ named (GeneratedKind.Private n) (chars (encode_utf8_all name)) (behind is)

  entry_back : (kind : GeneratedKind) → IsString (signed kind name) → number_in kind < 2 ^ 32 → entry_in (entry_value (entry_of kind name)) ≡ Some (entry_of kind name)
  entry_back GeneratedKind.Temp is fits = named GeneratedKind.Temp _ is
  entry_back GeneratedKind.Param is fits = named GeneratedKind.Param _ is
  entry_back GeneratedKind.Args is fits = named GeneratedKind.Args _ is
  entry_back GeneratedKind.Closure is fits = named GeneratedKind.Closure _ is
  entry_back (GeneratedKind.ClassTemp n) is fits = by_number GeneratedKind.ClassTemp n (encode_utf8_all name) fits (named (GeneratedKind.ClassTemp n) _ is)
  entry_back (GeneratedKind.WeakMap n) is fits = by_number GeneratedKind.WeakMap n (encode_utf8_all name) fits (named (GeneratedKind.WeakMap n) _ is)
  entry_back (GeneratedKind.StaticField n) is fits = by_number GeneratedKind.StaticField n (encode_utf8_all name) fits (named (GeneratedKind.StaticField n) _ is)
  entry_back (GeneratedKind.Brand n) is fits = by_number GeneratedKind.Brand n (encode_utf8_all name) fits (named (GeneratedKind.Brand n) _ is)
  entry_back (GeneratedKind.Method n) is fits = by_number GeneratedKind.Method n (encode_utf8_all name) fits (named (GeneratedKind.Method n) _ is)
  entry_back (GeneratedKind.LooseKey n) is fits = by_number GeneratedKind.LooseKey n (encode_utf8_all name) fits (named (GeneratedKind.LooseKey n) _ is)
  entry_back (GeneratedKind.SuperFn n) is fits = by_number GeneratedKind.SuperFn n (encode_utf8_all name) fits (named (GeneratedKind.SuperFn n) _ is)
  entry_back (GeneratedKind.Private n) is fits = by_number GeneratedKind.Private n (encode_utf8_all (35 ∷ name)) fits (private_back n is)

entries_back : (names : List LedgerEntry) → NamesAreStrings names → NumbersFit names → entries_in (items_of (map entry_value names)) ≡ Some names
entries_back [] are fit = refl
entries_back (e ∷ es) are fit =
    ap (option_and_then (λ e. before e (entries_in (items_of (map entry_value es))))) (entry_back e.name e.kind are.0 fit.0)
    ∙ ap (before e) (entries_back es are.1 fit.1)

module _ (names : List LedgerEntry) (warnings : List Diagnostic) (shapes : List Shape) where
  names_at : (t : Tree) → array_at (codes "generated") (write_lowered t names warnings shapes) ≡ Some (items_of (map entry_value names))
  names_at (Node kind id span semantic_id ps) =
      ap (option_and_then as_array) (get_all (codes "generated") (more_members names warnings shapes) (put_all no_members (node_entries kind id span ps (write_fields (members_of kind) ps))))

pub written_back : (t : Tree) (names : List LedgerEntry) (warnings : List Diagnostic) (shapes : List Shape) → NamesFit names → ledger_in (write_lowered t names warnings shapes) ≡ Some names
written_back t names warnings shapes fit = ap (option_and_then entries_in) (names_at names warnings shapes t) ∙ entries_back names fit.0 fit.1
