-- The bytes of written names.
use Rattle.std.proofs.Common.{◌≡◌, refl, sym, ap, ap₂, ◌∙◌, ℕ, zero, suc, List, [], ◌∷◌, ◌++◌, codes, Bool, true, false, true≢false, IsAscii, arith}
use Rattle.std.specs.Str.{chars, encode_utf8_all, IsUtf8}
use Rattle.std.specs.Cmp.Lexicographic.{slice_cmp, nat_list_cmp_total}
use Rattle.std.specs.Ordering.{nat_cmp, ordering_reverse}
use Rattle.std.specs.declared.cmp.Ordering.{Ordering}
use Rattle.std.proofs.lemmas.Str.{IsUtf8-from_ascii, chars-append, chars-IsAscii}
use lib.Utf8.{encode}
use Rattle.es_base.specs.declared.ledger.GeneratedKind.{GeneratedKind}
use Rattle.es_base.specs.declared.ledger.LedgerEntry.{LedgerEntry}
use Rattle.es_writing.specs.Lowered.{is_private, signed, written_name}
use Rattle.es_writing.specs.Kept.{IsString}
use Rattle.es_writing.proofs.Keeping.{encodes}

signed_private : (kind : GeneratedKind) (name : List ℕ) → is_private kind ≡ true → signed kind name ≡ 35 ∷ name
signed_private (GeneratedKind.Private n) name is = refl
signed_private _ name is = absurd (true≢false (sym is))

signed_plain : (kind : GeneratedKind) (name : List ℕ) → is_private kind ≡ false → signed kind name ≡ name
signed_plain (GeneratedKind.Private n) name is = absurd (true≢false is)
signed_plain _ name is = refl

pub private_bytes : (e : LedgerEntry) (bytes : List ℕ) → IsUtf8 bytes → chars bytes ≡ e.name → is_private e.kind ≡ true → encode_utf8_all (written_name e) ≡ 35 ∷ bytes
unfolding encode
private_bytes e bytes utf8 is private = ap encode_utf8_all (signed_private e.kind e.name private) ∙ ap (λ (bs : List ℕ). 35 ∷ bs) (encodes bytes e.name utf8 is)

pub plain_bytes : (e : LedgerEntry) (bytes : List ℕ) → IsUtf8 bytes → chars bytes ≡ e.name → is_private e.kind ≡ false → encode_utf8_all (written_name e) ≡ bytes
plain_bytes e bytes utf8 is plain = ap encode_utf8_all (signed_plain e.kind e.name plain) ∙ encodes bytes e.name utf8 is

-- how the written names of two entries compare
abbrev pub compared : LedgerEntry → LedgerEntry → Ordering
compared e f = slice_cmp nat_cmp (encode_utf8_all (written_name e)) (encode_utf8_all (written_name f))

bytes_compared : (us vs xs ys : List ℕ) → us ≡ xs → vs ≡ ys → slice_cmp nat_cmp xs ys ≡ slice_cmp nat_cmp us vs
bytes_compared us vs xs ys a b = sym (ap₂ (λ (l : List ℕ) (m : List ℕ). slice_cmp nat_cmp l m) a b)

module _ (e f : LedgerEntry) (xs ys : List ℕ) (first : IsUtf8 xs) (second : IsUtf8 ys) (first_is : chars xs ≡ e.name) (second_is : chars ys ≡ f.name) where
  pub first_signed : is_private e.kind ≡ true → is_private f.kind ≡ false → slice_cmp nat_cmp (35 ∷ xs) ys ≡ compared e f
  first_signed a b = bytes_compared _ _ _ _ (private_bytes e xs first first_is a) (plain_bytes f ys second second_is b)

  pub second_signed : is_private e.kind ≡ false → is_private f.kind ≡ true → ordering_reverse (slice_cmp nat_cmp (35 ∷ ys) xs) ≡ compared e f
  second_signed a b = sym (nat_list_cmp_total.antisymm xs (35 ∷ ys)) ∙ bytes_compared _ _ _ _ (plain_bytes e xs first first_is a) (private_bytes f ys second second_is b)

  alike : (b : Bool) → is_private e.kind ≡ b → is_private f.kind ≡ b → slice_cmp nat_cmp xs ys ≡ compared e f
  alike true a b = bytes_compared _ _ (35 ∷ xs) (35 ∷ ys) (private_bytes e xs first first_is a) (private_bytes f ys second second_is b)
  alike false a b = bytes_compared _ _ _ _ (plain_bytes e xs first first_is a) (plain_bytes f ys second second_is b)

  pub signs_alike : is_private e.kind ≡ is_private f.kind → slice_cmp nat_cmp xs ys ≡ compared e f
  signs_alike same = alike (is_private f.kind) same refl

-- the string of a private name, put together
pub sign_put : (e : LedgerEntry) (sign name string : List ℕ) → is_private e.kind ≡ true → IsUtf8 name → chars name ≡ e.name → sign ≡ codes "#" → string ≡ sign ++ name → string ≡ encode_utf8_all (written_name e)
sign_put e sign name string private utf8 name_is sign_is put_in = put_in ∙ ap (λ (bs : List ℕ). bs ++ name) sign_is ∙ sym (private_bytes e name utf8 name_is private)

-- the written name of an entry in code is one that UTF-8 keeps
sign_ascii : IsAscii (35 ∷ [])
sign_ascii zero = omega arith
sign_ascii (suc i) = omega arith

sign_kept : (bytes : List ℕ) → chars (35 ∷ bytes) ≡ 35 ∷ chars bytes
sign_kept bytes = chars-append (35 ∷ []) bytes (IsUtf8-from_ascii (35 ∷ []) sign_ascii) ∙ ap (λ (cs : List ℕ). cs ++ chars bytes) (chars-IsAscii (35 ∷ []) sign_ascii)

pub written_kept : (e : LedgerEntry) (bytes : List ℕ) → IsUtf8 bytes → chars bytes ≡ e.name → IsString (written_name e)
written_kept e bytes utf8 is = by_sign (is_private e.kind) refl
  where
    by_sign : (b : Bool) → is_private e.kind ≡ b → IsString (written_name e)
    by_sign true private = ap chars (private_bytes e bytes utf8 is private) ∙ sign_kept bytes ∙ ap (λ (cs : List ℕ). 35 ∷ cs) is ∙ sym (signed_private e.kind e.name private)
    by_sign false plain = ap chars (plain_bytes e bytes utf8 is plain) ∙ is ∙ sym (signed_plain e.kind e.name plain)
