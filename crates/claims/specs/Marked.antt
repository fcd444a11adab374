-- docs/RULES.md, 17: the marked examples, M1 to M16, as one table under one claim: `marked`, M14 as request Five has it. What is
-- written, and what is read, in the form or not, or refused for its scalar, holds for every key, checkint, comment and buffer of the row's
-- kind. M1 to M4 are one image each.
use Rattle.std.specs.Prelude.{ℕ, zero, suc, ◌+◌, ◌-◌, ◌≤◌, ◌<◌, ◌^◌, ◌≡◌, refl, Bool, true, false, List, [], ◌∷◌, ◌++◌, length, get_or, replicate, Err}
use Rattle.std.proofs.Common.{arith, sym, ◌∙◌, ap, eq-eqb, lt-ltb, leb-true}
use Rattle.std.proofs.lemmas.List.{length-replicate}
use Rattle.fields.specs.Bytes.{ascii, uint32, string, and_true}
use Rattle.fields.specs.Fields.{fault, has_room, uint32_at, bytes_at, string_at, view_of}
use Rattle.fields.specs.Refusals.{number_of, count_of}
use Rattle.fields.specs.declared.Refusal.{Refusal}
use Rattle.fields.specs.declared.Refusal.TheVariants.{Length, FormatEncoding, TrailingData}
use Rattle.names.specs.declared.Algorithm.TheVariants.{Elliptic as OnCurve}
use Rattle.names.specs.declared.Curve.TheVariants.{Nistp256}
use Rattle.names.specs.declared.Elliptic.TheVariants.{Ecdsa}
use Rattle.utf8.specs.Utf8.{utf8}
use Rattle.mpint.specs.Mpint.{is_mpint, zeros_before}
use Rattle.mpint.specs.Zeros.{mpint_bytes, zeros_here, zeros_next}
use Rattle.format.specs.Format.{magic, of_point, of_scalar, blob, keypair, content, section, header, plain_image, Key, key_of, alone}
use Rattle.format.proofs.Lengths.{blob-length}
use Rattle.key_pairs.specs.Pairs.{is_scalar}
use Rattle.key_material.specs.Material.{derived_checkint}
use Rattle.key_material.specs.Laws.{derived_m16}
use Rattle.reader_header.specs.Header.{magic_at, cipher_at, header_at}
use Rattle.reader_image.specs.Container.{read_at}
use Rattle.claims.specs.Scalars.{stored_image, ReadAs, reads_stored, NoScalar, no_bytes, too_long, unlike, zeros_alone, no_zero-first}
use Rattle.claims.specs.NoScalars.{scalar_field, refuses_stored}
use Rattle.claims.specs.Sizes.{Ed25519Takes, ed25519_takes, Ed25519TooLong, ed25519_too_long, P256Takes, p256_takes}

-- ---- images that are refused

-- the read of s is refused with this number and count, at this place
pub record Refuses (s : List ℕ) (number count at : ℕ) : Type 0 where
  pub why : Refusal
  pub read : read_at s ≡ Err (fault why at)
  pub number_is : number_of why ≡ number
  pub count_is : count_of why ≡ count

empty : Refuses [] 1 0 0
unfolding read_at header_at cipher_at magic_at bytes_at has_room
empty = record { why = Length; read = refl; number_is = refl; count_is = refl }

no_zero_byte : Refuses (ascii "openssh-key-v1") 1 0 0
unfolding read_at header_at cipher_at magic_at bytes_at has_room
no_zero_byte = record { why = Length; read = refl; number_is = refl; count_is = refl }

other_version : Refuses (ascii "openssh-key-v2" ++ 0 ∷ []) 2 0 0
unfolding read_at header_at cipher_at magic_at bytes_at has_room view_of magic
other_version = record { why = FormatEncoding; read = refl; number_is = refl; count_is = refl }

magic-alone : Refuses (ascii "openssh-key-v1" ++ 0 ∷ []) 1 0 15
unfolding read_at header_at cipher_at magic_at bytes_at has_room view_of magic string_at uint32_at
magic-alone = record { why = Length; read = refl; number_is = refl; count_is = refl }

-- ---- P-256 images that are read

-- a P-256 key with this scalar field
abbrev pub p256_key : List ℕ → List ℕ → List ℕ → Key
p256_key point stored comment = key_of (OnCurve (Ecdsa Nistp256)) (of_point point) (of_scalar stored) comment

-- every P-256 image with such a scalar field, any point, checkint and comment, is read, the scalar without its leading zeros, and is in the
-- form or not
abbrev pub P256Reads : (List ℕ → Type 0) → (List ℕ → Bool) → Type 0
P256Reads such form =
    (n : ℕ) (point stored comment : List ℕ) → n < 2 ^ 32 → length point ≡ 65 → get_or point 0 0 ≡ 4 → such stored → utf8 comment ≡ true
    → length (stored_image n (alone (p256_key point stored comment))) ≤ 65535
    → ReadAs (stored_image n (alone (p256_key point stored comment))) n (alone (p256_key point stored comment)) (form stored)

p256_reads : (such : List ℕ → Type 0) → ((b : List ℕ) → such b → (is_scalar 32 b ≡ true) × (length b ≤ 33)) → P256Reads such is_mpint
p256_reads such is n point stored comment fit long tag h text small =
    rw (← and_true (is_mpint stored)) at
    (reads_stored n (p256_key point stored comment) [] fit (((long, eq-eqb _ _ tag, refl), ((is stored h).0, (is stored h).1, refl), text), tt) (omega arith) small)

-- and isn't in the form where the field is no mpint
p256_not_in_form :
    (such : List ℕ → Type 0) → ((b : List ℕ) → such b → (is_scalar 32 b ≡ true) × (length b ≤ 33)) → ((b : List ℕ) → such b → is_mpint b ≡ false)
    → P256Reads such (λ b. false)
p256_not_in_form such is not-mpint n point stored comment fit long tag h text small =
    rw (not-mpint stored h) at (p256_reads such is n point stored comment fit long tag h text small)

-- M10, M11 and M14: what their fields are
abbrev Needless : List ℕ → Type 0
Needless b = (length b ≡ 33) × (get_or b 0 0 ≡ 0) × (get_or b 1 0 ≡ 0x7f)

abbrev Missing : List ℕ → Type 0
Missing b = (length b ≡ 32) × (get_or b 0 0 ≡ 0x80)

abbrev Short : List ℕ → Type 0
Short b = (length b ≡ 31) × (zeros_before b < 31)

needless_scalar : (b : List ℕ) → Needless b → (is_scalar 32 b ≡ true) × (length b ≤ 33)
unfolding is_scalar
needless_scalar b h =
    let one : 0 < zeros_before b = zeros_next b 0 (omega arith) (omega (arith, h.0)) h.1 in
    let z = zeros_here b 1 (omega arith) (λ e. omega (arith, h.2, e)) in
    (rw (lt-ltb (zeros_before b) (length b) (omega (arith, z, h.0)), h.0, h.1), omega (arith, h.0))

missing_scalar : (b : List ℕ) → Missing b → (is_scalar 32 b ≡ true) × (length b ≤ 33)
unfolding is_scalar
missing_scalar b h =
    let z = zeros_here b 0 (omega arith) (λ e. omega (arith, h.1, e)) in
    (rw (lt-ltb (zeros_before b) (length b) (omega (arith, z, h.0)), h.0), omega (arith, h.0))

short_scalar : (b : List ℕ) → Short b → (is_scalar 32 b ≡ true) × (length b ≤ 33)
unfolding is_scalar
short_scalar b h = (rw (lt-ltb (zeros_before b) (length b) (omega (arith, h.0, h.1)), h.0), omega (arith, h.0))

-- ---- P-256 images that are refused for their scalar's field

-- every P-256 image with such a scalar field, any point, checkint and comment, is refused with this number and count, at this place
abbrev pub P256Refuses : (List ℕ → Type 0) → ℕ → ℕ → ℕ → Type 0
P256Refuses such number count at =
    (n : ℕ) (point stored comment : List ℕ) → n < 2 ^ 32 → length point ≡ 65 → get_or point 0 0 ≡ 4 → such stored
    → length (stored_image n (alone (p256_key point stored comment))) ≤ 65535 → Refuses (stored_image n (alone (p256_key point stored comment))) number count at

-- the field begins at byte 263
p256_refuses :
    (such : List ℕ → Type 0) (number count off : ℕ)
    → ((b : List ℕ) → such b → (why : Refusal) × NoScalar 32 b why off × (number_of why ≡ number) × (count_of why ≡ count))
    → P256Refuses such number count (263 + off)
p256_refuses such number count off not_one n point stored comment fit long tag h small =
    let w = not_one stored h in
    let blob_is = blob-length (of_point point) (of_scalar []) (OnCurve (Ecdsa Nistp256)) (long, omega arith) in
    let place : scalar_field (alone (p256_key point stored comment)) [] Nistp256 ≡ 263 = omega (arith, blob_is) in
    record {
      why = w.0;
      read =
          refuses_stored Nistp256 point stored comment long tag [] n fit [] tt tt (omega arith) small w.0 off w.1
          ∙ ap (λ (i : ℕ). Err (fault w.0 (i + off))) place;
      number_is = w.2;
      count_is = w.3;
    }

pub none_refuse : P256Refuses (λ b. length b ≡ 0) 1 0 263
none_refuse = p256_refuses (λ b. length b ≡ 0) 1 0 0 (λ b h. (Length, no_bytes h, refl, refl))

pub one_first_refuse : P256Refuses (λ b. (length b ≡ 33) × (get_or b 0 0 ≡ 1)) 2 0 263
one_first_refuse =
    p256_refuses (λ b. (length b ≡ 33) × (get_or b 0 0 ≡ 1)) 2 0 0
    (λ b h. (FormatEncoding, unlike (omega (arith, h.0)) (omega (arith, h.0)) (no_zero-first 32 b h.0 (omega (arith, h.1))), refl, refl))

-- of more than 33 bytes those above 32 are told, at the first of them
pub long_refuse : (more : ℕ) → 1 < more → P256Refuses (λ b. length b ≡ 32 + more) 6 more 299
long_refuse more h =
    p256_refuses (λ b. length b ≡ 32 + more) 6 more 36
    (λ b e. (TrailingData (length b - 32), too_long (omega (arith, e)), refl, omega (arith, e)))

zeros_count : (m : ℕ) → zeros_before (replicate m 0) ≡ m
unfolding zeros_before
zeros_count zero = refl
zeros_count (suc m) = omega (arith, zeros_count m)

pub zeros_refuse : (m : ℕ) → 0 < m → m ≤ 33 → P256Refuses (λ b. b ≡ replicate m 0) 2 0 263
zeros_refuse m some short =
    p256_refuses (λ b. b ≡ replicate m 0) 2 0 0
    (λ b e.
    let size : length b ≡ m = ap length e ∙ length-replicate m 0 in
    let zeros : zeros_before b ≡ length b = ap zeros_before e ∙ zeros_count m ∙ sym size in
    (FormatEncoding, unlike (omega (arith, size)) (omega (arith, size)) (zeros_alone 32 b zeros), refl, refl))

-- that there are such images: one without comment, in which these bytes stand as the scalar's field
unfoldable pub p256_image : List ℕ → List ℕ
p256_image stored = stored_image 7 (alone (p256_key (4 ∷ replicate 64 9) stored []))

-- fields of 33 bytes that begin with 1, of 34 and of 35 bytes, of 31 and of 33 zeros, and of none
pub other_scalars :
    Refuses (p256_image (1 ∷ replicate 32 9)) 2 0 263
    × Refuses (p256_image (replicate 34 9)) 6 2 299
    × Refuses (p256_image (replicate 35 9)) 6 3 299
    × Refuses (p256_image (replicate 31 0)) 2 0 263
    × Refuses (p256_image (replicate 33 0)) 2 0 263
    × Refuses (p256_image []) 1 0 263
unfolding p256_image plain_image header section content blob keypair string uint32 magic
other_scalars = (
  one_first_refuse 7 (4 ∷ replicate 64 9) (1 ∷ replicate 32 9) [] (omega arith) refl refl (refl, refl) (leb-true _ 65535 refl),
  long_refuse 2 (omega arith) 7 (4 ∷ replicate 64 9) (replicate 34 9) [] (omega arith) refl refl refl (leb-true _ 65535 refl),
  long_refuse 3 (omega arith) 7 (4 ∷ replicate 64 9) (replicate 35 9) [] (omega arith) refl refl refl (leb-true _ 65535 refl),
  zeros_refuse 31 (omega arith) (omega arith) 7 (4 ∷ replicate 64 9) (replicate 31 0) [] (omega arith) refl refl refl (leb-true _ 65535 refl),
  zeros_refuse 33 (omega arith) (omega arith) 7 (4 ∷ replicate 64 9) (replicate 33 0) [] (omega arith) refl refl refl (leb-true _ 65535 refl),
  none_refuse 7 (4 ∷ replicate 64 9) [] [] (omega arith) refl refl refl (leb-true _ 65535 refl),
)

-- ---- the table

-- c is the comment's length in ASCII bytes. A refused image has its number, count and place; a written one its length, and the padding with which it is read.
pub record Marked : Type 0 where
  -- empty image: 1
  pub m1 : Refuses [] 1 0 0
  -- magic without its zero byte, 14 bytes: 1
  pub m2 : Refuses (ascii "openssh-key-v1") 1 0 0
  -- 15 bytes, `v2` for `v1`: 2
  pub m3 : Refuses (ascii "openssh-key-v2" ++ 0 ∷ []) 2 0 0
  -- magic alone: 1
  pub m4 : Refuses (ascii "openssh-key-v1" ++ 0 ∷ []) 1 0 15
  -- Ed25519, c = 0: 234 bytes, padding 5
  pub m5 : Ed25519Takes 0 234 5
  -- Ed25519, c = 5: 234 bytes, padding 0
  pub m6 : Ed25519Takes 5 234 0
  -- Ed25519, c = 6: 242 bytes, padding 7
  pub m7 : Ed25519Takes 6 242 7
  -- P-256, scalar begins 7f, c = 0: 303 bytes, padding 0
  pub m8 : P256Takes 0x7f 0 303 0
  -- P-256, scalar begins 80, c = 0: 311 bytes, padding 7
  pub m9 : P256Takes 0x80 0 311 7
  -- P-256 scalar field, 33 bytes, 00 7f first: read, not the writer's form
  pub m10 : P256Reads Needless (λ b. false)
  -- 32 bytes, 80 first: read, not the writer's form
  pub m11 : P256Reads Missing (λ b. false)
  -- 33 bytes, 01 first: 2
  pub m12 : P256Refuses (λ b. (length b ≡ 33) × (get_or b 0 0 ≡ 1)) 2 0 263
  -- 34 bytes: 6, count 2
  pub m13 : P256Refuses (λ b. length b ≡ 34) 6 2 299
  -- 31 bytes: read if not all zero, and in the form exactly if they are an mpint; all zero 2
  pub m14 : P256Reads Short is_mpint × P256Refuses (λ b. b ≡ replicate 31 0) 2 0 263
  -- Ed25519, c = 65,301 and c = 65,302: 65,530 bytes; 11
  pub m15 : Ed25519Takes 65301 65530 0 × Ed25519TooLong 65302
  -- 66 private bytes, zero but the last two: derived checkint 0
  pub m16 : (a b : ℕ) → derived_checkint (replicate 64 0 ++ a ∷ b ∷ []) ≡ 0

pub marked : Marked
marked =
    record {
      m1 = empty;
      m2 = no_zero_byte;
      m3 = other_version;
      m4 = magic-alone;
      m5 = ed25519_takes 0 234 5 refl (omega arith) refl;
      m6 = ed25519_takes 5 234 0 refl (omega arith) refl;
      m7 = ed25519_takes 6 242 7 refl (omega arith) refl;
      m8 = p256_takes 0x7f 0 303 0 (omega arith) refl (omega arith) refl;
      m9 = p256_takes 0x80 0 311 7 (omega arith) refl (omega arith) refl;
      m10 = p256_not_in_form Needless needless_scalar (λ b h. mpint_bytes b ∙ rw (h.1, h.2));
      m11 = p256_not_in_form Missing missing_scalar (λ b h. mpint_bytes b ∙ rw h.1);
      m12 = one_first_refuse;
      m13 = long_refuse 2 (omega arith);
      m14 = (p256_reads Short short_scalar, zeros_refuse 31 (omega arith) (omega arith));
      m15 = (ed25519_takes 65301 65530 0 refl (omega arith) refl, ed25519_too_long 65302 (omega arith));
      m16 = derived_m16;
    }
