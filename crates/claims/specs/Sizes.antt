-- How long an image the plain writer makes of a key and an ASCII comment, and with how much padding: by the lengths and a scalar's bytes without leading
-- zeros, for every key, checkint and comment of that length.
use Rattle.std.specs.Prelude.{ℕ, ◌+◌, ◌≤◌, ◌<◌, ◌^◌, ◌≡◌, refl, true, List, [], leb, get_or, Ok}
use Rattle.std.proofs.Common.{arith, ◌∙◌, ap}
use borrow.Author.Tests.{eq-eqb, le-leb, lt-leb}
use Rattle.std.proofs.Math.ListN.{length}
use Rattle.fields.specs.declared.Refusal.TheVariants.{Size}
use Rattle.names.specs.declared.Algorithm.TheVariants.{Elliptic as OnCurve}
use Rattle.names.specs.declared.Elliptic.{Elliptic}
use Rattle.names.specs.declared.Elliptic.TheVariants.{Ed25519, Ecdsa}
use Rattle.names.specs.declared.Curve.TheVariants.{Nistp256}
use Rattle.utf8.specs.Laws.{ascii_utf8}
use Rattle.format.specs.Format.{of_point, of_scalar, public_length, private_length, point_tag, scalar_bytes, not_zero, zero_length, zeros_asked, padding_length, written_image, alone, key_of}
use Rattle.format.specs.Scalars.{significant_own, rule_may, allowed_own, trimmed_fits}
use Rattle.format.specs.Lengths.{point_blob_length, content_length}
use Rattle.format.proofs.Lengths.{written_content-length, written_length}
use Rattle.reader_entries.specs.Back.{KeyFits}
use Rattle.reader_image.specs.Back.{PlainImageBack, plain_image_back}
use Rattle.writer_reply.specs.Reply.{refused, sized}
use Rattle.writer_plain.specs.Plain.{key_checked, plain_reply}

-- public and private bytes that make a key: their lengths, the tag of a point, and a scalar that isn't zero
pub record Key (a : Elliptic) (point scalar : List ℕ) : Type 0 where
  pub long : length point ≡ public_length a
  pub tag : point_tag a point ≡ true
  pub private : length scalar ≡ private_length a
  pub some : not_zero a scalar ≡ true

-- every byte is ASCII
abbrev pub Ascii : List ℕ → Type 0
Ascii t = (k : ℕ) → k < length t → get_or t k 0 < 0x80

-- the length of the image of a key with a comment of c bytes
abbrev pub body_length : Elliptic → List ℕ → ℕ → ℕ
body_length a scalar c = content_length (OnCurve a) (of_point []) (of_scalar scalar) c

abbrev pub image_length : Elliptic → List ℕ → ℕ → ℕ
image_length a scalar c = 47 + point_blob_length a + (body_length a scalar c + padding_length (body_length a scalar c))

module _ (a : Elliptic) (point scalar : List ℕ) (n : ℕ) (comment : List ℕ) where
  -- the writer answers this length where there is room for it, and the image is read with this padding
  pub record Takes (size padding : ℕ) : Type 0 where
    pub answer : (room : ℕ) → size ≤ room → plain_reply (OnCurve a) (of_point point) (of_scalar scalar) n comment room ≡ Ok size
    pub pads : n < 2 ^ 32 → PlainImageBack (written_image n (alone (key_of (OnCurve a) (of_point point) (of_scalar scalar) comment))) n (OnCurve a) (of_point point) (of_scalar (scalar_bytes a scalar)) comment padding

  -- a key with an ASCII comment is refused for its size or for want of room only
  sized-alone : Key a point scalar → Ascii comment → (room : ℕ) → plain_reply (OnCurve a) (of_point point) (of_scalar scalar) n comment room ≡ sized (written_image n (alone (key_of (OnCurve a) (of_point point) (of_scalar scalar) comment))) room
  unfolding plain_reply key_checked
  sized-alone key text room = rw (eq-eqb _ _ key.long, eq-eqb _ _ key.private, key.tag, key.some, ascii_utf8 comment text)

  -- a key with an ASCII comment fits the format
  key_fits :
      Key a point scalar → Ascii comment → KeyFits (OnCurve a) (zeros_asked (OnCurve a) (of_scalar (scalar_bytes a scalar))) (of_point point) (of_scalar (scalar_bytes a scalar)) comment
  key_fits key text =
      let fits = trimmed_fits a scalar (allowed_own a scalar key.private) key.some in
      record {
        public = (key.long, key.tag, refl);
        private = (fits, refl);
        may = rule_may (OnCurve a) (of_point point) (of_scalar (scalar_bytes a scalar)) (fits, refl);
        text = ascii_utf8 comment text;
      }

  -- by the lengths of the key and the comment
  takes :
      Key a point scalar → Ascii comment → (size padding : ℕ) → image_length a scalar (length comment) ≡ size → size ≤ 65535
      → padding_length (body_length a scalar (length comment)) ≡ padding → Takes size padding
  unfolding sized written_image
  takes key text size padding long small pads =
      let is : length (written_image n (alone (key_of (OnCurve a) (of_point point) (of_scalar scalar) comment))) ≡ size = written_length n (OnCurve a) (of_point point) (of_scalar scalar) comment (key.long, allowed_own a scalar key.private) ∙ long in
      record {
        answer = λ room enough. sized-alone key text room ∙ rw (is, le-leb _ _ small, le-leb _ _ enough);
        pads =
            λ fits.
            rw (ap padding_length (written_content-length n (OnCurve a) (of_point point) (of_scalar scalar) comment (key.long, allowed_own a scalar key.private)) ∙ pads) at
            (plain_image_back (written_image n (alone (key_of (OnCurve a) (of_point point) (of_scalar scalar) comment))) n (OnCurve a) (zeros_asked (OnCurve a) (of_scalar (scalar_bytes a scalar))) (of_point point) (of_scalar (scalar_bytes a scalar)) comment (omega (arith, is, small)) fits
            (key_fits key text) refl);
      }

  -- an image above the limit is refused with 11, whatever the room
  too_long :
      Key a point scalar → Ascii comment → 65535 < image_length a scalar (length comment) → (room : ℕ) → plain_reply (OnCurve a) (of_point point) (of_scalar scalar) n comment room ≡ refused Size
  unfolding sized
  too_long key text above room =
      let is = written_length n (OnCurve a) (of_point point) (of_scalar scalar) comment (key.long, allowed_own a scalar key.private) in
      sized-alone key text room ∙ rw (is, lt-leb _ _ above)

-- every Ed25519 key with any checkint and an ASCII comment of c bytes takes this image and padding
abbrev pub Ed25519Takes : ℕ → ℕ → ℕ → Type 0
Ed25519Takes c size padding =
    (point seed : List ℕ) (n : ℕ) (comment : List ℕ) → Key Ed25519 point seed → Ascii comment → length comment ≡ c → Takes Ed25519 point seed n comment size padding

pub ed25519_takes :
    (c size padding : ℕ) → image_length Ed25519 [] c ≡ size → size ≤ 65535 → padding_length (body_length Ed25519 [] c) ≡ padding → Ed25519Takes c size padding
ed25519_takes c size padding long small pads point seed n comment key text e =
    takes Ed25519 point seed n comment key text size padding (rw e long) small (rw e pads)

-- every Ed25519 key with any checkint and an ASCII comment of c bytes is above the limit, whatever the room
abbrev pub Ed25519TooLong : ℕ → Type 0
Ed25519TooLong c =
    (point seed : List ℕ) (n : ℕ) (comment : List ℕ) (room : ℕ) → Key Ed25519 point seed → Ascii comment → length comment ≡ c
    → plain_reply (OnCurve Ed25519) (of_point point) (of_scalar seed) n comment room ≡ refused Size

pub ed25519_too_long : (c : ℕ) → 65535 < image_length Ed25519 [] c → Ed25519TooLong c
ed25519_too_long c above point seed n comment room key text e = too_long Ed25519 point seed n comment key text (rw e above) room

-- every P-256 key whose scalar begins with this byte, with any checkint and an ASCII comment of c bytes, takes this image and padding
abbrev pub P256Takes : ℕ → ℕ → ℕ → ℕ → Type 0
P256Takes first c size padding =
    (point scalar : List ℕ) (n : ℕ) (comment : List ℕ) → Key (Ecdsa Nistp256) point scalar → get_or scalar 0 0 ≡ first → Ascii comment → length comment ≡ c
    → Takes (Ecdsa Nistp256) point scalar n comment size padding

-- the section's length but for its padding, of a scalar that begins with another byte than zero
abbrev p256_body : ℕ → ℕ → ℕ
p256_body first c = 8 + (104 + (4 + zero_length (leb 0x80 first) + 32)) + (4 + c)

p256_body_lem :
    (first : ℕ) (scalar : List ℕ) (c : ℕ) → 0 < first → get_or scalar 0 0 ≡ first → length scalar ≡ 32 → body_length (Ecdsa Nistp256) scalar c ≡ p256_body first c
p256_body_lem first scalar c some begins long = rw (significant_own scalar (rw begins some), begins, long)

pub p256_takes :
    (first c size padding : ℕ) → 0 < first → 47 + 104 + (p256_body first c + padding_length (p256_body first c)) ≡ size → size ≤ 65535
    → padding_length (p256_body first c) ≡ padding → P256Takes first c size padding
p256_takes first c size padding some long small pads point scalar n comment key begins text e =
    let body = p256_body_lem first scalar c some begins key.private in
    takes (Ecdsa Nistp256) point scalar n comment key text size padding (rw (e, body) long) small (rw (e, body) pads)
