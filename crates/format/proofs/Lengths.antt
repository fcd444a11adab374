-- How long what the format writes is, by the lengths of its parts: the laws.
use Rattle.std.specs.Prelude.{ℕ, ◌+◌, ◌≡◌, refl, List, [], ◌∷◌, length}
use Rattle.std.proofs.Common.{arith, ◌∙◌, length-append}
use Rattle.std.proofs.lemmas.List.{length-replicate}
use Rattle.fields.specs.Bytes.{join}
use Rattle.fields.specs.Rest.{length-uint32, length-string}
use Rattle.names.specs.declared.Elliptic.TheVariants.{Ed25519, Ecdsa}
use Rattle.names.specs.declared.Algorithm.{Algorithm}
use Rattle.names.specs.declared.Algorithm.TheVariants.{Elliptic as OnCurve, Rsa}
use Rattle.names.specs.declared.Cipher.{Cipher}
use Rattle.names.specs.declared.Cipher.TheVariants as cipher
use Rattle.names.specs.declared.Curve.TheVariants.{Nistp256, Nistp384, Nistp521}
use Rattle.names.specs.declared.Kdf.{Kdf}
use Rattle.names.specs.declared.Kdf.TheVariants as kdf
use Rattle.names.specs.Ciphers.{cipher_name, kdf_name}
use Rattle.format.specs.Format.{PublicBytes, PrivateBytes, Entry, entry, alone, key_of, magic, options, header, blob, keypair, written_pair, padding_length, blob_fields, entry_fields, content, section, plain_image, written_image, encrypted_image}
use Rattle.format.proofs.Laws.{section-length}
use Rattle.format.specs.Lengths.{blob_length, keypair_length, LengthsFit, blobs_length, entries_length, content_length}

module _ (key : PublicBytes) (x : PrivateBytes) where
  pub blob-length : (a : Algorithm) → LengthsFit a key x → length (blob a key) ≡ blob_length a key
  unfolding blob
  blob-length (OnCurve Ed25519) h = simp (length-append, length-string) (omega (arith, h.0))
  blob-length (OnCurve (Ecdsa Nistp256)) h = simp (length-append, length-string) (omega (arith, h.0))
  blob-length (OnCurve (Ecdsa Nistp384)) h = simp (length-append, length-string) (omega (arith, h.0))
  blob-length (OnCurve (Ecdsa Nistp521)) h = simp (length-append, length-string) (omega (arith, h.0))
  blob-length Rsa h = simp (length-append, length-string) (omega arith)

  pub keypair-length : (a : Algorithm) → LengthsFit a key x → length (written_pair a key x) ≡ keypair_length a key x
  unfolding keypair
  keypair-length (OnCurve Ed25519) h = simp (length-append, length-string) (omega (arith, h.0, h.1))
  keypair-length (OnCurve (Ecdsa Nistp256)) h = simp (length-append, length-string, length-replicate) (omega (arith, h.0))
  keypair-length (OnCurve (Ecdsa Nistp384)) h = simp (length-append, length-string, length-replicate) (omega (arith, h.0))
  keypair-length (OnCurve (Ecdsa Nistp521)) h = simp (length-append, length-string, length-replicate) (omega (arith, h.0))
  keypair-length Rsa h = simp (length-append, length-string) (omega arith)

pub blobs_length_lem : (keys : List (List ℕ)) → length (join (blob_fields keys)) ≡ blobs_length keys
blobs_length_lem [] = refl
blobs_length_lem (key ∷ more) = simp (length-append, length-string, blobs_length_lem more)

pub entries_length_lem : (entries : List Entry) → length (join (entry_fields entries)) ≡ entries_length entries
entries_length_lem [] = refl
entries_length_lem (e ∷ more) = simp (length-append, length-string, entries_length_lem more) (omega arith)

-- a section's length but for its padding
pub content-length : (n : ℕ) (entries : List Entry) → length (content n entries) ≡ 8 + entries_length entries
unfolding content
content-length n entries = simp (length-append, length-uint32, entries_length_lem) (omega arith)

-- the header of a plain image
pub plain_header-length : (keys : List (List ℕ)) → length (header cipher.None kdf.None [] 0 keys) ≡ 39 + blobs_length keys
unfolding header magic
plain_header-length keys = simp (length-append, length-string, length-uint32, blobs_length_lem) (omega arith)

-- a plain image
pub plain_length :
    (n : ℕ) (keys : List (List ℕ)) (entries : List Entry) → length (plain_image n keys entries) ≡ 43 + blobs_length keys + length (section n entries)
unfolding plain_image
plain_length n keys entries = simp (length-append, length-string, plain_header-length) (omega arith)

pub written_content-length :
    (n : ℕ) (a : Algorithm) (key : PublicBytes) (x : PrivateBytes) (comment : List ℕ) → LengthsFit a key x
    → length (content n (alone (entry (written_pair a key x) comment))) ≡ content_length a key x (length comment)
written_content-length n a key x comment h =
    content-length n (alone (entry (written_pair a key x) comment)) ∙ rw (keypair-length key x a h) (omega arith)

-- the length law: an image's length by its kind, its parts' lengths, the scalar's bytes without leading zeros and the comment's length
pub written_length :
    (n : ℕ) (a : Algorithm) (key : PublicBytes) (x : PrivateBytes) (comment : List ℕ) → LengthsFit a key x
    → length (written_image n (alone (key_of a key x comment)))
    ≡ 47 + blob_length a key + (content_length a key x (length comment) + padding_length (content_length a key x (length comment)))
unfolding written_image
written_length n a key x comment h =
    let entries = alone (entry (written_pair a key x) comment) in
    plain_length n (alone (blob a key)) entries
    ∙ rw (section-length n entries, written_content-length n a key x comment h, blob-length key x a h) (omega arith)

-- the length of an encrypted image
pub encrypted_length :
    (c : Cipher) (k : Kdf) (salt : List ℕ) (rounds : ℕ) (key ciphertext tag : List ℕ)
    → length (encrypted_image c k salt rounds key ciphertext tag)
    ≡ 39 + length (cipher_name c) + length (kdf_name k) + length (options k salt rounds) + length key + length ciphertext + length tag
unfolding encrypted_image header magic
encrypted_length c k salt rounds key ciphertext tag = simp (length-append, length-string, length-uint32) (omega arith)
