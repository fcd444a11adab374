-- docs/RULES.md, 10.7. Order, encrypted: cipher `none` 3; KDF `none` with salt bytes or rounds other than 0, 3; blob refused as in
-- 4.6; ciphertext not a multiple of the block 3; tag length wrong 1; size 11; room 9.
use Rattle.std.specs.Prelude.{ℕ, ◌%◌, Bool, true, not, ◌&&◌, List, eqb, length}
use Rattle.fields.specs.Fields.{whole}
use Rattle.fields.specs.declared.Refusal.TheVariants.{Length, Crypto}
use Rattle.names.specs.declared.Cipher.{Cipher}
use Rattle.names.specs.declared.Kdf.{Kdf}
use Rattle.names.specs.declared.Kdf.TheVariants as kdf
use Rattle.names.specs.Ciphers.{is_none, block_size, tag_length}
use Rattle.format.specs.Format.{encrypted_image}
use Rattle.key_public.specs.Keys.{on_blob, blob_at}
use Rattle.writer_reply.specs.Reply.{refused, unless, left, sized, Answers, Written}

abbrev pub options_fit : Kdf → List ℕ → ℕ → Bool
options_fit kdf.None salt rounds = eqb (length salt) 0 && eqb rounds 0
options_fit kdf.Bcrypt salt rounds = true

unfoldable pub encrypted_reply : Cipher → Kdf → List ℕ → ℕ → List ℕ → List ℕ → List ℕ → ℕ → Written
encrypted_reply cipher k salt rounds key ciphertext tag room =
    unless (not (is_none cipher)) Crypto
    (unless (options_fit k salt rounds) Crypto
    (on_blob (blob_at key (whole key)) (λ f. refused f.why) (λ a point.
    unless (eqb (length ciphertext % block_size cipher) 0) Crypto
    (unless (eqb (length tag) (tag_length cipher)) Length
    (sized (encrypted_image cipher k salt rounds key ciphertext tag) room)))))

unfoldable pub encrypted_left : Cipher → Kdf → List ℕ → ℕ → List ℕ → List ℕ → List ℕ → List ℕ → List ℕ
encrypted_left cipher k salt rounds key ciphertext tag old =
    left (encrypted_reply cipher k salt rounds key ciphertext tag (length old)) (encrypted_image cipher k salt rounds key ciphertext tag) old

-- the contract of an encrypted write: it answers r and leaves out
abbrev pub IsEncrypted : Cipher → Kdf → List ℕ → ℕ → List ℕ → List ℕ → List ℕ → List ℕ → Written → List ℕ → Type 0
IsEncrypted cipher k salt rounds key ciphertext tag old r out =
    Answers (encrypted_reply cipher k salt rounds key ciphertext tag (length old)) (encrypted_left cipher k salt rounds key ciphertext tag old) r out
