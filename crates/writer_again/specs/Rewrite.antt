-- docs/RULES.md, 10.9: writing an image's record, where it is plain all its keys in their order, with its own checkint, each scalar filled to
-- SIZE; and 9.3: a record handed in that isn't what an accepted read of its image gives replies 1 before all else.
use Rattle.std.specs.Prelude.{ℕ, ◌≡◌, cond, List, map, length, Err}
use Rattle.std.proofs.Common.{ap}
use Rattle.fields.specs.Fields.{view_of}
use Rattle.fields.specs.declared.Refusal.TheVariants.{Length}
use Rattle.reader_image.specs.Container.{keys_in, on_read, read_at}
use Rattle.reader_image.specs.Form.{on_kind}
use Rattle.reader_image.specs.declared.Fields.{Fields}
use Rattle.reader_section.specs.declared.Kind.{Kind}
use Rattle.reader_section.specs.declared.Kind.TheVariants.{Plain}
use Rattle.handed_record.specs.Judge.{is_read}
use Rattle.writer_reply.specs.Reply.{unless, Answers, Written}
use Rattle.format.specs.Format.{filled_key}
use Rattle.writer_plain.specs.Plain.{keys_reply, keys_left}
use Rattle.writer_listed.specs.Listed.{listed_keys, IsListed}
use Rattle.writer_encrypted.specs.Encrypted.{encrypted_reply, encrypted_left}

-- a plain record's keys in their order, each with its scalar filled to SIZE and its comment, and the checkint, written again
unfoldable pub plain_again : List ℕ → Fields → ℕ → Written
plain_again s f room = keys_reply (map filled_key (keys_in s f)) f.section.checkint room

unfoldable pub plain_again_left : List ℕ → Fields → List ℕ → List ℕ
plain_again_left s f old = keys_left (map filled_key (keys_in s f)) f.section.checkint old

unfoldable pub record_reply : List ℕ → Fields → ℕ → Written
record_reply s f room =
    on_kind f.section.kind
    (plain_again s f room)
    (encrypted_reply f.header.cipher f.header.kdf (view_of s f.header.salt) f.header.rounds (view_of s f.header.blob)
    (view_of s f.section.ciphertext) (view_of s f.section.tag) room)

unfoldable pub record_left : List ℕ → Fields → List ℕ → List ℕ
record_left s f old =
    on_kind f.section.kind
    (plain_again_left s f old)
    (encrypted_left f.header.cipher f.header.kdf (view_of s f.header.salt) f.header.rounds (view_of s f.header.blob)
    (view_of s f.section.ciphertext) (view_of s f.section.tag) old)

abbrev pub IsRewrite : List ℕ → Fields → List ℕ → Written → List ℕ → Type 0
IsRewrite s f old r out = Answers (record_reply s f (length old)) (record_left s f old) r out

-- a refused image gets the reader's refusal
unfoldable pub rewrite_reply : List ℕ → ℕ → Written
rewrite_reply s room = on_read (read_at s) Err (λ f. record_reply s f room)

unfoldable pub rewrite_left : List ℕ → List ℕ → List ℕ
rewrite_left s old = on_read (read_at s) (λ f. old) (λ f. record_left s f old)

abbrev pub IsRewritten : List ℕ → List ℕ → Written → List ℕ → Type 0
IsRewritten s old r out = Answers (rewrite_reply s (length old)) (rewrite_left s old) r out

-- a record that is handed in, and isn't what an accepted read of its image gives, gets 1 before all else
unfoldable pub handed_reply : List ℕ → Fields → ℕ → Written
handed_reply s f room = unless (is_read s f) Length (record_reply s f room)

unfoldable pub handed_left : List ℕ → Fields → List ℕ → List ℕ
handed_left s f old = cond (is_read s f) (record_left s f old) old

abbrev pub IsHanded : List ℕ → Fields → List ℕ → Written → List ℕ → Type 0
IsHanded s f old r out = Answers (handed_reply s f (length old)) (handed_left s f old) r out

-- ---- laws: a plain record is written by the writer of a list

on_plain : {R : Type 0} (k : Kind) (x y : R) → k ≡ Plain → on_kind k x y ≡ x
on_plain k x y e = ap (λ (j : Kind). on_kind j x y) e

module _ (s : List ℕ) (f : Fields) (plain : f.section.kind ≡ Plain) where
  pub reply_plain : (room : ℕ) → record_reply s f room ≡ plain_again s f room
  unfolding record_reply
  reply_plain room = on_plain f.section.kind _ _ plain

  pub left_plain : (old : List ℕ) → record_left s f old ≡ plain_again_left s f old
  unfolding record_left
  left_plain old = on_plain f.section.kind _ _ plain

  -- by the keys that were found, where they are the record's
  pub listed_again :
      listed_keys s f ≡ map filled_key (keys_in s f) → (old : List ℕ) (r : Written) (out : List ℕ) → IsListed s f old r out → IsRewrite s f old r out
  unfolding plain_again plain_again_left
  listed_again same old r out w = rw (reply_plain (length old), left_plain old, ← same) w
