-- docs/RULES.md, 10.5. Order, plain: a length wrong for the kind 1; point tag 2; a scalar of zeros 2; comment 7; size 11; room 9.
-- 10.6, RSA: the writer takes the six mpints and refuses 2, then 1, before the comment's 7.
use Rattle.std.specs.Prelude.{ℕ, ◌≡◌, refl, ◌&&◌, List, [], ◌∷◌, leb, length}
use Rattle.fields.specs.declared.Refusal.TheVariants.{Length, CharacterEncoding}
use Rattle.names.specs.declared.Algorithm.{Algorithm}
use Rattle.utf8.specs.Utf8.{utf8}
use Rattle.format.specs.Format.{PublicBytes, PrivateBytes, Key, key_of, alone, written_image}
use Rattle.writer_reply.specs.Reply.{unless, left, sized, Answers, Written}
-- what a key has to be, and then
unfoldable pub use Rattle.writer_parts.specs.Checks.{all_mpints, sizes_fit, key_checked}

-- each key in order, its comment after it, and then
unfoldable pub keys_checked : List Key → Written → Written
keys_checked [] next = next
keys_checked (k ∷ keys) next =
    key_checked k.algorithm k.public k.private
    (unless (utf8 k.comment) CharacterEncoding
    (keys_checked keys next))

-- an image has 1 to 16 keys
unfoldable pub keys_reply : List Key → ℕ → ℕ → Written
keys_reply keys checkint room =
    unless (leb 1 (length keys) && leb (length keys) 16) Length
    (keys_checked keys
    (sized (written_image checkint keys) room))

unfoldable pub keys_left : List Key → ℕ → List ℕ → List ℕ
keys_left keys checkint old = left (keys_reply keys checkint (length old)) (written_image checkint keys) old

-- of one key
unfoldable pub plain_reply : Algorithm → PublicBytes → PrivateBytes → ℕ → List ℕ → ℕ → Written
plain_reply a key x checkint comment room =
    key_checked a key x
    (unless (utf8 comment) CharacterEncoding
    (sized (written_image checkint (alone (key_of a key x comment))) room))

unfoldable pub plain_left : Algorithm → PublicBytes → PrivateBytes → ℕ → List ℕ → List ℕ → List ℕ
plain_left a key x checkint comment old =
    left (plain_reply a key x checkint comment (length old)) (written_image checkint (alone (key_of a key x comment))) old

-- the contract of a plain write: it answers r and leaves out
abbrev pub IsPlain : Algorithm → PublicBytes → PrivateBytes → ℕ → List ℕ → List ℕ → Written → List ℕ → Type 0
IsPlain a key x checkint comment old r out =
    Answers (plain_reply a key x checkint comment (length old)) (plain_left a key x checkint comment old) r out

-- one key is the list of one
pub plain_alone :
    (a : Algorithm) (key : PublicBytes) (x : PrivateBytes) (checkint : ℕ) (comment : List ℕ) (room : ℕ)
    → plain_reply a key x checkint comment room ≡ keys_reply (alone (key_of a key x comment)) checkint room
unfolding plain_reply keys_reply keys_checked
plain_alone a key x checkint comment room = refl

pub left_alone :
    (a : Algorithm) (key : PublicBytes) (x : PrivateBytes) (checkint : ℕ) (comment old : List ℕ)
    → plain_left a key x checkint comment old ≡ keys_left (alone (key_of a key x comment)) checkint old
unfolding plain_left keys_left plain_reply keys_reply keys_checked
left_alone a key x checkint comment old = refl
