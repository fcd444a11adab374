-- docs/RULES.md, 7.5: where a section refuses, plain or encrypted. The place lies in what is read, or at its end. The comment's
-- field of a section that is read begins no later than that end.
use Prim.Native.Nat.{ℕ, zero, suc, ◌-◌, ◌%◌, ◌≤◌}
use Rattle.std.proofs.Common.{arith}
use Rattle.std.specs.Prelude.{List, eqb, ltb, take, Result, Ok, Err}
use Rattle.fields.specs.Bytes.{same_bytes}
use Rattle.fields.specs.Fields.{part, within, uint32_at, bytes_at, string_at, end_at, view_of, Read}
use Rattle.fields.specs.Place.{by_read, by_tested, by_bool}
use Rattle.fields.specs.Rest.{Good}
use Rattle.fields.specs.declared.Cursor.{Cursor}
use Rattle.fields.specs.declared.Fault.{Fault}
use Rattle.fields.specs.declared.Part.{Part}
use Rattle.names.specs.declared.Algorithm.{Algorithm}
use Rattle.names.specs.declared.Cipher.{Cipher}
use Rattle.names.specs.Ciphers.{block_size, tag_length}
use Rattle.utf8.specs.Utf8.{utf8}
use Rattle.format.specs.Format.{padding_bytes}
use Rattle.key_public.specs.declared.Public.{Public}
use Rattle.key_pairs.specs.Pairs.{keypair_at}
use Rattle.reader_blobs.specs.Blobs.{blob_field_at}
use Rattle.reader_blobs.specs.Read.{by_blob_field}
use Rattle.reader_entries.specs.Entries.{Listed, Are, Not, Keys, Keys-are, Keys-not, same_key, entry_at, next_at, more_at, keys_at}
use Rattle.reader_entries.proofs.Read.{by_keypair, by_entry, by_listed, by_keys}
use Rattle.reader_section.specs.Section.{checkints_at, padding_at, closed_at, content_at, ended_at, plain_at, encrypted_at}
use Rattle.reader_section.specs.Read.{by_section}
use Rattle.laws_fields.specs.Fields.{Lies, After, Uint32Lies, EndingLies, lies_after, after-after, good_after, uint32_lies, bytes_lies, string_lies, string_in, end_lies}
use Rattle.laws_fields.specs.Pairs.{keypair_lies}
use Rattle.laws_places.specs.Header.{blob_field_lies}
use Rattle.key_pairs.specs.declared.Private.{Private}
use Rattle.reader_section.specs.declared.Section.{Section}

-- a comment's field, its length bytes included, begins no later than the end of what is read at c
abbrev Commented : Cursor → Part → Type 0
Commented c m = m.start - 4 ≤ c.end

-- of each answer: refused, where the refusal is; read, where the comment and the next place are
abbrev EntryLies : Cursor → Read (Private × Part) → Type 0
EntryLies c (Err f) = Lies c f
EntryLies c (Ok ((x, m), d)) = Commented c m × After c d

abbrev pub SectionLies : Cursor → Result Section Fault → Type 0
SectionLies c (Err f) = Lies c f
SectionLies c (Ok x) = Commented c x.comment

pub checkints_lies : (s : List ℕ) (c : Cursor) → Good s c → Uint32Lies c (checkints_at s c)
unfolding checkints_at
checkints_lies s c good =
    by_read (uint32_at s c)
    (λ f w. rw w (rw w at (uint32_lies s c good)))
    (λ first d w.
    let a = rw w at (uint32_lies s c good) in
    let next = uint32_lies s d (good_after s c d good a) in
    rw w
    (by_read (uint32_at s d)
    (λ f v. rw v (lies_after c d f a (rw v at next)))
    (λ second e v.
    rw v
    (by_bool (eqb second first)
    (λ u. rw u (after-after c d e a (rw v at next)))
    (λ u. rw u (omega (arith, good, a)))))))

entry_lies : (s : List ℕ) (c : Cursor) (algorithm : Algorithm) (public : Public) → Good s c → EntryLies c (entry_at s c algorithm public)
unfolding entry_at
entry_lies s c algorithm public good =
    by_keypair (keypair_at s c)
    (λ f w. rw w (rw w at (keypair_lies s c good)))
    (λ j p private d w.
    let a = rw w at (keypair_lies s c good) in
    let good' = good_after s c d good a in
    rw w
    (by_bool (same_key s j p algorithm public)
    (λ v.
    rw v
    (by_read (string_at s d)
    (λ f u. rw u (lies_after c d f a (rw u at (string_lies s d good'))))
    (λ comment e u.
    let i = string_in s d comment e u in
    rw u
    (by_bool (utf8 (view_of s comment))
    (λ t. rw t (omega (arith, i, a), after-after c d e a i.after))
    (λ t. rw t (omega (arith, good, a)))))))
    (λ v. rw v (omega (arith, good)))))

padding_lies : (s : List ℕ) (c : Cursor) → Good s c → EndingLies c (padding_at s c)
unfolding padding_at
padding_lies s c good =
    by_bool (ltb (c.end - c.at) 8)
    (λ w.
    rw w
    (by_bool (same_bytes (view_of s (part c.at (c.end - c.at))) (take (c.end - c.at) padding_bytes))
    (λ v. rw v tt)
    (λ v. rw v (omega (arith, good)))))
    (λ w. rw w (omega (arith, good)))

-- ---- a plain section, of which the keys' blobs stand elsewhere: its refusals lie between two places, as both do

abbrev Spans : ℕ → ℕ → Cursor → Type 0
Spans low top c = (low ≤ c.at) × (c.end ≤ top)

abbrev Between : ℕ → ℕ → Fault → Type 0
Between low top f = (low ≤ f.at) × (f.at ≤ top)

lies_between : (low top : ℕ) (c : Cursor) (f : Fault) → Spans low top c → Lies c f → Between low top f
lies_between low top c f a l = omega (arith, a, l)

spans_after : (low top : ℕ) (c d : Cursor) → Spans low top c → After c d → Spans low top d
spans_after low top c d a b = omega (arith, a, b)

abbrev MoreLies : ℕ → ℕ → Cursor → Listed → Type 0
MoreLies low top c (Not f) = Between low top f
MoreLies low top c (Are l d) = After c d

abbrev KeysLies : ℕ → ℕ → Cursor → Keys → Type 0
KeysLies low top c (Keys-not f) = Between low top f
KeysLies low top c (Keys-are x m places d) = Commented c m × After c d

abbrev pub SectionBetween : ℕ → ℕ → Result Section Fault → Type 0
SectionBetween low top (Err f) = Between low top f
SectionBetween low top (Ok x) = x.comment.start - 4 ≤ top

module _ (s : List ℕ) (low top : ℕ) where
  more_lies :
      (c b : Cursor) (n : ℕ) → Good s c → Good s b → Spans low top c → Spans low top b → MoreLies low top c (more_at s c b n)
  unfolding more_at next_at
  more_lies c b zero good goodb a ab = omega (arith, good)
  more_lies c b (suc n) good goodb a ab =
      by_blob_field (blob_field_at s b)
      (λ f w. rw w (lies_between low top b f ab (rw w at (blob_field_lies s b goodb))))
      (λ j p q e w.
      let i = rw w at (blob_field_lies s b goodb) in
      rw w
      (by_entry (entry_at s c j q)
      (λ f v. rw v (lies_between low top c f a (rw v at (entry_lies s c j q good))))
      (λ x m d v.
      let k = rw v at (entry_lies s c j q good) in
      let next =
      more_lies d e n (good_after s c d good k.1) (good_after s b e goodb i.0) (spans_after low top c d a k.1) (spans_after low top b e ab i.0) in
      rw v
      (by_listed (more_at s d e n)
      (λ f u. rw u (rw u at next))
      (λ l g u. rw u (after-after c d g k.1 (rw u at next)))))))

  keys_lies :
      (c : Cursor) (algorithm : Algorithm) (public : Public) (b : Cursor) (more : ℕ) → Good s c → Good s b → Spans low top c → Spans low top b
      → KeysLies low top c (keys_at s c algorithm public b more)
  unfolding keys_at
  keys_lies c algorithm public b more good goodb a ab =
      by_entry (entry_at s c algorithm public)
      (λ f w. rw w (lies_between low top c f a (rw w at (entry_lies s c algorithm public good))))
      (λ x m d w.
      let k = rw w at (entry_lies s c algorithm public good) in
      let next = more_lies d b more (good_after s c d good k.1) goodb (spans_after low top c d a k.1) ab in
      rw w
      (by_listed (more_at s d b more)
      (λ f v. rw v (rw v at next))
      (λ l e v. rw v (k.0, after-after c d e k.1 (rw v at next)))))

  content_lies :
      (c : Cursor) (algorithm : Algorithm) (public : Public) (b : Cursor) (more : ℕ) → Good s c → Good s b → Spans low top c → Spans low top b
      → SectionBetween low top (content_at s c algorithm public b more)
  unfolding content_at closed_at
  content_lies c algorithm public b more good goodb a ab =
      by_bool (eqb ((c.end - c.at) % 8) 0)
      (λ z.
      rw z
      (by_read (checkints_at s c)
      (λ f w. rw w (lies_between low top c f a (rw w at (checkints_lies s c good))))
      (λ n d w.
      let x = rw w at (checkints_lies s c good) in
      let keys = keys_lies d algorithm public b more (good_after s c d good x) goodb (spans_after low top c d a x) ab in
      rw w
      (by_keys (keys_at s d algorithm public b more)
      (λ f v. rw v (rw v at keys))
      (λ private m places e v.
      let i = rw v at keys in
      let y = after-after c d e x i.1 in
      rw v
      (by_tested (padding_at s e)
      (λ f u. rw u (lies_between low top c f a (lies_after c e f y (rw u at (padding_lies s e (good_after s c e good y))))))
      (λ u. rw u (omega (arith, i.0, x, a)))))))))
      (λ z. rw z (omega (arith, good, a)))

  pub plain_lies :
      (c : Cursor) (algorithm : Algorithm) (public : Public) (b : Cursor) (more : ℕ) → Good s c → Good s b → Spans low top c → Spans low top b
      → SectionBetween low top (plain_at s c algorithm public b more)
  unfolding plain_at ended_at
  plain_lies c algorithm public b more good goodb a ab =
      by_read (string_at s c)
      (λ f w. rw w (lies_between low top c f a (rw w at (string_lies s c good))))
      (λ p d w.
      let i = string_in s c p d w in
      let content = content_lies (within p) algorithm public b more i.inside goodb (omega (arith, a, i)) ab in
      rw w
      (by_section (content_at s (within p) algorithm public b more)
      (λ f v. rw v (rw v at content))
      (λ x v.
      rw v
      (by_tested (end_at d)
      (λ f u. rw u (lies_between low top c f a (lies_after c d f i.after (rw u at (end_lies d)))))
      (λ u. rw u (rw v at content))))))

pub encrypted_lies : (s : List ℕ) (c : Cursor) (cipher : Cipher) → Good s c → SectionLies c (encrypted_at s c cipher)
unfolding encrypted_at
encrypted_lies s c cipher good =
    by_read (string_at s c)
    (λ f w. rw w (rw w at (string_lies s c good)))
    (λ p d w.
    let a = rw w at (string_lies s c good) in
    let next = bytes_lies s d (tag_length cipher) (good_after s c d good a) in
    rw w
    (by_bool (eqb (p.length % block_size cipher) 0)
    (λ v.
    rw v
    (by_read (bytes_at s d (tag_length cipher))
    (λ f u. rw u (lies_after c d f a (rw u at next)))
    (λ tag e u.
    let b = after-after c d e a (rw u at next) in
    rw u
    (by_tested (end_at e)
    (λ f t. rw t (lies_after c e f b (rw t at (end_lies e))))
    (λ t. rw t (omega arith))))))
    (λ v. rw v (omega (arith, good)))))
