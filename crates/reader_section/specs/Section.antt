-- docs/RULES.md, 4.7, 4.8, 5.1, 5.2 and 5.6, and of the places 7.2 and 7.3: what reading the section finds.
use Rattle.std.specs.Prelude.{ℕ, zero, suc, ◌-◌, ◌%◌, ◌≡◌, refl, List, [], ◌∷◌, cond, take, eqb, ltb, Result, Ok, Err}
use Rattle.std.proofs.Common.{arith}
use Rattle.fields.specs.Bytes.{same_bytes}
use Rattle.fields.specs.Fields.{fault, part, absent, within, on_read, on_tested, uint32_at, bytes_at, string_at, end_at, view_of, Read, Tested}
use Rattle.fields.specs.declared.Cursor.{Cursor}
use Rattle.fields.specs.declared.Fault.{Fault}
use Rattle.fields.specs.declared.Part.{Part}
use Rattle.fields.specs.declared.Refusal.TheVariants.{Length, FormatEncoding, Crypto}
use Rattle.names.specs.declared.Algorithm.{Algorithm}
use Rattle.names.specs.declared.Cipher.{Cipher}
use Rattle.names.specs.Ciphers.{block_size, tag_length}
use Rattle.format.specs.Format.{padding_bytes}
use Rattle.key_public.specs.declared.Public.{Public}
use Rattle.key_pairs.specs.declared.Private.{Private}
use Rattle.key_pairs.specs.Pairs.{scalar_place}
use Rattle.places.specs.declared.Places.{Places}
use Rattle.places.specs.Places.{places_of, pushed}
use Rattle.reader_blobs.specs.Blobs.{on_blob_field, blob_field_at}
use Rattle.reader_entries.specs.Entries.{on_entry, entry_at, Next-key, Next-not, on_next, next_at, Listed, Are, Not, on_listed, more_at, Keys, Keys-are, Keys-not, on_keys, keys_at}
use Rattle.reader_section.specs.declared.Kind.TheVariants.{Plain, Encrypted}
use Rattle.reader_section.specs.declared.Section.{Section}

-- by what was read
abbrev pub on_section_read : {R : Type 0} → Result Section Fault → (Fault → R) → (Section → R) → R
on_section_read (Err f) refused read = refused f
on_section_read (Ok x) refused read = read x

-- two uint32 checkints; short: 1; unequal: 3, at the second
unfoldable pub checkints_at : List ℕ → Cursor → Read ℕ
checkints_at s c =
    on_read (uint32_at s c) Err (λ first d.
    on_read (uint32_at s d) Err (λ second e.
    cond (eqb second first) (Ok (first, e)) (Err (fault Crypto d.at))))

-- padding is what remains: 8 or more: 1; not the bytes 1, 2, 3 and so on: 2; both at its first byte
unfoldable pub padding_at : List ℕ → Cursor → Tested
padding_at s c =
    cond (ltb (c.end - c.at) 8)
    (cond (same_bytes (view_of s (part c.at (c.end - c.at))) (take (c.end - c.at) padding_bytes))
    (Ok tt)
    (Err (fault FormatEncoding c.at))) (Err (fault Length c.at))

abbrev pub plain_of : ℕ → ℕ → Private → Part → Places → Section
plain_of checkint padding private comment places =
    record {
      kind = Plain;
      checkint = checkint;
      padding = padding;
      private = private;
      comment = comment;
      places = places;
      ciphertext = absent;
      tag = absent;
    }

-- after the keys one padding
unfoldable pub closed_at : List ℕ → ℕ → Keys → Result Section Fault
closed_at s checkint keys =
    on_keys keys Err (λ private comment places e.
    on_tested (padding_at s e) Err
    (Ok (plain_of checkint (e.end - e.at) private comment places)))

-- length not a multiple of 8: 1, at the first byte of the content; checkints; each key and its comment, in order; the padding
unfoldable pub content_at : List ℕ → Cursor → Algorithm → Public → Cursor → ℕ → Result Section Fault
content_at s c algorithm public b more =
    cond (eqb ((c.end - c.at) % 8) 0)
    (on_read (checkints_at s c) Err (λ checkint d.
    closed_at s checkint (keys_at s d algorithm public b more)))
    (Err (fault Length c.at))

-- after the section the image ends, else 6; errors inside the section come before this 6
unfoldable pub ended_at : Cursor → Result Section Fault → Result Section Fault
ended_at c section =
    on_section_read section Err (λ x.
    on_tested (end_at c) Err
    (Ok x))

-- 4.8: (cipher `none`) the section string, then end of image
unfoldable pub plain_at : List ℕ → Cursor → Algorithm → Public → Cursor → ℕ → Result Section Fault
plain_at s c algorithm public b more =
    on_read (string_at s c) Err (λ p d.
    ended_at d (content_at s (within p) algorithm public b more))

abbrev pub encrypted_of : Part → Part → Section
encrypted_of ciphertext tag =
    record {
      kind = Encrypted;
      checkint = 0;
      padding = 0;
      private = scalar_place absent;
      comment = absent;
      places = places_of [];
      ciphertext = ciphertext;
      tag = tag;
    }

-- the tag of a cipher that has none is absent
unfoldable pub present_of : Part → Part
present_of tag = cond (eqb tag.length 0) absent tag

-- 4.7: (another cipher) ciphertext string; length not a multiple of the block: 3; then the tag if that cipher has one, outside the
-- string, too short: 1; bytes left: 6. Nothing else is checked.
unfoldable pub encrypted_at : List ℕ → Cursor → Cipher → Result Section Fault
encrypted_at s c cipher =
    on_read (string_at s c) Err (λ p d.
    cond (eqb (p.length % block_size cipher) 0)
    (on_read (bytes_at s d (tag_length cipher)) Err (λ tag e.
    on_tested (end_at e) Err
    (Ok (encrypted_of p (present_of tag)))))
    (Err (fault Crypto c.at)))

-- ---- as the code goes on from key to key, to the image's end

-- by what was read
abbrev pub on_more : {R : Type 0} → Read Places → (Fault → R) → (Places → Cursor → R) → R
on_more (Err f) refused read = refused f
on_more (Ok (places, c)) refused read = read places c

-- the keys after the first
unfoldable pub read_more : List ℕ → Cursor → Cursor → ℕ → Read Places
read_more s c b n = on_listed (more_at s c b n) Err (λ l d. Ok (places_of l, d))

-- after the last key the padding, and then the image's end
unfoldable pub ends_at : List ℕ → Cursor → Cursor → Tested
ends_at s c past = on_tested (padding_at s c) Err (end_at past)

-- the first key, which began at a place, and so many more
unfoldable pub followed_at : List ℕ → Cursor → Cursor → ℕ → ℕ → ℕ → Private → Part → Cursor → Result Section Fault
followed_at s c b n checkint at private comment past =
    on_more (read_more s c b n) Err (λ places d.
    on_tested (ends_at s d past) Err
    (Ok (plain_of checkint (d.end - d.at) private comment (pushed at places))))

-- no more
pub more_none : (s : List ℕ) (c b : Cursor) → read_more s c b 0 ≡ Ok (places_of [], c)
unfolding read_more more_at
more_none s c b = refl

-- one more, and those after it
pub more_next :
    (s : List ℕ) (c b : Cursor) (n : ℕ) → (n ≡ 0 → ⊥)
    → read_more s c b n
    ≡ on_blob_field (blob_field_at s b) Err (λ a p q e.
    on_entry (entry_at s c a q) Err (λ private comment d.
    on_more (read_more s d e (n - 1)) Err (λ places g.
    Ok (pushed c.at places, g))))
unfolding read_more more_at next_at
more_next s c b zero h = absurd (h refl)
more_next s c b (suc n) h = let less : suc n - 1 ≡ n = omega arith in
    rw less (go (blob_field_at s b))
  where
    rest : Cursor → Cursor → Listed
    rest d e = on_listed (more_at s d e n) Not (λ l g. Are (c.at ∷ l) g)

    told : Listed → Read Places
    told r = on_listed r Err (λ l d. Ok (places_of l, d))

    go :
        (r : Read (Algorithm × Part × Public))
        → told (on_next (on_blob_field r Next-not (λ a p q e. on_entry (entry_at s c a q) Next-not (λ x m d. Next-key d e))) Not rest)
        ≡ on_blob_field r Err (λ a p q e.
        on_entry (entry_at s c a q) Err (λ x m d. on_more (told (more_at s d e n)) Err (λ places g. Ok (pushed c.at places, g))))
    go (Err f) = refl
    go (Ok ((a, p, q), e)) = by (entry_at s c a q)
      where
        by :
            (r : Read (Private × Part))
            → told (on_next (on_entry r Next-not (λ x m d. Next-key d e)) Not rest)
            ≡ on_entry r Err (λ x m d. on_more (told (more_at s d e n)) Err (λ places g. Ok (pushed c.at places, g)))
        by (Err f) = refl
        by (Ok ((x, m), d)) = listed (more_at s d e n)
          where
            listed :
                (r : Listed)
                → told (on_listed r Not (λ l g. Are (c.at ∷ l) g)) ≡ on_more (told r) Err (λ places g. Ok (pushed c.at places, g))
            listed (Not f) = refl
            listed (Are l g) = refl

-- the first key, and what follows it
pub keys_followed :
    (s : List ℕ) (c : Cursor) (algorithm : Algorithm) (public : Public) (b : Cursor) (n checkint : ℕ) (past : Cursor)
    → ended_at past (closed_at s checkint (keys_at s c algorithm public b n))
    ≡ on_entry (entry_at s c algorithm public) Err (λ private comment d. followed_at s d b n checkint c.at private comment past)
unfolding closed_at ended_at keys_at followed_at read_more ends_at
keys_followed s c algorithm public b n checkint past = go (entry_at s c algorithm public)
  where
    section : Private → Part → List ℕ → Cursor → Section
    section private comment l d = plain_of checkint (d.end - d.at) private comment (pushed c.at (places_of l))

    go :
        (r : Read (Private × Part))
        → on_section_read
        (on_keys (on_entry r Keys-not (λ private comment d. on_listed (more_at s d b n) Keys-not (λ l e. Keys-are private comment (places_of (c.at ∷ l)) e)))
        Err
        (λ private comment places e. on_tested (padding_at s e) Err (Ok (plain_of checkint (e.end - e.at) private comment places))))
        Err
        (λ x. on_tested (end_at past) Err (Ok x))
        ≡ on_entry r Err (λ private comment d.
        on_more (on_listed (more_at s d b n) Err (λ l e. Ok (places_of l, e))) Err (λ places e.
        on_tested (on_tested (padding_at s e) Err (end_at past)) Err
        (Ok (plain_of checkint (e.end - e.at) private comment (pushed c.at places)))))
    go (Err f) = refl
    go (Ok ((private, comment), d)) = listed (more_at s d b n)
      where
        listed :
            (r : Listed)
            → on_section_read
            (on_keys (on_listed r Keys-not (λ l e. Keys-are private comment (places_of (c.at ∷ l)) e)) Err
            (λ x m places e. on_tested (padding_at s e) Err (Ok (plain_of checkint (e.end - e.at) x m places))))
            Err
            (λ x. on_tested (end_at past) Err (Ok x))
            ≡ on_more (on_listed r Err (λ l e. Ok (places_of l, e))) Err (λ places e.
            on_tested (on_tested (padding_at s e) Err (end_at past)) Err
            (Ok (plain_of checkint (e.end - e.at) private comment (pushed c.at places))))
        listed (Not f) = refl
        listed (Are l e) = padded (padding_at s e)
          where
            padded :
                (r : Tested)
                → on_section_read (on_tested r Err (Ok (section private comment l e))) Err
                (λ x. on_tested (end_at past) Err (Ok x))
                ≡ on_tested (on_tested r Err (end_at past)) Err (Ok (section private comment l e))
            padded (Err f) = refl
            padded (Ok tt) = refl
