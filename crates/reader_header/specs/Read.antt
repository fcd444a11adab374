-- Inversion: an image whose header was read begins with that header as the format writes it, and the places of its parts follow from what they
-- hold.
use Rattle.std.specs.Prelude.{ℕ, ◌+◌, ◌-◌, ◌≤◌, ◌≡◌, true, List, [], ◌∷◌, ◌++◌, map, length, Ok, Err}
use Rattle.std.proofs.Common.{arith, sym, ◌∙◌, ap, ap₂, append-nil}
use Rattle.std.proofs.Math.Seq.{slice}
use Rattle.fields.specs.Bytes.{uint32, string, join, AllBytes, length-zero}
use Rattle.fields.specs.Fields.{absent, part, whole, within, view_of}
use Rattle.fields.specs.Place.{clash, by_read, bytes_place}
use Rattle.fields.specs.Rest.{rest, rest-whole, rest-within, view_absent}
use Rattle.fields.specs.Read.{bytes_read, string_read, uint32_read, end_read}
use Rattle.fields.specs.declared.Cursor.{Cursor}
use Rattle.fields.specs.declared.Part.{Part}
use Rattle.names.specs.declared.Algorithm.{Algorithm}
use Rattle.names.specs.declared.Cipher.{Cipher}
use Rattle.names.specs.declared.Kdf.{Kdf}
use Rattle.names.specs.declared.Kdf.TheVariants as kdf
use Rattle.names.specs.Ciphers.{cipher_name, kdf_name}
use Rattle.format.specs.Format.{Key, key_blob, PublicFits, magic, options, OptionsFit, blob, blob_fields, header}
use Rattle.key_public.specs.declared.Public.{Public}
use Rattle.key_public.specs.Keys.{public_bytes}
use Rattle.format.proofs.Laws.{header_then, blob_field_then}
use Rattle.laws_keys.specs.Read.{public_place}
use Rattle.reader_blobs.specs.Blobs.{blob_bytes}
use Rattle.reader_blobs.specs.Back.{AllPublic}
use Rattle.reader_blobs.specs.Read.{by_blob_field, blob-text, blobs_text}
use Rattle.reader_header.specs.declared.Header.{Header}
use Rattle.reader_header.specs.Header.{on_kdf, cipher_at, none_at, bcrypt_at, kdf_at, keys_allowed, count_at, keys_at, second_blob, header_at}
use Rattle.reader_header.specs.Place.{by_cipher_field, by_kdf_field, cipher_place_lem, none_place, bcrypt_place, kdf_place_lem, count_place_lem, keys_some, keys_place}

-- where the salt lies, of n bytes, if the KDF's name ends at i
abbrev salt_from : ℕ → Kdf → ℕ → Part
salt_from i kdf.None n = absent
salt_from i kdf.Bcrypt n = part (i + 8) n

abbrev cursor : ℕ → ℕ → Cursor
cursor at end = record { at = at; end = end }

abbrev pub salt_place : Cipher → Kdf → ℕ → Part
salt_place cipher k n = salt_from (15 + 4 + length (cipher_name cipher) + 4 + length (kdf_name k)) k n

module _ (s : List ℕ) (all : AllBytes s) where
  cipher_text :
      (cipher : Cipher) (d : Cursor) → cipher_at s ≡ Ok (cipher, d)
      → (s ≡ magic ++ (string (cipher_name cipher) ++ rest s d)) × (d.at ≡ 15 + 4 + length (cipher_name cipher))
  cipher_text cipher d e =
      let p = cipher_place_lem s cipher d e in
      let m = bytes_read s (whole s) 15 p.start p.after p.magic_read in
      let b = bytes_place s (whole s) 15 p.start p.after p.magic_read in
      let n = string_read s all p.after p.name d p.name_read in
      let size : length (cipher_name cipher) ≡ p.name.length = ap length (sym p.name_is) ∙ n.size in (
        sym (rest-whole s) ∙ rw p.magic_is at m ∙ ap (λ (x : List ℕ). magic ++ x) (rw p.name_is at n.text),
        omega (arith, size, n.place.placed, b.0, b.1),
      )

  -- the options' string, and what they must be
  options-text :
      (k : Kdf) (c : Cursor) (salt : Part) (rounds : ℕ) (d : Cursor) → on_kdf k (none_at s c) (bcrypt_at s c) ≡ Ok ((k, salt, rounds), d)
      → (rest s c ≡ string (options k (view_of s salt) rounds) ++ rest s d) × OptionsFit k (view_of s salt) rounds
      × (salt ≡ salt_from c.at k (length (view_of s salt)))
  options-text kdf.None c salt rounds d e =
      let p = none_place s c kdf.None salt rounds d e in
      let r = string_read s all c p.0 d p.1 in
      let none : view_of s p.0 ≡ [] = length-zero (view_of s p.0) (r.size ∙ p.2) in
      (rw none at r.text, (ap (view_of s) (sym p.4) ∙ view_absent s, sym p.5), sym p.4)
  options-text kdf.Bcrypt c salt rounds d e =
      let p = bcrypt_place s c kdf.Bcrypt salt rounds d e in
      let r = string_read s all c p.inside d p.read in
      let a = string_read s all (within p.inside) salt p.after p.salt_read in
      let b = uint32_read s all p.after rounds p.last p.rounds_read in
      let z = (end_read s p.last p.ends).0 in
      let inner : view_of s p.inside ≡ string (view_of s salt) ++ uint32 rounds =
      sym (rest-within s p.inside (omega (arith, r.place.placed))) ∙ a.text
      ∙ ap (λ (x : List ℕ). string (view_of s salt) ++ x) (b.0 ∙ ap (λ (x : List ℕ). uint32 rounds ++ x) z ∙ append-nil (uint32 rounds)) in
      let start : salt.start ≡ c.at + 8 = omega (arith, a.place.placed, r.place.placed) in
      (rw inner at r.text, b.1, ap₂ part start (sym a.size))

  kdf_text :
      (c : Cursor) (k : Kdf) (salt : Part) (rounds : ℕ) (d : Cursor) → kdf_at s c ≡ Ok ((k, salt, rounds), d)
      → (rest s c ≡ string (kdf_name k) ++ (string (options k (view_of s salt) rounds) ++ rest s d)) × OptionsFit k (view_of s salt) rounds
      × (salt ≡ salt_from (c.at + 4 + length (kdf_name k)) k (length (view_of s salt)))
  kdf_text c k salt rounds d e =
      let p = kdf_place_lem s c k salt rounds d e in
      let n = string_read s all c p.name p.after p.name_read in
      let o = options-text k p.after salt rounds d p.options_are in
      let size : length (kdf_name k) ≡ p.name.length = ap length (sym p.name_is) ∙ n.size in
      let after : p.after.at ≡ c.at + 4 + length (kdf_name k) = omega (arith, size, n.place.placed) in
      (rw p.name_is at n.text ∙ ap (λ (x : List ℕ). string (kdf_name k) ++ x) o.0, o.1, o.2 ∙ ap (λ (i : ℕ). salt_from i k (length (view_of s salt))) after)

  -- the blobs after the first, of an accepted header
  abbrev pub other_blobs : Header → List (List ℕ)
  other_blobs h = blob_bytes s (second_blob s h) (h.count - 1)

  -- an accepted header
  pub record HeaderText (h : Header) : Type 0 where
    pub fits : length s ≤ 65535
    pub text :
        s
        ≡ header h.cipher h.kdf (view_of s h.salt) h.rounds (blob h.algorithm (public_bytes s h.public) ∷ other_blobs h)
        ++ rest s (record { at = h.section; end = length s })
    pub fit_options : OptionsFit h.kdf (view_of s h.salt) h.rounds
    pub allowed : keys_allowed h.cipher h.count ≡ true
    pub others : List Key
    pub others_held : other_blobs h ≡ map key_blob others
    pub counted : length others ≡ h.count - 1
    pub others_fit : AllPublic others
    pub content : view_of s h.blob ≡ blob h.algorithm (public_bytes s h.public)
    pub public_fits : PublicFits h.algorithm (public_bytes s h.public)
    pub good : h.section ≤ length s
    pub salt_lies : h.salt ≡ salt_place h.cipher h.kdf (length (view_of s h.salt))
    pub blob_size : length (view_of s h.blob) ≡ h.blob.length
    pub blob_within : h.blob.start + h.blob.length ≤ length s
    pub blob_ends : h.blob.start + h.blob.length + length (join (blob_fields (other_blobs h))) ≡ h.section
    pub public_lies : h.public ≡ public_place (h.blob.start + h.blob.length) h.algorithm (public_bytes s h.public)

  -- the place after the first blob
  second_is : (b : Part) (after : Cursor) → b.start + b.length ≡ after.at → after.end ≡ length s → record { at = b.start + b.length; end = length s } ≡ after
  second_is b after at end = ap₂ (λ (i j : ℕ). cursor i j) at (sym end)

  -- the reads, one after the other
  joined :
      (cipher : Cipher) (c : Cursor) (k : Kdf) (salt : Part) (rounds : ℕ) (d : Cursor) (n : ℕ) (e : Cursor) (a : Algorithm) (b : Part) (public : Public) (g : Cursor)
      → cipher_at s ≡ Ok (cipher, c) → kdf_at s c ≡ Ok ((k, salt, rounds), d) → count_at s d cipher ≡ Ok (n, e)
      → keys_at s e (n - 1) ≡ Ok ((a, b, public), g)
      → HeaderText
      (record { cipher = cipher; kdf = k; salt = salt; rounds = rounds; count = n; algorithm = a; blob = b; public = public; section = g.at })
  joined cipher c k salt rounds d n e a b public g p₁ p₂ p₃ p₄ =
      let t₁ = cipher_text cipher c p₁ in
      let t₂ = kdf_text c k salt rounds d p₂ in
      let q₃ = count_place_lem s d cipher n e p₃ in
      let t₃ = (uint32_read s all d n e q₃.read).0 in
      let q₄ = keys_place s e (n - 1) a b public g p₄ in
      let t₄ = blob-text s all e a b public q₄.after q₄.first in
      let t₅ = blobs_text s all q₄.after (n - 1) g t₄.good q₄.others in
      let end₃ : e.end ≡ length s = q₃.end ∙ (kdf_place_lem s c k salt rounds d p₂).end ∙ (cipher_place_lem s cipher c p₁).end in
      let end : g.end ≡ length s = t₅.end ∙ t₄.end ∙ end₃ in
      let tail : rest s g ≡ rest s (record { at = g.at; end = length s }) = ap (λ (i : ℕ). slice g.at i s) end in
      let second : record { at = b.start + b.length; end = length s } ≡ q₄.after = second_is b q₄.after t₄.ends (t₄.end ∙ end₃) in
      let key = blob a (public_bytes s public) in
      let others = blob_bytes s q₄.after (n - 1) in
      let some = keys_some cipher n q₃.allowed in
      let count_is : length (key ∷ others) ≡ n = omega (arith, some, t₅.counted) in
      let left : rest s e ≡ join (blob_fields (key ∷ others)) ++ rest s (record { at = g.at; end = length s }) =
      t₄.text ∙ ap (λ (x : List ℕ). string key ++ x) (t₅.text ∙ ap (λ (x : List ℕ). join (blob_fields others) ++ x) tail)
      ∙ sym (blob_field_then key others (rest s (record { at = g.at; end = length s }))) in
      let text : s ≡ header cipher k (view_of s salt) rounds (key ∷ others) ++ rest s (record { at = g.at; end = length s }) =
      t₁.0
      ∙ ap (λ (x : List ℕ). magic ++ (string (cipher_name cipher) ++ x))
      (t₂.0
      ∙ ap (λ (x : List ℕ). string (kdf_name k) ++ (string (options k (view_of s salt) rounds) ++ x))
      (t₃ ∙ ap₂ (λ (i : ℕ) (x : List ℕ). uint32 i ++ x) (sym count_is) left))
      ∙ sym (header_then cipher k (view_of s salt) rounds (key ∷ others) (rest s (record { at = g.at; end = length s }))) in
      record {
        fits = (cipher_place_lem s cipher c p₁).fits;
        text = rw second text;
        fit_options = t₂.1;
        allowed = q₃.allowed;
        others = t₅.keys;
        others_held = rw second t₅.held;
        counted = t₅.keys_counted;
        others_fit = t₅.keys_fit;
        content = t₄.content;
        public_fits = t₄.fits;
        good = t₅.good;
        salt_lies = t₂.2 ∙ ap (λ (i : ℕ). salt_from (i + 4 + length (kdf_name k)) k (length (view_of s salt))) t₁.1;
        blob_size = t₄.size;
        blob_within = omega (arith, t₄.ends, t₄.good);
        blob_ends = rw second (omega (arith, t₅.long, t₄.ends));
        public_lies = t₄.lies ∙ ap (λ (i : ℕ). public_place i a (public_bytes s public)) (sym t₄.ends);
      }

  pub header-text : (h : Header) → header_at s ≡ Ok h → HeaderText h
  unfolding header_at
  header-text h e =
      by_cipher_field (cipher_at s)
      (λ f w. let g : Err f ≡ Ok h = rw w at e in clash cc)
      (λ cipher c p₁.
      let g₁ = rw p₁ at e in
      by_kdf_field (kdf_at s c)
      (λ f w. let g : Err f ≡ Ok h = rw w at g₁ in clash cc)
      (λ k salt rounds d p₂.
      let g₂ = rw p₂ at g₁ in
      by_read (count_at s d cipher)
      (λ f w. let g : Err f ≡ Ok h = rw w at g₂ in clash cc)
      (λ n i p₃.
      let g₃ = rw p₃ at g₂ in
      by_blob_field (keys_at s i (n - 1))
      (λ f w. let g : Err f ≡ Ok h = rw w at g₃ in clash cc)
      (λ a b public j p₄.
      let g₄ :
      Ok
      (record { cipher = cipher; kdf = k; salt = salt; rounds = rounds; count = n; algorithm = a; blob = b; public = public; section = j.at })
      ≡ Ok h = rw p₄ at g₃ in
      let o : record { cipher = cipher; kdf = k; salt = salt; rounds = rounds; count = n; algorithm = a; blob = b; public = public; section = j.at } ≡ h = cc in
      rw (← o) (joined cipher c k salt rounds d n i a b public j p₁ p₂ p₃ p₄)))))
