-- The header's parts end where the image does: each place that is handed on has the image's end.
use Rattle.std.specs.Prelude.{ℕ, ◌+◌, ◌-◌, ◌≤◌, ◌<◌, ◌≡◌, refl, true, false, ◌&&◌, List, eqb, leb, ltb, length, Ok, Err, Option, Some, None}
use Rattle.std.proofs.Common.{arith, sym, ◌∙◌, ap, ltb-false, le-leb, leb-true, eqb-true}
use Rattle.fields.specs.Bytes.{same_bytes, same_true, both_true}
use Rattle.fields.specs.Fields.{absent, whole, within, uint32_at, bytes_at, string_at, end_at, view_of, Read}
use Rattle.fields.specs.Place.{clash, by_read, by_tested, by_bool, string_place, bytes_place, uint32_place, same_read, same_triple}
use Rattle.fields.specs.declared.Cursor.{Cursor}
use Rattle.fields.specs.declared.Fault.{Fault}
use Rattle.fields.specs.declared.Part.{Part}
use Rattle.names.specs.declared.Algorithm.{Algorithm}
use Rattle.names.specs.declared.Cipher.{Cipher}
use Rattle.names.specs.declared.Kdf.{Kdf}
use Rattle.names.specs.declared.Kdf.TheVariants as kdf
use Rattle.names.specs.Ciphers.{cipher_name, kdf_name, cipher_named, kdf_named, is_none, cipher_read, kdf_read}
use Rattle.format.specs.Format.{magic}
use Rattle.key_public.specs.declared.Public.{Public}
use Rattle.reader_blobs.specs.Blobs.{blob_field_at, blobs_at}
use Rattle.reader_blobs.specs.Read.{by_blob_field, by_blobs, blob_place_lem}
use Rattle.reader_header.specs.declared.Header.{Header}
use Rattle.reader_header.specs.Header.{on_kdf, magic_at, cipher_at, none_at, bcrypt_at, kdf_at, most_keys, keys_allowed, count_at, keys_at, header_at}

-- by cases, with the equation in hand
pub by_cipher_name : {P : Type 0} (w : Option Cipher) → (w ≡ None → P) → ((c : Cipher) → w ≡ Some c → P) → P
by_cipher_name None unknown known = unknown refl
by_cipher_name (Some c) unknown known = known c refl

pub by_kdf_name : {P : Type 0} (w : Option Kdf) → (w ≡ None → P) → ((k : Kdf) → w ≡ Some k → P) → P
by_kdf_name None unknown known = unknown refl
by_kdf_name (Some k) unknown known = known k refl

pub by_cipher_field :
    {P : Type 0} (w : Read Cipher) → ((f : Fault) → w ≡ Err f → P) → ((k : Cipher) (c : Cursor) → w ≡ Ok (k, c) → P) → P
by_cipher_field (Err f) refused read = refused f refl
by_cipher_field (Ok (k, c)) refused read = read k c refl

pub by_kdf_field :
    {P : Type 0} (w : Read (Kdf × Part × ℕ)) → ((f : Fault) → w ≡ Err f → P)
    → ((k : Kdf) (salt : Part) (rounds : ℕ) (c : Cursor) → w ≡ Ok ((k, salt, rounds), c) → P) → P
by_kdf_field (Err f) refused read = refused f refl
by_kdf_field (Ok ((k, salt, rounds), c)) refused read = read k salt rounds c refl

-- an accepted cipher: the limit, the magic, the name
pub record CipherPlace (s : List ℕ) (cipher : Cipher) (d : Cursor) : Type 0 where
  pub fits : length s ≤ 65535
  pub start : Part
  pub after : Cursor
  pub magic_read : bytes_at s (whole s) 15 ≡ Ok (start, after)
  pub magic_is : view_of s start ≡ magic
  pub name : Part
  pub name_read : string_at s after ≡ Ok (name, d)
  pub name_is : view_of s name ≡ cipher_name cipher
  pub end : d.end ≡ length s

magic_place :
    (s : List ℕ) (p : Part) (d : Cursor) → magic_at s ≡ Ok (p, d) → (bytes_at s (whole s) 15 ≡ Ok (p, d)) × (view_of s p ≡ magic)
unfolding magic_at
magic_place s p d e =
    by_read (bytes_at s (whole s) 15)
    (λ f w. let g : Err f ≡ Ok (p, d) = rw w at e in clash cc)
    (λ q x w.
    let g = rw w at e in
    by_bool (same_bytes (view_of s q) magic)
    (λ v.
    let h : Ok (q, x) ≡ Ok (p, d) = rw v at g in
    let o : q ≡ p = (same_read h).0 in
    (w ∙ h, ap (view_of s) (sym o) ∙ same_true (view_of s q) magic v))
    (λ v. let h = rw v at g in clash cc))

pub cipher_place_lem : (s : List ℕ) (cipher : Cipher) (d : Cursor) → cipher_at s ≡ Ok (cipher, d) → CipherPlace s cipher d
unfolding cipher_at
cipher_place_lem s cipher d e =
    by_bool (ltb 65535 (length s))
    (λ z. let g = rw z at e in clash cc)
    (λ z.
    let g = rw z at e in
    by_read (magic_at s)
    (λ f w. let h : Err f ≡ Ok (cipher, d) = rw w at g in clash cc)
    (λ p c w.
    let h = rw w at g in
    by_read (string_at s c)
    (λ f v. let i : Err f ≡ Ok (cipher, d) = rw v at h in clash cc)
    (λ n x v.
    let i = rw v at h in
    by_cipher_name (cipher_named (view_of s n))
    (λ u. let j = rw u at i in clash cc)
    (λ k u.
    let j : Ok (k, x) ≡ Ok (cipher, d) = rw u at i in
    let o : k ≡ cipher = (same_read j).0 in
    let m : x ≡ d = (same_read j).1 in
    let q = magic_place s p c w in
    record {
      fits = ltb-false 65535 (length s) z;
      start = p;
      after = c;
      magic_read = q.0;
      magic_is = q.1;
      name = n;
      name_read = v ∙ ap (λ (x : Cursor). Ok (n, x)) m;
      name_is = cipher_read (view_of s n) cipher (u ∙ ap Some o);
      end =
          ap (λ (y : Cursor). y.end) (sym m) ∙ (string_place s c n x v).placed.end ∙ (bytes_place s (whole s) 15 p c q.0).0.end;
    }))))

-- an accepted KDF: its name, and then its options
pub record KdfPlace (s : List ℕ) (c : Cursor) (k : Kdf) (salt : Part) (rounds : ℕ) (d : Cursor) : Type 0 where
  pub name : Part
  pub after : Cursor
  pub name_read : string_at s c ≡ Ok (name, after)
  pub name_is : view_of s name ≡ kdf_name k
  pub options_are : on_kdf k (none_at s after) (bcrypt_at s after) ≡ Ok ((k, salt, rounds), d)
  pub end : d.end ≡ c.end

-- `none` has an empty string for its options
pub none_place :
    (s : List ℕ) (c : Cursor) (k : Kdf) (salt : Part) (rounds : ℕ) (d : Cursor) → none_at s c ≡ Ok ((k, salt, rounds), d)
    → (p : Part) × (string_at s c ≡ Ok (p, d)) × (p.length ≡ 0) × (kdf.None ≡ k) × (absent ≡ salt) × (0 ≡ rounds)
unfolding none_at
none_place s c k salt rounds d e =
    by_read (string_at s c)
    (λ f w. let g : Err f ≡ Ok ((k, salt, rounds), d) = rw w at e in clash cc)
    (λ p x w.
    let g = rw w at e in
    by_bool (eqb p.length 0)
    (λ v.
    let h : Ok ((kdf.None, absent, 0), x) ≡ Ok ((k, salt, rounds), d) = rw v at g in
    let m : x ≡ d = (same_read h).1 in
    let t = same_triple (same_read h).0 in
    (p, w ∙ ap (λ (x : Cursor). Ok (p, x)) m, eqb-true p.length 0 v, t.0, t.1, t.2))
    (λ v. let h = rw v at g in clash cc))

-- `bcrypt` has a salt and the rounds in its string
pub record BcryptPlace (s : List ℕ) (c : Cursor) (k : Kdf) (salt : Part) (rounds : ℕ) (d : Cursor) : Type 0 where
  pub inside : Part
  pub read : string_at s c ≡ Ok (inside, d)
  pub after : Cursor
  pub salt_read : string_at s (within inside) ≡ Ok (salt, after)
  pub last : Cursor
  pub rounds_read : uint32_at s after ≡ Ok (rounds, last)
  pub ends : end_at last ≡ Ok tt
  pub kind : kdf.Bcrypt ≡ k

pub bcrypt_place :
    (s : List ℕ) (c : Cursor) (k : Kdf) (salt : Part) (rounds : ℕ) (d : Cursor) → bcrypt_at s c ≡ Ok ((k, salt, rounds), d)
    → BcryptPlace s c k salt rounds d
unfolding bcrypt_at
bcrypt_place s c k salt rounds d e =
    by_read (string_at s c)
    (λ f w. let g : Err f ≡ Ok ((k, salt, rounds), d) = rw w at e in clash cc)
    (λ p x w.
    let g = rw w at e in
    by_read (string_at s (within p))
    (λ f v. let h : Err f ≡ Ok ((k, salt, rounds), d) = rw v at g in clash cc)
    (λ q i v.
    let h = rw v at g in
    by_read (uint32_at s i)
    (λ f u. let y : Err f ≡ Ok ((k, salt, rounds), d) = rw u at h in clash cc)
    (λ n j u.
    let y = rw u at h in
    by_tested (end_at j)
    (λ f t. let z : Err f ≡ Ok ((k, salt, rounds), d) = rw t at y in clash cc)
    (λ t.
    let z : Ok ((kdf.Bcrypt, q, n), x) ≡ Ok ((k, salt, rounds), d) = rw t at y in
    let o : q ≡ salt = (same_triple (same_read z).0).1 in
    let l : n ≡ rounds = (same_triple (same_read z).0).2 in
    let m : x ≡ d = (same_read z).1 in
    record {
      inside = p;
      read = w ∙ ap (λ (x : Cursor). Ok (p, x)) m;
      after = i;
      salt_read = v ∙ ap (λ (r : Part). Ok (r, i)) o;
      last = j;
      rounds_read = u ∙ ap (λ (r : ℕ). Ok (r, j)) l;
      ends = t;
      kind = (same_triple (same_read z).0).0;
    }))))

-- whichever the KDF is, its options are one string
options_string :
    (s : List ℕ) (c : Cursor) (j k : Kdf) (salt : Part) (rounds : ℕ) (d : Cursor) → on_kdf j (none_at s c) (bcrypt_at s c) ≡ Ok ((k, salt, rounds), d)
    → (p : Part) × (string_at s c ≡ Ok (p, d)) × (j ≡ k)
options_string s c kdf.None k salt rounds d e = let r = none_place s c k salt rounds d e in (r.0, r.1, r.3)
options_string s c kdf.Bcrypt k salt rounds d e = let r = bcrypt_place s c k salt rounds d e in (r.inside, r.read, r.kind)

pub kdf_place_lem :
    (s : List ℕ) (c : Cursor) (k : Kdf) (salt : Part) (rounds : ℕ) (d : Cursor) → kdf_at s c ≡ Ok ((k, salt, rounds), d) → KdfPlace s c k salt rounds d
unfolding kdf_at
kdf_place_lem s c k salt rounds d e =
    by_read (string_at s c)
    (λ f w. let g : Err f ≡ Ok ((k, salt, rounds), d) = rw w at e in clash cc)
    (λ n x w.
    let g = rw w at e in
    by_kdf_name (kdf_named (view_of s n))
    (λ v. let h = rw v at g in clash cc)
    (λ j v.
    let h = rw v at g in
    let r = options_string s x j k salt rounds d h in
    record {
      name = n;
      after = x;
      name_read = w;
      name_is = kdf_read (view_of s n) k (v ∙ ap Some r.2);
      options_are = rw r.2 at h;
      end = (string_place s x r.0 d r.1).placed.end ∙ (string_place s c n x w).placed.end;
    }))

-- an accepted key count
pub record CountPlace (s : List ℕ) (c : Cursor) (cipher : Cipher) (n : ℕ) (d : Cursor) : Type 0 where
  pub read : uint32_at s c ≡ Ok (n, d)
  pub allowed : keys_allowed cipher n ≡ true
  pub end : d.end ≡ c.end

pub count_place_lem : (s : List ℕ) (c : Cursor) (cipher : Cipher) (n : ℕ) (d : Cursor) → count_at s c cipher ≡ Ok (n, d) → CountPlace s c cipher n d
unfolding count_at
count_place_lem s c cipher n d e =
    by_read (uint32_at s c)
    (λ f w. let g : Err f ≡ Ok (n, d) = rw w at e in clash cc)
    (λ m x w.
    let g = rw w at e in
    by_bool (keys_allowed cipher m)
    (λ v.
    let h : Ok (m, x) ≡ Ok (n, d) = rw v at g in
    let same : m ≡ n = (same_read h).0 in
    let r : uint32_at s c ≡ Ok (n, d) = w ∙ h in
    record { read = r; allowed = rw same at v; end = (uint32_place s c n d r).end })
    (λ v. let h = rw v at g in clash cc))

-- with a cipher there is one key
pub keys_sealed : (cipher : Cipher) (n : ℕ) → is_none cipher ≡ false → keys_allowed cipher n ≡ true → n ≡ 1
keys_sealed cipher n w e = eqb-true n 1 (rw w at e)

keys_within : (cipher : Cipher) (n : ℕ) → keys_allowed cipher n ≡ true → (1 ≤ n) × (n ≤ most_keys)
keys_within cipher n e =
    by_bool (is_none cipher)
    (λ w.
    let both = both_true (leb 1 n) (leb n most_keys) (rw w at e) in
    (leb-true 1 n both.0, leb-true n most_keys both.1))
    (λ w. omega (arith, keys_sealed cipher n w e))

-- one key may be there, with a cipher and without
pub one_allowed : (cipher : Cipher) → keys_allowed cipher 1 ≡ true
one_allowed cipher = by_bool (is_none cipher) (λ w. rw w) (λ w. rw w)

-- there is a key
pub keys_some : (cipher : Cipher) (n : ℕ) → keys_allowed cipher n ≡ true → 0 < n
keys_some cipher n e = omega (arith, keys_within cipher n e)

-- and no more than sixteen
pub keys_most : (cipher : Cipher) (n : ℕ) → keys_allowed cipher n ≡ true → n ≤ 16
keys_most cipher n e = omega (arith, keys_within cipher n e)

-- 1 to 16 without a cipher
pub plain_allowed : (n : ℕ) → 1 ≤ n → n ≤ 16 → (leb 1 n && leb n 16) ≡ true
plain_allowed n some few = rw (le-leb 1 n some, le-leb n 16 few)

-- accepted blobs: the first, and the others
pub record KeysPlace (s : List ℕ) (c : Cursor) (more : ℕ) (a : Algorithm) (b : Part) (public : Public) (d : Cursor) : Type 0 where
  pub after : Cursor
  pub first : blob_field_at s c ≡ Ok ((a, b, public), after)
  pub others : blobs_at s after more ≡ Ok d

pub keys_place :
    (s : List ℕ) (c : Cursor) (more : ℕ) (a : Algorithm) (b : Part) (public : Public) (d : Cursor) → keys_at s c more ≡ Ok ((a, b, public), d)
    → KeysPlace s c more a b public d
unfolding keys_at
keys_place s c more a b public d e =
    by_blob_field (blob_field_at s c)
    (λ f w. let g : Err f ≡ Ok ((a, b, public), d) = rw w at e in clash cc)
    (λ j p q x w.
    let g = rw w at e in
    by_blobs (blobs_at s x more)
    (λ f v. let h : Err f ≡ Ok ((a, b, public), d) = rw v at g in clash cc)
    (λ y v.
    let h : Ok ((j, p, q), y) ≡ Ok ((a, b, public), d) = rw v at g in
    let oj : j ≡ a = (same_triple (same_read h).0).0 in
    let op : p ≡ b = (same_triple (same_read h).0).1 in
    let oq : q ≡ public = (same_triple (same_read h).0).2 in
    let oy : y ≡ d = (same_read h).1 in
    record { after = x; first = rw (oj, op, oq) at w; others = v ∙ ap Ok oy }))

-- an accepted header's first blob lies within the image, and there is a key
pub header_second : (s : List ℕ) (h : Header) → header_at s ≡ Ok h → (h.blob.start + h.blob.length ≤ length s) × (0 < h.count)
unfolding header_at
header_second s h e =
    by_cipher_field (cipher_at s)
    (λ f w. let g : Err f ≡ Ok h = rw w at e in clash cc)
    (λ cipher c p₁.
    let g₁ = rw p₁ at e in
    by_kdf_field (kdf_at s c)
    (λ f w. let g : Err f ≡ Ok h = rw w at g₁ in clash cc)
    (λ k salt rounds d p₂.
    let g₂ = rw p₂ at g₁ in
    by_read (count_at s d cipher)
    (λ f w. let g : Err f ≡ Ok h = rw w at g₂ in clash cc)
    (λ n i p₃.
    let g₃ = rw p₃ at g₂ in
    by_blob_field (keys_at s i (n - 1))
    (λ f w. let g : Err f ≡ Ok h = rw w at g₃ in clash cc)
    (λ a b public j p₄.
    let g₄ :
    Ok
    (record { cipher = cipher; kdf = k; salt = salt; rounds = rounds; count = n; algorithm = a; blob = b; public = public; section = j.at })
    ≡ Ok h = rw p₄ at g₃ in
    let o : record { cipher = cipher; kdf = k; salt = salt; rounds = rounds; count = n; algorithm = a; blob = b; public = public; section = j.at } ≡ h = cc in
    let first = (keys_place s i (n - 1) a b public j p₄).first in
    let place = (string_place s i b _ (blob_place_lem s i a b public _ first).0).placed in
    rw (← o) (omega (arith, place), keys_some cipher n (count_place_lem s d cipher n i p₃).allowed)))))
