-- Reading back: a header that begins an image as the format writes it is read, with its fields.
use Rattle.std.specs.Prelude.{ℕ, suc, ◌+◌, ◌-◌, ◌≤◌, ◌<◌, ◌^◌, ◌≡◌, refl, true, List, [], ◌∷◌, ◌++◌, map, length, Ok}
use Rattle.std.proofs.Common.{arith, sym, ◌∙◌, ap, append-nil, eq-eqb, le-ltb, length-append}
use Rattle.std.proofs.Math.Seq.{slice}
use Rattle.fields.specs.Bytes.{uint32, string, join, same_self}
use Rattle.fields.specs.Fields.{absent, whole, within, bytes_at, view_of, Read}
use Rattle.fields.specs.Rest.{rest, Good, rest-whole, rest-within, view_absent, length-string}
use Rattle.fields.specs.Back.{FieldBack, also, Uint32Back, short_of, bytes_back, string_back, uint32_back, end_back}
use Rattle.fields.specs.declared.Cursor.{Cursor}
use Rattle.fields.specs.declared.Part.{Part}
use Rattle.names.specs.declared.Cipher.{Cipher}
use Rattle.names.specs.declared.Kdf.{Kdf}
use Rattle.names.specs.declared.Kdf.TheVariants as kdf
use Rattle.names.specs.Ciphers.{cipher_name, kdf_name, row, kdf_back}
use Rattle.mpint.specs.Mpint.{bits}
use Rattle.format.specs.Format.{Key, magic, options, OptionsFit, blob_fields, key_blob, header}
use Rattle.key_public.specs.declared.Public.{Public}
use Rattle.key_public.specs.Keys.{public_bytes}
use Rattle.format.proofs.Laws.{header_then, blob_field_then}
use Rattle.reader_blobs.specs.Blobs.{blob_bytes}
use Rattle.reader_blobs.specs.Back.{AllPublic, blob_field_back, blobs_back}
use Rattle.reader_header.specs.declared.Header.{Header}
use Rattle.reader_header.specs.Place.{cipher_place_lem, kdf_place_lem, count_place_lem, keys_most}
use Rattle.reader_header.specs.Header.{on_kdf, magic_at, cipher_at, none_at, bcrypt_at, kdf_at, keys_allowed, count_at, keys_at, second_blob, header_at}
use Rattle.names.specs.declared.Algorithm.{Algorithm}

-- the magic begins the image
length-magic : length magic ≡ 15
unfolding magic
length-magic = refl

magic_back : (s t : List ℕ) → s ≡ magic ++ t → FieldBack s (magic_at s) magic t
unfolding magic_at
magic_back s t e =
    let k = bytes_back s (whole s) (omega arith) magic t (rest-whole s ∙ e) in
    let read : bytes_at s (whole s) 15 ≡ Ok (k.place, k.next) = rw length-magic at k.read in
    also k (rw (read, k.seen, same_self magic))

record CipherBack (s : List ℕ) (w : Read Cipher) (cipher : Cipher) (t : List ℕ) : Type 0 where
  pub next : Cursor
  pub read : w ≡ Ok (cipher, next)
  pub good : Good s next
  pub more : rest s next ≡ t

cipher_back : (s : List ℕ) (cipher : Cipher) (t : List ℕ) → length s ≤ 65535 → s ≡ magic ++ (string (cipher_name cipher) ++ t) → CipherBack s (cipher_at s) cipher t
unfolding cipher_at
cipher_back s cipher t fits e =
    let m = magic_back s (string (cipher_name cipher) ++ t) e in
    let n = string_back s m.next m.good (cipher_name cipher) t (row cipher).fits m.more in
    record {
      next = n.next;
      read = rw (le-ltb 65535 (length s) fits, m.read, n.read, n.seen, (row cipher).back);
      good = n.good;
      more = n.more;
    }

record KdfBack (s : List ℕ) (w : Read (Kdf × Part × ℕ)) (k : Kdf) (salt : List ℕ) (rounds : ℕ) (t : List ℕ) : Type 0 where
  pub place : Part
  pub next : Cursor
  pub read : w ≡ Ok ((k, place, rounds), next)
  pub seen : view_of s place ≡ salt
  pub good : Good s next
  pub more : rest s next ≡ t

none_back : (s : List ℕ) (c : Cursor) → Good s c → (t : List ℕ) → rest s c ≡ string [] ++ t → KdfBack s (none_at s c) kdf.None [] 0 t
unfolding none_at
none_back s c good t e =
    let p = string_back s c good [] t (omega arith) e in
    record {
      place = absent;
      next = p.next;
      read = rw (p.read, eq-eqb _ _ p.size);
      seen = view_absent s;
      good = p.good;
      more = p.more;
    }

bcrypt_back :
    (s : List ℕ) (c : Cursor) → Good s c → (salt : List ℕ) (rounds : ℕ) (t : List ℕ) → length s ≤ 65535 → rounds < 2 ^ 32
    → rest s c ≡ string (string salt ++ uint32 rounds) ++ t → length (string salt ++ uint32 rounds) < 2 ^ 32 → length salt < 2 ^ 32
    → KdfBack s (bcrypt_at s c) kdf.Bcrypt salt rounds t
unfolding bcrypt_at
bcrypt_back s c good salt rounds t small fits e short salty =
    let p = string_back s c good (string salt ++ uint32 rounds) t short e in
    let inner = rest-within s p.place p.inside ∙ p.seen in
    let a = string_back s (within p.place) (omega (arith, p.inside)) salt (uint32 rounds) salty inner in
    let b = uint32_back s a.next a.good rounds [] fits (a.more ∙ sym (append-nil (uint32 rounds))) in
    record {
      place = a.place;
      next = p.next;
      read = rw (p.read, a.read, b.read, end_back s b.next b.good b.more);
      seen = a.seen;
      good = p.good;
      more = p.more;
    }

kdf_options_back :
    (s : List ℕ) (c : Cursor) → Good s c → length s ≤ 65535 → (k : Kdf) (salt : List ℕ) (rounds : ℕ) (t : List ℕ) → OptionsFit k salt rounds
    → rest s c ≡ string (kdf_name k) ++ (string (options k salt rounds) ++ t) → KdfBack s (kdf_at s c) k salt rounds t
unfolding kdf_at
kdf_options_back s c good small k salt rounds t fit e =
    let n = string_back s c good (kdf_name k) (string (options k salt rounds) ++ t) (kdf_back k).1 e in
    let o = after k salt rounds fit n.next n.good n.more in
    record {
      place = o.0.place;
      next = o.0.next;
      read = rw (n.read, n.seen, (kdf_back k).0) o.1;
      seen = o.0.seen;
      good = o.0.good;
      more = o.0.more;
    }
  where
    after :
        (k' : Kdf) (salt' : List ℕ) (rounds' : ℕ) → OptionsFit k' salt' rounds' → (d : Cursor) → Good s d → rest s d ≡ string (options k' salt' rounds') ++ t
        → (o : KdfBack s (on_kdf k' (none_at s d) (bcrypt_at s d)) k' salt' rounds' t)
        × (on_kdf k' (none_at s d) (bcrypt_at s d) ≡ Ok ((k', o.place, rounds'), o.next))
    after kdf.None salt' rounds' fit' d good' e' =
        rw (fit'.0, fit'.1) (let o = none_back s d good' t e' in (o, o.read))
    after kdf.Bcrypt salt' rounds' fit' d good' e' =
        let short = short_of s d good' (omega arith) (string salt' ++ uint32 rounds') t e' in
        let salty : length salt' < 2 ^ 32 = omega (arith, length-append (string salt') (uint32 rounds'), length-string salt') in
        let o = bcrypt_back s d good' salt' rounds' t small fit' e' short salty in
        (o, o.read)

count_back :
    (s : List ℕ) (c : Cursor) → Good s c → (cipher : Cipher) (n : ℕ) (t : List ℕ) → n < 2 ^ 32 → keys_allowed cipher n ≡ true → rest s c ≡ uint32 n ++ t
    → Uint32Back s (count_at s c cipher) n t
unfolding count_at
count_back s c good cipher n t fits allowed e =
    let k = uint32_back s c good n t fits e in
    record {
      next = k.next;
      read = rw (k.read, allowed);
      good = k.good;
      more = k.more;
    }

-- a place whose end is the image's
to_end : (s : List ℕ) (c : Cursor) (t : List ℕ) → c.end ≡ length s → rest s c ≡ t → rest s (record { at = c.at; end = length s }) ≡ t
to_end s c t end e = ap (λ (i : ℕ). slice c.at i s) (sym end) ∙ e

-- the first blob and the others
record KeysBack (s : List ℕ) (w : Read (Algorithm × Part × Public)) (k : Key) (others : List Key) (t : List ℕ) : Type 0 where
  pub place : Part
  pub public : Public
  pub next : Cursor
  pub read : w ≡ Ok ((k.algorithm, place, public), next)
  pub content : view_of s place ≡ key_blob k
  pub seen : public_bytes s public ≡ k.public
  pub counted : public.bits ≡ bits k.public.modulus
  pub good : Good s next
  pub more : rest s next ≡ t
  pub end : next.end ≡ length s
  pub second_good : place.start + place.length ≤ length s
  pub second : rest s (record { at = place.start + place.length; end = length s }) ≡ join (blob_fields (map key_blob others)) ++ t
  pub held : blob_bytes s (record { at = place.start + place.length; end = length s }) (length others) ≡ map key_blob others

keys_back :
    (s : List ℕ) (c : Cursor) → Good s c → c.end ≡ length s → length s ≤ 65535 → (k : Key) (others : List Key) (t : List ℕ) → AllPublic (k ∷ others)
    → rest s c ≡ join (blob_fields (map key_blob (k ∷ others))) ++ t → KeysBack s (keys_at s c (length others)) k others t
unfolding keys_at
keys_back s c good end small k others t fits e =
    let rest_of = join (blob_fields (map key_blob others)) ++ t in
    let b =
    blob_field_back s c good end small k.algorithm k.public rest_of fits.0 (e ∙ blob_field_then (key_blob k) (map key_blob others) t) in
    let m = blobs_back s b.next b.good b.end small others t fits.1 b.more in
    let after : b.next.at ≡ b.place.start + b.place.length = b.ends in
    record {
      place = b.place;
      public = b.public;
      next = m.next;
      read = rw (b.read, m.read);
      content = b.content;
      seen = b.seen;
      counted = b.counted;
      good = m.good;
      more = m.more;
      end = m.end;
      second_good = omega (arith, after, b.good, b.end);
      second = rw (← after) (to_end s b.next rest_of b.end b.more);
      held = rw (← after, ← b.end) m.held;
    }

-- the fields that a header gives back
pub record HeaderBack (s : List ℕ) (cipher : Cipher) (k : Kdf) (salt : List ℕ) (rounds : ℕ) (key : Key) (others : List Key) (t : List ℕ) : Type 0 where
  pub fields : Header
  pub read : header_at s ≡ Ok fields
  pub same_cipher : fields.cipher ≡ cipher
  pub same_kdf : fields.kdf ≡ k
  pub same_salt : view_of s fields.salt ≡ salt
  pub same_rounds : fields.rounds ≡ rounds
  pub same_count : fields.count ≡ suc (length others)
  pub same_algorithm : fields.algorithm ≡ key.algorithm
  pub same_blob : view_of s fields.blob ≡ key_blob key
  pub same_public : public_bytes s fields.public ≡ key.public
  pub same_bits : fields.public.bits ≡ bits key.public.modulus
  pub good : fields.section ≤ length s
  pub more : rest s (record { at = fields.section; end = length s }) ≡ t
  pub second_good : fields.blob.start + fields.blob.length ≤ length s
  pub second : rest s (second_blob s fields) ≡ join (blob_fields (map key_blob others)) ++ t
  pub same_others : blob_bytes s (second_blob s fields) (length others) ≡ map key_blob others

pub header_back :
    (s : List ℕ) (cipher : Cipher) (k : Kdf) (salt : List ℕ) (rounds : ℕ) (key : Key) (others : List Key) (t : List ℕ) → length s ≤ 65535
    → OptionsFit k salt rounds → AllPublic (key ∷ others) → keys_allowed cipher (suc (length others)) ≡ true
    → s ≡ header cipher k salt rounds (map key_blob (key ∷ others)) ++ t → HeaderBack s cipher k salt rounds key others t
unfolding header_at
header_back s cipher k salt rounds key others t small fit fits allowed e =
    let keys = map key_blob (key ∷ others) in
    let n = length keys in
    let counted : n ≡ suc (length others) = ap suc (map-length others) in
    let after-count = join (blob_fields keys) ++ t in
    let after-kdf = uint32 n ++ after-count in
    let after-cipher = string (kdf_name k) ++ (string (options k salt rounds) ++ after-kdf) in
    let c = cipher_back s cipher after-cipher small (e ∙ header_then cipher k salt rounds keys t) in
    let o = kdf_options_back s c.next c.good small k salt rounds after-kdf fit c.more in
    let few : suc (length others) < 2 ^ 32 = omega (arith, keys_most cipher (suc (length others)) allowed) in
    let m = count_back s o.next o.good cipher (suc (length others)) after-count few allowed (o.more ∙ ap (λ (i : ℕ). uint32 i ++ after-count) counted) in
    let ends = (count_place_lem s o.next cipher (suc (length others)) m.next m.read).end ∙ (kdf_place_lem s c.next k o.place rounds o.next o.read).end ∙ (cipher_place_lem s cipher c.next c.read).end in
    let less : suc (length others) - 1 ≡ length others = omega arith in
    let b = keys_back s m.next m.good ends small key others t fits m.more in
    record {
      fields =
          record {
            cipher = cipher;
            kdf = k;
            salt = o.place;
            rounds = rounds;
            count = suc (length others);
            algorithm = key.algorithm;
            blob = b.place;
            public = b.public;
            section = b.next.at;
          };
      read = rw (c.read, o.read, m.read, less, b.read);
      same_cipher = refl;
      same_kdf = refl;
      same_salt = o.seen;
      same_rounds = refl;
      same_count = refl;
      same_algorithm = refl;
      same_blob = b.content;
      same_public = b.seen;
      same_bits = b.counted;
      good = omega (arith, b.good, b.end);
      more = to_end s b.next t b.end b.more;
      second_good = b.second_good;
      second = b.second;
      same_others = b.held;
    }
  where
    map-length : (ks : List Key) → length (map key_blob ks) ≡ length ks
    map-length [] = refl
    map-length (x ∷ xs) = ap suc (map-length xs)
