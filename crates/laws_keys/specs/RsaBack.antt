-- Reading back RSA's numbers: mpints that stand at a place, of sizes that fit, are read there, with their bytes and the modulus's bits.
use Rattle.std.specs.Prelude.{ℕ, ◌<◌, ◌^◌, ◌≡◌, true, List, ◌++◌, length, Ok}
use Rattle.fields.specs.Bytes.{string}
use Rattle.fields.specs.Fields.{view_of, Read}
use Rattle.fields.specs.Rest.{rest, Good}
use Rattle.fields.specs.Back.{short_of}
use Rattle.fields.specs.declared.Cursor.{Cursor}
use Rattle.fields.specs.declared.Part.{Part}
use Rattle.mpint.specs.Mpint.{is_mpint, bits}
use Rattle.mpint.specs.Laws.{mpint_back, size_fits}
use Rattle.format.specs.Format.{ModulusFits, NumbersFit}
use Rattle.key_rsa.specs.declared.Six.{Six}
use Rattle.key_rsa.specs.Rsa.{two_at, six_at, others_at, rsa_public_at, rsa_pair_at}

record TwoBack (s : List ℕ) (w : Read (Part × Part)) (a b t : List ℕ) : Type 0 where
  pub first : Part
  pub second : Part
  pub next : Cursor
  pub read : w ≡ Ok ((first, second), next)
  pub seen_first : view_of s first ≡ a
  pub seen_second : view_of s second ≡ b
  pub good : Good s next
  pub more : rest s next ≡ t

pub record RsaPublicBack (s : List ℕ) (w : Read (Part × Part × ℕ)) (n e t : List ℕ) : Type 0 where
  pub modulus : Part
  pub exponent : Part
  pub next : Cursor
  pub read : w ≡ Ok ((modulus, exponent, bits n), next)
  pub seen_n : view_of s modulus ≡ n
  pub seen_e : view_of s exponent ≡ e
  pub good : Good s next
  pub more : rest s next ≡ t

pub record RsaPairBack (s : List ℕ) (w : Read (Six × ℕ)) (n e d iqmp p q t : List ℕ) : Type 0 where
  pub numbers : Six
  pub next : Cursor
  pub read : w ≡ Ok ((numbers, bits n), next)
  pub seen_n : view_of s numbers.n ≡ n
  pub seen_e : view_of s numbers.e ≡ e
  pub seen_d : view_of s numbers.d ≡ d
  pub seen_iqmp : view_of s numbers.iqmp ≡ iqmp
  pub seen_p : view_of s numbers.p ≡ p
  pub seen_q : view_of s numbers.q ≡ q
  pub good : Good s next
  pub more : rest s next ≡ t

module _ (s : List ℕ) (small : length s < 2 ^ 32) where
  two_back :
      (c : Cursor) → Good s c → (a b t : List ℕ) → is_mpint a ≡ true → is_mpint b ≡ true → rest s c ≡ string a ++ (string b ++ t) → TwoBack s (two_at s c) a b t
  unfolding two_at
  two_back c good a b t ma mb e =
      let x = mpint_back s c good a (string b ++ t) (short_of s c good small a (string b ++ t) e) ma e in
      let y = mpint_back s x.next x.good b t (short_of s x.next x.good small b t x.more) mb x.more in
      record {
        first = x.place;
        second = y.place;
        next = y.next;
        read = rw (x.read, y.read);
        seen_first = x.seen;
        seen_second = y.seen;
        good = y.good;
        more = y.more;
      }

  pub rsa_public_back :
      (c : Cursor) → Good s c → (n e t : List ℕ) → ModulusFits n e → rest s c ≡ string e ++ (string n ++ t) → RsaPublicBack s (rsa_public_at s c) n e t
  unfolding rsa_public_at others_at
  rsa_public_back c good n e t fits text =
      let x = two_back c good e n t fits.exponent fits.modulus text in
      record {
        modulus = x.second;
        exponent = x.first;
        next = x.next;
        read = rw (x.read, x.seen_first, x.seen_second, fits.exponent_size, size_fits n fits.size);
        seen_n = x.seen_second;
        seen_e = x.seen_first;
        good = x.good;
        more = x.more;
      }

  pub rsa_pair_back :
      (c : Cursor) → Good s c → (n e d iqmp p q t : List ℕ) → ModulusFits n e → NumbersFit n d iqmp p q
      → rest s c ≡ string n ++ (string e ++ (string d ++ (string iqmp ++ (string p ++ (string q ++ t)))))
      → RsaPairBack s (rsa_pair_at s c) n e d iqmp p q t
  unfolding rsa_pair_at six_at others_at
  rsa_pair_back c good n e d iqmp p q t fits others text =
      let x = two_back c good n e (string d ++ (string iqmp ++ (string p ++ (string q ++ t)))) fits.modulus fits.exponent text in
      let y = two_back x.next x.good d iqmp (string p ++ (string q ++ t)) others.mpint_d others.mpint_iqmp x.more in
      let z = two_back y.next y.good p q t others.mpint_p others.mpint_q y.more in
      record {
        numbers = record { n = x.first; e = x.second; d = y.first; iqmp = y.second; p = z.first; q = z.second };
        next = z.next;
        read =
            rw (
              x.read,
              y.read,
              z.read,
              x.seen_first,
              x.seen_second,
              y.seen_first,
              y.seen_second,
              z.seen_first,
              z.seen_second,
              size_fits n fits.size,
              fits.exponent_size,
              others.size_d,
              others.size_iqmp,
              others.size_p,
              others.size_q,
            );
        seen_n = x.seen_first;
        seen_e = x.seen_second;
        seen_d = y.seen_first;
        seen_iqmp = y.seen_second;
        seen_p = z.seen_first;
        seen_q = z.seen_second;
        good = z.good;
        more = z.more;
      }
