-- Inversion: an encrypted section that was read ends the image as the format writes it.
use Rattle.std.specs.Prelude.{ℕ, ◌+◌, ◌-◌, ◌%◌, ◌≡◌, eqb, Ok, Err}
use Rattle.std.proofs.Common.{arith, ◌∙◌}
use Rattle.std.proofs.Math.Path.{refl, sym, ap}
use mathlib.Core.List.{List, ◌++◌, append-nil}
use borrow.Author.Tests.{eqb-true}
use Rattle.std.proofs.Math.ListN.{length}
use Rattle.fields.specs.Bytes.{string, AllBytes}
use Rattle.fields.specs.Fields.{bytes_at, string_at, end_at, view_of}
use Rattle.fields.specs.Place.{clash, by_read, by_tested, by_bool, bytes_place}
use Rattle.fields.specs.Rest.{rest, view_length}
use Rattle.fields.specs.Read.{bytes_read, string_read, end_read}
use Rattle.fields.specs.declared.Cursor.{Cursor}
use Rattle.names.specs.declared.Cipher.{Cipher}
use Rattle.names.specs.Ciphers.{block_size, tag_length}
use Rattle.reader_section.specs.declared.Kind.TheVariants.{Encrypted}
use Rattle.reader_section.specs.declared.Section.{Section}
use Rattle.reader_section.specs.Section.{encrypted_of, present_of, encrypted_at}
use Rattle.reader_section.specs.Back.{present_seen}

module _ (s : List ℕ) (all : AllBytes s) where
  -- an accepted encrypted section
  pub record EncryptedRead (c : Cursor) (cipher : Cipher) (x : Section) : Type 0 where
    pub encrypted : x.kind ≡ Encrypted
    pub text : rest s c ≡ string (view_of s x.ciphertext) ++ view_of s x.tag
    pub blocks : length (view_of s x.ciphertext) % block_size cipher ≡ 0
    pub long : length (view_of s x.tag) ≡ tag_length cipher

  pub encrypted_read : (c : Cursor) (cipher : Cipher) (x : Section) → encrypted_at s c cipher ≡ Ok x → EncryptedRead c cipher x
  unfolding encrypted_at
  encrypted_read c cipher x e =
      by_read (string_at s c)
      (λ f w. let g : Err f ≡ Ok x = rw w at e in clash cc)
      (λ p d w.
      let g = rw w at e in
      by_bool (eqb (p.length % block_size cipher) 0)
      (λ v.
      let h = rw v at g in
      by_read (bytes_at s d (tag_length cipher))
      (λ f u. let i : Err f ≡ Ok x = rw u at h in clash cc)
      (λ t b u.
      let i = rw u at h in
      by_tested (end_at b)
      (λ f r. let k : Err f ≡ Ok x = rw r at i in clash cc)
      (λ r.
      let k : Ok (encrypted_of p (present_of t)) ≡ Ok x = rw r at i in
      let o : encrypted_of p (present_of t) ≡ x = cc in
      let a = string_read s all c p d w in
      let place = bytes_place s d (tag_length cipher) t b u in
      let size : length (view_of s t) ≡ t.length = view_length s t (omega (arith, place.0)) in
      let tag : view_of s (present_of t) ≡ view_of s t = present_seen s t (view_of s t) refl (sym size) in
      let tail = bytes_read s d (tag_length cipher) t b u ∙ ap (λ (l : List ℕ). view_of s t ++ l) (end_read s b r).0 ∙ append-nil (view_of s t) in
      rw (← o)
      (record {
        encrypted = refl;
        text = a.text ∙ ap (λ (l : List ℕ). string (view_of s p) ++ l) (tail ∙ sym tag);
        blocks = ap (λ (j : ℕ). j % block_size cipher) a.size ∙ eqb-true _ _ v;
        long = ap length tag ∙ size ∙ place.1;
      }))))
      (λ v. let h = rw v at g in clash cc))
