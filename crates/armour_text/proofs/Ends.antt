-- The lines of a text: their ends, LF or CR LF, and the signs between them.
use Rattle.std.specs.Prelude.{ℕ, zero, suc, ◌≡◌, refl, Bool, true, false, cond, ◌&&◌, List, [], ◌∷◌, ◌++◌, eqb, take, drop}
use Rattle.std.proofs.Common.{arith, ap, ne_eqb, eqb-true}
use Rattle.std.proofs.lemmas.Bool.{false≢true}
use Rattle.armour_text.specs.Base64.{pad, bits_of_bytes, signs_of_bits, encode}
use Rattle.armour_text.specs.Inverse.{sign_0, sign_1, sign_2, sign_3}
use Rattle.armour_text.specs.Text.{opening, closing, wrap, text}
use Rattle.armour_text.specs.Import.{strip, unwrap}
use Rattle.armour_text.specs.Ends.{Within, CrLf, none, same, crlf, has_no_return}

-- ---- signs, `=` among them, are neither ends of lines nor `-`

pad_dash : pad ≡ 45 → ⊥
pad_dash e = omega arith

module _ (n : ℕ) (s : List ℕ) where
  begun : Within s → Within (take 2 (signs_of_bits n) ++ s)
  begun h = let w = (sign_0 n).1 in let x = (sign_1 n).1 in (w.high, w.no_dash, (x.high, x.no_dash, h))

  third : Within s → Within (take 3 (signs_of_bits n) ++ s)
  third h = let w = (sign_0 n).1 in let x = (sign_1 n).1 in let y = (sign_2 n).1 in (w.high, w.no_dash, (x.high, x.no_dash, (y.high, y.no_dash, h)))

  full : Within s → Within (signs_of_bits n ++ s)
  full h =
      let w = (sign_0 n).1 in
      let x = (sign_1 n).1 in
      let y = (sign_2 n).1 in
      let z = (sign_3 n).1 in
      (w.high, w.no_dash, (x.high, x.no_dash, (y.high, y.no_dash, (z.high, z.no_dash, h))))

pub encode_within : (b : List ℕ) → Within (encode b)
unfolding encode
encode_within [] = tt
encode_within (a ∷ []) = begun (bits_of_bytes a 0 0) (pad ∷ pad ∷ []) (omega arith, pad_dash, (omega arith, pad_dash, tt))
encode_within (a ∷ b ∷ []) = third (bits_of_bytes a b 0) (pad ∷ []) (omega arith, pad_dash, tt)
encode_within (a ∷ b ∷ c ∷ more) = full (bits_of_bytes a b c) (encode more) (encode_within more)

-- ---- what is done to the lines one after the other is done to them all

strip-closing : strip closing ≡ closing
unfolding strip closing
strip-closing = refl

strip-wrap : (s : List ℕ) (k : ℕ) → Within s → strip (wrap s k ++ closing) ≡ wrap s k ++ closing
unfolding wrap strip
strip-wrap [] k h = go (eqb k 70)
  where
    go : (x : Bool) → strip (cond x [] (10 ∷ []) ++ closing) ≡ cond x [] (10 ∷ []) ++ closing
    go true = strip-closing
    go false = ap (λ (l : List ℕ). 10 ∷ l) strip-closing
strip-wrap (x ∷ s) zero h = rw (ne_eqb x 13 (λ e. omega arith), strip-wrap s 69 h.2)
strip-wrap (x ∷ s) (suc k) h = rw (ne_eqb x 13 (λ e. omega arith), strip-wrap s k h.2)

strip-opening : (t : List ℕ) → strip (opening ++ t) ≡ opening ++ strip t
unfolding strip opening
strip-opening t = refl

-- the text has no carriage return
pub strip-text : (b : List ℕ) → strip (text b) ≡ text b
unfolding text
strip-text b = rw (strip-opening, strip-wrap (encode b) 70 (encode_within b))

unwrap-closing : unwrap closing ≡ []
unfolding unwrap closing
unwrap-closing = refl

unwrap-wrap : (s : List ℕ) (k : ℕ) → Within s → unwrap (wrap s k ++ closing) ≡ s
unfolding wrap unwrap
unwrap-wrap [] k h = go (eqb k 70)
  where
    go : (x : Bool) → unwrap (cond x [] (10 ∷ []) ++ closing) ≡ []
    go true = unwrap-closing
    go false = unwrap-closing
unwrap-wrap (x ∷ s) zero h = rw (ne_eqb x 10 (λ e. omega arith), ne_eqb x 45 h.1, unwrap-wrap s 69 h.2)
unwrap-wrap (x ∷ s) (suc k) h = rw (ne_eqb x 10 (λ e. omega arith), ne_eqb x 45 h.1, unwrap-wrap s k h.2)

drop-opening : (t : List ℕ) → drop 36 (opening ++ t) ≡ t
unfolding opening
drop-opening t = refl

-- the signs are those of the bytes
pub unwrap-text : (b : List ℕ) → unwrap (drop 36 (text b)) ≡ encode b
unfolding text
unwrap-text b = rw (drop-opening, unwrap-wrap (encode b) 70 (encode_within b))

-- ---- line ends

-- none of them
pub crlf_same : (t : List ℕ) → CrLf t t
crlf_same [] = none
crlf_same (x ∷ t) = same x t t (crlf_same t)

-- every text is that without its carriage returns before line feeds, with some line feeds made CR LF
pub strip_crlf : (t : List ℕ) → CrLf (strip t) t
unfolding strip
strip_crlf [] = none
strip_crlf (x ∷ []) = go (eqb x 13)
  where
    go : (b : Bool) → CrLf (cond (b && false) [] (x ∷ [])) (x ∷ [])
    go true = same x [] [] none
    go false = same x [] [] none
strip_crlf (x ∷ y ∷ t) = go (eqb x 13) (eqb y 10) refl refl (strip_crlf (y ∷ t)) (strip_crlf t)
  where
    go : (b c : Bool) → eqb x 13 ≡ b → eqb y 10 ≡ c → CrLf (strip (y ∷ t)) (y ∷ t) → CrLf (strip t) t
        → CrLf (cond (b && c) (strip (y ∷ t)) (x ∷ strip (y ∷ t))) (x ∷ y ∷ t)
    go true true e f h u = rw (eqb-true x 13 e, eqb-true y 10 f) (crlf _ _ u)
    go true false e f h u = same x _ _ h
    go false c e f h u = same x _ _ h

no_return : (x : ℕ) (s : List ℕ) → has_no_return (x ∷ s) ≡ true → (eqb x 13 ≡ false) × (has_no_return s ≡ true)
no_return x s = go (eqb x 13)
  where
    go : (b : Bool) → cond b false (has_no_return s) ≡ true → (b ≡ false) × (has_no_return s ≡ true)
    go true e = absurd (false≢true e)
    go false e = (refl, e)

-- a text that has none is got back, whatever of its line feeds were made CR LF
pub crlf_strip : {s t : List ℕ} → has_no_return s ≡ true → CrLf s t → strip t ≡ s
unfolding strip
crlf_strip n none = refl
crlf_strip n (same x s t c) = let r = no_return x s n in rw (r.0, crlf_strip r.1 c)
crlf_strip n (crlf s t c) = rw (crlf_strip n c)

wrap_no_return : (s : List ℕ) (k : ℕ) → Within s → has_no_return (wrap s k ++ closing) ≡ true
unfolding wrap closing
wrap_no_return [] k h = go (eqb k 70)
  where
    go : (x : Bool) → has_no_return (cond x [] (10 ∷ []) ++ closing) ≡ true
    go true = refl
    go false = refl
wrap_no_return (x ∷ s) zero h = rw (ne_eqb x 13 (λ e. omega arith)) (wrap_no_return s 69 h.2)
wrap_no_return (x ∷ s) (suc k) h = rw (ne_eqb x 13 (λ e. omega arith)) (wrap_no_return s k h.2)

pub text_no_return : (b : List ℕ) → has_no_return (text b) ≡ true
unfolding text opening
text_no_return b = wrap_no_return (encode b) 70 (encode_within b)
