-- Writing the text as a run of stores: what is still to be stored gives the buffer of the whole.
use Rattle.std.specs.Prelude.{ℕ, zero, suc, ◌+◌, ◌*◌, ◌-◌, ◌<◌, ◌≤◌, ◌≡◌, refl, List, [], ◌∷◌, ◌++◌, length, drop, get_or, set}
use Rattle.std.proofs.Common.{add-zero, add-one, arith, sym, ap, ◌∙◌, append_assoc, append-nil, length-append, length-drop, length-set}
use Rattle.std.proofs.lemmas.List.Edits.{sets, sets-eq}
use Rattle.buffer.specs.Puts.{splice, IsPut, placed-fits}
use Rattle.armour_signs.specs.Alphabet.{signs, sign_of}
use Rattle.armour_text.specs.Base64.{bits_of_bytes, signs_of_bits, encode}
use Rattle.armour_text.specs.Text.{wrap}
use Rattle.armour_text.specs.Places.{encode_three}
use Rattle.armour_export.specs.Sizes.{encode-length}

-- ---- stores

pub sets-append : (l : List ℕ) (i : ℕ) (xs ys : List ℕ) → sets l i (xs ++ ys) ≡ sets (sets l i xs) (i + length xs) ys
sets-append l i [] ys = rw (add-zero i)
sets-append l i (x ∷ xs) ys = sets-append (set l i x) (suc i) xs ys ∙ ap (λ (k : ℕ). sets (sets (set l i x) (suc i) xs) k ys) (omega arith)

-- a put that fits is a run of stores
pub put_sets : (old : List ℕ) (at : ℕ) (new : List ℕ) (r : ℕ) (out : List ℕ) → at + length new ≤ length old → IsPut old at new r out → out ≡ sets old at new
unfolding splice
put_sets old at new r out h p = p.1 ∙ placed-fits old at new h ∙ sym (sets-eq new old at h)

-- From out, with the next byte at o and k columns left in the line, the signs xs were written: out', o', k'. What goes after them is
-- written as if they all were written anew.
pub record Moves (out : List ℕ) (o k : ℕ) (xs : List ℕ) (out' : List ℕ) (o' k' : ℕ) : Type 0 where
  pub same : (s e : List ℕ) → sets out o (wrap (xs ++ s) k ++ e) ≡ sets out' o' (wrap s k' ++ e)
  pub size : (s e : List ℕ) → o + length (wrap (xs ++ s) k ++ e) ≡ o' + length (wrap s k' ++ e)
  pub long : length out' ≡ length out
  pub near : o' ≤ o + 2 * length xs

pub moves_none : (out : List ℕ) (o k : ℕ) → Moves out o k [] out o k
moves_none out o k = record { same = λ s e. refl; size = λ s e. refl; long = refl; near = omega arith }

pub moves_then :
    {out : List ℕ} {o k : ℕ} {xs : List ℕ} {out₁ : List ℕ} {o₁ k₁ : ℕ} {ys : List ℕ} {out₂ : List ℕ} {o₂ k₂ : ℕ}
    → Moves out o k xs out₁ o₁ k₁ → Moves out₁ o₁ k₁ ys out₂ o₂ k₂ → Moves out o k (xs ++ ys) out₂ o₂ k₂
moves_then {xs = xs} {ys = ys} m n = record {
  same = λ s e. rw (append_assoc xs ys s) (m.same (ys ++ s) e ∙ n.same s e);
  size = λ s e. rw (append_assoc xs ys s) (m.size (ys ++ s) e ∙ n.size s e);
  long = n.long ∙ m.long;
  near = simp length-append (omega (arith, m.near, n.near));
}

-- one sign, after a line feed
pub moves_feed : (out : List ℕ) (o k x : ℕ) → k ≡ 0 → Moves out o k (x ∷ []) (set (set out o 10) (o + 1) x) (o + 2) 69
unfolding wrap
moves_feed out o (suc k) x h = absurd (omega arith)
moves_feed out o zero x h = record {
  same = λ s e. rw (add-one o) (ap (λ (k : ℕ). sets (set (set out o 10) (suc o) x) k (wrap s 69 ++ e)) (omega arith));
  size = λ s e. omega arith;
  long = simp length-set;
  near = omega arith;
}

-- one sign in its line
pub moves_sign : (out : List ℕ) (o k x : ℕ) → 0 < k → Moves out o k (x ∷ []) (set out o x) (o + 1) (k - 1)
unfolding wrap
moves_sign out o zero x h = absurd (omega arith)
moves_sign out o (suc k) x h =
    let f : suc k - 1 ≡ k = omega arith in
    rw (f, add-one o)
    (record {
      same = λ s e. refl;
      size = λ s e. omega arith;
      long = simp length-set;
      near = omega arith;
    })

-- four signs in their line
pub moves_four :
    (out : List ℕ) (o k w x y z : ℕ) → 4 ≤ k
    → Moves out o k (w ∷ x ∷ y ∷ z ∷ []) (set (set (set (set out o w) (o + 1) x) (o + 2) y) (o + 3) z) (o + 4) (k - 4)
moves_four out o k w x y z h =
    let p₁ = moves_sign out o k w (omega arith) in
    let p₂ = moves_sign (set out o w) (o + 1) (k - 1) x (omega arith) in
    let p₃ = moves_sign (set (set out o w) (o + 1) x) (o + 1 + 1) (k - 1 - 1) y (omega arith) in
    let p₄ = moves_sign (set (set (set out o w) (o + 1) x) (o + 1 + 1) y) (o + 1 + 1 + 1) (k - 1 - 1 - 1) z (omega arith) in
    let a : o + 1 + 1 ≡ o + 2 = omega arith in
    let b : o + 2 + 1 ≡ o + 3 = omega arith in
    let c : o + 3 + 1 ≡ o + 4 = omega arith in
    let d : k - 1 - 1 - 1 - 1 ≡ k - 4 = omega arith in
    rw (a, b, c, d) at (moves_then (moves_then (moves_then p₁ p₂) p₃) p₄)

-- ---- the bytes

-- Of the bytes b, those from i up to i' were written: together with the others it is as if all from i on were.
pub record Passes (b out : List ℕ) (o k i : ℕ) (out' : List ℕ) (o' k' i' : ℕ) : Type 0 where
  pub done : List ℕ
  pub whole : encode (drop i b) ≡ done ++ encode (drop i' b)
  pub moves : Moves out o k done out' o' k'
  pub end : i' ≤ length b

pub passes_none : (b out : List ℕ) (o k i : ℕ) → i ≤ length b → Passes b out o k i out o k i
passes_none b out o k i h = record { done = []; whole = refl; moves = moves_none out o k; end = h }

pub passes_then :
    {b out : List ℕ} {o k i : ℕ} {out₁ : List ℕ} {o₁ k₁ i₁ : ℕ} {out₂ : List ℕ} {o₂ k₂ i₂ : ℕ}
    → Passes b out o k i out₁ o₁ k₁ i₁ → Passes b out₁ o₁ k₁ i₁ out₂ o₂ k₂ i₂ → Passes b out o k i out₂ o₂ k₂ i₂
passes_then {b} {i₂ = i₂} p q = record {
  done = p.done ++ q.done;
  whole = p.whole ∙ rw (append_assoc p.done q.done (encode (drop i₂ b)), q.whole);
  moves = moves_then p.moves q.moves;
  end = q.end;
}

-- with the last of them, all were
pub passes_last :
    {b out : List ℕ} {o k i : ℕ} {out₁ : List ℕ} {o₁ k₁ i₁ : ℕ} {out₂ : List ℕ} {o₂ k₂ : ℕ}
    → Passes b out o k i out₁ o₁ k₁ i₁ → Moves out₁ o₁ k₁ (encode (drop i₁ b)) out₂ o₂ k₂ → Moves out o k (encode (drop i b)) out₂ o₂ k₂
passes_last {b} p m = let q = p.whole in rw q (moves_then p.moves m)

-- there is room for the signs of the bytes from i on, and for eight bytes more
abbrev pub Room : List ℕ → List ℕ → ℕ → ℕ → ℕ → Type 0
Room b out o k i = o + length (wrap (encode (drop i b)) k) + 8 ≤ length out

pub passes_room :
    {b out : List ℕ} {o k i : ℕ} {out₁ : List ℕ} {o₁ k₁ i₁ : ℕ} → Passes b out o k i out₁ o₁ k₁ i₁ → Room b out o k i → Room b out₁ o₁ k₁ i₁
passes_room {b} {out} {o} {k} {i} {out₁} {o₁} {k₁} {i₁} p h =
    let y = rw (← p.whole) at (p.moves.size (encode (drop i₁ b)) []) in
    let x : length (wrap (encode (drop i b)) k ++ []) ≡ length (wrap (encode (drop i b)) k) = rw append-nil in
    let z : length (wrap (encode (drop i₁ b)) k₁ ++ []) ≡ length (wrap (encode (drop i₁ b)) k₁) = rw append-nil in
    omega (arith, y, x, z, p.moves.long)

wrap_long : (s : List ℕ) (k : ℕ) → length s ≤ length (wrap s k)
unfolding wrap
wrap_long [] k = omega arith
wrap_long (x ∷ s) zero = omega (arith, wrap_long s 69)
wrap_long (x ∷ s) (suc k) = omega (arith, wrap_long s k)

-- twelve bytes have sixteen signs
pub room_twelve : (b out : List ℕ) (o k i : ℕ) → i + 12 ≤ length b → Room b out o k i → o + 24 ≤ length out
room_twelve b out o k i h r =
    let d : length (drop i b) ≡ length b - i = length-drop i b in
    let e = encode-length (drop i b) in
    let w = wrap_long (encode (drop i b)) k in
    omega (arith, h, r, d, e, w)

-- three bytes more
pub passes_three :
    (b out : List ℕ) (o k i : ℕ) (out' : List ℕ) (o' k' i' : ℕ) → i + 3 ≤ length b → i' ≡ i + 3
    → Moves out o k (signs_of_bits (bits_of_bytes (get_or b i 0) (get_or b (i + 1) 0) (get_or b (i + 2) 0))) out' o' k' → Passes b out o k i out' o' k' i'
passes_three b out o k i out' o' k' i' h e m =
    record { done = signs_of_bits (bits_of_bytes (get_or b i 0) (get_or b (i + 1) 0) (get_or b (i + 2) 0)); whole = rw e (encode_three b i h); moves = m; end = rw e h }

-- ---- the table

pub signs-length : length signs ≡ 64
unfolding signs
signs-length = refl

pub sign_at : (table : List ℕ) (v : ℕ) → table ≡ signs → get_or table v 0 ≡ sign_of v
unfolding sign_of
sign_at table v e = rw e
