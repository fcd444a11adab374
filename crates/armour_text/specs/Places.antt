-- The signs of the bytes from a place on: of three, of the last two, of the last one, and of none.
use Rattle.std.specs.Prelude.{ℕ, ◌+◌, ◌<◌, ◌≤◌, ◌≡◌, List, [], ◌∷◌, ◌++◌, length, take, drop, get_or}
use Rattle.std.proofs.Common.{add-one, arith, drop_of_length-le, drop-cons}
use Rattle.armour_text.specs.Base64.{pad, bits_of_bytes, signs_of_bits, encode}

pub at_next : (b : List ℕ) (i : ℕ) → i < length b → drop i b ≡ get_or b i 0 ∷ drop (i + 1) b
at_next b i h = rw (add-one i) (drop-cons b i 0 h)

pub encode_three :
    (b : List ℕ) (i : ℕ) → i + 3 ≤ length b
    → encode (drop i b) ≡ signs_of_bits (bits_of_bytes (get_or b i 0) (get_or b (i + 1) 0) (get_or b (i + 2) 0)) ++ encode (drop (i + 3) b)
unfolding encode
encode_three b i h =
    let e : i + 1 + 1 ≡ i + 2 = omega arith in
    let f : i + 2 + 1 ≡ i + 3 = omega arith in
    rw (at_next b i (omega arith), at_next b (i + 1) (omega arith), e, at_next b (i + 2) (omega arith), f)

pub drop_end : (b : List ℕ) (i : ℕ) → i ≡ length b → drop i b ≡ []
drop_end b i h = drop_of_length-le b {i = i} (omega arith)

pub encode_two :
    (b : List ℕ) (i : ℕ) → i + 2 ≡ length b
    → encode (drop i b) ≡ take 3 (signs_of_bits (bits_of_bytes (get_or b i 0) (get_or b (i + 1) 0) 0)) ++ pad ∷ []
unfolding encode
encode_two b i h =
    let e : i + 1 + 1 ≡ i + 2 = omega arith in
    rw (at_next b i (omega arith), at_next b (i + 1) (omega arith), e, drop_end b (i + 2) h)

pub encode_one : (b : List ℕ) (i : ℕ) → i + 1 ≡ length b → encode (drop i b) ≡ take 2 (signs_of_bits (bits_of_bytes (get_or b i 0) 0 0)) ++ pad ∷ pad ∷ []
unfolding encode
encode_one b i h = rw (at_next b i (omega arith), drop_end b (i + 1) h)

pub encode_none : (b : List ℕ) (i : ℕ) → i ≡ length b → encode (drop i b) ≡ []
unfolding encode
encode_none b i h = rw (drop_end b i h)
