-- What the promises of export and import shut out, as ShutOut does for the writers: no program that meets its promise refuses everything,
-- replies the same always or stores nothing; and no import refuses a text with 11 once its lines carry more than the limit, without a look
-- at the rest. A program here is any function of what it is given, which is bytes and a buffer of bytes; of anything else nothing is asked.
use Rattle.std.specs.Prelude.{ℕ, zero, suc, ◌<◌, ◌≡◌, refl, Bool, true, false, cond, List, [], ◌∷◌, ◌++◌, eqb, length, take, get_or, replicate, Ok, Err}
use Rattle.std.proofs.Common.{arith, sym, ◌∙◌, ap, append_assoc}
use Rattle.std.proofs.lemmas.List.{length-replicate}
use Rattle.fields.specs.Bytes.{AllBytes}
use Rattle.fields.specs.Place.{clash}
use Rattle.fields.specs.declared.Fault.{Fault}
use Rattle.fields.specs.declared.Refusal.TheVariants.{FormatEncoding}
use Rattle.writer_reply.specs.Reply.{told, refused, Written}
use Rattle.armour_signs.specs.Alphabet.{signs, sign_of}
use Rattle.armour_text.specs.Base64.{pad, bits_of_bytes, signs_of_bits, encode}
use Rattle.armour_text.specs.Text.{opening, closing, wrap, text}
use Rattle.armour_text.specs.Inverse.{append_bytes}
use Rattle.armour_text.specs.Ends.{CrLf, none, same, crlf}
use Rattle.edit_file.specs.Afresh.{all_take}
use Rattle.claims.specs.Refusals.{Entry, export, import, Promise}
use Rattle.claims.specs.ShutOut.{below, all_below}
use Rattle.claims.specs.Armour.{Spells, Holds, exported, imported, itself, no_text}

-- ---- a text is bytes

sign_byte : (v : ℕ) → sign_of v < 256
unfolding sign_of signs below
sign_byte v = all_below signs refl v

signs_bytes : (n : ℕ) → AllBytes (signs_of_bits n)
signs_bytes n zero = sign_byte _
signs_bytes n (suc zero) = sign_byte _
signs_bytes n (suc (suc zero)) = sign_byte _
signs_bytes n (suc (suc (suc zero))) = sign_byte _
signs_bytes n (suc (suc (suc (suc i)))) = omega arith

-- the first k signs of 24 bits, and what stands after them
some_signs : (k n : ℕ) (s : List ℕ) → AllBytes s → AllBytes (take k (signs_of_bits n) ++ s)
some_signs k n s all = append_bytes (take k (signs_of_bits n)) s (all_take k (signs_of_bits n) (signs_bytes n)) all

encode_bytes : (b : List ℕ) → AllBytes (encode b)
unfolding encode below
encode_bytes [] = all_below [] refl
encode_bytes (a ∷ []) = some_signs 2 (bits_of_bytes a 0 0) (pad ∷ pad ∷ []) (all_below (pad ∷ pad ∷ []) refl)
encode_bytes (a ∷ b ∷ []) = some_signs 3 (bits_of_bytes a b 0) (pad ∷ []) (all_below (pad ∷ []) refl)
encode_bytes (a ∷ b ∷ c ∷ more) = some_signs 4 (bits_of_bytes a b c) (encode more) (encode_bytes more)

wrap_bytes : (s : List ℕ) (k : ℕ) → AllBytes s → AllBytes (wrap s k)
unfolding wrap below
wrap_bytes [] k all i = go (eqb k 70) i
  where
    go : (x : Bool) → AllBytes (cond x [] (10 ∷ []))
    go true = all_below [] refl
    go false = all_below (10 ∷ []) refl
wrap_bytes (x ∷ s) zero all zero = omega arith
wrap_bytes (x ∷ s) zero all (suc zero) = all 0
wrap_bytes (x ∷ s) zero all (suc (suc i)) = wrap_bytes s 69 (λ j. all (suc j)) i
wrap_bytes (x ∷ s) (suc k) all zero = all 0
wrap_bytes (x ∷ s) (suc k) all (suc i) = wrap_bytes s k (λ j. all (suc j)) i

-- the lines of some bytes, and what stands after them
abbrev pub begun : List ℕ → List ℕ → List ℕ
begun b rest = opening ++ (wrap (encode b) 70 ++ rest)

begun_bytes : (b rest : List ℕ) → AllBytes rest → AllBytes (begun b rest)
unfolding opening below
begun_bytes b rest all = append_bytes opening (wrap (encode b) 70 ++ rest) (all_below opening refl) (append_bytes (wrap (encode b) 70) rest (wrap_bytes (encode b) 70 (encode_bytes b)) all)

pub text_bytes : (b : List ℕ) → AllBytes (text b)
unfolding text closing below
text_bytes b = begun_bytes b closing (all_below closing refl)

-- ---- the programs

-- what export and import are given: bytes, and the buffer
pub record Program : Type 0 where
  pub reply : List ℕ → List ℕ → Written
  pub leaves : List ℕ → List ℕ → List ℕ

-- that it meets an entry's promise, whatever it is given
abbrev pub Meets : (List ℕ → Entry) → Program → Type 0
Meets entry w = (s old : List ℕ) → AllBytes s → AllBytes old → Promise (entry s) old (w.reply s old) (w.leaves s old)

pub record Shut (w : Program) : Type 0 where
  pub refuses_all : ((s old : List ℕ) → AllBytes s → AllBytes old → (g : Fault) × (w.reply s old ≡ Err g)) → ⊥
  pub replies_same : (r : Written) → ((s old : List ℕ) → AllBytes s → AllBytes old → w.reply s old ≡ r) → ⊥
  pub stores_nothing : ((s old : List ℕ) → AllBytes s → AllBytes old → w.leaves s old ≡ old) → ⊥

-- one that has to write two things of different lengths into a buffer, of which the second doesn't stand there
shut :
    (w : Program) (s t first second old : List ℕ) → AllBytes s → AllBytes t → AllBytes old → Holds first old (w.reply s old) (w.leaves s old)
    → Holds second old (w.reply t old) (w.leaves t old) → (length first ≡ length second → ⊥) → (take (length second) old ≡ second → ⊥) → Shut w
shut w s t first second old hs ht ho h k unlike other =
    record {
      refuses_all =
          λ refuses.
          let r = refuses s old hs ho in
          let e : Err r.0 ≡ Ok (length first) = sym r.1 ∙ h.answered in
          clash cc;
      replies_same =
          λ r same.
          let e : Ok (length first) ≡ Ok (length second) = sym h.answered ∙ same s old hs ho ∙ sym (same t old ht ho) ∙ k.answered in
          let o : length first ≡ length second = cc in
          unlike o;
      stores_nothing = λ stays. other (ap (take (length second)) (sym (stays t old ht ho)) ∙ k.begins);
    }

-- export: of no bytes and of one, into a buffer of zeros
pub export_shut : (w : Program) → Meets export w → Shut w
unfolding below text opening closing wrap encode sign_of signs
export_shut w meets =
    let old : List ℕ = replicate 75 0 in
    let one : List ℕ = 1 ∷ [] in
    let ho = all_below old refl in
    let h = exported [] old _ _ (omega arith) (omega arith) (meets [] old (all_below [] refl) ho) in
    let k = exported one old _ _ (omega arith) (omega arith) (meets one old (all_below one refl) ho) in
    shut w [] one (text []) (text one) old (all_below [] refl) (all_below one refl) ho h k (λ e. omega arith)
    (λ e. let o : ◌≡◌ {A = ℕ} 0 45 = ap (λ (l : List ℕ). get_or l 0 0) e in omega arith)

-- import: of the text of no bytes and of the text of one
pub import_shut : (w : Program) → Meets import w → Shut w
unfolding below
import_shut w meets =
    let old : List ℕ = 0 ∷ [] in
    let one : List ℕ = 1 ∷ [] in
    let ho = all_below old refl in
    let none-bytes = all_below [] refl in
    let one-bytes = all_below one refl in
    let h = imported (text []) [] old _ _ (none-bytes, itself [] none-bytes) (omega arith) (omega arith) (meets (text []) old (text_bytes []) ho) in
    let k = imported (text one) one old _ _ (one-bytes, itself one one-bytes) (omega arith) (omega arith) (meets (text one) old (text_bytes one) ho) in
    shut w (text []) (text one) [] one old (text_bytes []) (text_bytes one) ho h k (λ e. omega arith)
    (λ e. let o : ◌≡◌ {A = ℕ} 0 1 = ap (λ (l : List ℕ). get_or l 0 0) e in omega arith)

-- ---- all of the text is judged before 11

-- a list's last byte, or x
abbrev last_after : ℕ → List ℕ → ℕ
last_after x [] = x
last_after x (y ∷ s) = last_after y s

last_joined : (x : ℕ) (s t : List ℕ) → last_after x (s ++ t) ≡ last_after (last_after x s) t
last_joined x [] t = refl
last_joined x (y ∷ s) t = last_joined y s t

last_text : (b : List ℕ) → last_after 0 (text b) ≡ 10
unfolding text closing
last_text b = last_joined 0 opening (wrap (encode b) 70 ++ closing) ∙ last_joined _ (wrap (encode b) 70) closing

last_crlf : {s t : List ℕ} → CrLf s t → (x : ℕ) → last_after x s ≡ last_after x t
last_crlf none x = refl
last_crlf (same y s t c) x = last_crlf c y
last_crlf (crlf s t c) x = last_crlf c 10

joined : (b : List ℕ) → begun b (0 ∷ []) ≡ (opening ++ wrap (encode b) 70) ++ 0 ∷ []
joined b = sym (append_assoc opening (wrap (encode b) 70) (0 ∷ []))

-- what doesn't end with a line feed is the text of no bytes, whatever stands before
pub no_last_feed : (t : List ℕ) (x : ℕ) → (x ≡ 10 → ⊥) → (b : List ℕ) → Spells (t ++ x ∷ []) b → ⊥
no_last_feed t x other b s = other (sym (last_joined 0 t (x ∷ [])) ∙ sym (last_crlf s.1 0) ∙ last_text b)

zeros_bytes : (n : ℕ) → AllBytes (replicate n 0)
zeros_bytes zero i = omega arith
zeros_bytes (suc n) zero = omega arith
zeros_bytes (suc n) (suc i) = zeros_bytes n i

two_not_11 : (r : Written) → r ≡ refused FormatEncoding → (told r).number ≡ 11 → ⊥
unfolding told
two_not_11 r e f = let o : ◌≡◌ {A = ℕ} 2 11 = rw e at f in omega arith

-- the lines of any bytes with a zero after them are 2, however many bytes they carry
zero_after : (w : Program) → Meets import w → (b : List ℕ) → w.reply (begun b (0 ∷ [])) [] ≡ refused FormatEncoding
zero_after w meets b =
    let t = begun b (0 ∷ []) in
    let spells-none : (d : List ℕ) → Spells t d → ⊥ = λ d s. no_last_feed (opening ++ wrap (encode b) 70) 0 (λ e. omega arith) d (rw (joined b) at s) in
    no_text t [] _ _ spells-none (meets t [] (begun_bytes b (0 ∷ []) (zeros_bytes 1)) (zeros_bytes 0))

-- no import that meets the promise answers 11 wherever the lines carry more than the limit
pub stops_at_limit :
    (w : Program) → Meets import w
    → ((b rest old : List ℕ) → AllBytes b → 65535 < length b → AllBytes rest → AllBytes old → (told (w.reply (begun b rest) old)).number ≡ 11) → ⊥
stops_at_limit w meets stops = of_many 65536 (omega arith)
  where
    of_many : (n : ℕ) → 65535 < n → ⊥
    of_many n large =
        two_not_11 _ (zero_after w meets (replicate n 0))
        (stops (replicate n 0) (0 ∷ []) [] (zeros_bytes n) (rw length-replicate large) (zeros_bytes 1) (zeros_bytes 0))
