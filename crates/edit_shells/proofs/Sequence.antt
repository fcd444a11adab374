-- docs/RULES.md, 12: any sequence of edits of a file, refused ones among them. What the buffer holds after it is said by the keys that are left,
-- by the furthest end that was reached and by the bytes that were there before. Rests on the promise of one edit.
use Rattle.std.specs.Prelude.{ℕ, zero, suc, ◌+◌, ◌-◌, ◌≤◌, ◌≡◌, refl, List, ◌++◌, leb, length, take, drop, replicate, Ok, Err}
use Rattle.std.proofs.Common.{add-zero, arith, sym, ◌∙◌, ap, ap₂, append_assoc, leb-true, leb-false, length-append, length-drop, take-append-drop, length-take-le, drop-drop, take_at}
use Rattle.std.proofs.lemmas.List.{replicate-append-replicate}
use Rattle.std.proofs.Math.Seq.{drop-append-add}
use Rattle.fields.specs.Place.{by_bool}
use Rattle.fields.specs.declared.Fault.{Fault}
use Rattle.format.specs.Format.{Key, written_image}
use Rattle.buffer.specs.Puts.{zeros, zeros-length}
use Rattle.writer_reply.specs.Reply.{on_written, Written}
use Rattle.edit_shells.specs.Edits.{renewed, IsRenewed}
use Rattle.edit_shells.proofs.Edits.{sized_by_lem, fits_of, renewed_begins, stands}
use Rattle.edit_shells.specs.Sequence.{Holds, further}

-- zeros and then the bytes past `far`, from a place on
past_zeros : (z j far : ℕ) (old : List ℕ) → drop j (zeros z ++ drop far old) ≡ zeros (z - j) ++ drop (far + (j - z)) old
unfolding zeros
past_zeros zero j far old =
    let none : 0 - j ≡ 0 = omega arith in
    let all : j - 0 ≡ j = omega arith in
    drop-drop j far old ∙ rw (none, all)
past_zeros (suc z) zero far old =
    let none : 0 - suc z ≡ 0 = omega arith in
    let all : suc z - 0 ≡ suc z = omega arith in
    rw (none, all, add-zero far)
past_zeros (suc z) (suc j) far old =
    let a : suc z - suc j ≡ z - j = omega arith in
    let b : suc j - suc z ≡ j - z = omega arith in
    past_zeros z j far old ∙ rw (a, b)

both_zeros : (a b : ℕ) (t : List ℕ) → zeros a ++ (zeros b ++ t) ≡ zeros (a + b) ++ t
unfolding zeros
both_zeros a b t = sym (append_assoc (replicate a 0) (replicate b 0) t) ∙ ap (λ (l : List ℕ). l ++ t) (replicate-append-replicate a b 0)

no_zeros_before : (t : List ℕ) → zeros 0 ++ t ≡ t
unfolding zeros
no_zeros_before t = refl

-- the ends, as they are counted
ends : (n k far z : ℕ) → n + z ≡ far → ((n - k) + (z - (k + (n - k) - n)) ≡ further far k - k) × (far + ((k + (n - k) - n) - z) ≡ further far k)
ends n k far z e =
    by_bool (leb k n)
    (λ w. let h = leb-true k n w in let none : k + (n - k) - n ≡ 0 = omega arith in rw none (omega arith, omega arith))
    (λ w. let h = leb-false k n w in let none : n - k ≡ 0 = omega arith in rw none (omega arith, omega arith))

answered_fits :
    (image : List ℕ) (n : ℕ) (out : List ℕ) (k : ℕ) (out' old : List ℕ) → length out ≡ length old → IsRenewed image n out (Ok k) out'
    → k ≤ length old
answered_fits image n out k out' old same p =
    let f = fits_of (length image) (length out) k (p.0 ∙ sym (sized_by_lem image (length out))) in
    omega (arith, f.0, f.2, same)

module _ (c : ℕ) (old : List ℕ) where
  -- before the first edit
  pub holds_first : (keys : List Key) (n : ℕ) → take n old ≡ written_image c keys → n ≤ length old → n ≤ 65535 → Holds c old keys n n old
  holds_first keys n e inside small =
      let none : n - n ≡ 0 = omega arith in
      record {
        size = sym (length-take-le n old inside) ∙ ap length e;
        small = small;
        reached = omega arith;
        room = inside;
        whole = sym (take-append-drop n old) ∙ ap₂ (λ (x y : List ℕ). x ++ y) e (sym (rw none (no_zeros_before (drop n old))));
      }

  -- the image stands at the start, and the buffer is as long as it was
  pub holds_image : {keys : List Key} {n far : ℕ} {out : List ℕ} → Holds c old keys n far out → (take n out ≡ written_image c keys) × (length out ≡ length old)
  holds_image {keys} {n} {far} {out} h =
      let rest = zeros (far - n) ++ drop far old in
      let image = written_image c keys in
      let lr : length rest ≡ far - n + (length old - far) =
      length-append (zeros (far - n)) (drop far old) ∙ ap₂ (λ (x y : ℕ). x + y) (zeros-length (far - n)) (length-drop far old) in (
        ap (take n) h.whole ∙ take_at image rest n (sym h.size),
        ap length h.whole ∙ length-append image rest ∙ omega (arith, lr, h.size, h.reached, h.room),
      )

  -- refused, an edit leaves what was held
  pub holds_refused :
      {keys : List Key} {n far : ℕ} {out : List ℕ} (image : List ℕ) (f : Fault) (out' : List ℕ) → Holds c old keys n far out
      → IsRenewed image n out (Err f) out' → Holds c old keys n far out'
  holds_refused {keys} {n} {far} {out} image f out' h p =
      let same : out' ≡ out = p.1 ∙ ap (λ (w : Written). renewed w image n out) (sym p.0) in
      record { size = h.size; small = h.small; reached = h.reached; room = h.room; whole = same ∙ h.whole }

  -- done, it leaves the image of the edited keys
  pub holds_next :
      {keys : List Key} {n far : ℕ} {out : List ℕ} (edited : List Key) (k : ℕ) (out' : List ℕ) → Holds c old keys n far out
      → IsRenewed (written_image c edited) n out (Ok k) out' → Holds c old edited k (further far k) out'
  holds_next {keys} {n} {far} {out} edited k out' h p =
      let image = written_image c edited in
      let was = written_image c keys in
      let z = far - n in
      let m = k + (n - k) in
      let same = (holds_image h).1 in
      let inside : n ≤ length out = omega (arith, same, h.reached, h.room) in
      let done = renewed_begins image n out k out' inside p in
      let fit : k ≤ length old = answered_fits image n out k out' old same p in
      let zs : n + z ≡ far = omega (arith, h.reached) in
      let e = ends n k far z zs in
      let place : n + (m - n) ≡ m = omega arith in
      let past : drop m out ≡ zeros (z - (m - n)) ++ drop (far + ((m - n) - z)) old =
      ap₂ drop (sym place) h.whole ∙ ap (λ (i : ℕ). drop (i + (m - n)) (was ++ (zeros z ++ drop far old))) h.size
      ∙ drop-append-add was (zeros z ++ drop far old) (m - n) ∙ past_zeros z (m - n) far old in
      record {
        size = done.0;
        small = done.1;
        reached = omega arith;
        room = omega (arith, fit, h.room);
        whole =
            p.1 ∙ ap (λ (w : Written). renewed w image n out) (sym p.0) ∙ stands image n out k done.0 (rw same fit) inside
            ∙ ap (λ (t : List ℕ). image ++ (zeros (n - k) ++ t)) past
            ∙ ap (λ (t : List ℕ). image ++ t) (both_zeros (n - k) (z - (m - n)) (drop (far + ((m - n) - z)) old))
            ∙ ap₂ (λ (i j : ℕ). image ++ (zeros i ++ drop j old)) e.0 e.1;
      }

  -- either way, so that one edit goes on from another
  pub holds_edit :
      {keys : List Key} {n far : ℕ} {out : List ℕ} (edited : List Key) (r : Written) (out' : List ℕ) → Holds c old keys n far out
      → IsRenewed (written_image c edited) n out r out'
      → Holds c old (on_written r (λ f. keys) (λ k. edited)) (on_written r (λ f. n) (λ k. k)) (on_written r (λ f. far) (λ k. further far k)) out'
  holds_edit edited (Err f) out' h p = holds_refused (written_image c edited) f out' h p
  holds_edit edited (Ok k) out' h p = holds_next edited k out' h p
