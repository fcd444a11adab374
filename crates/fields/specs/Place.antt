-- Where a field that was read lies, and the place after it.
use Rattle.std.specs.Prelude.{ℕ, ◌+◌, ◌-◌, ◌≤◌, ◌≡◌, refl, Bool, true, false, List, ltb, length}
use Rattle.std.proofs.Common.{arith, sym, ◌∙◌, ap, ltb-false, Err, Ok, Result}
use Rattle.fields.specs.declared.Cursor.{Cursor}
use Rattle.fields.specs.declared.Fault.{Fault}
use Rattle.fields.specs.declared.Part.{Part}
use Rattle.fields.specs.declared.Refusal.TheVariants.{Length, TrailingData}
use Rattle.fields.specs.Fields.{number_at, fault, part, moved, has_room, uint32_at, bytes_at, string_at, fixed_at, Read, Tested}
use Rattle.fields.specs.Room.{Room, room_fits}

-- two answers of different cases are never equal: `clash` ends a case that can't be
pub clash : {P : Type 0} → ◌≡◌ {A = ℕ} 0 1 → P
clash z = absurd (omega arith)

-- by cases, with the equation in hand
pub by_read : {A P : Type 0} (w : Read A) → ((f : Fault) → w ≡ Err f → P) → ((x : A) (c : Cursor) → w ≡ Ok (x, c) → P) → P
by_read (Err f) refused read = refused f refl
by_read (Ok (x, c)) refused read = read x c refl

pub by_tested : {P : Type 0} (w : Tested) → ((f : Fault) → w ≡ Err f → P) → (w ≡ Ok tt → P) → P
by_tested (Err f) refused passed = refused f refl
by_tested (Ok tt) refused passed = passed refl

pub by_bool : {P : Type 0} (w : Bool) → (w ≡ true → P) → (w ≡ false → P) → P
by_bool true yes' no' = yes' refl
by_bool false yes' no' = no' refl

-- tuples that are equal have the same parts, and two answers that are equal the same value and the same place
pub same_pair : {A B : Type 0} {p q : A × B} → p ≡ q → (p.0 ≡ q.0) × (p.1 ≡ q.1)
same_pair e = (ap (λ r. r.0) e, ap (λ r. r.1) e)

pub same_triple : {A B C : Type 0} {p q : A × B × C} → p ≡ q → (p.0 ≡ q.0) × (p.1 ≡ q.1) × (p.2 ≡ q.2)
same_triple e = (ap (λ r. r.0) e, ap (λ r. r.1) e, ap (λ r. r.2) e)

pub same_read : {A B E : Type 0} {x y : A} {c d : B} → ◌≡◌ {A = Result (A × B) E} (Ok (x, c)) (Ok (y, d)) → (x ≡ y) × (c ≡ d)
same_read {A = A} {B = B} {x = x} {y = y} {c = c} {d = d} e =
    let h : ◌≡◌ {A = A × B} (x, c) (y, d) = cc in
    same_pair h

-- an accepted uint32
pub record Uint32Place (s : List ℕ) (c : Cursor) (n : ℕ) (d : Cursor) : Type 0 where
  pub number : number_at s c.at ≡ n
  pub room : Room s c 4
  pub after : d.at ≡ c.at + 4
  pub end : d.end ≡ c.end

pub uint32_place : (s : List ℕ) (c : Cursor) (n : ℕ) (d : Cursor) → uint32_at s c ≡ Ok (n, d) → Uint32Place s c n d
unfolding uint32_at
uint32_place s c n d e =
    by_bool (has_room s c 4)
    (λ w.
    let g : Ok (number_at s c.at, moved c 4) ≡ Ok (n, d) = rw w at e in
    let k = same_read g in
    let m : moved c 4 ≡ d = k.1 in
    record {
      number = k.0;
      room = room_fits s c 4 w;
      after = sym (ap (λ (x : Cursor). x.at) m);
      end = sym (ap (λ (x : Cursor). x.end) m);
    })
    (λ w. let g : Err (fault Length c.at) ≡ Ok (n, d) = rw w at e in clash cc)

-- accepted bytes, which begin at the place from
pub record Placed (s : List ℕ) (c : Cursor) (from : ℕ) (p : Part) (d : Cursor) : Type 0 where
  pub start : p.start ≡ from
  pub after : d.at ≡ p.start + p.length
  pub inside : d.at ≤ d.end
  pub end : d.end ≡ c.end
  pub image : d.end ≤ length s

pub bytes_place : (s : List ℕ) (c : Cursor) (k : ℕ) (p : Part) (d : Cursor) → bytes_at s c k ≡ Ok (p, d) → Placed s c c.at p d × (p.length ≡ k)
unfolding bytes_at
bytes_place s c k p d e =
    by_bool (has_room s c k)
    (λ w.
    let g : Ok (part c.at k, moved c k) ≡ Ok (p, d) = rw w at e in
    let q : part c.at k ≡ p = (same_read g).0 in
    let m : moved c k ≡ d = (same_read g).1 in
    let r = room_fits s c k w in
    let ps : c.at ≡ p.start = ap (λ (x : Part). x.start) q in
    let pl : k ≡ p.length = ap (λ (x : Part). x.length) q in
    let da : c.at + k ≡ d.at = ap (λ (x : Cursor). x.at) m in
    let de : c.end ≡ d.end = ap (λ (x : Cursor). x.end) m in
    omega arith)
    (λ w. let g : Err (fault Length c.at) ≡ Ok (p, d) = rw w at e in clash cc)

-- an accepted string: its length, and then its bytes
pub record StringPlace (s : List ℕ) (c : Cursor) (p : Part) (d : Cursor) : Type 0 where
  pub body : Cursor
  pub length : uint32_at s c ≡ Ok (p.length, body)
  pub bytes : bytes_at s body p.length ≡ Ok (p, d)
  pub placed : Placed s c (c.at + 4) p d

pub string_place : (s : List ℕ) (c : Cursor) (p : Part) (d : Cursor) → string_at s c ≡ Ok (p, d) → StringPlace s c p d
unfolding string_at
string_place s c p d e =
    by_read (uint32_at s c)
    (λ f w. let g : Err f ≡ Ok (p, d) = rw w at e in clash cc)
    (λ n b w.
    let g = rw w at e in
    by_read (bytes_at s b n)
    (λ f v. let h : Err (fault Length c.at) ≡ Ok (p, d) = rw v at g in clash cc)
    (λ q x v.
    let h : Ok (q, x) ≡ Ok (p, d) = rw v at g in
    let i : bytes_at s b n ≡ Ok (p, d) = v ∙ h in
    let l = bytes_place s b n p d i in
    let o : n ≡ p.length = sym l.1 in
    let u = uint32_place s c n b w in
    let k = l.0 in
    record {
      body = b;
      length = w ∙ ap (λ (m : ℕ). Ok (m, b)) o;
      bytes = rw o at i;
      placed =
          record {
            start = omega (arith, k.start, u.after);
            after = k.after;
            inside = k.inside;
            end = k.end ∙ u.end;
            image = k.image;
          };
    }))

-- an accepted string of k bytes
pub fixed_place :
    (s : List ℕ) (c : Cursor) (k : ℕ) (p : Part) (d : Cursor) → fixed_at s c k ≡ Ok (p, d) → (string_at s c ≡ Ok (p, d)) × (p.length ≡ k)
unfolding fixed_at
fixed_place s c k p d e =
    by_read (string_at s c)
    (λ f w. let g : Err f ≡ Ok (p, d) = rw w at e in clash cc)
    (λ q x w.
    let g = rw w at e in
    by_bool (ltb q.length k)
    (λ v. let h : Err (fault Length c.at) ≡ Ok (p, d) = rw v at g in clash cc)
    (λ v.
    let h = rw v at g in
    by_bool (ltb k q.length)
    (λ u. let i : Err (fault (TrailingData (q.length - k)) (c.at + 4 + k)) ≡ Ok (p, d) = rw u at h in clash cc)
    (λ u.
    let i : Ok (q, x) ≡ Ok (p, d) = rw u at h in
    let j : q ≡ p = (same_read i).0 in
    let m : q.length ≡ p.length = ap (λ (y : Part). y.length) j in
    (w ∙ i, omega (arith, ltb-false q.length k v, ltb-false k q.length u)))))
