-- docs/RULES.md, 8.1: a header read never says more of the section than where it begins. If one image's header is accepted, and another of at most
-- 65,535 bytes agrees with it up to the section's beginning, both get the same header.
use Rattle.std.specs.Prelude.{ℕ, suc, ◌+◌, ◌-◌, ◌≤◌, ◌≡◌, List, [], ◌∷◌, ◌++◌, map, length, take, drop, Ok}
use Rattle.std.proofs.Common.{arith, sym, ◌∙◌, ap, ap₂, length-append, take-append-drop}
use Rattle.std.proofs.Math.Seq.{take-append_seam, length-slice}
use Rattle.fields.specs.Bytes.{join, AllBytes}
use Rattle.fields.specs.Fields.{part, view_of}
use Rattle.fields.specs.Rest.{rest}
use Rattle.fields.specs.declared.Part.{Part}
use Rattle.format.specs.Format.{key_of, key_blob, of_scalar, blob, blob_fields, header}
use Rattle.key_public.specs.Keys.{public_bytes}
use Rattle.reader_header.specs.declared.Header.{Header}
use Rattle.reader_blobs.specs.Blobs.{blob_bytes}
use Rattle.reader_header.specs.Header.{header_at, second_blob}
use Rattle.reader_header.specs.Place.{keys_some}
use Rattle.reader_header.specs.Back.{header_back}
use Rattle.reader_header.specs.Read.{HeaderText, other_blobs, header-text}

-- the header's own bytes, as the format writes them
abbrev bytes : (s : List ℕ) → AllBytes s → Header → List ℕ
bytes s all h =
    header h.cipher h.kdf (view_of s h.salt) h.rounds (blob h.algorithm (public_bytes s h.public) ∷ other_blobs s all h)

module _ (s : List ℕ) (all : AllBytes s) (h : Header) (read : header_at s ≡ Ok h) where
  abbrev text : HeaderText s all h
  text = header-text s all h read

  -- the section begins where they end
  begins : length (bytes s all h) ≡ h.section
  begins =
      let whole : length s ≡ length (bytes s all h) + length (rest s (record { at = h.section; end = length s })) =
      ap length text.text ∙ length-append (bytes s all h) (rest s (record { at = h.section; end = length s })) in
      omega (arith, whole, length-slice h.section (length s) s (omega arith), text.good)

  -- they are the image's first bytes
  first : take h.section s ≡ bytes s all h
  first =
      ap₂ take (sym begins) text.text
      ∙ take-append_seam (bytes s all h) (rest s (record { at = h.section; end = length s }))

-- parts with one size that end at one place are one
ends_same : (p q : Part) (n : ℕ) → p.length ≡ q.length → p.start + p.length ≡ n → q.start + q.length ≡ n → p ≡ q
ends_same p q n size a b =
    let start : p.start ≡ q.start = omega (arith, size, a, b) in
    ap₂ part start size

-- two images whose headers say the same have the same header: names, rounds, and what salt, blob and public key hold
same_header_lem :
    (s t : List ℕ) (all : AllBytes s) (every : AllBytes t) (h k : Header) → header_at s ≡ Ok h → header_at t ≡ Ok k
    → h.cipher ≡ k.cipher → h.kdf ≡ k.kdf → view_of s h.salt ≡ view_of t k.salt → h.rounds ≡ k.rounds → h.count ≡ k.count
    → h.algorithm ≡ k.algorithm → view_of s h.blob ≡ view_of t k.blob → public_bytes s h.public ≡ public_bytes t k.public
    → other_blobs s all h ≡ other_blobs t every k → h ≡ k
same_header_lem s t all every h k p q cipher kdf salted rounds count algorithm blobbed keyed others =
    let x = header-text s all h p in
    let y = header-text t every k q in
    let written : bytes s all h ≡ bytes t every k = rw (others, cipher, kdf, salted, rounds, algorithm, keyed) in
    let section : h.section ≡ k.section = sym (begins s all h p) ∙ ap length written ∙ begins t every k q in
    let salt : h.salt ≡ k.salt = x.salt_lies ∙ (rw (cipher, kdf, salted)) ∙ sym y.salt_lies in
    let blob_size : h.blob.length ≡ k.blob.length = sym x.blob_size ∙ ap length blobbed ∙ y.blob_size in
    let long : length (join (blob_fields (other_blobs s all h))) ≡ length (join (blob_fields (other_blobs t every k))) = ap (λ (l : List (List ℕ)). length (join (blob_fields l))) others in
    let ends : h.blob.start + h.blob.length ≡ k.blob.start + k.blob.length = omega (arith, x.blob_ends, y.blob_ends, section, long) in
    let blob' : h.blob ≡ k.blob = ends_same h.blob k.blob (k.blob.start + k.blob.length) blob_size ends (omega arith) in
    let public : h.public ≡ k.public = x.public_lies ∙ (rw (ends, algorithm, keyed)) ∙ sym y.public_lies in
    let whole : ◌≡◌ {A = Header} (record { cipher = h.cipher; kdf = h.kdf; salt = h.salt; rounds = h.rounds; count = h.count; algorithm = h.algorithm; blob = h.blob; public = h.public; section = h.section }) (record { cipher = k.cipher; kdf = k.kdf; salt = k.salt; rounds = k.rounds; count = k.count; algorithm = k.algorithm; blob = k.blob; public = k.public; section = k.section }) = cc in
    whole

pub header_alone :
    (s t : List ℕ) → AllBytes s → AllBytes t → (h : Header) → header_at s ≡ Ok h → length t ≤ 65535
    → take h.section s ≡ take h.section t → header_at t ≡ Ok h
header_alone s t all every h read small agree =
    let x = header-text s all h read in
    let split : t ≡ bytes s all h ++ drop h.section t =
    sym (take-append-drop h.section t) ∙ ap (λ (u : List ℕ). u ++ drop h.section t) (sym agree ∙ first s all h read) in
    let key = key_of h.algorithm (public_bytes s h.public) (of_scalar []) [] in
    let some = keys_some h.cipher h.count x.allowed in
    let count : h.count ≡ suc (length x.others) = omega (arith, some, x.counted) in
    let blobs : t ≡ header h.cipher h.kdf (view_of s h.salt) h.rounds (map key_blob (key ∷ x.others)) ++ drop h.section t =
    split
    ∙ ap (λ (l : List (List ℕ)). header h.cipher h.kdf (view_of s h.salt) h.rounds (key_blob key ∷ l) ++ drop h.section t) x.others_held in
    let k =
    header_back t h.cipher h.kdf (view_of s h.salt) h.rounds key x.others (drop h.section t) small x.fit_options
    (x.public_fits, x.others_fit) (rw (← count) x.allowed) blobs in
    let less : k.fields.count - 1 ≡ length x.others = omega (arith, k.same_count) in
    let others : other_blobs s all h ≡ other_blobs t every k.fields =
    x.others_held ∙ sym k.same_others ∙ ap (blob_bytes t (second_blob t k.fields)) (sym less) in
    let same : h ≡ k.fields =
    same_header_lem s t all every h k.fields read k.read (sym k.same_cipher) (sym k.same_kdf) (sym k.same_salt) (sym k.same_rounds)
    (count ∙ sym k.same_count) (sym k.same_algorithm) (x.content ∙ sym k.same_blob) (sym k.same_public) others in
    k.read ∙ ap Ok (sym same)
