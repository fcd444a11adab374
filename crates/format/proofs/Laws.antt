-- Fields regrouped, the lengths of what the format writes, and that an image says in which form its scalars stand (`standing_same`).
use Rattle.std.specs.Prelude.{ℕ, ◌+◌, ◌<◌, ◌≡◌, refl, List, [], ◌∷◌, ◌++◌, length, take, drop}
use Rattle.std.proofs.Common.{arith, sym, ◌∙◌, ap, ap₂, append_assoc, append-nil, length-append, length-take-le, drop_at}
use Rattle.fields.specs.Rest.{append_cancel, string_same, length-uint32}
use Rattle.fields.specs.Bytes.{uint32, string, join}
use Rattle.names.specs.declared.Cipher.{Cipher}
use Rattle.names.specs.declared.Cipher.TheVariants as cipher
use Rattle.names.specs.declared.Kdf.{Kdf}
use Rattle.names.specs.declared.Kdf.TheVariants as kdf
use Rattle.names.specs.declared.Elliptic.{Elliptic}
use Rattle.names.specs.declared.Elliptic.TheVariants.{Ed25519, Ecdsa}
use Rattle.names.specs.declared.Algorithm.{Algorithm}
use Rattle.names.specs.declared.Algorithm.TheVariants.{Elliptic as OnCurve, Rsa}
use Rattle.names.specs.declared.Curve.TheVariants.{Nistp256, Nistp384, Nistp521}
use Rattle.names.specs.Algorithms.{algorithm_name, size_small}
use Rattle.names.specs.Ciphers.{cipher_name, kdf_name}
use Rattle.format.specs.Format.{PublicBytes, PrivateBytes, Key, Entry, magic, options, header, curve_field, public_fields, blob, standing, pair_fields, keypair, MayStand, blob_fields, entry_fields, standing_entry, standing_entries, content, section, plain_image, padding_length, padding_bytes, public_length, private_length, LengthAllowed}
use Rattle.format.specs.Scalars.{standing-length}
use Rattle.format.specs.Laws.{AllMay}

-- a public key or a keypair and what comes after it, field by field
pub blob_then : (a : Algorithm) (key : PublicBytes) (t : List ℕ) → blob a key ++ t ≡ string (algorithm_name a) ++ (join (public_fields a key) ++ t)
unfolding blob
blob_then a key t = append_assoc (string (algorithm_name a)) (join (public_fields a key)) t

pub keypair_then :
    (a : Algorithm) (zeros : ℕ) (key : PublicBytes) (x : PrivateBytes) (t : List ℕ)
    → keypair a zeros key x ++ t ≡ string (algorithm_name a) ++ (join (pair_fields a zeros key x) ++ t)
unfolding keypair
keypair_then a zeros key x t = append_assoc (string (algorithm_name a)) (join (pair_fields a zeros key x)) t

-- a header and what comes after it, field by field
pub header_then :
    (cipher : Cipher) (kdf : Kdf) (salt : List ℕ) (rounds : ℕ) (keys : List (List ℕ)) (t : List ℕ)
    → header cipher kdf salt rounds keys ++ t
    ≡ magic
    ++ (string (cipher_name cipher)
    ++ (string (kdf_name kdf) ++ (string (options kdf salt rounds) ++ (uint32 (length keys) ++ (join (blob_fields keys) ++ t)))))
unfolding header
header_then cipher kdf salt rounds keys t = simp append_assoc

-- a section's content and what comes after it, field by field
pub content_then : (n : ℕ) (entries : List Entry) (t : List ℕ) → content n entries ++ t ≡ uint32 n ++ (uint32 n ++ (join (entry_fields entries) ++ t))
unfolding content
content_then n entries t = simp append_assoc

-- an entry, and what comes after it
pub entry_then :
    (e : Entry) (more : List Entry) (t : List ℕ)
    → join (entry_fields (e ∷ more)) ++ t ≡ e.pair ++ (string e.comment ++ (join (entry_fields more) ++ t))
entry_then e more t = simp append_assoc

-- a blob, and what comes after it
pub blob_field_then :
    (key : List ℕ) (more : List (List ℕ)) (t : List ℕ) → join (blob_fields (key ∷ more)) ++ t ≡ string key ++ (join (blob_fields more) ++ t)
blob_field_then key more t = append_assoc (string key) (join (blob_fields more)) t

-- a padding's length, and that of what it fills up
pub padding_length_lem : (n : ℕ) → length (take (padding_length n) padding_bytes) ≡ padding_length n
padding_length_lem n = length-take-le (padding_length n) padding_bytes (omega arith)

pub section-length :
    (n : ℕ) (entries : List Entry) → length (section n entries) ≡ length (content n entries) + padding_length (length (content n entries))
unfolding section
section-length n entries =
    length-append (content n entries) (take (padding_length (length (content n entries))) padding_bytes)
    ∙ ap (λ (k : ℕ). length (content n entries) + k) (padding_length_lem (length (content n entries)))

-- the lengths of a key's parts are small, and its private bytes are some
pub key_small : (e : Elliptic) → (public_length e < 134) × (private_length e < 67) × (0 < private_length e)
key_small Ed25519 = omega arith
key_small (Ecdsa Nistp256) = omega arith
key_small (Ecdsa Nistp384) = omega arith
key_small (Ecdsa Nistp521) = omega arith

pub allowed_small : (e : Elliptic) (x : List ℕ) → LengthAllowed e x → length x < 67
allowed_small Ed25519 x h = omega arith
allowed_small (Ecdsa k) x h = omega (arith, key_small (Ecdsa k))

-- ---- an image says in which form its scalar stands

-- keypairs that begin the same bytes have their scalars in the same form
keypair_same :
    (a : Algorithm) (key : PublicBytes) (x : PrivateBytes) (t u : List ℕ) (z w : ℕ) → length x.scalar < 67 → MayStand a z x → MayStand a w x
    → keypair a z key x ++ t ≡ keypair a w key x ++ u → z ≡ w
unfolding keypair
keypair_same (OnCurve Ed25519) key x t u z w hx mz mw e = mz ∙ sym mw
keypair_same Rsa key x t u z w hx mz mw e = mz ∙ sym mw
keypair_same (OnCurve (Ecdsa k)) key x t u z w hx mz mw e =
    let name = string (algorithm_name (OnCurve (Ecdsa k))) in
    let curve = curve_field (Ecdsa k) in
    let point = string key.point in
    let stored : ℕ → List ℕ → List ℕ = λ v l. string (standing v x.scalar) ++ l in
    let split : (v : ℕ) (l : List ℕ) → keypair (OnCurve (Ecdsa k)) v key x ++ l ≡ name ++ (curve ++ (point ++ stored v l)) = λ v l. simp append_assoc in
    let e₀ = sym (split z t) ∙ e ∙ split w u in
    let e₁ = append_cancel name (curve ++ (point ++ stored z t)) (curve ++ (point ++ stored w u)) e₀ in
    let e₂ = append_cancel curve (point ++ stored z t) (point ++ stored w u) e₁ in
    let e₃ = append_cancel point (stored z t) (stored w u) e₂ in
    let lz = standing-length z x.scalar in
    let lw = standing-length w x.scalar in
    let small = (size_small k).1 in
    let same = string_same (standing z x.scalar) (standing w x.scalar) t u (omega arith) (omega arith) e₃ in
    omega arith

string_body : (b c : List ℕ) → string b ++ [] ≡ string c ++ [] → b ≡ c
unfolding string
string_body b c q =
    sym (drop_at (uint32 (length b)) b 4 (length-uint32 (length b)))
    ∙ ap (drop 4) (sym (append-nil (string b)) ∙ q ∙ append-nil (string c))
    ∙ drop_at (uint32 (length c)) c 4 (length-uint32 (length c))

-- equal images with the same blobs have equal sections
image_body :
    (n : ℕ) (keys : List (List ℕ)) (es fs : List Entry) → plain_image n keys es ≡ plain_image n keys fs → section n es ≡ section n fs
unfolding plain_image
image_body n keys es fs e =
    string_body (section n es) (section n fs)
    (append_cancel (header cipher.None kdf.None [] 0 keys) (string (section n es) ++ []) (string (section n fs) ++ []) e)

-- entries of the same keys that begin the same bytes have their scalars in the same form
entries_same :
    (keys : List Key) (zs ws t u : List ℕ) → AllMay zs keys → AllMay ws keys
    → join (entry_fields (standing_entries zs keys)) ++ t ≡ join (entry_fields (standing_entries ws keys)) ++ u → zs ≡ ws
entries_same [] [] [] t u mz mw e = refl
entries_same [] [] (w ∷ ws) t u mz mw e = elim mw [ ]
entries_same [] (z ∷ zs) ws t u mz mw e = elim mz [ ]
entries_same (k ∷ keys) [] ws t u mz mw e = elim mz [ ]
entries_same (k ∷ keys) (z ∷ zs) [] t u mz mw e = elim mw [ ]
entries_same (k ∷ keys) (z ∷ zs) (w ∷ ws) t u mz mw e =
    let pair : ℕ → List ℕ = λ v. keypair k.algorithm v k.public k.private in
    let tail : List ℕ → List ℕ → List ℕ = λ vs l. join (entry_fields (standing_entries vs keys)) ++ l in
    let e₀ = sym (entry_then (standing_entry z k) (standing_entries zs keys) t) ∙ e ∙ entry_then (standing_entry w k) (standing_entries ws keys) u in
    let same : z ≡ w =
    keypair_same k.algorithm k.public k.private (string k.comment ++ tail zs t) (string k.comment ++ tail ws u) z w mz.0 mz.1 mw.1 e₀ in
    let e₁ : pair w ++ (string k.comment ++ tail zs t) ≡ pair w ++ (string k.comment ++ tail ws u) = rw same at e₀ in
    let e₂ = append_cancel (pair w) (string k.comment ++ tail zs t) (string k.comment ++ tail ws u) e₁ in
    let e₃ = append_cancel (string k.comment) (tail zs t) (tail ws u) e₂ in
    ap₂ (λ (v : ℕ) (vs : List ℕ). v ∷ vs) same (entries_same keys zs ws t u mz.2 mw.2 e₃)

-- equal images of the same keys have their scalars in the same form
pub standing_same :
    (n : ℕ) (blobs : List (List ℕ)) (keys : List Key) (zs ws : List ℕ) → AllMay zs keys → AllMay ws keys
    → plain_image n blobs (standing_entries zs keys) ≡ plain_image n blobs (standing_entries ws keys) → zs ≡ ws
unfolding section
standing_same n blobs keys zs ws mz mw e =
    let es : List ℕ → List Entry = λ vs. standing_entries vs keys in
    let pad : List ℕ → List ℕ = λ vs. take (padding_length (length (content n (es vs)))) padding_bytes in
    let tail : List ℕ → List ℕ = λ vs. join (entry_fields (es vs)) ++ pad vs in
    let e₀ = sym (content_then n (es zs) (pad zs)) ∙ image_body n blobs (es zs) (es ws) e ∙ content_then n (es ws) (pad ws) in
    let e₁ = append_cancel (uint32 n) (uint32 n ++ tail zs) (uint32 n ++ tail ws) e₀ in
    let e₂ = append_cancel (uint32 n) (tail zs) (tail ws) e₁ in
    entries_same keys zs ws (pad zs) (pad ws) mz mw e₂
