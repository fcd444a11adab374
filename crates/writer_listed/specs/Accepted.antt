-- Of an accepted image the keys that are found are those of its record, in their order. Rests on `AllStand`: each key that was read stands at
-- its place, with the blob of its number; and on each having what its kind has, and nothing else.
use Rattle.std.specs.Prelude.{ℕ, ◌+◌, ◌≡◌, refl, List, [], ◌∷◌, map, length}
use Rattle.std.proofs.Common.{sym, ◌∙◌, ap, ap₂}
use Rattle.fields.specs.Bytes.{AllBytes}
use Rattle.fields.specs.declared.Cursor.{Cursor}
use Rattle.fields.specs.declared.Part.{Part}
use Rattle.names.specs.declared.Algorithm.{Algorithm}
use Rattle.names.specs.declared.Algorithm.TheVariants.{Elliptic as OnCurve, Rsa}
use Rattle.format.specs.Format.{PublicBytes, PrivateBytes, Key, key_of, PublicFits, PrivateFits, filled_key}
use Rattle.reader_entries.specs.declared.KeyFields.{KeyFields}
use Rattle.reader_entries.specs.Entries.{key_read_of}
use Rattle.reader_entries.specs.Back.{AllFit, place_at}
use Rattle.reader_entries.specs.Read.{AllStand, found_key}
use Rattle.reader_entries.proofs.Read.{stands_found}
use Rattle.reader_header.specs.Header.{second_blob}
use Rattle.reader_image.specs.declared.Fields.{Fields}
use Rattle.reader_image.specs.Container.{first_in, other_places, keys_in}
use Rattle.reader_image.specs.Read.{KeysText}
use Rattle.reader_keys.specs.Found.{key_told}
use Rattle.writer_listed.specs.Listed.{others_at, after_blob, record_keys, own_public, own_private, own_key, key_in, listed_keys}
use Rattle.writer_listed.specs.Rows.{kept_own}
use Rattle.writer_listed.specs.Steps.{others_none, others_key}

-- bytes that fit a kind are its own
public_own : (a : Algorithm) (key : PublicBytes) → PublicFits a key → own_public a key ≡ key
public_own (OnCurve e) key fits = sym fits.2
public_own Rsa key fits = sym fits.1

private_own : (a : Algorithm) (key : PublicBytes) (x : PrivateBytes) → PrivateFits a key x → own_private a x ≡ x
private_own (OnCurve e) key x fits = sym fits.1
private_own Rsa key x fits = sym fits.1

keys_own : (zs : List ℕ) (keys : List Key) → AllFit zs keys → map own_key keys ≡ keys
keys_own [] (k ∷ keys) fits = elim fits [ ]
keys_own (z ∷ zs) [] fits = elim fits [ ]
keys_own [] [] fits = refl
keys_own (z ∷ zs) (k ∷ keys) fits =
    let one : own_key k ≡ k =
    ap₂ (λ (key : PublicBytes) (x : PrivateBytes). key_of k.algorithm key x k.comment) (public_own k.algorithm k.public fits.0.public)
    (private_own k.algorithm k.public k.private fits.0.private) in
    ap₂ (λ (x : Key) (l : List Key). x ∷ l) one (keys_own zs keys fits.1)

-- keys that stand one after the other are found
others_own :
    (s : List ℕ) (all : AllBytes s) (c b : Cursor) (l zs : List ℕ) → c.end ≡ length s → AllStand s all c b l zs
    → map (key_told s) (others_at s b l) ≡ map (key_read_of s) l
others_own s all c b [] zs end stand = ap (map (key_told s)) (others_none s b)
others_own s all c b (x ∷ l) [] end stand = absurd stand
others_own s all c b (x ∷ l) (z ∷ zs) end stand =
    let k = stand.1.0 in
    let key : key_told s (found_key s all k) ≡ key_read_of s x = sym (ap (key_read_of s) stand.0 ∙ k.key) in
    ap (map (key_told s)) (others_key s b x l (found_key s all k) k.blob-after (stands_found s all c b z x k stand.0 end))
    ∙ ap₂ (λ (y : Key) (m : List Key). y ∷ m) key (others_own s all k.after k.blob-after l zs (k.entry_text.end ∙ end) stand.1.1)

map_in : (s : List ℕ) (l : List KeyFields) → map (key_in s) l ≡ map own_key (map (key_told s) l)
unfolding key_in
map_in s [] = refl
map_in s (k ∷ l) = ap (λ (m : List Key). own_key (key_told s k) ∷ m) (map_in s l)

pub listed_own : (s : List ℕ) (f : Fields) → KeysText s f → listed_keys s f ≡ map filled_key (keys_in s f)
unfolding listed_keys record_keys keys_in
listed_own s f p =
    let first : after_blob s f.header.blob ≡ second_blob s f.header =
    ap (λ (q : Part). place_at (q.start + q.length) (length s)) (kept_own s f.header.blob p.blob_within) in
    let others : map (key_told s) (others_at s (after_blob s f.header.blob) (other_places f)) ≡ map (key_read_of s) (other_places f) =
    ap (λ (b : Cursor). map (key_told s) (others_at s b (other_places f))) first
    ∙ others_own s p.bytes p.second (second_blob s f.header) (other_places f) p.more_zeros p.second_ends p.stand in
    let told : map (key_told s) (record_keys s f) ≡ keys_in s f = ap (λ (l : List Key). first_in s f ∷ l) others in
    ap (map filled_key) (map_in s (record_keys s f) ∙ ap (map own_key) told ∙ keys_own (p.zeros ∷ p.more_zeros) (keys_in s f) p.keys_fit)
