-- What the replaying programs take from bytes: a number at a place, the places of a call's texts, what a stored code stands for, and
-- what remains of all of the bytes modulo a prime.
use Rattle.std.specs.Prelude.{ℕ, ◌+◌, ◌*◌, ◌%◌, cond, List, [], ◌∷◌, eqb, length, Option, Some, None}
use Rattle.fields.specs.Fields.{uint32_at, on_read}
use Rattle.fields.specs.declared.Part.{Part}
use Rattle.names.specs.declared.Algorithm.{Algorithm}
use Rattle.names.specs.declared.Algorithm.TheVariants.{Elliptic as OnCurve, Rsa}
use Rattle.names.specs.declared.Elliptic.{Elliptic}
use Rattle.names.specs.declared.Elliptic.TheVariants.{Ed25519}
use Rattle.names.specs.declared.Cipher.{Cipher}
use Rattle.names.specs.declared.Cipher.TheVariants as cipher
use Rattle.names.specs.declared.Kdf.{Kdf}
use Rattle.names.specs.declared.Kdf.TheVariants as kdf
use Rattle.names_codes.specs.Codes.{coded, algorithm_coded, cipher_coded, kdf_coded}
use Rattle.replay_telling.specs.declared.Entry.{Entry}
use Rattle.replay_telling.specs.declared.Entry.TheVariants.{Plain, Encrypted, Rewrite, Change, Rsa as RsaPlain, Keys, ChangeOf, Add, AddRsa, Remove}

-- the big-endian number of four bytes at a place; 0 where they aren't all there
unfoldable pub number_in : List ℕ → ℕ → ℕ
number_in s at = on_read (uint32_at s (record { at = at; end = length s })) (λ f. 0) (λ n d. n)

-- of a call's head, the i-th text's place and length, which stand after four numbers
unfoldable pub text_in : List ℕ → ℕ → Part
text_in s i = record { start = number_in s (i * 8 + 16); length = number_in s (i * 8 + 20) }

-- what is named, or the first of its kind
abbrev pub known_algorithm : Option Algorithm → Algorithm
known_algorithm (Some a) = a
known_algorithm None = OnCurve Ed25519

abbrev pub known_cipher : Option Cipher → Cipher
known_cipher (Some c) = c
known_cipher None = cipher.None

abbrev pub known_kdf : Option Kdf → Kdf
known_kdf (Some k) = k
known_kdf None = kdf.None

-- what a number's lowest byte is the code of
unfoldable pub algorithm_of : ℕ → Algorithm
algorithm_of n = known_algorithm (algorithm_coded (n % 256))

-- a kind over a curve, or the first of them
abbrev pub known_elliptic : Algorithm → Elliptic
known_elliptic (OnCurve e) = e
known_elliptic Rsa = Ed25519

unfoldable pub elliptic_of : ℕ → Elliptic
elliptic_of n = known_elliptic (algorithm_of n)

-- 1 and any number for the derived checkint, another number and the given one
unfoldable pub checkint_of : ℕ → ℕ → Option ℕ
checkint_of derive value = cond (eqb derive 1) None (Some value)

unfoldable pub cipher_of : ℕ → Cipher
cipher_of n = known_cipher (cipher_coded (n % 256))

unfoldable pub kdf_of : ℕ → Kdf
kdf_of n = known_kdf (kdf_coded (n % 256))

abbrev pub entry_code : Entry → ℕ
entry_code Plain = 0
entry_code Encrypted = 1
entry_code Rewrite = 2
entry_code Change = 3
entry_code RsaPlain = 4
entry_code Keys = 5
entry_code ChangeOf = 6
entry_code Add = 7
entry_code AddRsa = 8
entry_code Remove = 9

-- the entry that a stored call's code names
unfoldable pub entry_of : ℕ → Option Entry
entry_of =
    coded entry_code Some None
    (Plain ∷ Encrypted ∷ Rewrite ∷ Change ∷ RsaPlain ∷ Keys ∷ ChangeOf ∷ Add ∷ AddRsa ∷ Remove ∷ [])

-- one byte more of a big-endian number, modulo the prime
abbrev pub next_rest : ℕ → ℕ → ℕ
next_rest rest byte = ((rest % 72057594037927931) * 256 + byte) % 72057594037927931

-- what remains of the bytes that follow
unfoldable pub rest_from : ℕ → List ℕ → ℕ
rest_from rest [] = rest
rest_from rest (byte ∷ more) = rest_from (next_rest rest byte) more

unfoldable pub rest_of : List ℕ → ℕ
rest_of bytes = rest_from 0 bytes
