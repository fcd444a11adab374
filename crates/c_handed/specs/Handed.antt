-- docs/RULES.md, 15.3: over the C boundary a half is handed in as the numbers of a `saltorchard_image`. They are a header's exactly if
-- they are all the numbers of one (`half_own`, `half_numbers`); a code that names nothing, a full read's answer and a refusal's are none.
use Rattle.std.specs.Prelude.{ℕ, ◌^◌, Bool, cond, ◌&&◌, eqb, ltb, Option, Some, None}
use Rattle.fields.specs.Fields.{part}
use Rattle.fields.specs.declared.Part.{Part}
use Rattle.names.specs.declared.Algorithm.{Algorithm}
use Rattle.names.specs.declared.Cipher.{Cipher}
use Rattle.names.specs.declared.Kdf.{Kdf}
use Rattle.names_codes.specs.Codes.{algorithm_coded, cipher_coded, kdf_coded}
use Rattle.key_public.specs.declared.Public.{Public}
use Rattle.key_public.specs.Keys.{on_algorithm_name}
use Rattle.reader_header.specs.declared.Header.{Header}
use Rattle.reader_header.specs.Header.{on_cipher_name, on_kdf_name}
use Rattle.c_numbers.specs.declared.Place.{Place}
use Rattle.c_numbers.specs.declared.Image.{Image}
use Rattle.c_numbers.specs.Numbers.{half_image}

abbrev pub same_place : Place → Place → Bool
same_place a b = eqb a.start b.start && eqb a.length b.length

-- number for number
unfoldable pub same_image : Image → Image → Bool
same_image a b =
    eqb a.number b.number
    && eqb a.count b.count
    && eqb a.at b.at
    && eqb a.kind b.kind
    && eqb a.algorithm b.algorithm
    && eqb a.cipher b.cipher
    && eqb a.kdf b.kdf
    && eqb a.rounds b.rounds
    && eqb a.checkint b.checkint
    && eqb a.padding b.padding
    && eqb a.form b.form
    && same_place a.blob b.blob
    && same_place a.point b.point
    && same_place a.scalar b.scalar
    && same_place a.comment b.comment
    && same_place a.salt b.salt
    && same_place a.ciphertext b.ciphertext
    && same_place a.tag b.tag
    && eqb a.section b.section
    && eqb a.bits b.bits
    && same_place a.modulus b.modulus
    && same_place a.exponent b.exponent
    && same_place a.d b.d
    && same_place a.iqmp b.iqmp
    && same_place a.p b.p
    && same_place a.q b.q
    && eqb a.keys b.keys

abbrev pub part_of : Place → Part
part_of p = part p.start p.length

-- a code is a byte, and 255 names nothing; rounds are 32 bits
abbrev pub code_of : ℕ → ℕ
code_of n = cond (ltb n 255) n 255

abbrev pub rounds_of : ℕ → ℕ
rounds_of n = cond (ltb n (2 ^ 32)) n 0

-- the key at the numbers' places
abbrev pub public_from : Image → Public
public_from x = record { point = part_of x.point; modulus = part_of x.modulus; exponent = part_of x.exponent; bits = x.bits }

-- the half with these names and the numbers' places
unfoldable pub half_from : Image → Algorithm → Cipher → Kdf → Header
half_from x a c k =
    record {
      cipher = c;
      kdf = k;
      salt = part_of x.salt;
      rounds = rounds_of x.rounds;
      count = x.keys;
      algorithm = a;
      blob = part_of x.blob;
      public = public_from x;
      section = x.section;
    }

-- if all the numbers are that half's
unfoldable pub placed_half : Image → Algorithm → Cipher → Kdf → Option Header
placed_half x a c k = cond (same_image x (half_image (half_from x a c k))) (Some (half_from x a c k)) None

unfoldable pub half_of : Image → Option Header
half_of x =
    on_algorithm_name (algorithm_coded (code_of x.algorithm)) None (λ a.
    on_cipher_name (cipher_coded (code_of x.cipher)) None (λ c.
    on_kdf_name (kdf_coded (code_of x.kdf)) None (λ k.
    placed_half x a c k)))
