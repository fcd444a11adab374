-- docs/RULES.md, 15.1: what a read found, in plain numbers. An accepted image is 0 0 0, its kind (1 plain, 2 encrypted), the codes,
-- the numbers and the places of its fields; of a refused one all after the place is 0. An accepted header is of kind 3, and all that a
-- header doesn't have is 0, the form too. A key that the image doesn't have is 1, count 0, at 0, and all after it 0.
use Rattle.std.specs.Prelude.{ℕ, Bool, true, false, Result, Option}
use Rattle.fields.specs.Fields.{fault, absent}
use Rattle.fields.specs.Refusals.{number_of, count_of}
use Rattle.fields.specs.declared.Fault.{Fault}
use Rattle.fields.specs.declared.Part.{Part}
use Rattle.fields.specs.declared.Refusal.TheVariants.{Length}
use Rattle.names.specs.Algorithms.{algorithm_code}
use Rattle.names_codes.specs.Codes.{cipher_code, kdf_code}
use Rattle.reader_entries.specs.declared.KeyFields.{KeyFields}
use Rattle.reader_header.specs.declared.Header.{Header}
use Rattle.reader_header.specs.Header.{on_header_read}
use Rattle.handed_record.specs.Judge.{kind_code}
use Rattle.reader_image.specs.declared.Fields.{Fields}
use Rattle.reader_image.specs.Form.{on_form}
use Rattle.reader_keys.specs.Keys.{on_looked}
use Rattle.c_numbers.specs.declared.Place.{Place}
use Rattle.c_numbers.specs.declared.Image.{Image}
use Rattle.c_numbers.specs.declared.Key.{Key}

-- ---- an image

abbrev pub place_of : Part → Place
place_of p = record { start = p.start; length = p.length }

abbrev pub form_code : Bool → ℕ
form_code true = 1
form_code false = 0

abbrev pub refused_image : Fault → Image
refused_image f =
    record {
      number = number_of f.why;
      count = count_of f.why;
      at = f.at;
      kind = 0;
      algorithm = 0;
      cipher = 0;
      kdf = 0;
      rounds = 0;
      checkint = 0;
      padding = 0;
      form = 0;
      blob = place_of absent;
      point = place_of absent;
      scalar = place_of absent;
      comment = place_of absent;
      salt = place_of absent;
      ciphertext = place_of absent;
      tag = place_of absent;
      section = 0;
      bits = 0;
      modulus = place_of absent;
      exponent = place_of absent;
      d = place_of absent;
      iqmp = place_of absent;
      p = place_of absent;
      q = place_of absent;
      keys = 0;
    }

abbrev pub accepted_image : Fields → Bool → Image
accepted_image f form =
    record {
      number = 0;
      count = 0;
      at = 0;
      kind = kind_code f.section.kind;
      algorithm = algorithm_code f.header.algorithm;
      cipher = cipher_code f.header.cipher;
      kdf = kdf_code f.header.kdf;
      rounds = f.header.rounds;
      checkint = f.section.checkint;
      padding = f.section.padding;
      form = form_code form;
      blob = place_of f.header.blob;
      point = place_of f.header.public.point;
      scalar = place_of f.section.private.scalar;
      comment = place_of f.section.comment;
      salt = place_of f.header.salt;
      ciphertext = place_of f.section.ciphertext;
      tag = place_of f.section.tag;
      section = f.header.section;
      bits = f.header.public.bits;
      modulus = place_of f.header.public.modulus;
      exponent = place_of f.header.public.exponent;
      d = place_of f.section.private.d;
      iqmp = place_of f.section.private.iqmp;
      p = place_of f.section.private.p;
      q = place_of f.section.private.q;
      keys = f.header.count;
    }

unfoldable pub image_of : Result (Fields × Bool) Fault → Image
image_of read = on_form read refused_image accepted_image

-- ---- a header

abbrev pub half_image : Header → Image
half_image h =
    record {
      number = 0;
      count = 0;
      at = 0;
      kind = 3;
      algorithm = algorithm_code h.algorithm;
      cipher = cipher_code h.cipher;
      kdf = kdf_code h.kdf;
      rounds = h.rounds;
      checkint = 0;
      padding = 0;
      form = 0;
      blob = place_of h.blob;
      point = place_of h.public.point;
      scalar = place_of absent;
      comment = place_of absent;
      salt = place_of h.salt;
      ciphertext = place_of absent;
      tag = place_of absent;
      section = h.section;
      bits = h.public.bits;
      modulus = place_of h.public.modulus;
      exponent = place_of h.public.exponent;
      d = place_of absent;
      iqmp = place_of absent;
      p = place_of absent;
      q = place_of absent;
      keys = h.count;
    }

unfoldable pub header_of : Result Header Fault → Image
header_of read = on_header_read read refused_image half_image

-- ---- one key of an image

abbrev pub refused_key : Fault → Key
refused_key f =
    record {
      number = number_of f.why;
      count = count_of f.why;
      at = f.at;
      algorithm = 0;
      bits = 0;
      blob = place_of absent;
      point = place_of absent;
      scalar = place_of absent;
      comment = place_of absent;
      modulus = place_of absent;
      exponent = place_of absent;
      d = place_of absent;
      iqmp = place_of absent;
      p = place_of absent;
      q = place_of absent;
    }

abbrev pub accepted_key : KeyFields → Key
accepted_key f =
    record {
      number = 0;
      count = 0;
      at = 0;
      algorithm = algorithm_code f.algorithm;
      bits = f.public.bits;
      blob = place_of f.blob;
      point = place_of f.public.point;
      scalar = place_of f.private.scalar;
      comment = place_of f.comment;
      modulus = place_of f.public.modulus;
      exponent = place_of f.public.exponent;
      d = place_of f.private.d;
      iqmp = place_of f.private.iqmp;
      p = place_of f.private.p;
      q = place_of f.private.q;
    }

unfoldable pub looked_key : Option KeyFields → Key
looked_key found = on_looked found (refused_key (fault Length 0)) accepted_key
