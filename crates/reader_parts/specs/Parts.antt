-- docs/RULES.md, 9.1 and 9.2: a record's fields are looked up in the lent image. Where each part of a record is: blob,
-- point, salt, scalar, comment, ciphertext and tag, and of an RSA key its six numbers. A part that the record lacks has no bytes.
use Rattle.fields.specs.declared.Part.{Part}
use Rattle.reader_image.specs.declared.Fields.{Fields}
use Rattle.reader_parts.specs.declared.Which.{Which}
use Rattle.reader_parts.specs.declared.Which.TheVariants.{Blob, Point, Salt, Scalar, Comment, Ciphertext, Tag, Modulus, Exponent, D, Iqmp, P, Q}

abbrev pub place_of : Which → Fields → Part
place_of Blob f = f.header.blob
place_of Point f = f.header.public.point
place_of Salt f = f.header.salt
place_of Scalar f = f.section.private.scalar
place_of Comment f = f.section.comment
place_of Ciphertext f = f.section.ciphertext
place_of Tag f = f.section.tag
place_of Modulus f = f.header.public.modulus
place_of Exponent f = f.header.public.exponent
place_of D f = f.section.private.d
place_of Iqmp f = f.section.private.iqmp
place_of P f = f.section.private.p
place_of Q f = f.section.private.q
