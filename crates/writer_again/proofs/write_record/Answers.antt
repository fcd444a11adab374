-- `writer_again::write_record` meets its contract: the kind picks the writer. Rests on `listed_own`: the keys that a plain record's writer finds
-- are the record's; and on the callees' contracts.
use Rattle.fields.specs.Bytes.{AllBytes}
use Rattle.reader_image.specs.FormLaws.{keys_of}
use Rattle.writer_listed.specs.Accepted.{listed_own}
use Rattle.writer_again.specs.Rewrite.{record_reply, record_left, listed_again}
use Rattle.writer_again.proofs.write_record.Goals as goal

pub returns-in-Plain : goal.returns-in-Plain
returns-in-Plain c = let s = c.args.image.now in
    let all : AllBytes s = λ i. (c.type_inv.image i).fits in
    let plain = c.in-Plain.is in
    listed_again s c.args.f plain (listed_own s c.args.f (keys_of s all c.args.f c.requires plain)) c.args.out.now _ _ c.write_listed.ensures

pub returns-in-Encrypted : goal.returns-in-Encrypted
unfolding record_reply record_left
returns-in-Encrypted c = rw (c.in-Encrypted.is, ← c.part.ensures.0, ← c.part-in-Encrypted.ensures.0, ← c.part-in-Encrypted-2.ensures.0, ← c.part-in-Encrypted-3.ensures.0) c.write_encrypted.ensures
