-- `writer_plain::put_plain` meets its contract: its fields, put one after the other, are the image. Rests on the laws of runs and on
-- `image_joined`.
use Prim.Native.Nat.{◌+◌}
use mathlib.Core.Path.{◌≡◌, ◌∙◌}
use mathlib.Core.List.{[], ◌∷◌}
use lib.ListN.{length}
use Rattle.fields.specs.Bytes.{uint32, string, join}
use Rattle.format.specs.Format.{entry, alone, blob, magic, section, padding_length, content, written_pair, written_image}
use Rattle.buffer.specs.Puts.{IsPut}
use Rattle.buffer.specs.Runs.{start_as, step, runs, finish_as}
use Rattle.writer_parts.specs.Fields.{plain_front, image_fields, image_joined, section_measured, padding_measured}
use Rattle.writer_plain.specs.Lent.{lent_algorithm, lent_public, lent_private}
use Rattle.writer_plain.proofs.put_plain.Goals as goal
use Rattle.writer_plain.proofs.put_plain.Goals.{After-put-a}

front-put : (c : After-put-a) → IsPut c.args.out.now 0 (join (plain_front ∷ uint32 1 ∷ [])) c.put-a.result c.put-a.new.out
unfolding plain_front magic string uint32
front-put c = c.put-a.ensures

pub returns : goal.returns
unfolding image_fields written_image
returns c room = let a = c.args in
    let k = a.key.now in
    let key = (lent_public k) in
    let pair = written_pair (lent_algorithm k) key (lent_private k) in
    let es = alone (entry pair a.comment.now) in
    let n = a.checkint in
    let joined = image_joined n (alone (blob (lent_algorithm k) key)) es in
    let whole : 8 + a.entries + c.padding-padding.result ≡ length (section n es) = rw c.padding-padding.ensures (section_measured n es a.entries c.requires.0) in
    let fewest : c.padding-padding.result ≡ padding_length (length (content n es)) = c.padding-padding.ensures ∙ padding_measured n es a.entries c.requires.0 in
    let head = runs (plain_front ∷ uint32 1 ∷ []) (start_as _ joined room) (λ h. front-put (goal.at.returns c).After-put-a) in
    let blobs = step (step head c.put_blob-b.ensures) (rw whole at c.put_uint32-c.ensures) in
    let pairs = step (step (step blobs c.put_uint32-d.ensures) c.put_uint32-e.ensures) c.put_pair-f.ensures in
    finish_as _ joined (step (step pairs c.put_string-g.ensures) (rw fewest at c.put_padding.ensures))
