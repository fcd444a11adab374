-- `Keys::put` meets its contract: its fields and its two passes, one after the other, are the image. Rests on the laws of runs and
-- on `image_joined`.
use Prim.Native.Nat.{◌+◌}
use native.Mathlib.Omega.{arith}
use mathlib.Core.Path.{◌≡◌, sym, ◌∙◌}
use mathlib.Core.List.{map}
use lib.ListN.{length}
use Rattle.fields.specs.Bytes.{uint32, string}
use Rattle.format.specs.Format.{key_blob, written_entry, magic, blob_fields, entry_fields, section, content, padding_length, written_image}
use Rattle.buffer.specs.Puts.{IsPut}
use Rattle.buffer.specs.Runs.{start_as, step, runs, finish_as}
use Rattle.writer_parts.specs.Fields.{plain_front, image_fields, image_joined, section_measured, padding_measured}
use Rattle.writer_keys.specs.Checked.{keys_count, count_mapped}
use Rattle.writer_keys.specs.Passes.{keys_from}
use Rattle.writer_keys.proofs.Keys.put.Goals as goal
use Rattle.writer_keys.proofs.Keys.put.Goals.{After-put-a}

front-put : (c : After-put-a) → IsPut c.args.out.now 0 plain_front c.put-a.result c.put-a.new.out
unfolding plain_front magic string uint32
front-put c = c.put-a.ensures

pub shape_of-out : goal.shape_of-out
shape_of-out c = c.put_padding.auto.out ∙ c.put_entries-g.auto.out ∙ c.put_uint32-f.auto.out ∙ c.put_uint32-e.auto.out ∙ c.put_uint32-d.auto.out ∙ c.put_blobs-c.auto.out ∙ c.put_uint32-b.auto.out ∙ c.put-a.auto.out

pub returns : goal.returns
unfolding image_fields written_image
returns c room = let a = c.args in
    let n = a.checkint in
    let keys = keys_from a.self.now.text.now a.self.now.table.now 0 a.self.now.count in
    let blobs = map key_blob keys in
    let es = map written_entry keys in
    let joined = image_joined n blobs es in
    let count : a.self.now.count ≡ length blobs = sym (count_mapped key_blob keys ∙ keys_count a.self.now.text.now a.self.now.table.now 0 a.self.now.count) in
    let whole : 8 + a.entries + c.padding-padding.result ≡ length (section n es) = rw c.padding-padding.ensures (section_measured n es a.entries c.requires.0) in
    let fewest : c.padding-padding.result ≡ padding_length (length (content n es)) = c.padding-padding.ensures ∙ padding_measured n es a.entries c.requires.0 in
    let counted : IsPut c.put-a.new.out c.put-a.result (uint32 (length blobs)) c.put_uint32-b.result c.put_uint32-b.new.out = rw (← count) c.put_uint32-b.ensures in
    let head = step (step (start_as _ joined room) (front-put (goal.at.returns c).After-put-a)) counted in
    let sized = step (runs (blob_fields blobs) head c.put_blobs-c.ensures) (rw whole at c.put_uint32-d.ensures) in
    let opened = step (step sized c.put_uint32-e.ensures) c.put_uint32-f.ensures in
    finish_as _ joined (step (runs (entry_fields es) opened c.put_entries-g.ensures) (rw fewest at c.put_padding.ensures))
