-- `writer_numbers::put_blob` meets its contract: where there is room for it, the length and the key are the string; else nothing is put.
-- Rests on the laws of runs and of capped lengths.
use Prim.Native.Nat.{ℕ, ◌+◌, ◌<◌, ◌^◌}
use native.Mathlib.Omega.{arith}
use mathlib.Core.Path.{◌≡◌, sym, ◌∙◌, ap}
use lib.ListN.{length}
use Rattle.fields.specs.Bytes.{string}
use Rattle.fields.specs.Rest.{length-string}
use Rattle.names.specs.declared.Algorithm.TheVariants.{Rsa}
use Rattle.format.specs.Format.{of_modulus, blob}
use Rattle.buffer.specs.Runs.{start_as, step, run, finish_as}
use Rattle.writer_parts.specs.Fields.{string_fields}
use Rattle.writer_parts.specs.Sizes.{capped, capped_sum_last, capped_small, not_put, room_for}
use Rattle.writer_numbers.proofs.put_blob.Goals as goal

pub returns-then-not-has_room : goal.returns-then-not-has_room
returns-then-not-has_room c = let a = c.args in
    let key = blob Rsa (of_modulus a.n.now a.e.now) in
    let need : c.added.result ≡ capped (length (string key)) =
    c.added.ensures ∙ ap (λ (n : ℕ). capped (4 + n)) c.blob_length-size.ensures ∙ capped_sum_last _ _ ∙ ap capped (sym (length-string key)) in
    let short : length a.out.now < 2 ^ 63 = omega arith in
    not_put a.out.now a.at _ (string key) short need (sym c.has_room.ensures ∙ c.if-not-has_room.true)

pub returns : goal.returns
returns c = let a = c.args in
    let key = blob Rsa (of_modulus a.n.now a.e.now) in
    let need : c.added.result ≡ capped (length (string key)) =
    c.added.ensures ∙ ap (λ (n : ℕ). capped (4 + n)) c.blob_length-size.ensures ∙ capped_sum_last _ _ ∙ ap capped (sym (length-string key)) in
    let short : length a.out.now < 2 ^ 63 = omega arith in
    let room = room_for a.out.now a.at _ (string key) short need (sym c.has_room.ensures ∙ c.if-not-has_room.false) in
    let exact : c.blob_length-size.result ≡ length key = c.blob_length-size.ensures ∙ capped_small (length key) (omega (arith, room, short, length-string key)) in
    let joined = string_fields key in
    finish_as _ joined (run (step (start_as _ joined room) (rw exact at c.put_uint32-a.ensures)) c.put_key.ensures)
