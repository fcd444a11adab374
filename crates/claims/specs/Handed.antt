-- docs/RULES.md, 9.3: an entry that is handed a record that isn't what an accepted read of its image gives replies 1
-- before all else. So rewriting from a record is rewriting its image where the record is the read's, every field of it, and else 1, at 0,
-- with every byte of the buffer as it was.
use Rattle.std.specs.Prelude.{ℕ, ◌≡◌, refl, Bool, true, false, List, Ok}
use Rattle.fields.specs.declared.Refusal.TheVariants.{Length}
use Rattle.reader_image.specs.declared.Fields.{Fields}
use Rattle.reader_image.specs.Container.{read_at}
use Rattle.handed_record.specs.Judge.{is_read, read_passes, passes_read}
use Rattle.writer_reply.specs.Reply.{refused}
use Rattle.writer_again.specs.Rewrite.{rewrite_reply, rewrite_left, handed_reply, handed_left}

pub handed_read :
    (s : List ℕ) (f : Fields) (room : ℕ) (old : List ℕ) → read_at s ≡ Ok f
    → (handed_reply s f room ≡ rewrite_reply s room) × (handed_left s f old ≡ rewrite_left s old)
unfolding handed_reply handed_left rewrite_reply rewrite_left
handed_read s f room old e = rw (read_passes s f e, e) (refl, refl)

pub fails : (b : Bool) → (b ≡ true → ⊥) → b ≡ false
fails true h = absurd (h refl)
fails false h = refl

pub handed_forged :
    (s : List ℕ) (f : Fields) (room : ℕ) (old : List ℕ) → (read_at s ≡ Ok f → ⊥)
    → (handed_reply s f room ≡ refused Length) × (handed_left s f old ≡ old)
unfolding handed_reply handed_left
handed_forged s f room old forged = rw (fails (is_read s f) (λ passed. forged (passes_read s f passed))) (refl, refl)
