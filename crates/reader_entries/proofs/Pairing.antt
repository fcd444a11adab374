-- An entry as the code reads it: a keypair, held to the blob's public key, and then a comment.
use Rattle.std.specs.Prelude.{ℕ, ◌≡◌, cond, List, Ok, Err}
use Rattle.fields.specs.Fields.{fault, on_read, string_at, view_of, Read}
use Rattle.fields.specs.Place.{by_bool, by_read}
use Rattle.fields.specs.declared.Cursor.{Cursor}
use Rattle.fields.specs.declared.Refusal.TheVariants.{CharacterEncoding}
use Rattle.names.specs.declared.Algorithm.{Algorithm}
use Rattle.utf8.specs.Utf8.{utf8}
use Rattle.key_public.specs.declared.Public.{Public}
use Rattle.fields.specs.declared.Part.{Part}
use Rattle.key_pairs.specs.declared.Private.{Private}
use Rattle.key_pairs.specs.Pairs.{keypair_at}
use Rattle.reader_entries.specs.Entries.{same_key, entry_at, on_paired, pair_at, comment_at}
use Rattle.reader_entries.proofs.Read.{by_keypair}

comment_told :
    (s : List ℕ) (d : Cursor) (private : Private)
    → on_read {R = Read (Private × Part)} (string_at s d) Err (λ comment e. cond (utf8 (view_of s comment)) (Ok ((private, comment), e)) (Err (fault CharacterEncoding d.at)))
    ≡ on_read (comment_at s d) Err (λ comment e. Ok ((private, comment), e))
unfolding comment_at
comment_told s d private =
    by_read (string_at s d)
    (λ f e. rw e)
    (λ comment b e. by_bool (utf8 (view_of s comment)) (λ v. rw (e, v)) (λ v. rw (e, v)))

pub entry_paired :
    (s : List ℕ) (c : Cursor) (algorithm : Algorithm) (public : Public)
    → entry_at s c algorithm public
    ≡ on_paired (pair_at s c algorithm public) Err (λ private d. on_read (comment_at s d) Err (λ comment e. Ok ((private, comment), e)))
unfolding entry_at pair_at
entry_paired s c algorithm public =
    by_keypair (keypair_at s c)
    (λ f e. rw e)
    (λ a p private d e.
    by_bool (same_key s a p algorithm public)
    (λ v. rw (e, v) (comment_told s d private))
    (λ v. rw (e, v)))
