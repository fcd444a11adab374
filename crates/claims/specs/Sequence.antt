-- docs/RULES.md, 16.3, the third demand: any sequence of edits of a file of keys, refused ones among them. After it the first bytes, as many as the
-- last answered length, are the image written afresh from the keys now in the file, in order, each with its own last accepted comment, or the one
-- that it came with, under the first image's checkint; those between that end and the furthest that was reached are zero; bytes past every end
-- reached stay. A buffer whose first n bytes may not be edited stays as it is.
use Rattle.std.specs.Prelude.{ℕ, ◌-◌, ◌≡◌, refl, take, Result, Ok, Err}
use Rattle.std.proofs.Common.{arith, ◌∙◌, ap}
use mathlib.Core.List.{List, [], ◌∷◌, map}
use Rattle.fields.specs.Bytes.{AllBytes}
use Rattle.fields.specs.declared.Fault.{Fault}
use Rattle.format.specs.Format.{Key, filled_key}
use Rattle.writer_reply.specs.Reply.{on_written, Written}
use Rattle.edit_shells.specs.Sequence.{Holds, further}
use Rattle.edit_file.specs.Edits.{editable_at, file_keys}
use Rattle.laws_edits.specs.File.{File}
use Rattle.claims.specs.Change.{by_editable}
use Rattle.laws_edits.specs.Steps.{Edit, made, reply, leaves, not_editable, step_refused, step_becomes, step_holds, first_file, first_holds}
use Rattle.reader_image.specs.declared.Fields.{Fields}

-- a buffer, and the length that the last accepted edit answered, the first image's until one was
pub record State : Type 0 where
  pub buf : List ℕ
  pub n : ℕ

-- each call is given the buffer as the call before left it, and that length
unfoldable pub after : Edit → State → State
after e s = record { buf = leaves e s.buf s.n; n = on_written (reply e s.buf s.n) (λ g. s.n) (λ k. k) }

unfoldable pub edits : List Edit → State → State
edits [] s = s
edits (e ∷ es) s = edits es (after e s)

-- the keys now in the file: every accepted edit was made of them, one after the other
unfoldable pub keys_now : List Edit → State → List Key → List Key
keys_now [] s keys = keys
keys_now (e ∷ es) s keys = keys_now es (after e s) (on_written (reply e s.buf s.n) (λ g. keys) (λ k. made e keys))

-- the furthest end reached
unfoldable pub furthest : List Edit → State → ℕ → ℕ
furthest [] s far = far
furthest (e ∷ es) s far = furthest es (after e s) (further far (after e s).n)

-- ---- what holds after edits

record Kept (c : ℕ) (old : List ℕ) (keys : List Key) (far : ℕ) (s : State) : Type 0 where
  own : List Key
  same : keys ≡ map filled_key own
  file : File c own
  holds : Holds c old keys s.n far s.buf

by_written : {P : Type 0} (w : Written) → ((g : Fault) → w ≡ Err g → P) → ((m : ℕ) → w ≡ Ok m → P) → P
by_written (Err g) refused accepted = refused g refl
by_written (Ok m) refused accepted = accepted m refl

after_refused : (e : Edit) (s : State) (g : Fault) → reply e s.buf s.n ≡ Err g → leaves e s.buf s.n ≡ s.buf → after e s ≡ s
unfolding after
after_refused e s g a left =
    let end = ap (λ (w : Written). on_written w (λ (h : Fault). s.n) (λ (m : ℕ). m)) a in
    λ i. record { buf = left i; n = end i }

after_accepted :
    (e : Edit) (s : State) (m : ℕ) → reply e s.buf s.n ≡ Ok m → after e s ≡ record { buf = leaves e s.buf s.n; n = m }
unfolding after
after_accepted e s m a =
    let end = ap (λ (w : Written). on_written w (λ (h : Fault). s.n) (λ (i : ℕ). i)) a in
    λ i. record { buf = leaves e s.buf s.n; n = end i }

module _ (c : ℕ) (old : List ℕ) where
  step :
      (keys : List Key) (far : ℕ) (s : State) → Kept c old keys far s → (e : Edit)
      → Kept c old (on_written (reply e s.buf s.n) (λ g. keys) (λ k. made e keys)) (further far (after e s).n) (after e s)
  step keys far s k e =
      let h : Holds c old (map filled_key k.own) s.n far s.buf = rw k.same at k.holds in
      by_written (reply e s.buf s.n)
      (λ g a.
      let stays = after_refused e s g a (step_refused c old k.own k.file s.n far s.buf h e g a) in
      let end : further far s.n ≡ far = omega (arith, k.holds.reached) in
      rw (a, stays, end) k)
      (λ m a.
      let b = step_becomes c old k.own k.file s.n far s.buf h e m a in
      rw (a, after_accepted e s m a, k.same)
      (record { own = b.keys; same = b.same; file = b.file; holds = step_holds c old k.own k.file s.n far s.buf h e m a }))

  run :
      (es : List Edit) (keys : List Key) (far : ℕ) (s : State) → Kept c old keys far s
      → Kept c old (keys_now es s keys) (furthest es s far) (edits es s)
  unfolding keys_now furthest edits
  run [] keys far s k = k
  run (e ∷ es) keys far s k =
      run es (on_written (reply e s.buf s.n) (λ g. keys) (λ m. made e keys)) (further far (after e s).n) (after e s) (step keys far s k e)

-- ---- the theorem

-- by whether the first image may be edited: its keys and the edits tell what the buffer holds; or nothing was changed
abbrev pub Ends : Result Fields Fault → List Edit → State → State → Type 0
Ends (Err g) es s t = t ≡ s
Ends (Ok f) es s t =
    Holds f.section.checkint s.buf (keys_now es s (file_keys (take s.n s.buf) f)) t.n (furthest es s s.n) t.buf

all_refused : (s : State) (g : Fault) → editable_at s.buf s.n ≡ Err g → (es : List Edit) → edits es s ≡ s
unfolding edits
all_refused s g w [] = refl
all_refused s g w (e ∷ es) =
    let r = not_editable e s.buf s.n g w in
    ap (edits es) (after_refused e s g r.0 r.1) ∙ all_refused s g w es

-- for any buffer, any length and any edits
pub sequence : (s : State) → AllBytes s.buf → (es : List Edit) → Ends (editable_at s.buf s.n) es s (edits es s)
unfolding file_keys
sequence s all es =
    by_editable (editable_at s.buf s.n)
    (λ g w. rw w (all_refused s g w es))
    (λ f w.
    rw w
    (run f.section.checkint s.buf es _ s.n s
    (record {
      own = _;
      same = refl;
      file = first_file s.buf all s.n f w;
      holds = first_holds s.buf all s.n f w;
    })
    ).holds)
