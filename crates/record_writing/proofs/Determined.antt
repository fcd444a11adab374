-- Any two answers to a record handed in are equal, and so are the buffers. The function is walked by hand, and the checker makes no plain form of
-- its contract; so this is said of the definition that the contract cites.
use mathlib.Core.Path.{◌≡◌, sym, ◌∙◌}
use Prim.Native.Nat.{ℕ}
use mathlib.Core.List.{List}
use Rattle.reader_image.specs.declared.Fields.{Fields}
use Rattle.writer_again.specs.Rewrite.{IsHanded}
use Rattle.writer_reply.specs.Reply.{Written}

pub rewrite_determined :
    (s : List ℕ) (f : Fields) (old : List ℕ) (v w : Written) (a b : List ℕ) → IsHanded s f old v a → IsHanded s f old w b → (v ≡ w) × (a ≡ b)
rewrite_determined s f old v w a b p q = (p.0 ∙ sym q.0, p.1 ∙ sym q.1)
