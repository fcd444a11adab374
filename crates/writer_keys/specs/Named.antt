-- docs/RULES.md, 10.10 and 10.11: several keys written from one text and a table. Order: 1 for a table that isn't that of 1 to 16 keys, or for
-- a part that isn't within the text; 4 for a code that names nothing, of any key; then what a write of these keys answers. Every refusal is at
-- 0. 10.4: a derived checkint is that of the first key's private bytes.
use Rattle.std.specs.Prelude.{ℕ, Bool, List, length}
use Rattle.names.specs.declared.Algorithm.{Algorithm}
use Rattle.names.specs.declared.Algorithm.TheVariants.{Elliptic as OnCurve, Rsa}
use Rattle.format.specs.Format.{Key, PrivateBytes, written_image}
use Rattle.writer_reply.specs.Reply.{left, Answers, Written}
use Rattle.writer_plain.specs.Plain.{keys_reply}
use Rattle.writer_table.specs.Table.{key_at, keys_named, table_checked}
use Rattle.writer_rows.specs.Taken.{keys_taken}

-- the keys as they are taken: a caller's as they are, a record's with their scalars filled
abbrev pub named_keys : Bool → List ℕ → List ℕ → List Key
named_keys filling text table = keys_taken filling (keys_named text table)

unfoldable pub named_reply : Bool → List ℕ → List ℕ → ℕ → ℕ → Written
named_reply filling text table checkint room =
    table_checked text table (keys_reply (named_keys filling text table) checkint room)

unfoldable pub named_left : Bool → List ℕ → List ℕ → ℕ → List ℕ → List ℕ
named_left filling text table checkint old =
    left (named_reply filling text table checkint (length old)) (written_image checkint (named_keys filling text table)) old

-- the contract of such a write: it answers r and leaves out
abbrev pub IsNamed : Bool → List ℕ → List ℕ → ℕ → List ℕ → Written → List ℕ → Type 0
IsNamed filling text table checkint old r out =
    Answers (named_reply filling text table checkint (length old)) (named_left filling text table checkint old) r out

-- the private bytes that a checkint is derived from: a seed or a scalar, and of RSA d
abbrev pub mixed_bytes : Algorithm → PrivateBytes → List ℕ
mixed_bytes (OnCurve e) x = x.scalar
mixed_bytes Rsa x = x.d

-- those of the first key
unfoldable pub first_private : List ℕ → List ℕ → List ℕ
first_private text table = mixed_bytes (key_at text table 0).algorithm (key_at text table 0).private
