-- docs/RULES.md, 10.10: keys that are handed in as one text and a table, 19 numbers a key: the algorithm's code (15.1), then start and length
-- within the text of public, private, comment, n, e, d, iqmp, p and q. What a kind doesn't use isn't looked at, but must be within the text.
use Rattle.std.specs.Prelude.{ℕ, zero, suc, ◌+◌, ◌/◌, ◌%◌, Bool, true, false, ◌&&◌, List, [], ◌∷◌, map, eqb, leb, length, get_or, Option, Some, None}
use Rattle.fields.specs.Fields.{part, view_of}
use Rattle.fields.specs.declared.Part.{Part}
use Rattle.fields.specs.declared.Refusal.TheVariants.{Length, AlgorithmUnknown}
use Rattle.names.specs.declared.Algorithm.{Algorithm}
use Rattle.names.specs.declared.Algorithm.TheVariants.{Elliptic as OnCurve, Rsa}
use Rattle.names_codes.specs.Codes.{algorithm_coded}
use Rattle.format.specs.Format.{PublicBytes, PrivateBytes, Key, key_of, of_point, of_scalar, of_modulus, of_numbers}
use Rattle.writer_reply.specs.Reply.{unless, Written}

-- where the numbers of n keys begin, from j on
unfoldable pub rows_from : ℕ → ℕ → List ℕ
rows_from j zero = []
rows_from j (suc n) = j ∷ rows_from (j + 19) n

-- of all keys of a table
abbrev pub rows : List ℕ → List ℕ
rows table = rows_from 0 (length table / 19)

-- the part that the numbers at i and after it name, and its bytes
abbrev pub part_at : List ℕ → ℕ → Part
part_at table i = part (get_or table i 0) (get_or table (i + 1) 0)

abbrev pub part_bytes : List ℕ → List ℕ → ℕ → List ℕ
part_bytes text table i = view_of text (part_at table i)

-- whether a code names an algorithm, and which; where it names none the table is refused, and RSA stands here for it
abbrev pub is_known : Option Algorithm → Bool
is_known (Some a) = true
is_known None = false

abbrev pub algorithm_of : Option Algorithm → Algorithm
algorithm_of (Some a) = a
algorithm_of None = Rsa

unfoldable pub code_known : List ℕ → ℕ → Bool
code_known table j = is_known (algorithm_coded (get_or table j 0))

unfoldable pub algorithm_at : List ℕ → ℕ → Algorithm
algorithm_at table j = algorithm_of (algorithm_coded (get_or table j 0))

-- the key whose numbers begin at j, of a kind over a curve and of RSA
abbrev pub public_at : Algorithm → List ℕ → List ℕ → ℕ → PublicBytes
public_at (OnCurve e) text table j = of_point (part_bytes text table (j + 1))
public_at Rsa text table j = of_modulus (part_bytes text table (j + 7)) (part_bytes text table (j + 9))

abbrev pub private_at : Algorithm → List ℕ → List ℕ → ℕ → PrivateBytes
private_at (OnCurve e) text table j = of_scalar (part_bytes text table (j + 3))
private_at Rsa text table j =
    of_numbers (part_bytes text table (j + 11)) (part_bytes text table (j + 13)) (part_bytes text table (j + 15)) (part_bytes text table (j + 17))

abbrev pub comment_at : List ℕ → List ℕ → ℕ → List ℕ
comment_at text table j = part_bytes text table (j + 5)

unfoldable pub key_at : List ℕ → List ℕ → ℕ → Key
key_at text table j =
    key_of (algorithm_at table j) (public_at (algorithm_at table j) text table j) (private_at (algorithm_at table j) text table j)
    (comment_at text table j)

-- the keys that a text and a table name
unfoldable pub keys_named : List ℕ → List ℕ → List Key
keys_named text table = map (key_at text table) (rows table)

-- ---- what is looked at before any key

-- each of the nine parts is within the text
unfoldable pub part_within : List ℕ → List ℕ → ℕ → Bool
part_within text table i = leb (get_or table i 0 + get_or table (i + 1) 0) (length text)

unfoldable pub row_is_within : List ℕ → List ℕ → ℕ → Bool
row_is_within text table j =
    part_within text table (j + 1)
    && part_within text table (j + 3)
    && part_within text table (j + 5)
    && part_within text table (j + 7)
    && part_within text table (j + 9)
    && part_within text table (j + 11)
    && part_within text table (j + 13)
    && part_within text table (j + 15)
    && part_within text table (j + 17)

unfoldable pub every : (ℕ → Bool) → List ℕ → Bool
every holds [] = true
every holds (j ∷ more) = holds j && every holds more

-- the numbers of 1 to 16 keys, whose parts are all within the text
unfoldable pub table_fits : List ℕ → List ℕ → Bool
table_fits text table =
    eqb (length table % 19) 0
    && (leb 1 (length table / 19) && leb (length table / 19) 16)
    && every (row_is_within text table) (rows table)

-- 1 for a table that doesn't fit, then 4 for a code that names nothing, of any key; and then
unfoldable pub table_checked : List ℕ → List ℕ → Written → Written
table_checked text table next =
    unless (table_fits text table) Length
    (unless (every (code_known table) (rows table)) AlgorithmUnknown
    next)
