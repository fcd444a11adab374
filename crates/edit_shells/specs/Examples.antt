-- Each edit of an image of two keys, byte by byte. The keys have blobs, keypairs and comments of one byte, which the edits don't look at.
use Rattle.std.specs.Prelude.{ℕ, ◌≡◌, refl, List, [], ◌∷◌, ◌++◌}
use Rattle.fields.specs.Bytes.{ascii, uint32, string}
use Rattle.format.specs.Format.{entry, magic, content, section, header, plain_image}
use Rattle.edit_shells.specs.Shells.{padded, closed, changed_at, removed_at, added_at}

-- what stands before the key count
abbrev start : List ℕ
start = ascii "openssh-key-v1" ++ 0 ∷ 0 ∷ 0 ∷ 0 ∷ 4 ∷ ascii "none" ++ 0 ∷ 0 ∷ 0 ∷ 4 ∷ ascii "none" ++ 0 ∷ 0 ∷ 0 ∷ 0 ∷ []

-- two keys: blobs at 39 and 44, the section's length at 49, entries at 61 and 67, four bytes of padding at 73
abbrev two : List ℕ
two =
    start
    ++ 0 ∷ 0 ∷ 0 ∷ 2 ∷ 0 ∷ 0 ∷ 0 ∷ 1 ∷ 11 ∷ 0 ∷ 0 ∷ 0 ∷ 1 ∷ 12 ∷ 0 ∷ 0 ∷ 0 ∷ 24
    ∷ 0 ∷ 0 ∷ 0 ∷ 7 ∷ 0 ∷ 0 ∷ 0 ∷ 7 ∷ 21 ∷ 0 ∷ 0 ∷ 0 ∷ 1 ∷ 65 ∷ 22 ∷ 0 ∷ 0 ∷ 0 ∷ 1 ∷ 66 ∷ 1 ∷ 2 ∷ 3 ∷ 4 ∷ []

two_is : plain_image 7 ((11 ∷ []) ∷ (12 ∷ []) ∷ []) (entry (21 ∷ []) (ascii "A") ∷ entry (22 ∷ []) (ascii "B") ∷ []) ≡ two
unfolding plain_image header section content magic string uint32
two_is = refl

-- the first key's comment made longer by one: three bytes of padding
change_example :
    changed_at two 49 62 67 73 (ascii "CD")
    ≡ start
    ++ 0 ∷ 0 ∷ 0 ∷ 2 ∷ 0 ∷ 0 ∷ 0 ∷ 1 ∷ 11 ∷ 0 ∷ 0 ∷ 0 ∷ 1 ∷ 12 ∷ 0 ∷ 0 ∷ 0 ∷ 24
    ∷ 0 ∷ 0 ∷ 0 ∷ 7 ∷ 0 ∷ 0 ∷ 0 ∷ 7 ∷ 21 ∷ 0 ∷ 0 ∷ 0 ∷ 2 ∷ 67 ∷ 68 ∷ 22 ∷ 0 ∷ 0 ∷ 0 ∷ 1 ∷ 66 ∷ 1 ∷ 2 ∷ 3 ∷ []
unfolding changed_at closed padded string uint32
change_example = refl

-- the first key removed: two bytes of padding
remove_example :
    removed_at two 1 39 44 49 61 67 73
    ≡ start
    ++ 0 ∷ 0 ∷ 0 ∷ 1 ∷ 0 ∷ 0 ∷ 0 ∷ 1 ∷ 12 ∷ 0 ∷ 0 ∷ 0 ∷ 16
    ∷ 0 ∷ 0 ∷ 0 ∷ 7 ∷ 0 ∷ 0 ∷ 0 ∷ 7 ∷ 22 ∷ 0 ∷ 0 ∷ 0 ∷ 1 ∷ 66 ∷ 1 ∷ 2 ∷ []
unfolding removed_at closed padded string uint32
remove_example = refl

-- a third key: six bytes of padding
add_example :
    added_at two 3 49 73 (13 ∷ []) (23 ∷ []) (ascii "E")
    ≡ start
    ++ 0 ∷ 0 ∷ 0 ∷ 3 ∷ 0 ∷ 0 ∷ 0 ∷ 1 ∷ 11 ∷ 0 ∷ 0 ∷ 0 ∷ 1 ∷ 12 ∷ 0 ∷ 0 ∷ 0 ∷ 1 ∷ 13 ∷ 0 ∷ 0 ∷ 0 ∷ 32
    ∷ 0 ∷ 0 ∷ 0 ∷ 7 ∷ 0 ∷ 0 ∷ 0 ∷ 7 ∷ 21 ∷ 0 ∷ 0 ∷ 0 ∷ 1 ∷ 65 ∷ 22 ∷ 0 ∷ 0 ∷ 0 ∷ 1 ∷ 66 ∷ 23 ∷ 0 ∷ 0 ∷ 0 ∷ 1 ∷ 69 ∷ 1 ∷ 2 ∷ 3 ∷ 4 ∷ 5 ∷ 6 ∷ []
unfolding added_at closed padded string uint32
add_example = refl
