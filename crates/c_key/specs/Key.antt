-- docs/RULES.md, 15.4: key k of an image, for C.
use Rattle.std.specs.Prelude.{ℕ, List}
use Rattle.reader_image.specs.Container.{on_read, read_at}
use Rattle.reader_keys.specs.Keys.{key_numbered}
use Rattle.c_numbers.specs.Numbers.{refused_key, looked_key}
use Rattle.c_numbers.specs.declared.Key.{Key}

-- key k of an image: the reader's refusals, then 1 for a key that it doesn't have
unfoldable pub key_c : List ℕ → ℕ → Key
key_c s k = on_read (read_at s) refused_key (λ f. looked_key (key_numbered s f k))
