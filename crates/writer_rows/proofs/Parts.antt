-- What a key is as it is taken, where it is handed in as its parts.
use Rattle.std.specs.Prelude.{◌≡◌, refl, Bool, true, false}
use Rattle.std.proofs.Common.{ap₂}
use Rattle.format.specs.Format.{Key, filled}
use Rattle.writer_plain.specs.declared.KeyParts.{KeyParts}
use Rattle.writer_plain.specs.Lent.{lent_algorithm, lent_private, lent_taken}
use Rattle.writer_rows.specs.Taken.{key_taken}

pub taken_algorithm : (filling : Bool) (k : Key) → (key_taken filling k).algorithm ≡ k.algorithm
taken_algorithm true k = refl
taken_algorithm false k = refl

pub taken_public : (filling : Bool) (k : Key) → (key_taken filling k).public ≡ k.public
taken_public true k = refl
taken_public false k = refl

pub taken_private :
    (filling : Bool) (parts : KeyParts) (k : Key) → lent_algorithm parts ≡ k.algorithm → lent_private parts ≡ k.private
    → lent_taken filling parts ≡ (key_taken filling k).private
taken_private true parts k a x = ap₂ filled a x
taken_private false parts k a x = x
