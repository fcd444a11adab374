-- docs/RULES.md, 15.2: what the writers for C reply and leave. A code that names nothing is 4, before all else. RSA has a writer of its own, so to the
-- other plain writer its code names nothing.
use Rattle.std.specs.Prelude.{ℕ, ◌≡◌, cond, List, eqb, Option, Some, None}
use Rattle.fields.specs.Place.{by_bool}
use Rattle.names.specs.declared.Algorithm.TheVariants.{Elliptic as OnCurve}
use Rattle.names_codes.specs.Codes.{algorithm_coded, cipher_coded, kdf_coded}
use Rattle.format.specs.Format.{of_point, of_scalar}
use Rattle.key_public.specs.Keys.{on_algorithm_name, on_algorithm}
use Rattle.key_material.specs.Material.{derived_checkint, checkint_of}
use Rattle.reader_header.specs.Header.{on_cipher_name, on_kdf_name}
use Rattle.writer_plain.specs.Plain.{plain_reply, plain_left}
use Rattle.writer_encrypted.specs.Encrypted.{encrypted_reply, encrypted_left}
use Rattle.c_reply.specs.Replies.{names_nothing}
use Rattle.writer_reply.specs.Reply.{Written}

-- derive 0: the given checkint
abbrev pub checkint_for : ℕ → ℕ → List ℕ → ℕ
checkint_for derive given private = cond (eqb derive 0) given (derived_checkint private)

-- the same of several keys, where the first one's private bytes are found later
abbrev pub given_for : ℕ → ℕ → Option ℕ
given_for derive given = cond (eqb derive 0) (Some given) None

unfoldable pub coded_plain_reply : ℕ → List ℕ → List ℕ → ℕ → List ℕ → ℕ → Written
coded_plain_reply code public private checkint comment room =
    on_algorithm_name (algorithm_coded code) names_nothing (λ a.
    on_algorithm a (λ e. plain_reply (OnCurve e) (of_point public) (of_scalar private) checkint comment room) names_nothing)

unfoldable pub coded_plain_left : ℕ → List ℕ → List ℕ → ℕ → List ℕ → List ℕ → List ℕ
coded_plain_left code public private checkint comment old =
    on_algorithm_name (algorithm_coded code) old (λ a.
    on_algorithm a (λ e. plain_left (OnCurve e) (of_point public) (of_scalar private) checkint comment old) old)

unfoldable pub coded_encrypted_reply : ℕ → ℕ → List ℕ → ℕ → List ℕ → List ℕ → List ℕ → ℕ → Written
coded_encrypted_reply cipher kdf salt rounds blob ciphertext tag room =
    on_cipher_name (cipher_coded cipher) names_nothing (λ c.
    on_kdf_name (kdf_coded kdf) names_nothing (λ k.
    encrypted_reply c k salt rounds blob ciphertext tag room))

unfoldable pub coded_encrypted_left : ℕ → ℕ → List ℕ → ℕ → List ℕ → List ℕ → List ℕ → List ℕ → List ℕ
coded_encrypted_left cipher kdf salt rounds blob ciphertext tag old =
    on_cipher_name (cipher_coded cipher) old (λ c.
    on_kdf_name (kdf_coded kdf) old (λ k.
    encrypted_left c k salt rounds blob ciphertext tag old))

-- ---- laws

-- the checkint of a write, once the private bytes are found
pub given_checkint : (derive given : ℕ) (private : List ℕ) → checkint_of (given_for derive given) private ≡ checkint_for derive given private
given_checkint derive given private = by_bool (eqb derive 0) (λ e. rw e) (λ e. rw e)
