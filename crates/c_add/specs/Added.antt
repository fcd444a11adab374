-- docs/RULES.md, 15.2: what a key on a curve added for C replies and leaves. A code that names nothing is 4, before all else, and so is RSA's, which has a
-- function of its own.
use Rattle.std.specs.Prelude.{ℕ, List}
use Rattle.names.specs.declared.Algorithm.TheVariants.{Elliptic as OnCurve}
use Rattle.names_codes.specs.Codes.{algorithm_coded}
use Rattle.format.specs.Format.{key_of, of_point, of_scalar}
use Rattle.key_public.specs.Keys.{on_algorithm_name, on_algorithm}
use Rattle.edit_file.specs.Edits.{add_reply, add_left}
use Rattle.c_reply.specs.Replies.{names_nothing}
use Rattle.writer_reply.specs.Reply.{Written}

unfoldable pub coded_add_reply : List ℕ → ℕ → ℕ → List ℕ → List ℕ → List ℕ → Written
coded_add_reply old n code public private comment =
    on_algorithm_name (algorithm_coded code) names_nothing (λ a.
    on_algorithm a (λ e. add_reply old n (key_of (OnCurve e) (of_point public) (of_scalar private) comment)) names_nothing)

unfoldable pub coded_add_left : List ℕ → ℕ → ℕ → List ℕ → List ℕ → List ℕ → List ℕ
coded_add_left old n code public private comment =
    on_algorithm_name (algorithm_coded code) old (λ a.
    on_algorithm a (λ e. add_left old n (key_of (OnCurve e) (of_point public) (of_scalar private) comment)) old)
