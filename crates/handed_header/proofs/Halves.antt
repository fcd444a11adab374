-- A half that passes is what an accepted header read gives. Rests on `header_same`.
use Rattle.std.specs.Prelude.{ℕ, ◌≡◌, true, false, List, Ok}
use Rattle.std.proofs.Common.{sym, ◌∙◌, ap}
use Rattle.fields.specs.Place.{clash}
use Rattle.reader_header.specs.declared.Header.{Header}
use Rattle.reader_header.specs.Header.{header_at}
use Rattle.handed_header.specs.Halves.{same_header, is_header, header_same, by_header}

pub passes_header : (s : List ℕ) (half : Header) → is_header s half ≡ true → header_at s ≡ Ok half
unfolding is_header
passes_header s half e =
    by_header (header_at s)
    (λ f w. let z : false ≡ true = rw w at e in clash cc)
    (λ h w.
    let same : same_header half h ≡ true = rw w at e in
    w ∙ ap Ok (sym (header_same half h same)))
