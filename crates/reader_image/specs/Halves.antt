-- The section read, handed what an accepted header read of the image gives, is the full read; so what it accepts is what the full read accepts.
use Rattle.std.specs.Prelude.{ℕ, ◌≡◌, List, Ok}
use Rattle.std.proofs.Common.{sym, ◌∙◌}
use Rattle.fields.specs.Place.{clash, by_bool}
use Rattle.reader_header.specs.declared.Header.{Header}
use Rattle.reader_header.specs.Header.{header_at}
use Rattle.handed_header.specs.Halves.{is_header, header_passes}
use Rattle.handed_header.proofs.Halves.{passes_header}
use Rattle.reader_image.specs.declared.Fields.{Fields}
use Rattle.reader_image.specs.Container.{go_on_at, read_at, section_read_at}

on_from : (s : List ℕ) (h : Header) → header_at s ≡ Ok h → read_at s ≡ go_on_at s h
unfolding read_at
on_from s h e = rw e

pub section_own : (s : List ℕ) (h : Header) → header_at s ≡ Ok h → section_read_at s h ≡ read_at s
unfolding section_read_at
section_own s h e = rw (header_passes s h e) (sym (on_from s h e))

pub section_read : (s : List ℕ) (half : Header) (f : Fields) → section_read_at s half ≡ Ok f → read_at s ≡ Ok f
unfolding section_read_at
section_read s half f e =
    by_bool (is_header s half)
    (λ w. let accepted : go_on_at s half ≡ Ok f = rw w at e in on_from s half (passes_header s half w) ∙ accepted)
    (λ w. let forged = rw w at e in clash cc)
