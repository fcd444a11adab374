-- `utf8::top_bits` meets its contract. Rests on `eight_tops`, how the number is made of the bytes.
use native.Mathlib.Omega.{arith}
use Rattle.utf8.proofs.Tops.{eight_tops}
use Rattle.utf8.proofs.top_bits.Goals as goal

pub returns : goal.returns
returns c = eight_tops c.args.text.now (λ i. (c.type_inv.text i).fits) c.args.at (omega arith) _ c.from_le_bytes-number.ensures
