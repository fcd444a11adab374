-- `key_public::public_length` meets its contract: an ECDSA point has its curve's length. Rests on the callee's contract alone.
use Rattle.key_public.proofs.public_length.Goals as goal

pub returns-in-Ecdsa : goal.returns-in-Ecdsa
returns-in-Ecdsa c = rw c.in-Ecdsa.is c.point_length.ensures
