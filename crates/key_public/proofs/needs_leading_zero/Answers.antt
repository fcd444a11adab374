-- `key_public::needs_leading_zero` meets its contract: the first byte is the one that is compared. Assumes nothing.
use Rattle.key_public.proofs.needs_leading_zero.Goals as goal

pub returns : goal.returns
returns c = rw c.byte.ensures
