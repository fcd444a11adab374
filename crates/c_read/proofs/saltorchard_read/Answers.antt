-- `c_read::saltorchard_read` meets its contract. Rests on the callees' contracts.
use Rattle.c_read.proofs.saltorchard_read.Goals as goal

pub returns : goal.returns
returns c = rw (← c.read_with_form.ensures.0) c.image_of.ensures
