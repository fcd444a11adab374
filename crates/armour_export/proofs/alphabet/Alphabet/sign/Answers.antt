-- `armour_export::alphabet::Alphabet::sign` meets its contract: the table has the sign at its value.
use Rattle.armour_export.specs.Stores.{sign_at}
use Rattle.armour_export.proofs.alphabet.Alphabet.sign.Goals as goal

pub returns : goal.returns
returns c = sign_at _ _ c.args.self.now.of_signs
