-- The public and the private bytes of an RSA key that is handed in as its six numbers.
use Rattle.format.specs.Format.{PublicBytes, PrivateBytes, of_modulus, of_numbers}
use Rattle.writer_numbers.specs.declared.Numbers.{Numbers}

abbrev pub public_numbers : Numbers → PublicBytes
public_numbers x = of_modulus x.n.now x.e.now

abbrev pub private_numbers : Numbers → PrivateBytes
private_numbers x = of_numbers x.d.now x.iqmp.now x.p.now x.q.now
