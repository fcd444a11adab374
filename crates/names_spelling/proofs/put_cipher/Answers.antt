-- `names_spelling::put_cipher` meets its contract: the bytes that each cipher has are its name's string. The search stops at the two longest.
use Rattle.fields.specs.Bytes.{uint32, string}
use Rattle.names_spelling.proofs.put_cipher.Goals as goal

pub returns-in-Aes128Gcm : goal.returns-in-Aes128Gcm
unfolding string uint32
returns-in-Aes128Gcm c = rw c.in-Aes128Gcm.is c.put-in-Aes128Gcm.ensures

pub returns-in-Aes256Gcm : goal.returns-in-Aes256Gcm
unfolding string uint32
returns-in-Aes256Gcm c = rw c.in-Aes256Gcm.is c.put-in-Aes256Gcm.ensures
