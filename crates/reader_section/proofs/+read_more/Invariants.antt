-- `reader_section::read_more` meets its contract, by the number of keys that are left to read. Rests on `more_none` and `more_next`.
use Rattle.reader_section.proofs.+read_more.Given as goal

abbrev pub decreases-read_more : goal.decreases-read_more
decreases-read_more l = l.remaining
