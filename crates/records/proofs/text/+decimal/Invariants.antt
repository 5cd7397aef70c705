-- `records::text::decimal`, which calls itself, meets its contract. The measure is the number. Assumes nothing.
use Rattle.records.proofs.text.+decimal.Given as goal

abbrev pub decreases-decimal : goal.decreases-decimal
decreases-decimal l = l.n
