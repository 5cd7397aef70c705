-- What a C caller holds after a call for one mode: the number, and the places that were lent. Definitions only.
use Rattle.std.specs.Prelude.{Float}
use Rattle.segv.specs.Row.{Numbered, answer}
use Rattle.requests.specs.Answers.{Answer, Pair, Quadruple, Refused}

-- an angular pair, or the first radial kind, is put into its two places with the number 0; else they are as they were. No call for a pair is answered by a quadruple
unfoldable pub pair_put : Answer → Float × Float → Numbered (Float × Float)
pair_put (Pair v d) places = answer 0 (v, d)
pair_put (Quadruple v1 d1 v2 d2) places = answer 0 places
pair_put (Refused k) places = answer k places

-- both radial kinds likewise; no call for a quadruple is answered by a pair
unfoldable pub quadruple_put : Answer → Float × Float × Float × Float → Numbered (Float × Float × Float × Float)
quadruple_put (Pair v d) places = answer 0 places
quadruple_put (Quadruple v1 d1 v2 d2) places = answer 0 (v1, d1, v2, d2)
quadruple_put (Refused k) places = answer k places
