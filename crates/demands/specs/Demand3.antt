-- The users' third demand, sentence by sentence, as statements about the definitions of the public rows and of the public angular pair. `proofs/Demand3.antt` and `proofs/Demand3Angular.antt` prove them.
use Rattle.std.specs.Prelude.{ℕ, ◌+◌, ◌-◌, ◌/◌, ◌%◌, ◌≤◌, ◌≡◌, true, false, cond, List, eqb, Float, get_or}
use Rattle.std.specs.Float.Ieee.{lt, le, neg}
use Rattle.arith.specs.Double.{◌⊕◌, ◌⊖◌, ◌⊗◌, at, #0, #1, #1e-10}
use Rattle.segv.specs.declared.bisection.Bracket.{Bracket}
use Rattle.segv.specs.Row.{Slices}
use Rattle.segv.specs.Sound.{SoundIn}
use Rattle.requests.specs.Answers.{Pair}
use Rattle.requests.specs.declared.checking.Kind.{Kind}
use Rattle.requests.specs.declared.checking.Kind.TheVariants.{Prolate, Oblate}
use Rattle.requests.specs.declared.checking.Mode.{Mode}
use Rattle.requests.specs.Refusals.{cs_of, entries_of}
use Rattle.rows.specs.Rows.{row_of, too_short, dlmf_of}
use Rattle.modes.specs.Angular.{angular_of}

-- what a row hands out for the mode at offset j: the value, and the lower, the upper, the step number and the flag beside it, of which 1 is yes
abbrev pub handed : Slices → ℕ → Bracket
handed l j =
    record {
      value = at l.values j;
      lower = at l.lowers j;
      upper = at l.uppers j;
      steps = get_or l.steps j 0;
      substituted = eqb (get_or l.substituted j 0) 1;
    }

-- Whatever m, n, allowance and c of at least 1e-10 an accepted row of operation 1 or 2 has, each characteristic value it hands out is the rounded midpoint of the lower and the upper
-- handed out beside it. The rounded gap of these two over the value, rounded, is below 1e-14 in size. At the lower, document 01 counts fewer than k negative pivots, or it is the lower
-- Gershgorin bound; at the upper, k or more, or it is the upper Gershgorin bound; k is the value's place among modes of its parity, j/2 + 1 at offset j. (`Sound` in crate `segv` has these
-- facts one by one, two on the step number, which is at least 1 and at most the allowance, and what the flag is: yes where 1e-30 was put in during a count made for this place.)
abbrev pub Demand3Rows : Type 0
Demand3Rows =
    (kind : Kind) (x : Mode) (allowance : ℕ) (l : Slices)
    → (row_of kind x allowance l).number ≡ 0
    → lt x.c #1e-10 ≡ false
    → (j : ℕ) → j ≤ x.n - x.m
    → SoundIn x.m (j % 2) (cs_of kind x) (entries_of x) allowance (j / 2 + 1) (handed (row_of kind x allowance l).after j)

-- Card 4's rule, with the square of c: DLMF's eigenvalue is Flammer's value less the square for prolate modes, and plus it for oblate ones
abbrev pub eigenvalue : Kind → Float → Float → Float
eigenvalue Prolate value square = value ⊖ square
eigenvalue Oblate value square = value ⊕ square

-- DLMF rows start from the same values: where one is accepted, so is the row with the same kind, m, n, c and allowance, and each value is the row's by Card 4's rule, with two roundings.
abbrev pub Demand3Dlmf : Type 0
Demand3Dlmf =
    (kind : Kind) (x : Mode) (allowance : ℕ) (xs : List Float) (l : Slices)
    → (dlmf_of kind x allowance xs).number ≡ 0
    → too_short x l ≡ false
    → ((row_of kind x allowance l).number ≡ 0)
    × ((j : ℕ) → j ≤ x.n - x.m → at (dlmf_of kind x allowance xs).after j ≡ eigenvalue kind (at (row_of kind x allowance l).after.values j) (x.c ⊗ x.c))

-- For every accepted angular call with x above 0 and at most 1, whatever its c and cv, an accepted one alike but for −x gives the same pair bit for bit except one exact change of sign: on the value
-- if n − m is odd, on the derivative if even, NaN aside. (There is one NaN here, and it is its own negation, so that this is an equation.)
abbrev pub Demand3Angular : Type 0
Demand3Angular =
    (kind : Kind) (mode : Mode) (cv x value derivative : Float)
    → lt #0 x ≡ true
    → le x #1 ≡ true
    → angular_of kind mode cv x ≡ Pair value derivative
    → angular_of kind mode cv (neg x) ≡ cond (eqb ((mode.n - mode.m) % 2) 1) (Pair (neg value) derivative) (Pair value (neg derivative))
