-- The expansion coefficients of a mode (`sdmn`), in the order and with the names of the source. Definitions only.
use Rattle.std.specs.Prelude.{ℕ, zero, suc, ◌+◌, ◌-◌, ◌*◌, ◌/◌, ◌%◌, Bool, true, false, cond, List, eqb, ltb, Float, set}
use Rattle.std.specs.Float.Ieee.{lt, neg}
use Rattle.arith.specs.Double.{◌⊕◌, ◌⊖◌, ◌⊗◌, ◌⊘◌, dbl, at, #0, #0·5, #1, #1·5, #4, #1e-10, #1e-100, #1e100}
use Rattle.arith.specs.Choice.{abs}
use Rattle.sturm.specs.Entries.{entry_a, entry_d, entry_g}
use Rattle.expansion.specs.declared.sdmn.Sum.{Sum}
use Rattle.expansion.specs.Terms.{terms_of}
use Rattle.expansion.specs.Products.{rising, rising_by}
use Rattle.expansion.specs.Sums.{settled, blank}

-- ---- the recurrence of one parity: its a, d and g at place k, from 0 on, are those of document 01's row

-- ip is the parity of n − m
pub record Recurrence : Type 0 where
  pub m : ℕ
  pub ip : ℕ
  pub cs : Float
  pub cv : Float

abbrev pub a_at : Recurrence → ℕ → Float
a_at r k = entry_a r.m (2 * k + r.ip) r.cs

abbrev pub d_at : Recurrence → ℕ → Float
d_at r k = entry_d r.m (2 * k + r.ip) r.cs

abbrev pub g_at : Recurrence → ℕ → Float
g_at r k = entry_g r.m (2 * k + r.ip) r.cs

-- the coefficient below place k, from f0 at k and f1 above it
unfoldable pub below : Recurrence → ℕ → Float → Float → Float
below r k f1 f0 = neg ((d_at r k ⊖ r.cv) ⊗ f0 ⊕ a_at r k ⊗ f1) ⊘ g_at r k

-- the coefficient above place k, from f2 at k and f1 below it
unfoldable pub above : Recurrence → ℕ → Float → Float → Float
above r k f1 f2 = neg ((d_at r k ⊖ r.cv) ⊗ f2 ⊕ g_at r k ⊗ f1) ⊘ a_at r k

-- the second coefficient, from the first
unfoldable pub second : Recurrence → Float → Float
second r f1 = neg ((d_at r 0 ⊖ r.cv) ⊘ a_at r 0) ⊗ f1

-- ---- where f is too large, all that has been found so far is taken down by 1e-100

unfoldable pub too_large : Float → Bool
too_large f = lt #1e100 (abs f)

unfoldable pub reduced : Float → Float → Float
reduced f x = cond (too_large f) (x ⊗ #1e-100) x

-- `left` places from i on, each times x
unfoldable pub scaled : Float → ℕ → ℕ → List Float → List Float
scaled x zero i df = df
scaled x (suc left) i df = scaled x left (suc i) (set df i (at df i ⊗ x))

unfoldable pub reduced_places : Float → ℕ → ℕ → List Float → List Float
reduced_places f left i df = cond (too_large f) (scaled #1e-100 left i df) df

-- ---- the downward pass

unfoldable pub exceeds : Float → Float → Bool
exceeds f x = lt (abs x) (abs f)

-- kb is the joint, 0 where the pass came through, and fl the coefficient there
pub record Downward : Type 0 where
  pub kb : ℕ
  pub fl : Float
  pub df : List Float

abbrev pub downward : ℕ → Float → List Float → Downward
downward kb fl df = record { kb = kb; fl = fl; df = df }

-- from place k down, as long as the coefficients grow
unfoldable pub descend : Recurrence → ℕ → ℕ → Float → Float → List Float → Downward
descend r nm zero f1 f0 df = downward 0 #0 df
descend r nm (suc k) f1 f0 df =
    let f = below r (suc k) f1 f0 in
    elim (exceeds f (at df (suc k))) [
      | true ↦ descend r nm k (reduced f f0) (reduced f f) (reduced_places f (nm - k) k (set df k f))
      | false ↦ downward (suc k) (at df (suc k)) df
    ]

abbrev pub descended : Recurrence → ℕ → List Float → Downward
descended r nm df = descend r nm nm #0 #1e-100 df

-- ---- the upward pass

-- fs is the coefficient at the joint as this pass gives it
pub record Upward : Type 0 where
  pub fs : Float
  pub df : List Float

abbrev pub upward : Float → List Float → Upward
upward fs df = record { fs = fs; df = df }

unfoldable pub stored_below : ℕ → ℕ → Float → List Float → List Float
stored_below kb i f df = cond (ltb i kb) (set df i f) df

-- `left` turns from place i on, f2 at i and f1 below it. The last one reduces the downward pass's coefficient at the joint too
unfoldable pub climbed : Recurrence → ℕ → ℕ → ℕ → Float → Float → List Float → Upward
climbed r kb zero i f1 f2 df = upward f2 df
climbed r kb (suc left) i f1 f2 df =
    let f = above r i f1 f2 in
    climbed r kb left (suc i) (reduced f f2) (reduced f f) (reduced_places f (i + 2) 0 (stored_below kb (i + 1) f df))

-- to a joint at 0, 1, 2 or further up. Nothing is reduced where it is at 2
unfoldable pub ascended : Recurrence → ℕ → List Float → Upward
ascended r kb df =
    let f1 = #1e-100 in
    let f2 = second r f1 in
    cond (eqb kb 0) (upward #1 df)
    (cond (eqb kb 1) (upward f2 (set df 0 f1))
    (cond (eqb kb 2) (upward (above r 1 f1 f2) (set (set df 0 f1) 1 f2))
    (climbed r kb (kb - 1) 1 f1 f2 (set (set df 0 f1) 1 f2))))

-- ---- the two sums. Here k counts coefficients from 1, as in the source

-- the factor of the k-th coefficient, from that of the one before
abbrev pub next_factor : ℕ → ℕ → ℕ → Float → Float
next_factor m ip k r1 = neg r1 ⊗ (dbl (k + m + ip) ⊖ #1·5) ⊘ (dbl k ⊖ #1)

-- `left` more terms from the k-th on
unfoldable pub sum_on : List Float → ℕ → ℕ → ℕ → ℕ → Float → Float → Sum
sum_on df m ip zero k r1 su1 = record { r1 = r1; su1 = su1 }
sum_on df m ip (suc left) k r1 su1 = let r = next_factor m ip k r1 in sum_on df m ip left (suc k) r (su1 ⊕ r ⊗ at df (k - 1))

-- up to the joint; the first coefficient's factor is (m + ip + 1) .. (2 (m + ip))
unfoldable pub sum_up_to : List Float → ℕ → ℕ → ℕ → Sum
sum_up_to df m ip kb = let r1 = rising #1 (m + ip + 1) (m + ip) in sum_on df m ip (kb - 1) 2 r1 (at df 0 ⊗ r1)

unfoldable pub factor_at : ℕ → ℕ → ℕ → Float → Float
factor_at m ip k r1 = cond (eqb k 1) r1 (next_factor m ip k r1)

-- past the joint, `left` more terms from the k-th on, until the sum has settled
unfoldable pub sum_past : List Float → ℕ → ℕ → ℕ → ℕ → Float → Float → Float → Float
sum_past df m ip zero k r1 su2 sw = su2
sum_past df m ip (suc left) k r1 su2 sw =
    let r = factor_at m ip k r1 in
    let s = su2 ⊕ r ⊗ at df (k - 1) in
    elim (settled s sw) [ true ↦ s | false ↦ sum_past df m ip left (suc k) r s s ]

-- ---- the normalisation

abbrev pub r3_of : ℕ → ℕ → ℕ → Float
r3_of m n ip = rising_by #1 1 (#0·5 ⊗ dbl (n + m + ip)) ((m + n + ip) / 2)

-- the product of -4 j for j from 1 to n
unfoldable pub r4_of : ℕ → Float
r4_of zero = #1
r4_of (suc j) = r4_of j ⊗ (neg #4 ⊗ dbl (suc j))

-- s0, from both passes
unfoldable pub norm_of : Recurrence → ℕ → ℕ → Downward → Upward → Float
norm_of r n nm down up =
    let low = sum_up_to up.df r.m r.ip down.kb in
    let high = sum_past up.df r.m r.ip (nm - down.kb) (down.kb + 1) low.r1 #0 #0 in
    r3_of r.m n r.ip ⊘ (down.fl ⊗ (low.su1 ⊘ up.fs) ⊕ high) ⊘ r4_of ((n - r.m - r.ip) / 2)

-- the upward pass's coefficients times fl / fs × s0, and the downward pass's times s0
unfoldable pub normalised : ℕ → Downward → Upward → Float → List Float
normalised nm down up s0 = scaled s0 (nm - down.kb) down.kb (scaled (down.fl ⊘ up.fs ⊗ s0) down.kb 0 up.df)

unfoldable pub expanded : Recurrence → ℕ → ℕ → List Float
expanded r n nm =
    let down = descended r nm blank in
    let up = ascended r down.kb down.df in
    normalised nm down up (norm_of r n nm down up)

-- ---- the coefficients; kd is the sign of the kind

unfoldable pub recurrence_of : ℕ → ℕ → Float → Float → Float → Recurrence
recurrence_of m n c cv kd = record { m = m; ip = (n - m) % 2; cs = c ⊗ c ⊗ kd; cv = cv }

-- where c is below 1e-10, 1 at place (n − m)/2 alone
unfoldable pub sdmn : ℕ → ℕ → Float → Float → Float → List Float
sdmn m n c cv kd = cond (lt c #1e-10) (set blank ((n - m) / 2) #1) (expanded (recurrence_of m n c cv kd) n (terms_of (n - m) c))
