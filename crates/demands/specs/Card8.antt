-- Card 8, sheets over c and x: each pair of an accepted sheet is what single calls answer, in whatever slices the row is asked for, and the rest of the block is as it was; the numbers at the edges, as a table; and a sheet. `proofs/Card8.antt` proves them. That a refused sheet leaves the block is in `Demand1.antt`.
use Rattle.std.specs.Prelude.{ℕ, ◌+◌, ◌-◌, ◌*◌, ◌<◌, ◌≡◌, false, List, [], ◌∷◌, ◌++◌, map, Float, length, drop, replicate}
use Rattle.arith.specs.Double.{at, bits, bits_of}
use Rattle.segv.specs.Row.{Slices}
use Rattle.requests.specs.Answers.{Pair}
use Rattle.requests.specs.declared.checking.Kind.{Kind}
use Rattle.requests.specs.declared.checking.Kind.TheVariants.{Prolate}
use Rattle.rows.specs.Rows.{row_of, too_short}
use Rattle.modes.specs.Angular.{angular_of}
use Rattle.sheets.specs.Sheet.{mode_with, sheet_refusal, sheet_of}

-- For c number i and x number j, counted from 0: the row of this c with the sheet's allowance is accepted, and the angular call with its value at n and this x answers the places 2(i × arguments + j) and the next.
abbrev pub SinglePairs : Type 0
SinglePairs =
    (kind : Kind) (m n allowance : ℕ) (cs xs block : List Float)
    → (sheet_of kind m n allowance cs xs block).number ≡ 0
    → (i j : ℕ) → i < length cs → j < length xs
    → (l : Slices) → too_short (mode_with m n (at cs i)) l ≡ false
    → let after = (sheet_of kind m n allowance cs xs block).after in
    let row = row_of kind (mode_with m n (at cs i)) allowance l in
    let place = 2 * (i * length xs + j) in
    (row.number ≡ 0) × (angular_of kind (mode_with m n (at cs i)) (at row.after.values (n - m)) (at xs j) ≡ Pair (at after place) (at after (place + 1)))

-- the block is as long as before, and past the pairs it holds what it held
abbrev pub RestOfBlock : Type 0
RestOfBlock =
    (kind : Kind) (m n allowance : ℕ) (cs xs block : List Float)
    → (sheet_of kind m n allowance cs xs block).number ≡ 0
    → let after = (sheet_of kind m n allowance cs xs block).after in
    let pairs = length cs * length xs in
    (length after ≡ length block) × (drop (2 * pairs) after ≡ drop (2 * pairs) block)

-- ---- sheets at the edges, as a table: m, n, allowance, the bits of the c and of the x, how long the block is, and the number. All are prolate
pub record SheetEdge : Type 0 where
  pub m : ℕ
  pub n : ℕ
  pub allowance : ℕ
  pub cs : List ℕ
  pub xs : List ℕ
  pub places : ℕ
  pub refusal : ℕ

abbrev edge : ℕ → ℕ → List ℕ → List ℕ → ℕ → ℕ → SheetEdge
edge m allowance cs xs places k = record { m = m; n = m; allowance = allowance; cs = cs; xs = xs; places = places; refusal = k }

-- 1, −1, 2 and 175
abbrev one : ℕ
one = 0x3ff0_0000_0000_0000

abbrev minus : ℕ
minus = 0xbff0_0000_0000_0000

abbrev two : ℕ
two = 0x4000_0000_0000_0000

abbrev limit : ℕ
limit = 0x4065_e000_0000_0000

unfoldable pub sheet_edges : List SheetEdge
sheet_edges =
    -- 4 comes first, and without any c or x too
    edge 200 0 (minus ∷ []) (two ∷ []) 0 4 ∷
    edge 200 0 [] [] 0 4 ∷
    -- then each c in list order, and then each x: 5 of a later c before 8, and the first c that fails gives the number
    edge 0 0 (0 ∷ minus ∷ []) (two ∷ []) 0 5 ∷
    edge 0 0 (limit ∷ minus ∷ []) (two ∷ []) 0 6 ∷
    edge 0 0 (0 ∷ []) (0 ∷ two ∷ []) 0 8 ∷
    -- what is past a list's limit is tested before its length
    edge 0 0 (replicate 32 0 ++ minus ∷ []) [] 0 5 ∷
    edge 0 0 [] (replicate 64 0 ++ two ∷ []) 0 8 ∷
    -- an empty list does not keep the other from being too long
    edge 0 0 (replicate 33 0) [] 0 13 ∷
    edge 0 0 [] (replicate 65 0) 0 13 ∷
    -- both full: 4,096 places, and no fewer
    edge 0 0 (replicate 32 0) (replicate 64 0) 4095 13 ∷
    edge 0 0 (replicate 32 0) (replicate 64 0) 4096 0 ∷
    -- 13 comes before 10, and 10 from any row, which has the allowance whole; c 0 takes no step
    edge 0 0 (0 ∷ one ∷ []) (0 ∷ []) 3 13 ∷
    edge 0 0 (0 ∷ one ∷ []) (0 ∷ []) 4 10 ∷
    edge 0 0 (0 ∷ 0 ∷ []) (0 ∷ []) 4 0 ∷
    -- without an x no row is run
    edge 0 0 (0 ∷ one ∷ []) [] 0 0 ∷
    edge 0 0 [] (0 ∷ []) 0 0 ∷
    []

abbrev pub number_of : SheetEdge → ℕ
number_of e = sheet_refusal Prolate e.m e.n e.allowance (map bits e.cs) (map bits e.xs) e.places

-- m 0 and n 1 with c 0, where the angular function is x: 1 and 1 at x 1, −1 and 1 at x −1, in a block of five places that held 2
abbrev pub example_sheet : List ℕ
example_sheet = map bits_of (sheet_of Prolate 0 1 0 (bits 0 ∷ []) (bits one ∷ bits minus ∷ []) (replicate 5 (bits two))).after

abbrev pub example_bits : List ℕ
example_bits = one ∷ one ∷ minus ∷ one ∷ two ∷ []
