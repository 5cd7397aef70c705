-- A value for each of seven shifts. Definitions only.
use Rattle.std.specs.Prelude.{ℕ, ◌+◌, false, cond, Float}
use Rattle.std.specs.Float.Ieee.{lt}
use Rattle.arith.specs.Double.{#0}
use Rattle.sturm.specs.Pivots.{count}
use Rattle.sturm.specs.declared.pivots.Count.{Count}
use Rattle.sturm.specs.declared.pivots.Seven.{Seven}
use Rattle.sturm.specs.declared.pivots.Counts.{Counts}

-- the same for each
abbrev pub all : {A : Type 0} → A → Seven A
all a = record { x = a; l = a; h = a; ll = a; lh = a; hl = a; hh = a }

abbrev pub each : {A B : Type 0} → (A → B) → Seven A → Seven B
each g s = record { x = g s.x; l = g s.l; h = g s.h; ll = g s.ll; lh = g s.lh; hl = g s.hl; hh = g s.hh }

-- one for one
abbrev pub pairs : {A B C : Type 0} → (A → B → C) → Seven A → Seven B → Seven C
pairs g s t = record { x = g s.x t.x; l = g s.l t.l; h = g s.h t.h; ll = g s.ll t.ll; lh = g s.lh t.lh; hl = g s.hl t.hl; hh = g s.hh t.hh }

-- P holds of each
abbrev pub Each : {A : Type 0} → (A → Type 0) → Seven A → Type 0
Each P s = P s.x × P s.l × P s.h × P s.ll × P s.lh × P s.hl × P s.hh

-- R holds of each and the other of its shift
abbrev pub EachTwo : {A B : Type 0} → (A → B → Type 0) → Seven A → Seven B → Type 0
EachTwo R s t = R s.x t.x × R s.l t.l × R s.h t.h × R s.ll t.ll × R s.lh t.lh × R s.hl t.hl × R s.hh t.hh

-- and of three of a shift
abbrev pub EachThree : {A B C : Type 0} → (A → B → C → Type 0) → Seven A → Seven B → Seven C → Type 0
EachThree R s t v = R s.x t.x v.x × R s.l t.l v.l × R s.h t.h v.h × R s.ll t.ll v.ll × R s.lh t.lh v.lh × R s.hl t.hl v.hl × R s.hh t.hh v.hh

-- the count that g gives at each
abbrev pub counts_at : (Float → Count) → Seven Float → Counts
counts_at g s = record { negative = each (λ t. (g t).negative) s; substituted = each (λ t. (g t).substituted) s }

-- the count at x
abbrev pub count_x : Counts → Count
count_x k = count k.negative.x k.substituted.x

abbrev pub no_counts : Counts
no_counts = record { negative = all 0; substituted = all false }

-- one more where the pivot s is below zero
abbrev pub count_on : ℕ → Float → ℕ
count_on n s = cond (lt s #0) (n + 1) n
