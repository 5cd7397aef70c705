-- The row of the modes from m to n, in a caller's five slices. Definitions only.
use Rattle.std.specs.Prelude.{ℕ, zero, suc, ◌/◌, ◌%◌, Bool, false, cond, List, eqb, Float, set, get_or, Result, is_err}
use Rattle.std.specs.Float.{nan}
use Rattle.segv.specs.declared.bisection.Bracket.{Bracket}
use Rattle.segv.specs.declared.bisection.OutOfSteps.{OutOfSteps}
use Rattle.segv.specs.Families.{Families, brackets, either_stopped}

-- what a list of brackets has past its end
abbrev pub no_bracket : Bracket
no_bracket = record { value = nan; lower = nan; upper = nan; steps = 0; substituted = false }

-- the mode at offset j has place j/2 + 1, whole division, among those of its parity
unfoldable pub mode_at : Families → ℕ → Bracket
mode_at r j = cond (eqb (j % 2) 0) (get_or (brackets r.even) (j / 2) no_bracket) (get_or (brackets r.odd) (j / 2) no_bracket)

-- ---- the caller's slices

pub record Slices : Type 0 where
  pub values : List Float
  pub steps : List ℕ
  pub lowers : List Float
  pub uppers : List Float
  pub substituted : List ℕ

abbrev pub slices : List Float → List ℕ → List Float → List Float → List ℕ → Slices
slices v s l u z = record { values = v; steps = s; lowers = l; uppers = u; substituted = z }

-- 1 for yes and 0 for no
abbrev pub flag : Bool → ℕ
flag b = cond b 1 0

-- a list with a field of the brackets 0 to n − 1 in its first n places
unfoldable pub written : {A : Type 0} → (Bracket → A) → (ℕ → Bracket) → ℕ → List A → List A
written field bracket zero xs = xs
written field bracket (suc n) xs = set (written field bracket n xs) n (field (bracket n))

unfoldable pub written_row : (ℕ → Bracket) → ℕ → Slices → Slices
written_row bracket n x =
    record {
      values = written (λ b. b.value) bracket n x.values;
      steps = written (λ b. b.steps) bracket n x.steps;
      lowers = written (λ b. b.lower) bracket n x.lowers;
      uppers = written (λ b. b.upper) bracket n x.uppers;
      substituted = written (λ b. flag b.substituted) bracket n x.substituted;
    }

-- a refusal's number, or 0 for none, and the caller's places afterwards: one slice, or several, or single doubles
pub record Numbered (A : Type 0) : Type 0 where
  pub number : ℕ
  pub after : A

abbrev pub answer : {A : Type 0} → ℕ → A → Numbered A
answer k x = record { number = k; after = x }

-- the refusal's number of what `segv` answers
abbrev pub number_of : {A : Type 0} → Result A OutOfSteps → ℕ
number_of r = cond (is_err r) 10 0

-- refused 10, the slices stay as they were
unfoldable pub segv_row : Families → ℕ → Slices → Numbered Slices
segv_row r n x = cond (either_stopped r) (answer 10 x) (answer 0 (written_row (mode_at r) n x))
