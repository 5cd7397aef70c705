-- Terms of a power series. Definition only.
use Rattle.std.specs.Prelude.{ℕ, suc, ◌*◌, ◌<◌, ◌≡◌}

-- terms of which each is the one before times α / (β * n), up to the M-th: u n / u 0 is (α / β) ^ n / n!
abbrev pub Law : (ℕ → ℕ) → ℕ → ℕ → ℕ → Type 0
Law u α β M = (n : ℕ) → n < M → β * (suc n * u (suc n)) ≡ α * u n
