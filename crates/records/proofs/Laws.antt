-- Laws of the definitions. Assumes nothing.
use mathlib.Core.Path.{◌≡◌, refl, sym, ap, ◌∙◌}
use mathlib.Core.Logic.{◌⊎◌, inl, inr, ⊎_elim}
use mathlib.Core.Bool.{Bool, true, false, cond}
use mathlib.Core.List.{List, [], ◌∷◌, ◌++◌, append_assoc, append-nil}
use Prim.Native.Nat.{ℕ, zero, suc, ◌+◌, ◌-◌, ◌/◌, ◌%◌, ◌^◌, ◌≤◌, ◌<◌}
use native.Mathlib.Nat.{add_assoc, add-zero, add-suc, pow-suc}
use native.Mathlib.Decide.{dec_le}
use native.Mathlib.Numerals.{add-one}
use native.Mathlib.Omega.{arith}
use borrow.Author.Tests.{lt-ltb, le-ltb}
use Rattle.std.specs.Int.{w16, w32, w64, from_le_bytes}
use lib.ListN.{length, get_or, take, drop, set, length-append, length-drop, length-set, take-append-drop}
use lib.Seq.{length-take-le, take_at, drop_at, drop-drop, take-set-le, drop-set-lt, get_or-set_same, get_or-take, get_or-drop, drop-cons, set_split, append_snoc}
use Rattle.records.specs.Record.{number_at, marked, width_at}
use Rattle.records.specs.Text.{Put, digit, decimal_in, decimal, hexadecimal}

-- ---- little-endian numbers, as the library reads them from the bytes
byte_of : (n : ℕ) (input : List ℕ) (at i : ℕ) → i < n → get_or (take n (drop at input)) i 0 ≡ get_or input (at + i) 0
byte_of n input at i h = get_or-take n (drop at input) i 0 h ∙ get_or-drop at input i 0

pub number_2 : (input bytes : List ℕ) (at n : ℕ) → bytes ≡ take 2 (drop at input) → n ≡ from_le_bytes w16 bytes → n ≡ number_at input at 2
unfolding number_at
number_2 input bytes at n b e = rw b at e ∙ rw (byte_of 2 input at 0 (omega arith), byte_of 2 input at 1 (omega arith), add-zero at) (omega arith)

pub number_4 : (input bytes : List ℕ) (at n : ℕ) → bytes ≡ take 4 (drop at input) → n ≡ from_le_bytes w32 bytes → n ≡ number_at input at 4
unfolding number_at
number_4 input bytes at n b e =
    rw b at e ∙ rw (byte_of 4 input at 0 (omega arith), byte_of 4 input at 1 (omega arith), byte_of 4 input at 2 (omega arith), byte_of 4 input at 3 (omega arith), add-zero at) (simp add_assoc (omega arith))

pub number_8 : (input bytes : List ℕ) (at n : ℕ) → bytes ≡ take 8 (drop at input) → n ≡ from_le_bytes w64 bytes → n ≡ number_at input at 8
unfolding number_at
number_8 input bytes at n b e =
    rw b at e
    ∙ rw (byte_of 8 input at 0 (omega arith), byte_of 8 input at 1 (omega arith), byte_of 8 input at 2 (omega arith), byte_of 8 input at 3 (omega arith), byte_of 8 input at 4 (omega arith), byte_of 8 input at 5 (omega arith), byte_of 8 input at 6 (omega arith), byte_of 8 input at 7 (omega arith), add-zero at)
    (simp add_assoc (omega arith))

-- ---- marks
widths : (old new : Bool) (w : ℕ) → w ≡ cond old 2 (cond new 4 0) → (w ≡ 0 → ⊥) → (w ≡ 2) ⊎ (w ≡ 4)
widths true new w e h = inl e
widths false true w e h = inr e
widths false false w e h = absurd (h e)

-- of the two, the one that is not 4
pub other_width : {w : ℕ} → (w ≡ 2) ⊎ (w ≡ 4) → (w ≡ 4 → ⊥) → w ≡ 2
other_width (inl e) h = e
other_width (inr e) h = absurd (h e)

pub width_above : {w : ℕ} → (w ≡ 2) ⊎ (w ≡ 4) → w ≡ 0 → ⊥
width_above (inl e) h = omega arith
width_above (inr e) h = omega arith

-- a known mark's width is 2 or 4
pub width_known : {w : ℕ} (input : List ℕ) (at : ℕ) → w ≡ width_at input at → (w ≡ 0 → ⊥) → (w ≡ 2) ⊎ (w ≡ 4)
width_known {w} input at = widths (marked 0x57 input at) (marked 0x56 input at) w

-- ---- text in a buffer
module _ {before after : List ℕ} {from to : ℕ} {text : List ℕ} (p : Put before after from to text) where
  pub put_front : length (take from before ++ text) ≡ to
  put_front = length-append (take from before) text ∙ rw (length-take-le from before (omega (arith, p.ends, p.fits))) (sym p.ends)

  pub put_length : length after ≡ length before
  put_length = ap length p.shows ∙ length-append (take from before ++ text) (drop to before) ∙ rw (put_front, length-drop) (omega (arith, p.fits))

  pub put_take : take to after ≡ take from before ++ text
  put_take = ap (take to) p.shows ∙ take_at (take from before ++ text) (drop to before) to put_front

  pub put_drop : drop to after ≡ drop to before
  put_drop = ap (drop to) p.shows ∙ drop_at (take from before ++ text) (drop to before) to put_front

-- no text at all
pub put_nothing : (l : List ℕ) (at : ℕ) → at ≤ length l → Put l l at at []
put_nothing l at h = record { ends = omega arith; fits = h; shows = sym (rw (append-nil (take at l)) (take-append-drop at l)) }

-- one text after another
pub put_then : {a b c : List ℕ} {f t u : ℕ} {x y : List ℕ} → Put a b f t x → Put b c t u y → Put a c f u (x ++ y)
put_then {a} {b} {c} {f} {t} {u} {x} {y} p q =
    let far : u ≡ t + (u - t) = omega (arith, q.ends) in
    let rest : drop u b ≡ drop u a = ap (λ (k : ℕ). drop k b) far ∙ sym (drop-drop (u - t) t b) ∙ ap (drop (u - t)) (put_drop p) ∙ drop-drop (u - t) t a ∙ ap (λ (k : ℕ). drop k a) (sym far) in
    record {
      ends = rw length-append (omega (arith, p.ends, q.ends));
      fits = omega (arith, put_length p, q.fits);
      shows = q.shows ∙ rw (put_take p, rest, append_assoc (take f a) x y);
    }

-- one byte
pub put_byte : (l : List ℕ) (i b : ℕ) → i < length l → Put l (set l i b) i (i + 1) (b ∷ [])
put_byte l i b h = record { ends = refl; fits = omega arith; shows = set_split l i b h ∙ sym (append_snoc (take i l) b (drop (suc i) l)) ∙ rw (← add-one i) }

-- a store in front of the text that stands, which is put from its end on
pub put_before : (l : List ℕ) (at j b : ℕ) (text : List ℕ) → at + j < length l → take at (set l (at + j) b) ++ text ++ drop (at + j) (set l (at + j) b) ≡ take at l ++ (text ++ b ∷ []) ++ drop (at + suc j) l
put_before l at j b text h =
    let k = at + j in
    let tail : drop k (set l k b) ≡ b ∷ drop (suc k) l = rw (drop-cons (set l k b) k 0 (rw length-set h), get_or-set_same l k b 0 h, drop-set-lt (suc k) l k b (omega arith)) in
    rw (take-set-le at l k b (omega arith), tail, add-suc at j, ← append_assoc (take at l) text (b ∷ [])) (sym (append_snoc (take at l ++ text) b (drop (suc k) l)))

-- ---- hexadecimal
pub hexadecimal_length : (k n : ℕ) → length (hexadecimal k n) ≡ k
unfolding hexadecimal
hexadecimal_length zero n = refl
hexadecimal_length (suc k) n = length-append (hexadecimal k (n / 16)) _ ∙ rw (hexadecimal_length k (n / 16)) (omega arith)

-- ---- decimal
pub decimal_in_one : (most n : ℕ) → n < 10 → decimal_in (suc most) n ≡ digit n ∷ []
unfolding decimal_in
decimal_in_one most n h = rw (lt-ltb n 10 h, decimal_in)

pub decimal_in_more : (most n : ℕ) → 10 ≤ n → decimal_in (suc most) n ≡ decimal_in most (n / 10) ++ digit (n % 10) ∷ []
unfolding decimal_in
decimal_in_more most n h = rw (le-ltb n 10 h, decimal_in)

by_ten : (n : ℕ) → (10 ≤ n) ⊎ (n < 10)
by_ten n = go (dec_le 10 n)
  where
    go : Dec (10 ≤ n) → (10 ≤ n) ⊎ (n < 10)
    go (yes h) = inl h
    go (no h) = inr (omega arith)

tenth : (k n : ℕ) → n < 10 ^ suc k → n / 10 < 10 ^ k
tenth k n h = let e = pow-suc 10 k in omega (arith, e)

-- room for more digits than a number has changes nothing
decimal_in_enough : (k n : ℕ) → n < 10 ^ suc k → decimal_in (suc (suc k)) n ≡ decimal_in (suc k) n
decimal_in_enough zero n h = decimal_in_one 1 n h ∙ sym (decimal_in_one 0 n h)
decimal_in_enough (suc k) n h =
    ⊎_elim
    (λ more. decimal_in_more (suc (suc k)) n more ∙ ap (λ (front : List ℕ). front ++ digit (n % 10) ∷ []) (decimal_in_enough k (n / 10) (tenth (suc k) n h)) ∙ sym (decimal_in_more (suc k) n more))
    (λ one. decimal_in_one (suc (suc k)) n one ∙ sym (decimal_in_one (suc k) n one))
    (by_ten n)

pub decimal_one : (n : ℕ) → n < 10 → decimal n ≡ digit n ∷ []
decimal_one n h = decimal_in_one 19 n h

one_more : (n : ℕ) → n < 2 ^ 64 → 10 ≤ n → decimal n ≡ decimal (n / 10) ++ digit (n % 10) ∷ []
one_more n fits h = decimal_in_more 19 n h ∙ ap (λ (front : List ℕ). front ++ digit (n % 10) ∷ []) (sym (decimal_in_enough 18 (n / 10) (omega arith)))

pub decimal_two : (n : ℕ) → 10 ≤ n → n < 100 → decimal n ≡ digit (n / 10) ∷ digit (n % 10) ∷ []
decimal_two n h k = one_more n (omega arith) h ∙ ap (λ (front : List ℕ). front ++ digit (n % 10) ∷ []) (decimal_one (n / 10) (omega arith))

pub decimal_more : (n : ℕ) → n < 2 ^ 64 → 100 ≤ n → decimal n ≡ decimal (n / 100) ++ digit (n % 100 / 10) ∷ digit (n % 100 % 10) ∷ []
decimal_more n fits h =
    let front : n / 10 / 10 ≡ n / 100 = omega arith in
    let tens : n / 10 % 10 ≡ n % 100 / 10 = omega arith in
    let ones : n % 10 ≡ n % 100 % 10 = omega arith in
    one_more n fits (omega arith)
    ∙ ap (λ (l : List ℕ). l ++ digit (n % 10) ∷ []) (one_more (n / 10) (omega arith) (omega arith))
    ∙ append_assoc (decimal (n / 10 / 10)) (digit (n / 10 % 10) ∷ []) (digit (n % 10) ∷ [])
    ∙ rw (front, tens, ones)

-- a number below 10 ^ (k + 1) has at most k + 1 digits
decimal_in_length : (most k n : ℕ) → n < 10 ^ suc k → length (decimal_in most n) ≤ suc k
unfolding decimal_in
decimal_in_length zero k n h = omega arith
decimal_in_length (suc most) zero n h = rw (decimal_in_one most n h) (omega arith)
decimal_in_length (suc most) (suc k) n h =
    ⊎_elim
    (λ more. rw (decimal_in_more most n more, length-append) (omega (arith, decimal_in_length most k (n / 10) (tenth (suc k) n h))))
    (λ one. rw (decimal_in_one most n one) (omega arith))
    (by_ten n)

pub decimal_length : (k n : ℕ) → n < 10 ^ suc k → length (decimal n) ≤ suc k
decimal_length k n h = decimal_in_length 20 k n h
