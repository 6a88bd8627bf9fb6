-- What a window depends on: only the duties of its own places, and a duty only on the day of q there.
use Rattle.std.specs.Prelude.{◌≡◌, cond, List, ℕ, suc, ◌+◌, ◌-◌, ◌≤◌, ◌<◌, ltb, get_or}
use Rattle.std.proofs.Common.{arith, lt-ltb, le-ltb}
use Rattle.std.proofs.Math.Decide.{dec_lt}
use Rattle.numbers.specs.Digits.{has}
use Rattle.numbers.proofs.AgreeLaws.{map_agree}
use Rattle.days.specs.Days.{window, free_of, windows_hold}
use Rattle.days.specs.CodeMonth.{duty_at}

-- ---- windows

window_same : (f g : ℕ → ℕ) (k t : ℕ) → k ≤ 7 → 6 ≤ t → ((u : ℕ) → t ≤ u + 6 → u ≤ t → f u ≡ g u) → window f k t ≡ window g k t
window_same f g k t small late h = map_agree f g (suc t - k) k (λ x l j. h x (omega arith) (omega arith))

pub windows_same : (f g : ℕ → ℕ) (longest t : ℕ) → longest ≤ 6 → 6 ≤ t → ((u : ℕ) → t ≤ u + 6 → u ≤ t → f u ≡ g u)
    → windows_hold f longest t ≡ windows_hold g longest t
unfolding windows_hold free_of
windows_same f g longest t short late h =
    rw (window_same f g (suc longest) t (omega arith) late h, window_same f g 7 t (omega arith) late h, window_same f g 5 t (omega arith) late h)

-- ---- duties

pub duty_same : (row : List ℕ) (a q u : ℕ) → (7 ≤ u → has a (u - 7) ≡ has q (u - 7)) → duty_at row a u ≡ duty_at row q u
unfolding duty_at
duty_same row a q u h = go (dec_lt u 7)
  where
    go : Dec (u < 7) → cond (ltb u 7) (get_or row u 0) (cond (has a (u - 7)) 1 (get_or row u 0)) ≡ cond (ltb u 7) (get_or row u 0) (cond (has q (u - 7)) 1 (get_or row u 0))
    go (yes l) = rw (lt-ltb u 7 l)
    go (no l) = let g : 7 ≤ u = omega arith in rw (le-ltb u 7 g, h g)
