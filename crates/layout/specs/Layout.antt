-- The ward file's numbers in order, in every edition: edition one is document 01's, edition two document 02's job 2. What follows a number is
-- defined before it: read from the end.
use Rattle.std.specs.Prelude.{ℕ, zero, suc, ◌+◌, ◌-◌, ◌^◌, cond, ltb, eqb}
use Rattle.std.specs.declared.option.Option.TheVariants.{None, Some}
use Rattle.layout.specs.declared.Field.{Field}
use Rattle.layout.specs.declared.Head.{Head}
use Rattle.layout.specs.Grammar.{Grammar, done, number}

abbrev pub range : ℕ → ℕ → Field
range lo hi = record { least = lo; most = hi; after = None }

abbrev pub duty_after : ℕ → Field
duty_after d = record { least = 0; most = 4; after = Some d }

-- one number, at which nothing later looks again
abbrev pub one : Field → Grammar → Grammar
one f rest = number f (λ _. rest)

-- least and most, or low and high: the second is at least the first
abbrev pub pair : ℕ → Grammar → Grammar
pair hi rest = number (range 0 hi) (λ low. one (range low hi) rest)

abbrev pub repeat : ℕ → (Grammar → Grammar) → Grammar → Grammar
repeat zero body rest = rest
repeat (suc k) body rest = body (repeat k body rest)

-- k duties more, of which the first follows the duty d
abbrev pub duties : ℕ → ℕ → Grammar → Grammar
duties zero d rest = rest
duties (suc k) d rest = number (duty_after d) (λ e. duties k e rest)

-- what stands from an edition on
abbrev pub since : ℕ → Head → Grammar → Grammar
since e h rest = cond (ltb h.edition e) done rest

-- Edition two: a count of 0 to 10 pairs (with n 1 it is 0), and each pair's first day, 1 to n-1, each above the one before.
abbrev pub pairs : Head → ℕ → ℕ → Grammar
pairs h zero before = done
pairs h (suc k) before = number (range (before + 1) (h.n - 1)) (λ d. pairs h k d)

abbrev pub pairs_most : ℕ → ℕ
pairs_most n = cond (eqb n 1) 0 10

abbrev pub two : Head → Grammar
two h = since 2 h (number (range 0 (pairs_most h.n)) (λ k. pairs h k 0))

-- Each day: night need, day need, then for each group night low, night high, day low, day high.
abbrev pub bounds : Grammar → Grammar
bounds rest = pair 48 (pair 48 rest)

abbrev pub day : ℕ → Grammar → Grammar
day r rest = one (range 0 48) (one (range 0 48) (repeat r bounds rest))

abbrev pub days : Head → ℕ → Grammar
days h k = repeat k (day h.r) (two h)

-- Each group: its members, nurse i as bit i-1.
abbrev pub group : ℕ → Grammar → Grammar
group m rest = one (range 1 (2 ^ m - 1)) rest

abbrev pub groups : Head → ℕ → Grammar
groups h k = repeat k (group h.m) (days h h.n)

-- Each nurse: seven duties, least and most nights, least and most rests, n marks.
abbrev pub mark : Grammar → Grammar
mark rest = one (range 0 6) rest

abbrev pub nurse : ℕ → Grammar → Grammar
nurse n rest = number (range 0 4) (λ d. duties 6 d (pair 15 (pair 31 (repeat n mark rest))))

abbrev pub nurses : Head → ℕ → Grammar
nurses h k = repeat k (nurse h.n) (groups h h.r)

-- six weights
abbrev pub weights : Head → ℕ → Grammar
weights h k = repeat k (one (range 1 100)) (nurses h h.m)

-- TL, D
abbrev pub limits : Head → Grammar
limits h = one (range 0 64) (one (range 1 6) (weights h 6))

-- gaps
abbrev pub gaps : Head → ℕ → Grammar
gaps h k = repeat k (one (range 1 5)) (limits h)

-- V, L
abbrev pub rules : Head → Grammar
rules h = one (range 0 15) (one (range 1 3) (gaps h 3))

-- n days, r groups
abbrev pub sizes : ℕ → ℕ → Grammar
sizes e m = number (range 1 31) (λ n. number (range 0 16) (λ r. rules (record { m = m; n = n; r = r; edition = e })))

-- m nurses
abbrev pub body : ℕ → Grammar
body e = number (range 1 48) (λ m. sizes e m)

-- edition one begins with m
unfoldable pub ward_one : Grammar
ward_one = body 1

-- A later edition begins with 0 and its own number.
abbrev pub last_edition : ℕ
last_edition = 2

abbrev pub later : Grammar
later = number (range 2 last_edition) (λ e. body e)

abbrev pub first : ℕ → Grammar
first zero = later
first (suc m) = sizes 1 (suc m)

-- a ward of any edition
unfoldable pub ward : Grammar
ward = number (range 0 48) (λ m. first m)
