-- The ward worked through in document 01, a second one, and the second with one number changed. worked/specs/Worked.antt says what the definitions come
-- to on them.
use Rattle.std.specs.Prelude.{ℕ, List, [], ◌∷◌, set}

-- the ward worked through, in file order; every number takes one byte, so these are its bytes too
unfoldable pub worked_ward : List ℕ
worked_ward =
    2 ∷ 3 ∷ 0 ∷ 1 ∷ 1 ∷ 1 ∷ 1 ∷ 1 ∷ 2 ∷ 3 ∷ 1 ∷ 1 ∷ 1 ∷ 1 ∷ 1 ∷ 1
    ∷ 0 ∷ 0 ∷ 0 ∷ 0 ∷ 0 ∷ 0 ∷ 0 ∷ 0 ∷ 1 ∷ 0 ∷ 3 ∷ 0 ∷ 0 ∷ 0
    ∷ 0 ∷ 0 ∷ 0 ∷ 0 ∷ 0 ∷ 0 ∷ 0 ∷ 0 ∷ 1 ∷ 0 ∷ 3 ∷ 0 ∷ 0 ∷ 1
    ∷ 1 ∷ 1 ∷ 0 ∷ 1 ∷ 0 ∷ 0 ∷ []

-- A second ward, for the rules that the first does not show; its bytes too.
unfoldable pub second_ward : List ℕ
second_ward =
    -- 3 nurses, 6 days, 1 group; V 2, L 3; the gaps 2, 3, 1, all different; TL 4, D 2; six different weights
    3 ∷ 6 ∷ 1 ∷ 2 ∷ 3 ∷ 2 ∷ 3 ∷ 1 ∷ 4 ∷ 2 ∷ 6 ∷ 5 ∷ 8 ∷ 3 ∷ 2 ∷ 1
    -- Nurse 1: last month ends in a run of two nights. A start on day 1 is the third of that run, and L forbids a fourth on day 3. Without it g2 lets her
    -- start from day 4 on; after it g3 lets her start on day 5, where g2 would not. 1 or 2 nights, at most 3 rests, a mark 6, a mark 5.
    ∷ 1 ∷ 1 ∷ 0 ∷ 2 ∷ 3 ∷ 2 ∷ 3 ∷ 1 ∷ 2 ∷ 0 ∷ 3 ∷ 0 ∷ 6 ∷ 0 ∷ 0 ∷ 0 ∷ 5
    -- Nurse 2: last month ends in a run of three nights, the last on day 0, so that day 1 is its second day. Her mark 3 on day 4 keeps g3, where g2 would
    -- forbid it. While she is unplaced it counts as a start, and her mark 2 on day 3 as a worked day. 1 or 2 nights, 2 or 3 rests, marks 6.
    ∷ 4 ∷ 0 ∷ 2 ∷ 3 ∷ 2 ∷ 3 ∷ 2 ∷ 1 ∷ 2 ∷ 2 ∷ 3 ∷ 0 ∷ 0 ∷ 2 ∷ 3 ∷ 6 ∷ 6
    -- Nurse 3: seven days of day duty and other duty without a rest, so that she must rest on day 1. Other duty on day 4 (her mark 4) counts in a run of
    -- day duty. 1 night, 2 rests.
    ∷ 1 ∷ 4 ∷ 1 ∷ 1 ∷ 4 ∷ 1 ∷ 4 ∷ 1 ∷ 1 ∷ 2 ∷ 2 ∷ 0 ∷ 0 ∷ 0 ∷ 4 ∷ 0 ∷ 0
    -- nurses 2 and 3 are the group
    ∷ 6
    -- each day's night need and day need, the group's low and high by night, and by day
    ∷ 0 ∷ 0 ∷ 0 ∷ 2 ∷ 0 ∷ 2
    ∷ 0 ∷ 1 ∷ 0 ∷ 2 ∷ 1 ∷ 3
    ∷ 0 ∷ 1 ∷ 0 ∷ 0 ∷ 1 ∷ 2
    ∷ 1 ∷ 1 ∷ 0 ∷ 1 ∷ 0 ∷ 1
    -- nobody of the group by day; the night search, where its nurses are available, ignores this high
    ∷ 0 ∷ 1 ∷ 0 ∷ 0 ∷ 0 ∷ 0
    -- one of the group by night, by low and high
    ∷ 0 ∷ 0 ∷ 1 ∷ 1 ∷ 0 ∷ 1
    ∷ []

-- The second ward re-dated: nurse 3 may have 3 rests. By night nothing looks at it; by day she now has a row beside her other duty that keeps D.
abbrev pub redated_ward : List ℕ
redated_ward = set second_ward 60 3
