-- The laws of `run`: an equation for each of its cases, a proof by turns, and two runs that go alike.
use Rattle.std.specs.Prelude.{ℕ, zero, suc, ◌-◌, ◌<◌, ◌≡◌, refl, Bool, true, false}
use Rattle.std.proofs.Common.{not-suc-le-zero, arith, ap, ◌∙◌}
use Rattle.std.proofs.Math.Option.{Option, none, some}
use Rattle.history.specs.Phase.{Step, End, end_zero, end_asked, end_none, run}

module _ {S : Type 0} (stop : S → Bool) (best : S → Option Step) (make : Step → S → S) where
  pub run_zero : (k : ℕ) (s : S) → stop s ≡ true → run stop best make k s ≡ (s, end_zero)
  unfolding run
  run_zero zero s e = rw (e, run)
  run_zero (suc k) s e = rw (e, run)

  pub run_asked : (s : S) → stop s ≡ false → run stop best make 0 s ≡ (s, end_asked)
  unfolding run
  run_asked s n = rw (n, run)

  pub run_none : (k : ℕ) (s : S) → stop s ≡ false → best s ≡ none → run stop best make (suc k) s ≡ (s, end_none)
  unfolding run
  run_none k s n e = rw (n, e, run)

  pub run_step : (k : ℕ) (s : S) (e : Step) → stop s ≡ false → best s ≡ some e → run stop best make (suc k) s ≡ run stop best make k (make e s)
  unfolding run
  run_step k s e n b = rw (n, b, run)

  -- the last two where a loop counts the steps that are due
  pub run_none_left : (k : ℕ) (s : S) → 0 < k → stop s ≡ false → best s ≡ none → run stop best make k s ≡ (s, end_none)
  run_none_left zero s l n e = absurd (not-suc-le-zero l)
  run_none_left (suc k) s l n e = run_none k s n e

  pub run_on : (k : ℕ) (s : S) (e : Step) → 0 < k → stop s ≡ false → best s ≡ some e → run stop best make k s ≡ run stop best make (k - 1) (make e s)
  run_on zero s e l n b = absurd (not-suc-le-zero l)
  run_on (suc k) s e l n b = let q : suc k - 1 ≡ k = omega arith in rw q (run_step k s e n b)

  -- the case that a turn of the run is in
  pub data Turn : ℕ → S → Type 0 where
    at_zero : {k : ℕ} {s : S} → stop s ≡ true → Turn k s
    at_asked : {s : S} → stop s ≡ false → Turn 0 s
    at_none : {k : ℕ} {s : S} → stop s ≡ false → best s ≡ none → Turn (suc k) s
    at_step : {k : ℕ} {s : S} (e : Step) → stop s ≡ false → best s ≡ some e → Turn (suc k) s

  pub turn : (k : ℕ) (s : S) → Turn k s
  turn k s = test k (stop s) refl
    where
      pick : (k : ℕ) (o : Option Step) → best s ≡ o → stop s ≡ false → Turn (suc k) s
      pick k none b n = at_none n b
      pick k (some e) b n = at_step e n b

      test : (k : ℕ) (b : Bool) → stop s ≡ b → Turn k s
      test k true e = at_zero e
      test zero false e = at_asked e
      test (suc k) false e = pick k (best s) refl e

  -- what holds at each end, and of a step's start if it holds after the step, holds of the run
  module _ (Q : ℕ → S → S × End → Type 0)
      (zero-ends : (k : ℕ) (s : S) → stop s ≡ true → Q k s (s, end_zero))
      (asked-ends : (s : S) → stop s ≡ false → Q 0 s (s, end_asked))
      (none-ends : (k : ℕ) (s : S) → stop s ≡ false → best s ≡ none → Q (suc k) s (s, end_none))
      (step-goes : (k : ℕ) (s : S) (e : Step) (r : S × End) → stop s ≡ false → best s ≡ some e → Q k (make e s) r → Q (suc k) s r) where
    by_turn : (k : ℕ) (s : S) → Turn k s → Q k s (run stop best make k s)
    by_turn zero s (at_zero e) = rw (run_zero zero s e) (zero-ends zero s e)
    by_turn zero s (at_asked n) = rw (run_asked s n) (asked-ends s n)
    by_turn (suc k) s (at_zero e) = rw (run_zero (suc k) s e) (zero-ends (suc k) s e)
    by_turn (suc k) s (at_none n b) = rw (run_none k s n b) (none-ends k s n b)
    by_turn (suc k) s (at_step e n b) =
        rw (run_step k s e n b) (step-goes k s e (run stop best make k (make e s)) n b (by_turn k (make e s) (turn k (make e s))))

    pub by_turns : (k : ℕ) (s : S) → Q k s (run stop best make k s)
    by_turns k s = by_turn k s (turn k s)

-- two runs that go alike: f takes the states of the first to those of the second, as long as I holds
module _ {S R : Type 0} (stop : S → Bool) (best : S → Option Step) (make : Step → S → S)
    (stop' : R → Bool) (best' : R → Option Step) (make' : Step → R → R) (f : S → R) (I : S → Type 0)
    (stops-alike : (s : S) → I s → stop' (f s) ≡ stop s)
    (bests : (s : S) → I s → best' (f s) ≡ best s)
    (makes : (s : S) (e : Step) → I s → best s ≡ some e → make' e (f s) ≡ f (make e s))
    (keeps : (s : S) (e : Step) → I s → best s ≡ some e → I (make e s)) where
  pub alike : (k : ℕ) (s : S) → I s → run stop' best' make' k (f s) ≡ (f (run stop best make k s).0, (run stop best make k s).1)
  alike =
      by_turns stop best make (λ k s r. I s → run stop' best' make' k (f s) ≡ (f r.0, r.1))
      (λ k s e i. run_zero stop' best' make' k (f s) (stops-alike s i ∙ e))
      (λ s n i. run_asked stop' best' make' (f s) (stops-alike s i ∙ n))
      (λ k s n b i. run_none stop' best' make' k (f s) (stops-alike s i ∙ n) (bests s i ∙ b))
      (λ k s e r n b g i.
      run_step stop' best' make' k (f s) e (stops-alike s i ∙ n) (bests s i ∙ b)
      ∙ ap (λ (x : R). run stop' best' make' k x) (makes s e i b) ∙ g (keeps s e i b))
