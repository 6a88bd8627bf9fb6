-- After an exchange the columns of a day, with nurse i's bit put in each, show the slots with her pattern exchanged.
use Rattle.std.specs.Prelude.{◌≡◌, Bool, List, ℕ, ◌<◌, get_or}
use Rattle.std.proofs.Common.{sym, ap, ◌∙◌, subst}
use Rattle.numbers.specs.Digits.{has, put}
use Rattle.fields.specs.Fields.{nurses, days}
use Rattle.history.specs.declared.Search.{Search}
use Rattle.history.specs.declared.Search.TheVariants.{Nights, Days}
use Rattle.history.specs.Slot.{Slot, exchanged}
use Rattle.penalty.specs.Penalty.{at_night, available_in, at_day}
use Rattle.penalty.specs.CodeColumns.{Same, DayShows, Shows, columns_of}
use Rattle.penalty.proofs.ColumnLaws.{night_after, available_after, day_after}
use Rattle.trials.specs.Trials.{CountsIn}

module _ (w night day : List ℕ) (i nights available : ℕ) (slots : ℕ → Slot) (p d a b : ℕ) (l : i < nurses w) (h : d < days w)
    (x : has a ≡ put (has (get_or night d 0)) i (has nights d)) (y : has b ≡ put (has (get_or day d 0)) i (has available d)) where
  pub exchange_shows : (which : Search) → Shows which w slots (columns_of night day) → CountsIn which w i p nights available → DayShows which w (exchanged slots i p) d a b
  exchange_shows Nights s k =
      let u = x ∙ ap (λ (n : ℕ). put (has (get_or night d 0)) i (has n d)) k.starts_are in
      let v = y ∙ ap (put (has (get_or day d 0)) i) (k.free_are d h) in (
        subst (λ (f : ℕ → Bool). Same (nurses w) f (at_night w (exchanged slots i p) d)) (sym u) (night_after w slots i p l d _ (s.night_shown d h)),
        subst (λ (f : ℕ → Bool). Same (nurses w) f (available_in w (exchanged slots i p) d)) (sym v) (available_after w slots i p l d _ (s.available_shown d h)),
      )
  exchange_shows Days s k =
      let v = y ∙ ap (λ (n : ℕ). put (has (get_or day d 0)) i (has n d)) k in
      subst (λ (f : ℕ → Bool). Same (nurses w) f (at_day w (exchanged slots i p) d)) (sym v) (day_after w slots i p l d _ (s.day_shown d h))
