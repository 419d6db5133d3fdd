-- An accepted S, B, R or E line: the row of its year, and the record after it.
use mathlib.Core.Path.{◌≡◌}
use mathlib.Core.Option.{none}
use Prim.Native.Nat.{ℕ, ◌-◌}
use lib.ListN.{set}
use Rattle.calendar.specs.declared.Years.{Years}
use Rattle.calendar.specs.Spans.{history_years}
use Rattle.meaning.specs.Filing.{Site}
use Rattle.meaning.specs.Line.{Line, S, B, R, E, tag_of, year_on, number_at, site_on, key_of}
use Rattle.meaning.specs.Refusals.{refusal}
use Rattle.meaning.specs.Record.{Rec, in_state, history_of_rec, before_of}
use Rattle.meaning.specs.Calls.{rec_after, blocks_after, last_dates_after, tallies_after}
use Rattle.meaning.proofs.Accepted.{accepted_b, accepted_r}
use Rattle.progress.specs.Steps.{with_no_reading, stores_after, step_of, no_block}
use Rattle.progress.proofs.Steps.{step_took}
use Rattle.progress.proofs.Rows.{Row, history_row, history_given}

module _ (s : Rec) (l : Line) (e : refusal (before_of s) l ≡ none) where
  pub break_row : tag_of l ≡ B → Row (history_of_rec s).first (year_on l) 10 × (history_years s.site.al s.site.filiere ≡ history_of_rec s)
  unfolding before_of
  break_row u = let a = accepted_b (before_of s) l e u in (history_row s (year_on l) a, history_given s (year_on l) a)

  pub rate_row : tag_of l ≡ R → Row (history_of_rec s).first (year_on l) 10 × (history_years s.site.al s.site.filiere ≡ history_of_rec s)
  unfolding before_of
  rate_row u = let a = accepted_r (before_of s) l e u in (history_row s (year_on l) a, history_given s (year_on l) a)

  -- ---- the step, from the numbers in the code
  pub took_s : tag_of l ≡ S → (t : Site) → t ≡ site_on l
      → with_no_reading 0 (record { state = s.state; count = s.count; last = 1; site = t; readings = s.readings; last_index = s.last_index; lasts = s.lasts; tallies = s.tallies }) no_block ≡ step_of s l no_block
  unfolding rec_after stores_after blocks_after last_dates_after tallies_after in_state
  took_s u t q = rw q (step_took s l no_block S u e)

  pub took_e : tag_of l ≡ E
      → with_no_reading 0 (record { state = s.state; count = s.count; last = 8; site = s.site; readings = s.readings; last_index = s.last_index; lasts = s.lasts; tallies = s.tallies }) no_block ≡ step_of s l no_block
  unfolding rec_after stores_after blocks_after last_dates_after tallies_after in_state
  took_e u = step_took s l no_block E u e

  pub took_b : tag_of l ≡ B → (h : Years) (y : ℕ) → h ≡ history_of_rec s → y ≡ year_on l
      → with_no_reading 0 (record {
        state = s.state;
        count = s.count;
        last = 6;
        site = s.site;
        readings = s.readings;
        last_index = s.last_index;
        lasts = record { c = s.lasts.c; x = s.lasts.x; d = s.lasts.d; p = s.lasts.p; b = y; r = s.lasts.r };
        tallies = record { profile_dates = s.tallies.profile_dates; daily_dates = s.tallies.daily_dates; breaks = set s.tallies.breaks (y - h.first) 1; rates = s.tallies.rates };
      }) no_block
      ≡ step_of s l no_block
  unfolding rec_after stores_after blocks_after last_dates_after tallies_after in_state key_of
  took_b u h y p q = rw (p, q) (step_took s l no_block B u e)

  pub took_r : tag_of l ≡ R → (h : Years) (y n : ℕ) → h ≡ history_of_rec s → y ≡ year_on l → n ≡ number_at l 2
      → with_no_reading 0 (record {
        state = s.state;
        count = s.count;
        last = 7;
        site = s.site;
        readings = s.readings;
        last_index = s.last_index;
        lasts = record { c = s.lasts.c; x = s.lasts.x; d = s.lasts.d; p = s.lasts.p; b = s.lasts.b; r = y };
        tallies = record { profile_dates = s.tallies.profile_dates; daily_dates = s.tallies.daily_dates; breaks = s.tallies.breaks; rates = set s.tallies.rates (y - h.first) n };
      }) no_block
      ≡ step_of s l no_block
  unfolding rec_after stores_after blocks_after last_dates_after tallies_after in_state key_of
  took_r u h y n p q r = rw (p, q, r) (step_took s l no_block R u e)
