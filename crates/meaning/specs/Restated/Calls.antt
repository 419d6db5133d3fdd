-- Never opened, open, refused and closed, and what each call leaves, in words (document 01, Calls and Stops that come from the state).
use Rattle.std.specs.Prelude.{◌≡◌, ◌≢◌, ◌⊎◌, ℕ, ◌+◌, ◌≤◌, T}
use Rattle.std.proofs.Math.Option.{some, none}
use Rattle.lists.specs.Lists.{Each}
use Rattle.meaning.specs.Filing.{Filing, no_meter, site, estimated, reading}
use Rattle.meaning.specs.Line.{Line, Tag}
use Rattle.meaning.specs.Refusals.{Reason, number_of, refusal}
use Rattle.meaning.specs.Level.{lowest_rate, report_of, curve_of}
use Rattle.meaning.specs.Closing.{CloseReason, close_number, closing_refusal}
use Rattle.meaning.specs.Blocks.{Blocks, sizes_fit, fresh_blocks}
use Rattle.meaning.specs.Record.{State, unopened, open_state, refused_state, closed_state, Rec, last_of, never_opened, fresh_rec, rec_fits, contents_fit, before_of, filing_of}
use Rattle.meaning.specs.Calls.{Out, out, accepted, refused, reported, with_curve, opening_of, line_of, close_of}
use Rattle.meaning.specs.Restated.Years.{OfHistory, SomeYear}

-- r is s but for the state and the count
pub record Marked (st : State) (n : ℕ) (s r : Rec) : Type 0 where
  pub state : r.state ≡ st
  pub count : r.count ≡ n
  pub last : r.last ≡ s.last
  pub site : r.site ≡ s.site
  pub readings : r.readings ≡ s.readings
  pub last_index : r.last_index ≡ s.last_index
  pub lasts : r.lasts ≡ s.lasts
  pub tallies : r.tallies ≡ s.tallies

-- a call that is refused by 1 or 13 leaves the record and the blocks, and gives the record's count
abbrev pub Leaves : ℕ → Rec → Blocks → Out → Type 0
Leaves n s w o = o ≡ out (refused n s.count) s w

-- what 1 checks: sizes, the record, and at the close what the blocks hold
abbrev pub Fit : Rec → Blocks → Type 0
Fit s w = T (sizes_fit w) × T (rec_fits s)

abbrev pub FitClose : Rec → Blocks → Type 0
FitClose s w = T (sizes_fit w) × (T (rec_fits s) × T (contents_fit s w))

pub record CallWords : Type 0 where
  -- an opening opens
  pub never : never_opened.state ≡ unopened
  pub fresh : fresh_rec.state ≡ open_state
  -- opening is allowed on any record, and takes nothing from it or from the blocks
  pub opening : (s : Rec) (w : Blocks) → T (sizes_fit w) → opening_of s w ≡ out accepted fresh_rec fresh_blocks
  -- 1 leaves all
  pub opening_1 : (s : Rec) (w : Blocks) → (¬ T (sizes_fit w)) → Leaves 1 s w (opening_of s w)
  pub line_1 : (s : Rec) (l : Line) (w : Blocks) → (¬ Fit s w) → Leaves 1 s w (line_of s l w)
  pub close_1 : (s : Rec) (w : Blocks) → (¬ FitClose s w) → Leaves 1 s w (close_of s w)
  -- 13: a record that is not open takes no line and no close, and is left
  pub line_13 : (s : Rec) (l : Line) (w : Blocks) → Fit s w → s.state ≢ open_state → Leaves 13 s w (line_of s l w)
  pub close_13 : (s : Rec) (w : Blocks) → FitClose s w → s.state ≢ open_state → Leaves 13 s w (close_of s w)
  -- 2 to 12: the answer has the number and one line more; the record is refused, with that count and nothing else new; the blocks stay
  pub line_refused :
      (s : Rec) (l : Line) (w : Blocks) (y : Reason) → Fit s w → s.state ≡ open_state → refusal (before_of s) l ≡ some y
      → ((line_of s l w).answer ≡ refused (number_of y) (s.count + 1)) × Marked refused_state (s.count + 1) s (line_of s l w).after × ((line_of s l w).blocks ≡ w)
  -- an accepted line is taken and counted, and the record stays open
  pub line_taken :
      (s : Rec) (l : Line) (w : Blocks) → Fit s w → s.state ≡ open_state → refusal (before_of s) l ≡ none
      → ((line_of s l w).answer ≡ accepted) × ((line_of s l w).after.state ≡ open_state) × ((line_of s l w).after.count ≡ s.count + 1)
  -- 14 to 18: refused, with the record's count
  pub close_refused :
      (s : Rec) (w : Blocks) (k : CloseReason) → FitClose s w → s.state ≡ open_state → closing_refusal (filing_of s w) ≡ some k
      → ((close_of s w).answer ≡ refused (close_number k) s.count) × Marked refused_state s.count s (close_of s w).after × ((close_of s w).blocks ≡ w)
  -- a close that reports leaves the record closed and sets the curve alone
  pub close_reports :
      (s : Rec) (w : Blocks) → FitClose s w → s.state ≡ open_state → closing_refusal (filing_of s w) ≡ none
      → ((close_of s w).answer ≡ reported (report_of (filing_of s w))) × Marked closed_state s.count s (close_of s w).after
      × ((close_of s w).blocks ≡ with_curve w (curve_of (filing_of s w)))
  -- after a close no record is open
  pub after_close : (s : Rec) (w : Blocks) → FitClose s w → (close_of s w).after.state ≢ open_state

-- what an opening leaves: points and curve missing, profiles and daily sums 0, the readings fresh; no line, no site, no date, no number by year
pub record FreshWords : Type 0 where
  pub near : Each (λ v. v ≡ 4294967295) fresh_blocks.near
  pub far : Each (λ v. v ≡ 4294967295) fresh_blocks.far
  pub slots : Each (λ v. v ≡ 0) fresh_blocks.slots
  pub daily : Each (λ v. v ≡ 0) fresh_blocks.daily
  pub listed : Each (λ r. r ≡ reading 0 0 estimated) fresh_blocks.readings
  pub curve : Each (λ v. v ≡ 18446744073709551615) fresh_blocks.curve
  pub sizes : T (sizes_fit fresh_blocks)
  pub count : fresh_rec.count ≡ 0
  pub last : fresh_rec.last ≡ 0
  pub site : fresh_rec.site ≡ site 0 0 no_meter 0
  pub readings : fresh_rec.readings ≡ 0
  pub last_index : fresh_rec.last_index ≡ 0
  pub lasts : (t : Tag) → last_of fresh_rec.lasts t ≡ 0
  pub profile_dates : Each (λ n. n ≡ 0) fresh_rec.tallies.profile_dates
  pub daily_dates : Each (λ n. n ≡ 0) fresh_rec.tallies.daily_dates
  pub breaks : Each (λ n. n ≡ 0) fresh_rec.tallies.breaks
  pub rates : Each (λ n. n ≡ 0) fresh_rec.tallies.rates

-- T is 1000 or the rate of a history year, and at most each
pub record LowestWords : Type 0 where
  pub reached : (F : Filing) → (lowest_rate F ≡ 1000) ⊎ SomeYear F (λ y. F.rate y ≡ some (lowest_rate F))
  pub most : (F : Filing) → lowest_rate F ≤ 1000
  pub least : (F : Filing) (y r : ℕ) → OfHistory F y → F.rate y ≡ some r → lowest_rate F ≤ r
